use Rattle.std.proofs.Common.{sym, ap, ◌∙◌}
use Rattle.amounts.proofs.decline.Laws.{hands_on}
use Rattle.amounts.specs.Decline.{value_or, verdict_of}
use Rattle.plant.proofs.stage.Taken.{described_declined, described_taken, may_add}
use Rattle.plant.proofs.setup.Setup.describe.Goals as goal

pub returns-in_err-check_stage : goal.returns-in_err-check_stage
returns-in_err-check_stage c =
    let e = described_declined _ _ _ _ c.in_err-check_stage.ensures in
    record { verdict = hands_on _ _ _ c.from_residual.ensures.1 e; setup = sym (ap (value_or _) e) }

pub add_stage-requires : goal.add_stage-requires
add_stage-requires c = may_add c.args.self.now _ _ c.in_ok-check_stage.ensures

pub returns : goal.returns
returns c =
    let e = described_taken _ _ _ c.in_ok-check_stage.ensures in
    record { verdict = sym (ap verdict_of e); setup = c.add_stage.ensures ∙ sym (ap (value_or _) e) }
