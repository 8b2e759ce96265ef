use Rattle.std.proofs.Common.{sym, ap, ◌∙◌}
use Rattle.amounts.proofs.decline.Laws.{hands_on}
use Rattle.amounts.specs.Decline.{value_or, verdict_of}
use Rattle.plant.proofs.setup.Laws.{set_up_declined, set_up_taken}
use Rattle.plant.proofs.setup.Setup.set_up.Goals as goal

pub returns-in_err-check_setup-clause-verdict : goal.returns-in_err-check_setup-clause-verdict
returns-in_err-check_setup-clause-verdict c =
    hands_on _ _ _ c.from_residual.ensures.1 (set_up_declined _ _ _ _ c.in_err-check_setup.ensures)

pub returns : goal.returns
returns c =
    let e = set_up_taken _ _ _ c.in_ok-check_setup.ensures in
    record { verdict = sym (ap verdict_of e); setup = c.parse.ensures ∙ sym (ap (value_or _) e) }
