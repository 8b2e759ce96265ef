use Rattle.std.proofs.Common.{rules, ◌≡◌, true, refl}
use Rattle.amounts.proofs.decline.Laws.{turn_then_limits}
use Rattle.layout.specs.Outline.{may_describe}
use Rattle.bodies.specs.Stage.{stage_limits}
use Rattle.bodies.proofs.stage.check_stage.Goals as goal

pub returns : goal.returns
returns c =
    let turn : may_describe c.args.o c.args.stage ≡ true = search rules in
    rw turn (turn_then_limits (stage_limits c.args.o c.args.body.now) refl _ (rw c.is_within_limits.ensures at c.check-2.ensures))
