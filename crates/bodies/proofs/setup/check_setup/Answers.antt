use Rattle.std.proofs.Common.{rules, ◌≡◌, true, refl}
use Rattle.amounts.proofs.decline.Laws.{turn_then_limits}
use Rattle.layout.specs.Outline.{may_set_up}
use Rattle.bodies.specs.Setup.{setup_limits}
use Rattle.bodies.proofs.setup.check_setup.Goals as goal

pub returns : goal.returns
returns c =
    let turn : may_set_up c.args.o ≡ true = search rules in
    rw turn (turn_then_limits (setup_limits c.args.count c.args.body.now) refl _ (rw c.is_within_limits.ensures at c.check-2.ensures))
