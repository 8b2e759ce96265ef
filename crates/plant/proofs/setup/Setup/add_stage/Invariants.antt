use Rattle.std.proofs.Common.{◌≡◌}
use Rattle.plant.proofs.stage.Laws.{paired}
use Rattle.plant.proofs.setup.Setup.add_stage.Given as goal

abbrev pub invariant-loop-i : goal.invariant-loop-i
invariant-loop-i l = l.self ≡ paired l.initial.self l.stage l.body l.i
