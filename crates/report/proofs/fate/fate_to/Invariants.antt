use Rattle.std.proofs.Common.{◌≡◌}
use Rattle.report.specs.Fate.{fate_to}
use Rattle.report.proofs.fate.fate_to.Given as goal

abbrev pub invariant-loop-stage : goal.invariant-loop-stage
invariant-loop-stage l = l.fate ≡ fate_to l.b.year.sums l.b.setup l.s l.stage
