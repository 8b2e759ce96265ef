use Rattle.std.proofs.Common.{◌≡◌, drop}
use Rattle.std.specs.Prelude.{None}
use Rattle.mixture.proofs.pressure.Laws.{added}
use Rattle.mixture.proofs.pressure.sum_of.Given as goal

-- The parts still to come give the whole answer.
abbrev pub invariant-loop-place : goal.invariant-loop-place
invariant-loop-place l = added l.sum (drop l.place l.fn.contents) (drop l.place l.fn.weights) ≡ added None l.fn.contents l.fn.weights
