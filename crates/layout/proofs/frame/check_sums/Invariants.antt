use mathlib.Core.Path.{◌≡◌}
use Prim.Native.Nat.{◌*◌, ◌≤◌}
use lib.IntN.{pos}
use Rattle.encoding.specs.Each.{sum_to}
use Rattle.layout.proofs.frame.Sums.{bytes, weights}
use Rattle.layout.proofs.frame.check_sums.Given as goal

-- the sums so far are those of the bytes passed, each at most 255 times its weight
abbrev pub invariant-loop-i : goal.invariant-loop-i
invariant-loop-i l = record {
  plain : l.plain ≡ pos (sum_to l.i (bytes l.summed));
  weighted : l.weighted ≡ pos (sum_to l.i (weights l.summed));
  plain_small : sum_to l.i (bytes l.summed) ≤ 255 * l.i;
  weighted_small : sum_to l.i (weights l.summed) ≤ 130560 * l.i;
}
