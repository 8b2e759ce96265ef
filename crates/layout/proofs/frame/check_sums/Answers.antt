use mathlib.Core.Path.{refl}
use native.Mathlib.Omega.{arith}
use lib.ListN.{take}
use Rattle.std.proofs.lemmas.Int.{ints}
use Rattle.encoding.specs.Each.{sum_to}
use Rattle.encoding.proofs.Each.{sum_again}
use Rattle.layout.proofs.frame.Sums.{bytes, weights, weighed, summed_up}
use Rattle.layout.proofs.frame.check_sums.Goals as goal

pub loop-i-init : goal.loop-i-init
unfolding sum_to
loop-i-init c = record { plain = refl; weighted = refl; plain_small = omega arith; weighted_small = omega arith }

pub overflow_mul-weighted : goal.overflow_mul-weighted
overflow_mul-weighted c =
    let w = weighed c.args.s.now c.min.result c.loop-i.i _ c.from-in-loop-i.result c.type_inv.s (omega arith) c.loop-i-test.true c.from.ensures (omega (arith, ints)) in
    omega (arith, ints)

pub overflow_add-weighted : goal.overflow_add-weighted
overflow_add-weighted c =
    let w = weighed c.args.s.now c.min.result c.loop-i.i _ c.from-in-loop-i.result c.type_inv.s (omega arith) c.loop-i-test.true c.from.ensures (omega (arith, ints)) in
    omega (arith, ints)

pub loop-i-preserved : goal.loop-i-preserved
loop-i-preserved c =
    let w = weighed c.args.s.now c.min.result c.loop-i.i _ c.from-in-loop-i.result c.type_inv.s (omega arith) c.loop-i-test.true c.from.ensures (omega (arith, ints)) in
    let plain_more = sum_again c.loop-i.i (bytes (take c.min.result c.args.s.now)) in
    let weighted_more = sum_again c.loop-i.i (weights (take c.min.result c.args.s.now)) in
    record { plain = omega (arith, ints); weighted = omega (arith, ints); plain_small = omega arith; weighted_small = omega arith }

pub returns : goal.returns
returns c = summed_up c.args.s.now c.min.result c.loop-i.i _ _ c.min.ensures (omega arith) c.loop-i.invariant.plain c.loop-i.invariant.weighted
