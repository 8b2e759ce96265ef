use Rattle.std.proofs.Common.{refl, sym, arith}
use Rattle.encoding.specs.Each.{sum_to}
use Rattle.encoding.proofs.Each.{sum_again}
use Rattle.report.proofs.report.Laws.{stored_le}
use Rattle.report.proofs.report.stored_of.Goals as goal

pub loop-m-init : goal.loop-m-init
unfolding sum_to
loop-m-init c = refl

pub overflow_mul-sum : goal.overflow_mul-sum
overflow_mul-sum c = rw c.from.ensures (omega (arith, stored_le c.args.store.now c.args.counted.now c.args.s c.loop-m.m (omega arith)))

pub overflow_add-sum : goal.overflow_add-sum
overflow_add-sum c = rw c.from.ensures (omega (arith, c.loop-m.invariant, stored_le c.args.store.now c.args.counted.now c.args.s c.loop-m.m (omega arith)))

pub loop-m-preserved : goal.loop-m-preserved
loop-m-preserved c = rw (c.from.ensures, c.loop-m.invariant) (sym (sum_again c.loop-m.m _))
