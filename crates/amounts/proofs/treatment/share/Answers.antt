use Prim.Native.Nat.{◌/◌, ◌%◌}
use native.Mathlib.Omega.{arith}
use Rattle.amounts.proofs.treatment.Laws.{scaled, apart}
use Rattle.amounts.proofs.treatment.share.Goals as goal

pub overflow_mul-result : goal.overflow_mul-result
overflow_mul-result c = omega (arith, scaled (c.args.amount / 1000000) c.args.rate c.requires)

pub overflow_mul-result-2 : goal.overflow_mul-result-2
overflow_mul-result-2 c = omega (arith, scaled (c.args.amount % 1000000) c.args.rate c.requires)

pub overflow_add-result : goal.overflow_add-result
overflow_add-result c = omega (arith, scaled (c.args.amount / 1000000) c.args.rate c.requires, scaled (c.args.amount % 1000000) c.args.rate c.requires)

pub returns : goal.returns
returns c = apart c.args.amount c.args.rate
