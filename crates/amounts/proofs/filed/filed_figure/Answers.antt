use Prim.Native.Nat.{◌/◌, ◌%◌, ◌≤◌}
use native.Mathlib.Nat.{div-mul-le_self, div-lt_iff_lt-mul}
use native.Mathlib.Omega.{arith}
use Rattle.amounts.proofs.filed.Laws.{step_there, room_up, half_is, filed_down, filed_up}
use Rattle.amounts.proofs.filed.filed_figure.Goals as goal

pub nonzero_div-steps : goal.nonzero_div-steps
nonzero_div-steps c = (step_there _ _ c.ranges.amount.fits c.step_of-step.ensures).some

pub nonzero_rem-amount : goal.nonzero_rem-amount
nonzero_rem-amount c = (step_there _ _ c.ranges.amount.fits c.step_of-step.ensures).some

pub overflow_mul-result : goal.overflow_mul-result
overflow_mul-result c = omega (arith, div-mul-le_self c.args.amount c.step_of-step.result)

pub overflow_add-result : goal.overflow_add-result
overflow_add-result c =
    let facts = step_there _ _ c.ranges.amount.fits c.step_of-step.ensures in
    omega (arith, (div-lt_iff_lt-mul facts.some).1 facts.under)

pub overflow_mul-result-else-amount-step : goal.overflow_mul-result-else-amount-step
overflow_mul-result-else-amount-step c =
    let facts = step_there _ _ c.ranges.amount.fits c.step_of-step.ensures in
    let h : c.step_of-step.result / 2 ≤ c.args.amount % c.step_of-step.result = c.if-amount-step.false in
    record { fits = room_up _ _ c.ranges.amount.fits facts (rw (half_is _ facts.half facts.twice) at h) }

pub returns-then-amount-step : goal.returns-then-amount-step
returns-then-amount-step c =
    filed_down _ _ (step_there _ _ c.ranges.amount.fits c.step_of-step.ensures) c.step_of-step.ensures c.if-amount-step.true

pub returns-else-amount-step : goal.returns-else-amount-step
returns-else-amount-step c =
    filed_up _ _ (step_there _ _ c.ranges.amount.fits c.step_of-step.ensures) c.step_of-step.ensures c.if-amount-step.false
