use Rattle.records.proofs.batch.Laws.{upto_next, upto_stop, upto_end}
use Rattle.records.proofs.batch.take_all.Goals as goal

pub loop-place-preserved : goal.loop-place-preserved
loop-place-preserved g c =
    let steps = c.in-Some.ensures.steps in
    rw (steps.0.2, steps.2) (upto_next _ _ _ _ _ _ _ c.loop-place.invariant _ _ steps.0.0 steps.0.1 (rw c.in_default.is at c.take_next.ensures))

pub returns-in-Err : goal.returns-in-Err
returns-in-Err g c =
    let steps = c.in-Some.ensures.steps in
    rw steps.1 (upto_stop _ _ _ _ _ _ _ c.loop-place.invariant _ _ _ steps.0.0 steps.0.1 (rw c.in-Err.is at c.take_next.ensures))

pub returns : goal.returns
returns g c = let e = c.end.ensures in upto_end _ _ _ _ _ _ _ c.loop-place.invariant _ _ c.in-None.ensures.steps.0 e.follows e.filled
