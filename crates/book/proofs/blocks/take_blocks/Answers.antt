use Rattle.std.proofs.Common.{◌∙◌}
use Rattle.book.proofs.blocks.Laws.{all_read, next_read, next_refused}
use Rattle.book.proofs.blocks.take_blocks.Goals as goal

pub returns-in-Err : goal.returns-in-Err
returns-in-Err c =
    let k = c.loop-part in
    rw c.block_number-place.ensures.value
    (next_refused _ _ k.book k.invariant.so_far _ k.invariant.size _ _ c.in-Some.ensures.steps.1 _ c.in-Err.ensures.verdict)

pub loop-part-preserved : goal.loop-part-preserved
loop-part-preserved c =
    let k = c.loop-part in
    let step = c.in-Some.ensures.steps in
    record {
      so_far = next_read _ _ k.book k.invariant.so_far _ k.invariant.size _ _ step.1 _ c.in_default.ensures.taken;
      size = step.0 ∙ k.invariant.size;
    }

pub returns : goal.returns
returns c = all_read _ _ c.loop-part.book c.loop-part.invariant.so_far c.in-None.ensures.steps.1.0
