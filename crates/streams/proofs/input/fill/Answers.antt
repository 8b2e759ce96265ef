use Rattle.std.proofs.Common.{rules}
use Rattle.streams.proofs.input.Laws.{took_on}
use Rattle.streams.proofs.input.fill.Goals as goal

pub loop-done-preserved : goal.loop-done-preserved
loop-done-preserved g c =
    took_on _ _ _ c.loop-done.done c.in-Continue.more c.loop-done.part c.read_on.new.part c.read_on.result (search rules) c.read_on.ensures c.in-Continue.is c.loop-done.invariant.1
