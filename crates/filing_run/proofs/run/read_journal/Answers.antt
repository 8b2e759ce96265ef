use Rattle.std.proofs.Common.{rules, sym, ◌∙◌}
use Rattle.filing_run.proofs.run.Laws.{prints_at_start, prints_on, prints_at_end, prints_stopped}
use Rattle.filing_run.proofs.run.read_journal.Goals as goal

pub loop-space-init : goal.loop-space-init
loop-space-init g c = rw c.new-reading.ensures.value (prints_at_start _)

pub returns-then-n-eq0 : goal.returns-then-n-eq0
returns-then-n-eq0 g c = prints_at_end _ _ _ _ c.read_part.new.part c.read_part.result (search rules) (search rules) c.read_part.ensures.took c.loop-space.invariant

pub loop-space-preserved : goal.loop-space-preserved
loop-space-preserved g c =
    let read = c.read_part.ensures in
    rw c.feed.ensures.value (prints_on _ _ _ _ _ _ _ (search rules) c.if-n-eq0.false (search rules) read.bound read.took c.loop-space.invariant)

pub returns : goal.returns
returns g c = prints_stopped _ _ _ (sym c.has_stopped.ensures ∙ c.loop-space-test.false) c.loop-space.invariant
