use Rattle.pages.proofs.page.Laws.{end_nothing, end_written}
use Rattle.writer.specs.Writer.{page}
use Rattle.writer.proofs.writer.Laws.{sound}
use Rattle.writer.proofs.writer.Writer.end.Goals as goal

pub returns-then-before-ne0-clause-ends : goal.returns-then-before-ne0-clause-ends
returns-then-before-ne0-clause-ends c =
    let w = c.args.self.now in
    let e = c.write_posts.ensures in
    rw (e.counter_stays, e.begun) (end_written (page w) (sound w) _ c.end-filled.ensures.ends _ c.if-before-ne0.true e.written)

pub returns-else-before-ne0-clause-ends : goal.returns-else-before-ne0-clause-ends
returns-else-before-ne0-clause-ends c =
    let w = c.args.self.now in
    end_nothing (page w) (sound w) _ c.end-filled.ensures.ends c.if-before-ne0.false
