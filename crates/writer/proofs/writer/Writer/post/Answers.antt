use Rattle.std.proofs.Common.{refl}
use Rattle.std.proofs.lemmas.Result.{err_from_is_err_and}
use Rattle.pages.proofs.page.Laws.{post_as, declined, tenth_written, other_waits}
use Rattle.writer.specs.Writer.{page}
use Rattle.writer.proofs.writer.Laws.{sound}
use Rattle.writer.proofs.writer.Writer.post.Goals as goal

pub returns-in_err-post-clause-answers : goal.returns-in_err-post-clause-answers
returns-in_err-post-clause-answers c =
    let w = c.args.self.now in
    let p = err_from_is_err_and c.from_residual.result c.from_residual.ensures.1 in
    rw (p.1, p.2, post_as (page w) c.args.post.now) (declined (page w) _ _ _ _ (rw w.room_is at c.in_err-post.ensures.counts) refl)

pub returns-then-before-eq9-clause-answers : goal.returns-then-before-eq9-clause-answers
returns-then-before-eq9-clause-answers c =
    let w = c.args.self.now in
    let e = c.write_posts.ensures in
    rw (e.counter_stays, e.begun)
    (tenth_written (page w) (sound w) _ _ (rw w.room_is at c.in_ok-post.ensures.counts) _ _ c.if-before-eq9.true (rw c.from.ensures at c.put.ensures) e.written)

pub returns-else-before-eq9-clause-answers : goal.returns-else-before-eq9-clause-answers
returns-else-before-eq9-clause-answers c =
    let w = c.args.self.now in
    other_waits (page w) (sound w) _ _ (rw w.room_is at c.in_ok-post.ensures.counts) _ c.if-before-eq9.false (rw c.from.ensures at c.put.ensures)
