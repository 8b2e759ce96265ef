use Rattle.std.proofs.Common.{refl}
use Rattle.std.proofs.lemmas.Result.{err_from_is_err_and}
use Rattle.pages.proofs.page.Laws.{set_up_as, declined, set_up_room, set_up_written}
use Rattle.writer.specs.Writer.{page}
use Rattle.writer.proofs.writer.Laws.{sound}
use Rattle.writer.proofs.writer.Writer.set_up.Goals as goal

pub returns-in_err-set_up-clause-answers : goal.returns-in_err-set_up-clause-answers
returns-in_err-set_up-clause-answers c =
    let w = c.args.self.now in
    let p = err_from_is_err_and c.from_residual.result c.from_residual.ensures.1 in
    rw (p.1, p.2, set_up_as (page w) c.args.kind c.args.count c.args.body.now) (declined (page w) _ _ _ _ (rw w.room_is at c.in_err-set_up.ensures.counts) refl)

pub put_block-requires-clause-number_bound : goal.put_block-requires-clause-number_bound
put_block-requires-clause-number_bound c =
    let w = c.args.self.now in
    (set_up_room (page w) (sound w) _ _ _ _ (rw w.room_is at c.in_ok-set_up.ensures.counts)).number

pub put_block-requires-clause-within : goal.put_block-requires-clause-within
put_block-requires-clause-within c =
    let w = c.args.self.now in
    (set_up_room (page w) (sound w) _ _ _ _ (rw w.room_is at c.in_ok-set_up.ensures.counts)).fits

pub returns-clause-answers : goal.returns-clause-answers
returns-clause-answers c =
    let w = c.args.self.now in
    set_up_written (page w) (sound w) _ _ _ _ (rw w.room_is at c.in_ok-set_up.ensures.counts) _ _ c.put.ensures c.put_block.ensures
