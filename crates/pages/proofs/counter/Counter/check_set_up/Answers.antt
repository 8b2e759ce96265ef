use Rattle.std.proofs.lemmas.Result.{err_from_is_err_and}
use Rattle.pages.proofs.tally.Laws.{part_declined, last_check}
use Rattle.pages.proofs.counter.Counter.check_set_up.Goals as goal

pub returns : goal.returns
returns c = rw (last_check _ _ _ _ _ c.in_ok-check_part.ensures, ← c.is_free.ensures) c.check.ensures

pub returns-in_err-check_part : goal.returns-in_err-check_part
returns-in_err-check_part c =
    let p = err_from_is_err_and c.from_residual.result c.from_residual.ensures.1 in
    rw (p.1, p.2) (part_declined c.args.self.now.room c.args.self.now.tally _ _ _ _ c.in_err-check_part.ensures)
