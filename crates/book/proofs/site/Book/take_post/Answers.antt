use Rattle.std.proofs.Common.{sym, ap}
use Rattle.amounts.specs.Decline.{value_or}
use Rattle.amounts.proofs.decline.Laws.{hands_on}
use Rattle.book.specs.Site.{book_with}
use Rattle.book.proofs.posts.Laws.{single_declined, entered_as, entered_to, entered_book, room_admitted, sound_posted}
use Rattle.book.proofs.site.Book.take_post.Goals as goal

pub returns-in_err-m-clause-verdict : goal.returns-in_err-m-clause-verdict
returns-in_err-m-clause-verdict c =
    rw (← c.self.view_is) (hands_on _ _ _ c.from_residual.ensures.1 (single_declined _ _ _ c.in_err-m.ensures))

pub returns-in_err-m-clause-book : goal.returns-in_err-m-clause-book
returns-in_err-m-clause-book c = rw (← c.self.view_is) (sym (ap (value_or _) (single_declined _ _ _ c.in_err-m.ensures)))

pub enter-requires : goal.enter-requires
enter-requires c = room_admitted _ _ _ _ c.self.invariant.setup c.self.invariant.year c.in_ok-m.ensures

pub returns-clause-verdict : goal.returns-clause-verdict
returns-clause-verdict c = rw (← c.self.view_is) (entered_as _ _ _ c.in_ok-m.ensures _ c.enter.ensures.verdict)

pub returns-clause-book : goal.returns-clause-book
returns-clause-book c = rw (← c.self.view_is) (entered_book _ _ _ c.in_ok-m.ensures _ c.enter.ensures.year)

pub invariant_of-self : goal.invariant_of-self
invariant_of-self c =
    let i = c.self.inside in
    let year = entered_to (book_with i.setup i.year i.blocks) c.args.s.now _ c.in_ok-m.ensures _ c.enter.ensures.year in
    sound_posted _ _ _ _ _ c.self.invariant year
