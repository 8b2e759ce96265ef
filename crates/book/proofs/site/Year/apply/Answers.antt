use borrow.Author.Tests.{leb-true}
use Rattle.book.proofs.entry.Laws.{room_issued, room_brought, room_gone}
use Rattle.book.proofs.site.Year.apply.Goals as goal

pub issue-requires-clause-sums_bound : goal.issue-requires-clause-sums_bound
issue-requires-clause-sums_bound c = (room_issued c.args.setup.now c.args.self.now _ _ _ (rw c.in-Issued.is at c.requires.room)).1.0

pub bring-requires-clause-amount_bound : goal.bring-requires-clause-amount_bound
bring-requires-clause-amount_bound c = rw c.cell_of-cell.ensures (room_brought c.args.setup.now c.args.self.now _ _ _ _ (rw c.in-Brought.is at c.requires.room))

pub shift-requires-clause-amount_bound : goal.shift-requires-clause-amount_bound
shift-requires-clause-amount_bound c =
    rw (c.cell_of-from.ensures, c.cell_of-to.ensures)
    (room_gone c.args.setup.now c.args.self.now _ _ _ _ (rw c.in-Gone.is at c.requires.room) (leb-true _ _ (rw c.in-Gone.is at c.requires.there)))
