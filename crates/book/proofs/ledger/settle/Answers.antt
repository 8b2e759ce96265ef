use Rattle.std.proofs.Common.{refl, arith}
use Rattle.book.specs.Ledger.{settled}
use Rattle.book.proofs.ledger.Laws.{closes_below, settled_more, settled_room}
use Rattle.book.proofs.ledger.settle.Goals as goal

pub loop-pair-init : goal.loop-pair-init
unfolding settled
loop-pair-init c = refl

pub shift-requires-clause-amount_bound : goal.shift-requires-clause-amount_bound
shift-requires-clause-amount_bound c =
    rw (c.at-from.ensures, c.at-to.ensures, c.closes_to.ensures)
    (settled_room c.args.sums.now c.args.pairs.now c.loop-pair.pair c.loop-pair.sums _ 18446744073709551616 c.loop-pair.invariant (omega arith) (closes_below _)
    c.requires.sums_len c.requires.by_index)

pub loop-pair-preserved : goal.loop-pair-preserved
loop-pair-preserved c =
    rw (c.shift.ensures, c.at-from.ensures, c.at-to.ensures, c.closes_to.ensures)
    (settled_more c.args.sums.now c.args.pairs.now c.loop-pair.pair c.loop-pair.sums _ c.loop-pair.invariant refl)
