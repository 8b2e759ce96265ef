use Rattle.std.proofs.Common.{refl, arith}
use Rattle.kinds.specs.declared.account.Account.TheVariants.{Held}
use Rattle.book.specs.Ledger.{cell_of, brings}
use Rattle.book.proofs.ledger.Laws.{own_place, raised_room, raised_again}
use Rattle.book.proofs.ledger.issue.Goals as goal

pub overflow_add-sums : goal.overflow_add-sums
overflow_add-sums c =
    let a = c.args in
    let room = raised_room (cell_of Held a.stage) (brings a.counted.now a.material a.grams) a.sums.now (own_place a.stage) c.loop-s.s c.loop-s.sums _ c.loop-s.invariant.sums refl
    18446744073709551616 (c.requires.by_index c.loop-s.s (omega arith)) in
    rw (c.at.ensures, c.from.ensures) (omega (arith, room))

pub overflow_add-handled : goal.overflow_add-handled
overflow_add-handled c =
    let a = c.args in
    let room = raised_room (λ k. k) (brings a.counted.now a.material a.grams) a.handled.now (λ i k e. e) c.loop-s.s c.loop-s.handled _ c.loop-s.invariant.handled refl
    18446744073709551616 (c.requires.by_index_2 c.loop-s.s (omega arith)) in
    rw c.from.ensures (omega (arith, room))

pub loop-s-preserved : goal.loop-s-preserved
loop-s-preserved c =
    let a = c.args in
    let amount = brings a.counted.now a.material a.grams in
    rw (c.at.ensures, c.from.ensures)
    (record {
      sums = raised_again (cell_of Held a.stage) amount a.sums.now (own_place a.stage) c.loop-s.s c.loop-s.sums _ c.loop-s.invariant.sums refl;
      handled = raised_again (λ k. k) amount a.handled.now (λ i k e. e) c.loop-s.s c.loop-s.handled _ c.loop-s.invariant.handled refl;
    })
