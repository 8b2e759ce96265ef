use Rattle.std.proofs.Common.{refl}
use Rattle.std.proofs.lemmas.Result.{err_from_is_err_and}
use Rattle.pages.proofs.tally.Laws.{kind_declined, set_up_counts, set_up_taken}
use Rattle.pages.proofs.counter.Counter.set_up.Goals as goal

pub set_up-self-requires : goal.set_up-self-requires
set_up-self-requires c =
    let self = c.args.self.now in
    let taken = set_up_taken self.room self.tally self.sound _ _ _ c.in_ok-check_set_up.ensures in
    record { in_turn = taken.in_turn; number_bound = taken.free.number }

pub invariant_of-self : goal.invariant_of-self
invariant_of-self c =
    let self = c.args.self.now in
    record { sound = rw c.set_up-self.ensures (set_up_taken self.room self.tally self.sound _ _ _ c.in_ok-check_set_up.ensures).sound }

pub returns-clause-counts : goal.returns-clause-counts
returns-clause-counts c = rw c.set_up-self.ensures (set_up_counts _ _ _ _ _ _ _ c.in_ok-part.ensures c.in_ok-check_set_up.ensures)

pub returns-in_err-part : goal.returns-in_err-part
returns-in_err-part c =
    let p = err_from_is_err_and c.from_residual.result c.from_residual.ensures.1 in
    record { room_stays = refl; counts = rw (p.1, p.2) (kind_declined _ _ _ _ _ _ c.in_err-part.ensures) }

pub returns-in_err-check_set_up : goal.returns-in_err-check_set_up
returns-in_err-check_set_up c =
    let p = err_from_is_err_and c.from_residual-in_err-check_set_up.result c.from_residual-in_err-check_set_up.ensures.1 in
    record { room_stays = refl; counts = rw (p.1, p.2) (set_up_counts _ _ _ _ _ _ _ c.in_ok-part.ensures c.in_err-check_set_up.ensures) }
