use Rattle.pages.proofs.tally.Laws.{post_taken, posted_sound}
use Rattle.pages.proofs.counter.Counter.post.Goals as goal

pub posted-self-requires-clause-number_bound : goal.posted-self-requires-clause-number_bound
posted-self-requires-clause-number_bound c =
    let self = c.args.self.now in
    (post_taken self.room self.tally self.sound _ c.in_ok-check_post.ensures).number

pub invariant_of-self : goal.invariant_of-self
invariant_of-self c =
    let self = c.args.self.now in
    record { sound = rw c.posted-self.ensures (posted_sound self.room self.tally self.sound (post_taken self.room self.tally self.sound _ c.in_ok-check_post.ensures)) }
