use Rattle.pages.proofs.tally.Laws.{ended_sound}
use Rattle.pages.proofs.counter.Counter.end.Goals as goal

pub invariant_of-self : goal.invariant_of-self
invariant_of-self c = record { sound = rw c.ended-self.ensures (ended_sound _ _ c.args.self.now.sound) }
