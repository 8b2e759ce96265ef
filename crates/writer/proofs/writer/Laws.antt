-- Every writer is sound. Assumes nothing.
use mathlib.Core.Path.{refl, subst}
use Prim.Native.Nat.{ℕ}
use Rattle.pages.specs.Tally as tally
use Rattle.writer.specs.Writer.{WritersAreSound}

pub sound : WritersAreSound
sound w = record { counted = subst (λ (room : ℕ). tally.Sound room w.counter.tally) w.room_is w.counter.sound; filled_is = refl }
