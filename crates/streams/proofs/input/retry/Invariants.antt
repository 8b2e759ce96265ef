-- The calls that were made were interrupted, and the closure may be called again.
use Rattle.std.proofs.Common.{◌≡◌, ◌+◌, List, All, length, Err}
use Rattle.std.specs.List.{FoldsTo}
use Rattle.std.specs.declared.io.Error.{Error}
use Rattle.streams.specs.Input.{IsInterrupted}
use Rattle.streams.proofs.input.retry.Given as goal

abbrev pub invariant-loop-made : goal.invariant-loop-made
invariant-loop-made g l =
    goal.F-IsAlwaysCallable g l.call
    × ((failed : List Error) × FoldsTo (λ f e h. goal.F-step g f (Err e) h) l.initial.call failed l.call × All IsInterrupted failed × (length failed + 1 ≡ l._made))
