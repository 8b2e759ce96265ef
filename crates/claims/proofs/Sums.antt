-- Sums over the moves of posts. Assumes nothing.
use mathlib.Core.Path.{◌≡◌}
use mathlib.Core.List.{List, [], ◌∷◌}
use Prim.Native.Nat.{ℕ, ◌+◌}
use native.Mathlib.Omega.{arith}
use Rattle.std.proofs.lemmas.List.Elements.{All-tail}
use Rattle.std.proofs.lemmas.List.Sums.{sum_by-cons}
use Rattle.std.specs.List.{All}
use Rattle.post.specs.declared.moves.Move.{Move}
use Rattle.claims.specs.Standing.{sum_over}

-- sums whose terms add up
pub over_three : (P : Move → Type 0) (f g h k : Move → ℕ) (ms : List Move) → All P ms → ((m : Move) → P m → f m ≡ g m + h m + k m)
    → sum_over f ms ≡ sum_over g ms + sum_over h ms + sum_over k ms
over_three P f g h k [] l e = omega arith
over_three P f g h k (m ∷ ms) l e =
    omega (arith, e m (l 0 m (omega arith)), over_three P f g h k ms (All-tail P m ms l) e, sum_by-cons {X = Move})
