-- The store of a material by the moves of posts. Assumes nothing.
use mathlib.Core.Path.{◌≡◌}
use mathlib.Core.Bool.{true, cond}
use mathlib.Core.List.{List}
use Prim.Native.Nat.{ℕ, ◌+◌}
use native.Mathlib.Omega.{arith}
use lib.Dec.{eqb}
use lib.ListN.{length, get_or}
use Rattle.std.proofs.lemmas.Bool.Decides.{nat_tests}
use Rattle.std.proofs.lemmas.Grind.{common_steps}
use Rattle.post.specs.Steps.{Fits}
use Rattle.post.specs.declared.moves.Move.{Move}
use Rattle.post.specs.declared.moves.Move.TheVariants.{Received, Issued, Brought, Gone, Close}
use Rattle.book.specs.Entry.{is_there, store_after}
use Rattle.book.specs.Steps.{widest}

-- the grams of a material that a move brings to its store, and takes from it
abbrev pub comes : ℕ → Move → ℕ
comes m (Received i g) = cond (eqb i m) g 0
comes m (Issued i k g) = 0
comes m (Brought a k s n) = 0
comes m (Gone a k s n) = 0
comes m Close = 0

abbrev pub goes : ℕ → Move → ℕ
goes m (Received i g) = 0
goes m (Issued i k g) = cond (eqb i m) g 0
goes m (Brought a k s n) = 0
goes m (Gone a k s n) = 0
goes m Close = 0

-- a move whose grams are there changes each store by what comes and goes
pub store_next : (store sums : List ℕ) (m : ℕ) (x : Move) → length store ≡ 12 → Fits widest x → is_there store sums x ≡ true
    → get_or (store_after store x) m 0 + goes m x ≡ get_or store m 0 + comes m x
store_next store sums m x long f t = grind (arith, nat_tests, common_steps)
