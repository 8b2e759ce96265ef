-- The sheets of accepted calls, call by call, and the blocks that they make. Assumes nothing.
use mathlib.Core.Path.{◌≡◌, refl, ◌∙◌}
use mathlib.Core.Bool.{cond}
use mathlib.Core.List.{List, [], ◌∷◌, ◌++◌, append_assoc, append-nil}
use Prim.Native.Nat.{ℕ, suc, ◌+◌}
use native.Mathlib.Omega.{arith}
use lib.Dec.{eqb}
use lib.ListN.{length}
use Rattle.std.proofs.lemmas.Bool.Decides.{nat_tests}
use Rattle.std.specs.List.{fold}
use Rattle.pages.specs.Calls.{Call, set_up, post, end}
use Rattle.claims.specs.Written.{Sheet, sheet, of_posts, sheets, framed_from}

-- the sheets that an accepted call makes where posts wait
abbrev pub sheets_by : List (List ℕ) → Call → List Sheet
sheets_by waiting (set_up kind count body) = sheet kind count body ∷ []
sheets_by waiting (post s) = cond (eqb (length waiting) 9) (of_posts (waiting ++ (s ∷ [])) ∷ []) []
sheets_by waiting end = cond (eqb (length waiting) 0) [] (of_posts waiting ∷ [])

-- the posts that wait then
abbrev pub waiting_by : List (List ℕ) → Call → List (List ℕ)
waiting_by waiting (set_up kind count body) = waiting
waiting_by waiting (post s) = cond (eqb (length waiting) 9) [] (waiting ++ (s ∷ []))
waiting_by waiting end = []

-- the posts that wait after accepted calls
abbrev pub waiting_after : List (List ℕ) → List Call → List (List ℕ)
waiting_after waiting calls = fold waiting_by waiting calls

-- the first call's sheets come first
pub sheets_first : (waiting : List (List ℕ)) (call : Call) (calls : List Call) → sheets waiting (call ∷ calls) ≡ sheets_by waiting call ++ sheets (waiting_by waiting call) calls
unfolding sheets
sheets_first waiting call calls = grind (arith, nat_tests)

-- the last call's sheets come last
pub sheets_last : (waiting : List (List ℕ)) (calls : List Call) (call : Call) → sheets waiting (calls ++ (call ∷ [])) ≡ sheets waiting calls ++ sheets_by (waiting_after waiting calls) call
unfolding sheets
sheets_last waiting [] call = sheets_first waiting call [] ∙ append-nil (sheets_by waiting call)
sheets_last waiting (c ∷ calls) call = simp (sheets_first, sheets_last (waiting_by waiting c) calls call, append_assoc)

-- a block for each sheet
pub framed_long : (number : ℕ) (xs : List Sheet) → length (framed_from number xs) ≡ length xs
unfolding framed_from
framed_long number [] = refl
framed_long number (x ∷ xs) = omega (arith, framed_long (suc number) xs)

-- blocks of further sheets are numbered on
pub framed_append : (number : ℕ) (xs ys : List Sheet) → framed_from number (xs ++ ys) ≡ framed_from number xs ++ framed_from (number + length xs) ys
unfolding framed_from
framed_append number [] ys = grind arith
framed_append number (x ∷ xs) ys = grind (arith, framed_append (suc number) xs ys)
