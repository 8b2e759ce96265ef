-- The worked counts, by computation. Assumes nothing.
use mathlib.Core.Path.{◌≡◌, refl}
use Prim.Native.Nat.{ℕ}
use native.Mathlib.Omega.{arith}
use Rattle.amounts.specs.Decline.{checked}
use Rattle.stock.specs.Sheet.{difference, stock_from, stock_of}
use Rattle.stock.proofs.sheet.Laws.{same_sheet}
use Rattle.worked_claims.specs.Reread.{book_met}
use Rattle.worked_claims.specs.Stock.{SheetOfMet, SoundNeeded}
use Rattle.worked_claims.proofs.Reread.{book_takes_met}

first_as : (grams : ℕ) → stock_of book_met 0 grams ≡ stock_from 1 (λ m. 900) 0 grams
first_as grams = same_sheet book_met 1 (λ m. 900) 0 grams book_takes_met.1.1.0 (λ l. book_takes_met.1.1.1)

pub sheet_of_met : SheetOfMet
unfolding stock_from checked difference
sheet_of_met = (first_as _, first_as _, first_as _, first_as _, first_as _, first_as _, same_sheet book_met 1 (λ m. 900) 1 900 book_takes_met.1.1.0 (λ l. absurd (omega arith)))

pub sound_needed : SoundNeeded
unfolding stock_of stock_from checked difference
sound_needed = (refl, λ h. h.lower.le)
