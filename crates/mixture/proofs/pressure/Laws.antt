-- What the code's steps answer, part by part, is what the definition does. Assumes nothing.
use Rattle.std.proofs.Common.{drop, ◌≡◌, ℕ, zero, suc, ◌<◌, ◌≤◌, length, get_or, eqb, zero-le, lt_irrefl, lt_of_le_of_lt, arith, Bool, true, false, List, [], ◌∷◌, ◌&&◌}
use Rattle.std.proofs.Common.{map, refl, sym}
use lib.Ieee.{Float}
use Rattle.std.specs.Prelude.{Ok, Err, Option, Some, None, nat_le, nat_lt, unwrap_or}
use Rattle.std.specs.List.{list_all}
use Rattle.amounts.specs.Decline.{Answer, checked}
use Rattle.amounts.specs.declared.decline.Decline.{Decline}
use Rattle.amounts.specs.declared.decline.Decline.TheVariants.{Mixture}
use Rattle.amounts.proofs.decline.Laws.{one_taken}
use Rattle.forms.specs.Pattern.{in_range}
use mathlib.Core.Bool.{false≢true}
use borrow.Author.Tests.{eq-eqb, lt-ltb, le-leb}
use Rattle.std.proofs.lemmas.Bool.{and_parts}
use Rattle.std.proofs.lemmas.List.{length-map, drop_all}
use Rattle.forms.specs.Binary64.{whole, value_of, ◌⊗◌, ◌⊘◌}
use Rattle.mixture.specs.Steps.{parts_of, part_at}
use Rattle.mixture.specs.Pressure.{part_fits, quotient_of, sum_from, sum_of, pressure_of, pressure_range, floats_of, mixed, partial_of}

-- the sum so far with the quotients to come
abbrev pub total : Option Float → List Float → Float
total None quotients = sum_of quotients
total (Some sum) quotients = sum_from sum quotients

-- what adding further parts answers
abbrev pub added : Option Float → List ℕ → List ℕ → Answer Float
added sum cs ms = mixed (list_all part_fits (parts_of cs ms)) (total sum (map quotient_of (parts_of cs ms)))

-- where none is left, the sum is
pub added_none : (sum : Option Float) (cs ms : List ℕ) (i : ℕ) → length cs ≤ i → added sum (drop i cs) (drop i ms) ≡ Ok (unwrap_or sum (whole 0))
unfolding checked
added_none sum cs ms i h = rw (drop_all i cs h) (go sum)
  where
    go : (sum : Option Float) → added sum [] (drop i ms) ≡ Ok (unwrap_or sum (whole 0))
    go None = refl
    go (Some s) = refl

-- ---- a part at its place

-- where all parts fit, so does that of each place
pub fits_at : (cs ms : List ℕ) (i : ℕ) → i < length cs → length ms ≡ length cs → list_all part_fits (parts_of cs ms) ≡ true → part_fits (part_at cs ms i) ≡ true
fits_at [] ms i l e h = absurd (lt_irrefl 0 (lt_of_le_of_lt zero-le l))
fits_at (c ∷ cs) [] i l e h = absurd (omega (arith, e))
fits_at (c ∷ cs) (m ∷ ms) zero l e h = (and_parts (part_fits (value_of c, value_of m)) (list_all part_fits (parts_of cs ms)) h).0
fits_at (c ∷ cs) (m ∷ ms) (suc i) l e h = fits_at cs ms i (omega (arith, l)) (omega (arith, e)) (and_parts (part_fits (value_of c, value_of m)) (list_all part_fits (parts_of cs ms)) h).1

pub quotient_at : (cs ms : List ℕ) (i : ℕ) → i < length cs → length ms ≡ length cs → get_or (map quotient_of (parts_of cs ms)) i (whole 0) ≡ quotient_of (part_at cs ms i)
quotient_at [] ms i l e = absurd (lt_irrefl 0 (lt_of_le_of_lt zero-le l))
quotient_at (c ∷ cs) [] i l e = absurd (omega (arith, e))
quotient_at (c ∷ cs) (m ∷ ms) zero l e = refl
quotient_at (c ∷ cs) (m ∷ ms) (suc i) l e = quotient_at cs ms i (omega (arith, l)) (omega (arith, e))

-- ---- the whole call

-- where a part isn't taken, nor is the mixture, whatever else is asked
pub part_declined : (cs ms : List ℕ) (i : ℕ) → i < length cs → length ms ≡ length cs → (d : Decline) → mixed (part_fits (part_at cs ms i)) (quotient_of (part_at cs ms i)) ≡ Err d
    → (named : ℕ) (pressure : Float) → Err d ≡ partial_of (floats_of cs) (floats_of ms) named pressure
unfolding partial_of checked
part_declined cs ms i l e d h named pressure =
    go (part_fits (part_at cs ms i)) (list_all part_fits (parts_of cs ms)) h (fits_at cs ms i l e)
    (nat_le 1 (length (floats_of cs)) && nat_le (length (floats_of cs)) 8) (eqb (length (floats_of ms)) (length (floats_of cs)))
    (nat_lt named (length (floats_of cs))) (in_range pressure_range pressure)
  where
    go : (b all : Bool) → mixed b (quotient_of (part_at cs ms i)) ≡ Err d → (all ≡ true → b ≡ true) → (few equal there ranged : Bool)
        → Err d ≡ mixed (few && (equal && (there && (ranged && all)))) (pressure_of pressure named (map quotient_of (parts_of cs ms)))
    go true all h f few equal there ranged = cc
    go false true h f few equal there ranged = absurd (false≢true (f refl))
    go false false h f true true true true = sym h
    go false false h f true true true false = sym h
    go false false h f true true false ranged = sym h
    go false false h f true false there ranged = sym h
    go false false h f false equal there ranged = sym h

-- where all is taken, the code's steps are the formula
pub answered : (cs ms : List ℕ) (named : ℕ) (given pressure own sum : Float) → length cs ≤ 8 → length ms ≡ length cs → named < length cs
    → mixed (in_range pressure_range given) given ≡ Ok pressure
    → mixed (part_fits (part_at cs ms named)) (quotient_of (part_at cs ms named)) ≡ Ok own → mixed (list_all part_fits (parts_of cs ms)) (sum_of (map quotient_of (parts_of cs ms))) ≡ Ok sum
    → Ok ((pressure ⊗ own) ⊘ sum) ≡ partial_of (floats_of cs) (floats_of ms) named given
unfolding partial_of checked
answered cs ms named given pressure own sum few equal there ranged o s =
    let p = one_taken (in_range pressure_range given) Mixture given pressure (sym ranged) in
    let a = one_taken (part_fits (part_at cs ms named)) Mixture (quotient_of (part_at cs ms named)) own (sym o) in
    let b = one_taken (list_all part_fits (parts_of cs ms)) Mixture (sum_of (map quotient_of (parts_of cs ms))) sum (sym s) in
    rw (length-map cs value_of, length-map ms value_of, quotient_at cs ms named there equal, p.1, a.1, b.1, b.0, p.0)
    (rw (le-leb 1 (length cs) (omega (arith, there)), le-leb (length cs) 8 few, eq-eqb (length ms) (length cs) equal, lt-ltb named (length cs) there) refl)
