-- A loss in kg by each of the three forms is finite and not negative, and it is declined just where it exceeds 2,000,000 kg. Assumes nothing.
use Rattle.std.proofs.Common.{◌≡◌, ℕ, ◌+◌, ◌*◌, ◌^◌, ◌<◌, ◌≤◌, Bool, true, false, cond, not, ◌&&◌, ◌||◌, T, eqb, ltb, leb, List, [], ◌∷◌, sym, refl, ap}
use Rattle.std.proofs.Common.{◌∙◌, subst, arith, lit≤, ltb→lt, lt→ltb, leb→le}
use mathlib.Core.Bool.{false≢true}
use lib.Dec.{nleb→lt, not_T}
use lib.Ieee.{Float, nan, inf, fin, up, down, round, le, lt}
use lib.Ieee.Fits.{down_pos}
use Rattle.forms.specs.Binary64.{decimal, whole, finite}
use Rattle.forms.specs.Pattern.{◌to◌, in_range}
use Rattle.forms.specs.Form.{floating_ranges, fixed_ranges, station_ranges, in_ranges, ranged, form_of}
use Rattle.losses.specs.Coefficient.{rows, find, row_if, row_of}
use Rattle.losses.specs.declared.coefficient.Entry.{Entry}
use Rattle.std.specs.Prelude.{Ok, Err}
use Rattle.amounts.specs.Decline.{Answer, on_taken}
use Rattle.amounts.specs.declared.decline.Decline.TheVariants.{Layout, OutOfRange}
use Rattle.losses.specs.Loss.{floating_roof_kg, fixed_roof_kg, station_kg, kg_of}
use Rattle.losses.specs.declared.coefficient.CoefficientRow.{CoefficientRow}
use Rattle.forms.specs.declared.form.Inputs.{Inputs}
use Rattle.forms.specs.declared.form.LossForm.{LossForm}
use Rattle.forms.specs.declared.form.LossForm.TheVariants.{FloatingRoof, FixedRoof, Station}
use Rattle.amounts.proofs.decline.Laws.{one_taken}
use Rattle.forms.proofs.form.Laws.{each_in_range}
use Rattle.forms.proofs.Within.{Within, same_test, ordered, mul_within, div_within, add_within, within_finite, in_range_lem, in_range_one}
use Rattle.std.proofs.lemmas.Bool.{and_parts}

-- ---- "the loss exceeds 2,000,000 kg"
-- a failed `≤` is `>`
not_at_most : (a b : ℕ) → not (leb a b) ≡ ltb b a
not_at_most a b = same_test (not (leb a b)) (ltb b a) (λ t. lt→ltb b a (nleb→lt a b t)) (λ t. not_T (leb a b) (λ u. clash (ltb→lt b a t) (leb→le a b u)))
  where
    clash : b < a → a ≤ b → ⊥
    clash p q = omega arith

-- what is negative does not exceed
passed : (a b : Bool) → T a → not (a || b) ≡ false
passed true b t = refl
passed false b t = elim t [ ]

-- decline 9 is just that a finite loss exceeds the limit
pub exceeds : (x : Float) → finite x ≡ true → not (le x (whole 2000000)) ≡ lt (whole 2000000) x
unfolding le round
exceeds nan f = absurd (false≢true f)
exceeds (inf s) f = absurd (false≢true f)
exceeds (fin false m e) f = ap not (ordered (m * up e * 1) (2000000 * down e)) ∙ not_at_most (m * up e * 1) (2000000 * down e)
exceeds (fin true m e) f = passed (ltb 0 (m * up e * 1 + 2000000 * down e)) _ (lt→ltb 0 (m * up e * 1 + 2000000 * down e) (omega (arith, down_pos e)))

-- ---- the inputs and the coefficients
-- "0 to 10^9"
billion : {x : Float} → in_range (0 to 10 ^ 9) x ≡ true → Within 30 x
billion = in_range_lem 0 (10 ^ 9) 30 tt

-- "k" and "M" of the table
abbrev pub RowWithin : CoefficientRow → Type 0
RowWithin row = (in_range (0 to 1) row.k ≡ true) × (in_range (1 to 1000) row.m ≡ true)

-- one test of the whole table
entry_within : Entry → Bool
entry_within e = in_range (0 to 1) e.row.k && in_range (1 to 1000) e.row.m

all_within : List Entry → Bool
unfolding entry_within
all_within [] = true
all_within (e ∷ es) = entry_within e && all_within es

-- a row that is found passes the test
find_within : (es : List Entry) → all_within es ≡ true → (number : ℕ) (row : CoefficientRow) → find number es ≡ Ok row → RowWithin row
unfolding all_within find
find_within [] a number row h = cc
find_within (e ∷ es) a number row h = go (eqb e.number number) h (find_within es (and_parts (entry_within e) (all_within es) a).1 number row)
  where
    go : (b : Bool) → row_if b e.row (find number es) ≡ Ok row → (find number es ≡ Ok row → RowWithin row) → RowWithin row
    go true p rest =
        let same : e.row ≡ row = cc in
        subst RowWithin same (and_parts (in_range (0 to 1) e.row.k) (in_range (1 to 1000) e.row.m) (and_parts (entry_within e) (all_within es) a).0)
    go false p rest = rest p

-- so each row of the table is in these ranges
pub rows_within : (number : ℕ) (row : CoefficientRow) → row_of number ≡ Ok row → RowWithin row
unfolding row_of all_within in_range le round
rows_within number row h = find_within rows refl number row h

-- ---- the three forms, each step with its own power of two
floating_within : (row : CoefficientRow) (i : Inputs Float) → RowWithin row → in_ranges floating_ranges i ≡ true → Within 49 (floating_roof_kg row i.w i.u i.p)
unfolding floating_roof_kg in_range le round
floating_within row i c h =
    let r = each_in_range floating_ranges i h in
    let spread = div_within (in_range_lem 0 4 2 tt {x = whole 4} refl) (in_range_one 1000 r.0) (lit≤ tt) in
    let drawn = mul_within (mul_within (in_range_lem 0 1 0 tt c.0) spread (lit≤ tt)) (in_range_lem 1 1000 10 tt c.1) (lit≤ tt) in
    let percent = div_within (in_range_lem 0 100 7 tt r.1) (in_range_one 100 {x = whole 100} refl) (lit≤ tt) in
    mul_within (mul_within (div_within drawn (in_range_one 100 {x = decimal 224 10} refl) (lit≤ tt)) percent (lit≤ tt)) (billion r.2) (lit≤ tt)

fixed_within : (row : CoefficientRow) (i : Inputs Float) → RowWithin row → in_ranges fixed_ranges i ≡ true → Within 70 (fixed_roof_kg row i.w i.u i.p i.q)
unfolding fixed_roof_kg in_range le round
fixed_within row i c h =
    let r = each_in_range fixed_ranges i h in
    let density = mul_within (in_range_lem 0 1 0 tt {x = decimal 41 1000} refl) (in_range_lem 1 1000 10 tt c.1) (lit≤ tt) in
    let parts = div_within (billion r.1) (in_range_one (10 ^ 9) r.2) (lit≤ tt) in
    mul_within (mul_within (mul_within density (billion r.0) (lit≤ tt)) parts (lit≤ tt)) (in_range_lem 0 1 0 tt r.3) (lit≤ tt)

station_within : (i : Inputs Float) → in_ranges station_ranges i ≡ true → Within 61 (station_kg i.w i.u i.p i.q)
unfolding station_kg
station_within i h =
    let r = each_in_range station_ranges i h in
    add_within (mul_within (billion r.0) (billion r.1) (lit≤ tt)) (mul_within (billion r.2) (billion r.3) (lit≤ tt)) (lit≤ tt)

-- what is taken with a row is taken with one that was found
taken_within : {n : ℕ} (found : Answer CoefficientRow) (f : CoefficientRow → Float) (x : Float)
    → ((row : CoefficientRow) → found ≡ Ok row → Within n (f row)) → on_taken found (λ row. Ok (f row)) ≡ Ok x → Within n x
taken_within {n} (Ok row) f x h e = let same : f row ≡ x = cc in subst (Within n) same (h row refl)
taken_within (Err d) f x h e = cc

-- the kg of a form that is taken, with a row like those of the table where one is used
pub kg_finite : (form : ℕ) (found : Answer CoefficientRow) (i : Inputs Float) (f : LossForm) (x : Float) → ((row : CoefficientRow) → found ≡ Ok row → RowWithin row)
    → form_of form i ≡ Ok f → kg_of f found ≡ Ok x → (finite x ≡ true) × (le (whole 0) x ≡ true)
unfolding form_of ranged
kg_finite form found i f x c = go (eqb form 1) (eqb form 2) (eqb form 3)
  where
    go : (a b d : Bool)
        → cond a (ranged floating_ranges i (FloatingRoof i.w i.u i.p)) (cond b (ranged fixed_ranges i (FixedRoof i.w i.u i.p i.q))
        (cond d (ranged station_ranges i (Station i.w i.u i.p i.q)) (Err Layout))) ≡ Ok f
        → kg_of f found ≡ Ok x → (finite x ≡ true) × (le (whole 0) x ≡ true)
    go true b d h e =
        let z = one_taken (in_ranges floating_ranges i) OutOfRange (FloatingRoof i.w i.u i.p) f (sym h) in
        within_finite (taken_within found (λ row. floating_roof_kg row i.w i.u i.p) x (λ row t. floating_within row i (c row t) z.0) (rw z.1 at e))
    go false true d h e =
        let z = one_taken (in_ranges fixed_ranges i) OutOfRange (FixedRoof i.w i.u i.p i.q) f (sym h) in
        within_finite (taken_within found (λ row. fixed_roof_kg row i.w i.u i.p i.q) x (λ row t. fixed_within row i (c row t) z.0) (rw z.1 at e))
    go false false true h e =
        let z = one_taken (in_ranges station_ranges i) OutOfRange (Station i.w i.u i.p i.q) f (sym h) in
        let k : Ok (station_kg i.w i.u i.p i.q) ≡ Ok x = rw z.1 at e in
        let same : station_kg i.w i.u i.p i.q ≡ x = cc in
        within_finite (subst (Within 61) same (station_within i z.0))
    go false false false h e = cc

-- the same of a substance's number
pub vapour_kg_finite : (form number : ℕ) (i : Inputs Float) (f : LossForm) (x : Float) → form_of form i ≡ Ok f → kg_of f (row_of number) ≡ Ok x
    → (finite x ≡ true) × (le (whole 0) x ≡ true)
vapour_kg_finite form number i f x = kg_finite form (row_of number) i f x (rows_within number)
