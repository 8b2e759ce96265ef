-- A loss that is taken is at most 2×10^15 micrograms, after its rounding. Assumes nothing.
use Rattle.std.proofs.Common.{◌≡◌, ℕ, zero, suc, ◌+◌, ◌-◌, ◌*◌, ◌/◌, ◌^◌, ◌<◌, ◌≤◌, min, Bool, true, false, cond, T, ltb, sym, refl, ap, ◌∙◌, subst}
use Rattle.std.proofs.Common.{zero-le, le_trans, le_of_eq, mul-pos, arith, lit<}
use Rattle.std.proofs.lemmas.Bool.Decides.{nat_tests}
use native.Mathlib.Nat.{div-le_of_le-mul}
use lib.Ieee.{Float, Format, nan, inf, fin, binary64, up, down, low, emax, prec, odd, units, round, mul, le, lt, eq, to_unsigned}
use lib.Ieee.Fits.{round_is, down_pos}
use lib.Ieee.Order.{round_mono}
use Rattle.forms.specs.Binary64.{whole}
use Rattle.std.specs.Prelude.{Ok, Err}
use Rattle.amounts.specs.Decline.{Answer, checked}
use Rattle.amounts.specs.declared.decline.Decline.TheVariants.{OutOfRange, Excess}
use Rattle.losses.specs.Coefficient.{row_of}
use Rattle.forms.specs.Form.{form_of, in_form}
use Rattle.forms.specs.declared.form.Inputs.{Inputs}
use Rattle.losses.specs.Loss.{micrograms_of, kg_of, limited_of, loss_of, loss_over, vapour_of}
use Rattle.losses.specs.Whole.{whole_part}
use Rattle.losses.specs.declared.coefficient.CoefficientRow.{CoefficientRow}
use Rattle.forms.specs.declared.form.LossForm.{LossForm}
use Rattle.amounts.proofs.decline.Laws.{one_taken, was_taken}
use Rattle.forms.proofs.form.Laws.{not_in_form}
use Rattle.forms.proofs.Within.{at_most}

-- ---- what is negative has no whole part

odd_negative : (d q k l : ℕ) → whole_part (odd d true q k l) ≡ 0
unfolding odd to_unsigned
odd_negative d zero k l = refl
odd_negative d (suc q) k l = refl

cond_negative : (b : Bool) (v : Float) → whole_part v ≡ 0 → whole_part (cond b v (inf true)) ≡ 0
unfolding to_unsigned
cond_negative true v h = h
cond_negative false v h = refl

units_negative : (f : Format) (q k : ℕ) → whole_part (units f true q k) ≡ 0
unfolding units
units_negative f q k =
    cond_negative (ltb (q * 2 ^ k) (2 ^ (low f + suc (emax f)))) (odd (suc (prec f)) true q k (low f)) (odd_negative (suc (prec f)) q k (low f))

round_negative : (f : Format) (a c : ℕ) → whole_part (round f true a c) ≡ 0
round_negative f a c = ap whole_part (round_is f true a c) ∙ units_negative f _ _

-- ---- what is at most 2 × 10 ^ 15 has such a whole part

small : (q c : ℕ) → q ≤ 2000000000000000 → min q c ≤ 2000000000000000
small q c h = omega arith

tidy : (n d : ℕ) → n * 1 ≤ 2000000000000000 * d → n ≤ d * 2000000000000000
tidy n d h = omega arith

whole_le : (x : Float) → T (le x (whole 2000000000000000)) → whole_part x ≤ 2000000000000000
unfolding le lt eq to_unsigned round
whole_le nan h = zero-le
whole_le (inf true) h = zero-le
whole_le (inf false) h = absurd h
whole_le (fin true m e) h = zero-le
whole_le (fin false m e) h =
    small (m * up e / down e) (2 ^ 64 - 1) (div-le_of_le-mul (down e) (tidy (m * up e) (down e) (at_most (m * up e * 1) (2000000000000000 * down e) h)))

scale : (n d : ℕ) → n * 1 ≤ 2000000 * d → n * 1000000000 * 1 ≤ 2000000000000000 * (d * 1)
scale n d h = omega arith

micrograms_bounded : (kg : Float) → T (le kg (whole 2000000)) → micrograms_of kg ≤ 2000000000000000
unfolding le lt eq mul round to_unsigned
micrograms_bounded nan h = absurd h
micrograms_bounded (inf true) h = zero-le
micrograms_bounded (inf false) h = absurd h
micrograms_bounded (fin true m e) h = le_trans (le_of_eq (round_negative binary64 (m * up e * 1000000000) (down e * 1))) zero-le
micrograms_bounded (fin false m e) h =
    whole_le (round binary64 false (m * up e * 1000000000) (down e * 1))
    (round_mono binary64 (m * up e * 1000000000) (down e * 1) 2000000000000000 1 (mul-pos (down_pos e) (lit< tt)) (lit< tt)
    (scale (m * up e) (down e) (at_most (m * up e * 1) (2000000 * down e) h)))

pub limited_bounded : (kg : Float) (n : ℕ) → limited_of kg ≡ Ok n → n ≤ 2000000000000000
unfolding limited_of
limited_bounded kg n e =
    let z = one_taken (le kg (whole 2000000)) Excess (micrograms_of kg) n (sym e) in
    rw z.1 (micrograms_bounded kg (subst T (sym z.0) tt))

-- over any row
pub loss_bounded : (form : LossForm) (found : Answer CoefficientRow) (n : ℕ) → loss_of form found ≡ Ok n → n ≤ 2000000000000000
unfolding loss_of
loss_bounded form found n e = let z = was_taken (kg_of form found) limited_of n e in limited_bounded z.0 n z.2

-- by a form's number, over any row
pub over_bounded : (form : ℕ) (found : Answer CoefficientRow) (i : Inputs Float) (n : ℕ) → loss_over form found i ≡ Ok n → n ≤ 2000000000000000
unfolding loss_over
over_bounded form found i n e = let z = was_taken (form_of form i) (λ f. loss_of f found) n e in loss_bounded z.0 found n z.2

-- where the floats of one of the three forms aren't in their ranges it is a 7
pub over_range : (form : ℕ) (found : Answer CoefficientRow) (i : Inputs Float) → 1 ≤ form → form < 4 → in_form form i ≡ false → loss_over form found i ≡ Err OutOfRange
unfolding loss_over
over_range form found i low high e = rw (not_in_form form i low high e)

-- a station's loss is the same over any two rows
pub station_alone : (found other : Answer CoefficientRow) (i : Inputs Float) → loss_over 3 found i ≡ loss_over 3 other i
unfolding loss_over form_of loss_of checked
station_alone found other i = grind arith

-- a loss called alone is that of its substance's row
pub vapour_over : (form number : ℕ) (i : Inputs Float) → 1 ≤ number → vapour_of form number i ≡ loss_over form (row_of number) i
unfolding vapour_of
vapour_over form number i h = grind (arith, nat_tests)

pub vapour_bounded : (form number : ℕ) (i : Inputs Float) (n : ℕ) → vapour_of form number i ≡ Ok n → n ≤ 2000000000000000
unfolding vapour_of
vapour_bounded form number i n e = grind (arith, over_bounded form (row_of number) i n)
