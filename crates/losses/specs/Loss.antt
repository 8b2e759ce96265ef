-- Vapour losses (document 01, "Vapour losses"): "operations are f64, each rounded once, in the order bracketed".
use Rattle.std.specs.Prelude.{ℕ, ◌^◌, cond, [], ◌∷◌, nat_le, Float, Ok, Err}
use Rattle.std.specs.Float.Ieee.{le}
use Rattle.forms.specs.Binary64.{decimal, whole, ◌⊗◌, ◌⊘◌, ◌⊕◌}
use Rattle.losses.specs.Coefficient.{row_of}
use Rattle.amounts.specs.Decline.{Answer, check, checked, on_taken}
use Rattle.amounts.specs.declared.decline.Decline.TheVariants.{Layout, Excess}
use Rattle.forms.specs.Form.{form_of}
use Rattle.losses.specs.Whole.{whole_part}
use Rattle.losses.specs.declared.coefficient.CoefficientRow.{CoefficientRow}
use Rattle.forms.specs.declared.form.Inputs.{Inputs}
use Rattle.forms.specs.declared.form.LossForm.{LossForm}
use Rattle.forms.specs.declared.form.LossForm.TheVariants.{FloatingRoof, FixedRoof, Station}

-- form 1, floating roof (document 000, table 2.2): "((((k × (4 / w)) × M) / 22.4) × (u / 100)) × p"
unfoldable pub floating_roof_kg : CoefficientRow → Float → Float → Float → Float
floating_roof_kg row w u p = ((((row.k ⊗ (whole 4 ⊘ w)) ⊗ row.m) ⊘ decimal 224 10) ⊗ (u ⊘ whole 100)) ⊗ p

-- form 2, filling a fixed roof (document 004): "(((0.041 × M) × w) × (u / p)) × q"
unfoldable pub fixed_roof_kg : CoefficientRow → Float → Float → Float → Float → Float
fixed_roof_kg row w u p q = (((decimal 41 1000 ⊗ row.m) ⊗ w) ⊗ (u ⊘ p)) ⊗ q

-- form 3, station (document 004): "(w × u) + (p × q)"
unfoldable pub station_kg : Float → Float → Float → Float → Float
station_kg w u p q = (w ⊗ u) ⊕ (p ⊗ q)

-- 8: form 1 or 2 without a coefficient row
abbrev pub kg_of : LossForm → Answer CoefficientRow → Answer Float
kg_of (FloatingRoof w u p) found = on_taken found (λ row. Ok (floating_roof_kg row w u p))
kg_of (FixedRoof w u p q) found = on_taken found (λ row. Ok (fixed_roof_kg row w u p q))
kg_of (Station w u p q) found = Ok (station_kg w u p q)

-- "The loss in micrograms is kg × 10^9, one more rounding, without its fraction"
abbrev pub micrograms_of : Float → ℕ
micrograms_of x = whole_part (x ⊗ whole (10 ^ 9))

-- 9: the loss exceeds 2,000,000 kg
unfoldable pub limited_of : Float → Answer ℕ
unfolding checked
limited_of x = checked (check (le x (whole 2000000)) Excess ∷ []) (micrograms_of x)

-- a form's loss over the row found for its substance
unfoldable pub loss_of : LossForm → Answer CoefficientRow → Answer ℕ
unfolding limited_of
loss_of form found = on_taken (kg_of form found) limited_of

-- "a loss is then declined by 7, 8 and 9 in that order": by a form's number and its floats, over the row found for its substance
unfoldable pub loss_over : ℕ → Answer CoefficientRow → Inputs Float → Answer ℕ
unfolding form_of loss_of
loss_over form found i = on_taken (form_of form i) (λ f. loss_of f found)

-- a loss called alone: "declines a form .. or other whole number outside this paper's limits by 6"
unfoldable pub vapour_of : ℕ → ℕ → Inputs Float → Answer ℕ
unfolding loss_over
vapour_of form number i = cond (nat_le 1 number) (loss_over form (row_of number) i) (Err Layout)
