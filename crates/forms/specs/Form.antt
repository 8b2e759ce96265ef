-- The three forms of a vapour loss (document 01, "Vapour losses"): their inputs and ranges.
use Rattle.std.specs.Prelude.{ℕ, ◌^◌, Bool, ◌&&◌, cond, [], ◌∷◌, eqb, Float, Err}
use Rattle.amounts.specs.Decline.{Answer, check, checked, is_taken}
use Rattle.amounts.specs.declared.decline.Decline.TheVariants.{Layout, OutOfRange}
use Rattle.forms.specs.Binary64.{value_of}
use Rattle.forms.specs.Pattern.{◌to◌, in_range}
use Rattle.forms.specs.declared.form.Inputs.{Inputs}
use Rattle.forms.specs.declared.pattern.Range.{Range}
use Rattle.forms.specs.declared.form.LossForm.{LossForm}
use Rattle.forms.specs.declared.form.LossForm.TheVariants.{FloatingRoof, FixedRoof, Station}

-- "w diameter in m, 1 to 1,000; u content in weight percent, 0 to 100; p kL drawn, 0 to 10^9; q is zero"
abbrev pub floating_ranges : Inputs Range
floating_ranges = record { w = 1 to 1000; u = 0 to 100; p = 0 to 10 ^ 9; q = 0 to 0 }

-- "w m³, 0 to 10^9; u partial and p tank pressure in Pa, u 0 to 10^9, p 1 to 10^9; q share that escapes, 0 to 1"
abbrev pub fixed_ranges : Inputs Range
fixed_ranges = record { w = 0 to 10 ^ 9; u = 0 to 10 ^ 9; p = 1 to 10 ^ 9; q = 0 to 1 }

-- "w and p kL received and dispensed, u and q kg per kL, each 0 to 10^9"
abbrev pub station_ranges : Inputs Range
station_ranges = record { w = 0 to 10 ^ 9; u = 0 to 10 ^ 9; p = 0 to 10 ^ 9; q = 0 to 10 ^ 9 }

-- "an unused float has zero as its whole range"
abbrev pub unused_ranges : Inputs Range
unused_ranges = record { w = 0 to 0; u = 0 to 0; p = 0 to 0; q = 0 to 0 }

-- the floats that four bit patterns are
abbrev pub values_of : Inputs ℕ → Inputs Float
values_of bits = record { w = value_of bits.w; u = value_of bits.u; p = value_of bits.p; q = value_of bits.q }

abbrev pub in_ranges : Inputs Range → Inputs Float → Bool
in_ranges r i = in_range r.w i.w && (in_range r.u i.u && (in_range r.p i.p && in_range r.q i.q))

-- 7: each float is in its range, or the form is declined
unfoldable pub ranged : {A : Type 0} → Inputs Range → Inputs Float → A → Answer A
unfolding checked
ranged r i a = checked (check (in_ranges r i) OutOfRange ∷ []) a

-- form 1, floating roof; 2, filling a fixed roof; 3, station; "declines a form .. outside this paper's limits by 6; a loss is then declined by 7 .."
unfoldable pub form_of : ℕ → Inputs Float → Answer LossForm
unfolding ranged
form_of n i =
    cond (eqb n 1) (ranged floating_ranges i (FloatingRoof i.w i.u i.p))
    (cond (eqb n 2) (ranged fixed_ranges i (FixedRoof i.w i.u i.p i.q))
    (cond (eqb n 3) (ranged station_ranges i (Station i.w i.u i.p i.q)) (Err Layout)))

-- whether floats are in the ranges of the form of a number; a number that is no form has none
unfoldable pub in_form : ℕ → Inputs Float → Bool
unfolding form_of
in_form n i = is_taken (form_of n i)
