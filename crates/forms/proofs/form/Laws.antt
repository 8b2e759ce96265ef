-- What a form's ranges say of its floats. Assumes nothing.
use mathlib.Core.Path.{◌≡◌}
use mathlib.Core.Bool.{true, false}
use Prim.Native.Nat.{ℕ, ◌≤◌, ◌<◌}
use native.Mathlib.Omega.{arith}
use lib.Ieee.{Float}
use Rattle.std.specs.Prelude.{Err}
use Rattle.amounts.specs.Decline.{checked}
use Rattle.amounts.specs.declared.decline.Decline.TheVariants.{OutOfRange}
use Rattle.forms.specs.Pattern.{in_range}
use Rattle.forms.specs.Form.{in_ranges, ranged, form_of, in_form}
use Rattle.forms.specs.declared.form.Inputs.{Inputs}
use Rattle.forms.specs.declared.pattern.Range.{Range}

-- ---- what ranges say of each float

-- each of the four inputs is in its range
pub each_in_range : (r : Inputs Range) (i : Inputs Float) → in_ranges r i ≡ true
    → (in_range r.w i.w ≡ true) × (in_range r.u i.u ≡ true) × (in_range r.p i.p ≡ true) × (in_range r.q i.q ≡ true)
each_in_range r i h = grind arith

-- ---- a form whose floats aren't in their ranges

-- one of the three is declined by 7
pub not_in_form : (n : ℕ) (i : Inputs Float) → 1 ≤ n → n < 4 → in_form n i ≡ false → form_of n i ≡ Err OutOfRange
unfolding in_form form_of ranged checked
not_in_form n i low high e = grind arith
