-- Worked pressures: the manual's, and those that show what the bound leaves open.
use Rattle.std.specs.Prelude.{◌^◌, ◌≡◌, true, [], ◌∷◌, Float, Ok, Err, pos}
use Rattle.std.specs.Float.{fin}
use Rattle.std.specs.Float.Ieee.{le, lt}
use Rattle.amounts.specs.declared.decline.Decline.TheVariants.{OutOfRange}
use Rattle.forms.specs.Binary64.{decimal, whole}
use Rattle.forms.specs.Form.{form_of}
use Rattle.mixture.specs.Pressure.{partial_of}

-- ---- document 004: toluene, xylene and benzene in solvent A, 40, 45 and 15 percent; M 92.1, 106.2 and 78.1

-- "3.75 × 10^3 Pa × ..": 3,750 × (0.43431 / (0.43431 + 0.42373 + 0.19206)) = 1,550.96, and "= 1.55 × 10^3 Pa"
pub record Toluene : Type 0 where
  pub partial : Float
  pub answered : partial_of (whole 40 ∷ whole 45 ∷ whole 15 ∷ []) (decimal 921 10 ∷ decimal 1062 10 ∷ decimal 781 10 ∷ []) 0 (whole 3750) ≡ Ok partial
  pub at_least : le (decimal 15505 10) partial ≡ true
  pub at_most : le partial (decimal 15515 10) ≡ true

-- ---- one part, whose partial pressure is its own but for what rounding makes of it

-- 10^9 Pa over a content of 0.01 and M 106.2 comes out above 10^9, and form 2 then declines it by 7
pub record AboveForm2 : Type 0 where
  pub partial : Float
  pub answered : partial_of (decimal 1 100 ∷ []) (decimal 1062 10 ∷ []) 0 (whole (10 ^ 9)) ≡ Ok partial
  pub above : lt (whole (10 ^ 9)) partial ≡ true
  pub declined : form_of 2 (record { w = whole 1; u = partial; p = whole 1; q = whole 1 }) ≡ Err OutOfRange

-- −0
abbrev pub minus_nought : Float
minus_nought = fin true 0 (pos 0)

-- "zero of either sign is in the pressure's range", and −0 stays −0
abbrev pub MinusNought : Type 0
MinusNought = partial_of (whole 50 ∷ whole 50 ∷ []) (whole 100 ∷ whole 100 ∷ []) 1 minus_nought ≡ Ok minus_nought
