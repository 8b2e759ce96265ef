-- The partial pressure of a mixture's part (document 02, (h), after document 004's note on stored mixtures).
use Rattle.std.specs.Prelude.{ℕ, ◌^◌, ◌≡◌, Bool, true, ◌&&◌, List, [], ◌∷◌, length, map, get_or, eqb, nat_le, nat_lt, Float}
use Rattle.std.specs.Float.Ieee.{le}
use Rattle.std.specs.List.{list_all, zip, fold}
use Rattle.amounts.specs.Decline.{Answer, check, checked}
use Rattle.amounts.specs.declared.decline.Decline.TheVariants.{Mixture}
use Rattle.forms.specs.Binary64.{decimal, whole, ◌⊗◌, ◌⊘◌, ◌⊕◌, value_of, finite}
use Rattle.forms.specs.Pattern.{◌to◌, in_range}
use Rattle.forms.specs.declared.pattern.Range.{Range}

-- ---- parts

-- "Contents are 0.0001 to 100", in weight percent
abbrev pub content_range : Range
content_range = record { low = decimal 1 10000; high = whole 100 }

-- "M is 1 to 1,000"
abbrev pub weight_range : Range
weight_range = 1 to 1000

-- "and the pressure, given for the named part alone, is 0 to 10^9", in Pa
abbrev pub pressure_range : Range
pressure_range = 0 to 10 ^ 9

-- a part of the mixture: its content and its M
abbrev pub Part : Type 0
Part = Float × Float

abbrev pub part_fits : Part → Bool
part_fits part = in_range content_range part.0 && in_range weight_range part.1

-- "its content / its M"
abbrev pub quotient_of : Part → Float
quotient_of part = part.0 ⊘ part.1

-- ---- the pressure

-- "Parts are added from the first to the last"
abbrev pub sum_from : Float → List Float → Float
sum_from sum quotients = fold (λ s q. s ⊕ q) sum quotients

-- "the sum being content / M": it starts with the first part's quotient; no part, which is declined, has none
abbrev pub sum_of : List Float → Float
sum_of [] = whole 0
sum_of (first ∷ rest) = sum_from first rest

-- "(the named part's vapour pressure × (its content / its M)) / sum, the sum being content / M over up to eight parts, a part being named by its place from 0"
abbrev pub pressure_of : Float → ℕ → List Float → Float
pressure_of pressure named quotients = (pressure ⊗ get_or quotients named (whole 0)) ⊘ sum_of quotients

-- ---- the call

-- 18, "the only one for this call", where a test fails
abbrev pub mixed : {A : Type 0} → Bool → A → Answer A
mixed ok a = checked (check ok Mixture ∷ []) a

-- that it is not so: "no part, over eight parts, the named part isn't among them or a value is outside its range"; nor are the lists of different lengths
abbrev pub may_mix : List Float → List Float → ℕ → Float → Bool
may_mix cs ms named pressure =
    (nat_le 1 (length cs) && nat_le (length cs) 8)
    && (eqb (length ms) (length cs) && (nat_lt named (length cs) && (in_range pressure_range pressure && list_all part_fits (zip cs ms))))

-- by the contents and the Ms of the parts, the place of the named one and its vapour pressure
unfoldable pub partial_of : List Float → List Float → ℕ → Float → Answer Float
unfolding checked
partial_of cs ms named pressure = mixed (may_mix cs ms named pressure) (pressure_of pressure named (map quotient_of (zip cs ms)))

-- the floats that bit patterns are
abbrev pub floats_of : List ℕ → List Float
floats_of patterns = map value_of patterns

-- ---- what is promised of an answer besides

-- a partial pressure is finite, not negative and at most 2^30
pub record Bounded (x : Float) : Type 0 where
  pub is_finite : finite x ≡ true
  pub not_negative : le (whole 0) x ≡ true
  pub at_most : le x (whole (2 ^ 30)) ≡ true
