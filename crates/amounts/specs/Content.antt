-- Counted content (document 01, "Amounts"; document 000, 1.1.3).
use Rattle.std.specs.Prelude.{ℕ, Bool, cond, [], ◌∷◌, leb}
use Rattle.amounts.specs.Class.{class_of}
use Rattle.amounts.specs.Decline.{Answer, check, checked, on_taken}
use Rattle.amounts.specs.declared.class.Class.{Class}
use Rattle.amounts.specs.declared.class.Class.TheVariants.{One, SpecificOne}
use Rattle.amounts.specs.declared.decline.Decline.TheVariants.{Layout}

-- a content, and a rate, is in parts per million
abbrev pub is_ppm : ℕ → Bool
is_ppm n = leb n 1000000

-- "counted from 10,000 ppm in class 1 and from 1,000 ppm in class 2"
abbrev pub counted_from : Class → ℕ
counted_from One = 10000
counted_from SpecificOne = 1000

-- ".. and is else taken as 0"
abbrev pub counts : Class → ℕ → ℕ
counts class ppm = cond (leb (counted_from class) ppm) ppm 0

unfoldable pub counted_of : ℕ → ℕ → Answer ℕ
unfolding checked class_of
counted_of class ppm = on_taken (class_of class) (λ c. checked (check (is_ppm ppm) Layout ∷ []) (counts c ppm))
