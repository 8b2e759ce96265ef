-- The threshold (document 01, "Treatment and report").
use Rattle.std.specs.Prelude.{ℕ, ◌*◌, ◌^◌, Bool, leb, Ok}
use Rattle.amounts.specs.Class.{class_of}
use Rattle.amounts.specs.Decline.{Answer, on_taken}
use Rattle.amounts.specs.declared.class.Class.{Class}
use Rattle.amounts.specs.declared.class.Class.TheVariants.{One, SpecificOne}

-- "due from 10^12 micrograms handled in class 1, 5×10^11 in class 2"
abbrev pub due_from : Class → ℕ
due_from One = 10 ^ 12
due_from SpecificOne = 5 * 10 ^ 11

abbrev pub is_due : Class → ℕ → Bool
is_due class handled = leb (due_from class) handled

unfoldable pub due_of : ℕ → ℕ → Answer Bool
unfolding class_of
due_of class handled = on_taken (class_of class) (λ c. Ok (is_due c handled))
