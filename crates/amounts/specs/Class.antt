-- A substance's class (document 01, "Amounts").
use Rattle.std.specs.Prelude.{ℕ, Bool, cond, eqb, Ok, Err}
use Rattle.amounts.specs.Decline.{Answer, is_taken}
use Rattle.amounts.specs.declared.class.Class.{Class}
use Rattle.amounts.specs.declared.class.Class.TheVariants.{One, SpecificOne}
use Rattle.amounts.specs.declared.decline.Decline.TheVariants.{Layout}

-- "a class: 1 (class one) or 2 (specific class one)", by its number; another breaks the layout
unfoldable pub class_of : ℕ → Answer Class
class_of number = cond (eqb number 1) (Ok One) (cond (eqb number 2) (Ok SpecificOne) (Err Layout))

abbrev pub is_class : ℕ → Bool
is_class number = is_taken (class_of number)
