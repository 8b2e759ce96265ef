-- Arithmetic of f64, in the notation of the formulas: each operation is rounded once (document 01, "Vapour losses").
use Rattle.std.specs.Prelude.{ℕ, Bool, true, false, Float}
use Rattle.std.specs.Float.{nan, inf, fin, binary64}
use Rattle.std.specs.Float.Ieee.{of_bits, round, add, mul, div}

-- "decimals are the nearest f64": the f64 nearest to numerator / denominator
abbrev pub decimal : ℕ → ℕ → Float
decimal numerator denominator = round binary64 false numerator denominator

abbrev pub whole : ℕ → Float
whole n = decimal n 1

infixl 40 ◌⊗◌
abbrev pub ◌⊗◌ : Float → Float → Float
x ⊗ y = mul binary64 x y

infixl 40 ◌⊘◌
abbrev pub ◌⊘◌ : Float → Float → Float
x ⊘ y = div binary64 x y

infixl 30 ◌⊕◌
abbrev pub ◌⊕◌ : Float → Float → Float
x ⊕ y = add binary64 x y

-- "floats are f64 by their bits": the value of a pattern of 64 bits
abbrev pub value_of : ℕ → Float
value_of bits = of_bits binary64 bits

-- neither a NaN nor an infinity
abbrev pub finite : Float → Bool
finite nan = false
finite (inf s) = false
finite (fin s m e) = true
