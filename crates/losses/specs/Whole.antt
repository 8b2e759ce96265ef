-- The whole part of a float (document 01, "Vapour losses": "without its fraction").
use Rattle.std.specs.Prelude.{ℕ, Float}
use Rattle.std.specs.Float.Ieee.{to_unsigned}

-- toward zero, and held within 64 bits, so that it is there for every float
abbrev pub whole_part : Float → ℕ
whole_part x = to_unsigned 64 x
