-- What only follows the code's steps: no promise rests on it.
use Rattle.std.specs.Prelude.{ℕ, List, Option, Some, None, get_or, Float}
use Rattle.forms.specs.Binary64.{◌⊕◌, value_of}
use Rattle.std.specs.List.{zip}
use Rattle.mixture.specs.Pressure.{Part, floats_of}

-- the sum so far with a quotient more
abbrev pub plus : Option Float → Float → Float
plus None quotient = quotient
plus (Some sum) quotient = sum ⊕ quotient

-- the parts whose contents and Ms the patterns are
abbrev pub parts_of : List ℕ → List ℕ → List Part
parts_of cs ms = zip (floats_of cs) (floats_of ms)

-- the part of a place, by the patterns of its content and its M
abbrev pub part_at : List ℕ → List ℕ → ℕ → Part
part_at cs ms place = (value_of (get_or cs place 0), value_of (get_or ms place 0))
