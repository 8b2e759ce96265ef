-- A float and its range (document 01, "Vapour losses", and decline 7).
use Rattle.std.specs.Prelude.{ℕ, Bool, ◌&&◌, [], ◌∷◌, Float}
use Rattle.std.specs.Float.Ieee.{le}
use Rattle.forms.specs.Binary64.{whole, finite}
use Rattle.amounts.specs.Decline.{Answer, check, checked}
use Rattle.amounts.specs.declared.decline.Decline.TheVariants.{OutOfRange}
use Rattle.forms.specs.declared.pattern.Range.{Range}

infix 20 ◌to◌
abbrev pub ◌to◌ : ℕ → ℕ → Range
low to high = record { low = whole low; high = whole high }

-- finite, and not outside: the ends belong to the range, and either sign of zero is 0
unfoldable pub in_range : Range → Float → Bool
in_range range x = finite x && (le range.low x && le x range.high)

unfoldable pub reading_of : Range → Float → Answer Float
unfolding checked
reading_of range x = checked (check (in_range range x) OutOfRange ∷ []) x
