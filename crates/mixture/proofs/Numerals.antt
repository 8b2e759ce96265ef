-- The ends of the code's ranges are those of the definitions, by their patterns. Assumes nothing.
use mathlib.Core.Path.{◌≡◌, refl}
use lib.Ieee.{binary64, of_bits, round}
use Rattle.forms.specs.Binary64.{decimal}
use Rattle.forms.proofs.Numerals.{nought, one, hundred, thousand, billion}

pub least_content : of_bits binary64 0x3f1a36e2eb1c432d ≡ decimal 1 10000
unfolding of_bits round
least_content = refl

pub ruleset ends = (nought, one, hundred, thousand, billion, least_content)
