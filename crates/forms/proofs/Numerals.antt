-- The code's floats are those of the definitions: the ends of the forms' ranges, by their patterns. Assumes nothing.
use mathlib.Core.Path.{◌≡◌, refl}
use lib.Ieee.{binary64, of_bits, round}
use Rattle.forms.specs.Binary64.{whole}

pub nought : of_bits binary64 0x0000000000000000 ≡ whole 0
unfolding of_bits round
nought = refl

pub one : of_bits binary64 0x3ff0000000000000 ≡ whole 1
unfolding of_bits round
one = refl

pub hundred : of_bits binary64 0x4059000000000000 ≡ whole 100
unfolding of_bits round
hundred = refl

pub thousand : of_bits binary64 0x408f400000000000 ≡ whole 1000
unfolding of_bits round
thousand = refl

pub billion : of_bits binary64 0x41cdcd6500000000 ≡ whole 1000000000
unfolding of_bits round
billion = refl

pub ruleset ends = (nought, one, hundred, thousand, billion)
