-- The floats in the code's formulas are those of the definitions, by their patterns. Assumes nothing.
use mathlib.Core.Path.{◌≡◌, refl}
use lib.Ieee.{binary64, of_bits, round}
use Rattle.forms.specs.Binary64.{decimal, whole}
use Rattle.forms.proofs.Numerals.{hundred, billion}

pub four : of_bits binary64 0x4010000000000000 ≡ whole 4
unfolding of_bits round
four = refl

pub molar_volume : of_bits binary64 0x4036666666666666 ≡ decimal 224 10
unfolding of_bits round
molar_volume = refl

pub vapour_constant : of_bits binary64 0x3fa4fdf3b645a1cb ≡ decimal 41 1000
unfolding of_bits round
vapour_constant = refl

pub most_kg : of_bits binary64 0x413e848000000000 ≡ whole 2000000
unfolding of_bits round
most_kg = refl

pub ruleset numerals = (four, molar_volume, vapour_constant, most_kg, hundred, billion)
