-- The worked pressures, by computing them. Assumes nothing.
use mathlib.Core.Path.{refl}
use lib.Ieee.{of_bits, binary64, round, add, mul, div, le, lt}
use Rattle.amounts.specs.Decline.{checked}
use Rattle.forms.specs.Pattern.{in_range}
use Rattle.forms.specs.Form.{form_of, ranged}
use Rattle.mixture.specs.Pressure.{partial_of}
use Rattle.mixture.specs.Worked.{Toluene, AboveForm2, MinusNought}

pub toluene : Toluene
unfolding partial_of checked in_range round add mul div le of_bits
toluene = record { partial = of_bits binary64 0x40983bd72fbbd3d7; answered = refl; at_least = refl; at_most = refl }

pub above_form_2 : AboveForm2
unfolding partial_of checked in_range round add mul div le lt of_bits form_of ranged
above_form_2 = record { partial = of_bits binary64 0x41cdcd6500000001; answered = refl; above = refl; declined = refl }

pub minus_nought : MinusNought
unfolding partial_of checked in_range round add mul div le
minus_nought = refl
