-- F1 to F13 hold of the definitions, by one proof. Assumes nothing.
use mathlib.Core.Path.{refl}
use Rattle.amounts.specs.Content.{counted_of}
use Rattle.amounts.specs.Filed.{filed_of}
use Rattle.amounts.specs.Threshold.{due_of}
use Rattle.amounts.specs.Treatment.{split_of}
use Rattle.text.specs.Number.{digits_to, figure_text}
use Rattle.claims.specs.Figures.{Established}

pub established : Established
unfolding filed_of due_of counted_of split_of digits_to figure_text
established = refl
