use Rattle.std.proofs.Common.{rules, sym, ◌∙◌}
use Rattle.forms.proofs.Numerals.{nought}
use Rattle.mixture.proofs.pressure.Laws.{added_none}
use Rattle.mixture.proofs.pressure.sum_of.Goals as goal

pub returns : goal.returns
returns c = rw (c.unwrap_or.ensures, nought) (sym (added_none c.loop-place.sum c.args.contents.now c.args.weights.now c.loop-place.place (search rules)) ∙ c.loop-place.invariant)
