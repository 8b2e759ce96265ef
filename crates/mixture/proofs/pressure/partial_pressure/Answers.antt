use Rattle.std.proofs.Common.{rules, sym, ◌∙◌}
use Rattle.std.proofs.lemmas.Result.{err_from_is_err_and}
use Rattle.forms.specs.Binary64.{value_of}
use Rattle.mixture.proofs.Numerals.{ends}
use Rattle.mixture.proofs.pressure.Laws.{part_declined, answered}
use Rattle.mixture.proofs.pressure.Bound.{pressure_bounded}
use Rattle.mixture.specs.Pressure.{floats_of}
use Rattle.mixture.proofs.pressure.partial_pressure.Goals as goal

pub returns-in_err-own-clause-value : goal.returns-in_err-own-clause-value
returns-in_err-own-clause-value c =
    let a = c.args in
    let p = err_from_is_err_and c.from_residual-in_err-own.result c.from_residual-in_err-own.ensures.1 in
    rw (p.1, p.2) (part_declined a.contents.now a.weights.now a.named (search rules) (search rules) _ (sym c.quotient.ensures ∙ c.in_err-own.was) a.named (value_of a.pressure))

pub returns-clause-value : goal.returns-clause-value
returns-clause-value c =
    let a = c.args in
    answered a.contents.now a.weights.now a.named _ _ _ _ (search rules) (search rules) (search rules) (search (rules, ends))
    (sym c.quotient.ensures ∙ c.in_ok-own.was) (sym c.sum_of.ensures ∙ c.in_ok-sum.was)

pub returns-clause-bounded : goal.returns-clause-bounded
returns-clause-bounded c x e =
    let a = c.args in
    pressure_bounded (floats_of a.contents.now) (floats_of a.weights.now) a.named (value_of a.pressure) x (sym (returns-clause-value c) ∙ e)
