use Rattle.std.proofs.Common.{ℕ, ◌/◌, ◌%◌, ◌^◌, ap, append_assoc, length, length-append, arith}
use Rattle.text.proofs.number.Laws.{decimal_small, decimal_short, figure_small, figure_whole}
use Rattle.text.proofs.number.push_figure.Goals as goal

pub push_decimal-requires : goal.push_decimal-requires
push_decimal-requires c =
    omega (arith, length-append {A = ℕ}, ap length c.push.ensures, ap length c.push_field.ensures.text, ap length (decimal_small (c.args.figure / 10 ^ 9) (omega arith)))

pub returns-then-figure-clause-text : goal.returns-then-figure-clause-text
returns-then-figure-clause-text c =
    rw (figure_small c.args.figure (omega arith), c.push_decimal.ensures.text, c.push.ensures, c.push_field.ensures.text) (simp append_assoc)

pub returns-then-figure-clause-short : goal.returns-then-figure-clause-short
returns-then-figure-clause-short c =
    let whole = ap length (decimal_small (c.args.figure / 10 ^ 9) (omega arith)) in
    let tenths = ap length (decimal_small (c.args.figure / 10 ^ 8 % 10) (omega arith)) in
    omega (arith, length-append {A = ℕ}, ap length c.push_decimal.ensures.text, ap length c.push.ensures, ap length c.push_field.ensures.text, whole, tenths)

pub returns-else-figure-clause-text : goal.returns-else-figure-clause-text
returns-else-figure-clause-text c = rw (figure_whole c.args.figure (omega arith)) c.push_field.ensures.text

pub returns-else-figure-clause-short : goal.returns-else-figure-clause-short
returns-else-figure-clause-short c =
    omega (arith, length-append {A = ℕ}, ap length c.push_field.ensures.text, decimal_short (c.args.figure / 10 ^ 9) (omega arith))
