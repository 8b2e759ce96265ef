use Rattle.std.proofs.Common.{arith}
use Rattle.amounts.specs.Decline.{checked}
use Rattle.forms.specs.Form.{form_of, ranged}
use Rattle.forms.proofs.Numerals.{ends}
use Rattle.forms.proofs.form.read_form.Goals as goal

-- With half of its limits (`rt check --margin`) the check doesn't find it.
pub returns-in_err-x-in-3 : goal.returns-in_err-x-in-3
unfolding form_of ranged checked
returns-in_err-x-in-3 c = rw c.in-3.is (grind (arith, ends))
