use Rattle.std.proofs.Common.{rules, ltb}
use Rattle.bodies.specs.Setup.{before, number_at}
use Rattle.bodies.proofs.Ranges.{all_told}
use Rattle.bodies.proofs.setup.is_rising.Goals as goal

pub returns : goal.returns
returns c =
    let a = c.args in
    all_told _ (λ i. ltb (before a.s.now i) (number_at a.s.now i)) a.n (λ i t q h. (search rules, search rules)) _ c.from.ensures c.all.ensures.ran
