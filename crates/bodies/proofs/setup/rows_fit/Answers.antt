use Rattle.std.proofs.Common.{rules, ◌*◌, drop}
use Rattle.bodies.specs.Setup.{row_fits}
use Rattle.bodies.proofs.Ranges.{all_told}
use Rattle.bodies.proofs.setup.rows_fit.Goals as goal

pub returns : goal.returns
returns c =
    let a = c.args in
    all_told _ (λ i. row_fits a.k (drop (i * 32) a.s.now)) a.n (λ i t q h. (search rules, search rules)) _ c.from.ensures c.all.ensures.ran
