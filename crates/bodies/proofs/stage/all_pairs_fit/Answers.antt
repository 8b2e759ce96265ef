use Rattle.std.proofs.Common.{rules}
use Rattle.bodies.specs.Stage.{pair_fits, side_row, rate_row}
use Rattle.bodies.proofs.Ranges.{all_told}
use Rattle.bodies.proofs.stage.all_pairs_fit.Goals as goal

pub returns : goal.returns
returns c =
    let a = c.args in
    all_told _ (λ i. pair_fits (side_row a.s.now i) (rate_row a.s.now i)) a.n (λ i t q h. (search rules, search rules)) _ c.from.ensures c.all.ensures.ran
