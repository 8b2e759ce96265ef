use Rattle.std.proofs.Common.{rules, arith, ◌*◌, ◌^◌, drop}
use Rattle.encoding.specs.Bytes.{le}
use Rattle.bodies.proofs.Ranges.{sum_fits, sum_told}
use Rattle.bodies.proofs.setup.Laws.{row_small}
use Rattle.bodies.proofs.setup.row_sum.Goals as goal

pub sum-requires-clause-fits : goal.sum-requires-clause-fits
sum-requires-clause-fits c =
    let s = c.args.s.now in
    let small = row_small s (λ i. omega (arith, c.type_inv.s i)) in
    sum_fits _ (λ i. le 4 (drop (i * 4) s)) 8 (λ i y q h. (search rules, search rules)) c.map.ensures.source c.map.ensures.closure (2 ^ 64) small

pub returns : goal.returns
returns c =
    let s = c.args.s.now in
    sum_told _ (λ i. le 4 (drop (i * 4) s)) 8 (λ i y q h. (search rules, search rules)) c.map.ensures.source c.map.ensures.closure _ c.sum.ensures.ran
