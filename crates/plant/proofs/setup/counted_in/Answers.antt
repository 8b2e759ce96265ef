use Rattle.std.proofs.Common.{rules, ◌+◌, ◌*◌, ◌%◌, ◌∙◌, get_or, drop}
use Rattle.amounts.specs.Content.{counted_of}
use Rattle.amounts.specs.Decline.{value_or}
use Rattle.encoding.specs.Bytes.{le}
use Rattle.encoding.proofs.Each.{list_made}
use Rattle.plant.proofs.setup.Laws.{counted_told}
use Rattle.plant.proofs.setup.counted_in.Goals as goal

pub returns : goal.returns
returns c =
    let a = c.args in
    list_made _ _ (λ i. value_or 0 (counted_of (get_or a.classes.now (i % 8) 0) (le 4 (drop (26 + i * 4) a.body.now)))) (λ i y q h. (search rules, search rules)) _ _ c.from_fn.ensures.items
    ∙ counted_told a.classes.now a.body.now
