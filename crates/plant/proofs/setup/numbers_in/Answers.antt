use Rattle.std.proofs.Common.{rules}
use Rattle.plant.proofs.setup.Laws.{les_made}
use Rattle.plant.proofs.setup.numbers_in.Goals as goal

pub returns : goal.returns
returns c = les_made 2 2 c.args.body.now _ (λ i y q h. (search rules, search rules)) _ _ c.from_fn.ensures.items
