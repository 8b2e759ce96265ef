use Rattle.std.proofs.Common.{rules, ◌+◌}
use Rattle.encoding.proofs.bytes.Laws.{one}
use Rattle.plant.proofs.setup.Laws.{les_made}
use Rattle.plant.proofs.setup.classes_in.Goals as goal

pub returns : goal.returns
returns c = les_made 1 18 c.args.body.now _ (λ i y q h. (search rules, search (rules, one (18 + i) c.args.body.now))) _ _ c.from_fn.ensures.items
