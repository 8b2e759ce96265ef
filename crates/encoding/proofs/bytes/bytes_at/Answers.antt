use mathlib.Core.Path.{ap, ◌∙◌}
use Rattle.std.proofs.Common.{rules, get_or, drop}
use Rattle.encoding.specs.Bytes.{first_bytes}
use Rattle.encoding.proofs.Each.{list_made}
use Rattle.encoding.proofs.bytes.Laws.{chunk_is}
use Rattle.encoding.proofs.bytes.bytes_at.Goals as goal

pub returns-in-Some : goal.returns-in-Some
returns-in-Some g c = chunk_is _ _ _ c.in-Some.ensures.cases ∙ ap (first_bytes g.row.N) c.tail-rest.ensures

pub returns-in-None : goal.returns-in-None
returns-in-None g c = list_made _ _ (λ i. get_or (drop c.args.at c.args.s.now) i 0) (λ i y q k. search rules) _ _ c.from_fn.ensures.items
