use Rattle.std.proofs.Common.{arith}
use Rattle.std.proofs.lemmas.Grind.{common_steps}
use Rattle.journal.proofs.reading.Left.{advances}
use Rattle.journal.proofs.reading.Reading.feed.Goals as goal

-- the bytes of a part are bytes
pub returns-clause-advances : goal.returns-clause-advances
returns-clause-advances c = advances _ _ c.args.part.now (λ i. (c.type_inv.part i).fits) (grind (arith, common_steps))
