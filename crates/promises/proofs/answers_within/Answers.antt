use Rattle.stock.proofs.sheet.Laws.{answers_within}
use Rattle.promises.proofs.answers_within.Goals as goal

pub returns : goal.returns
returns c = answers_within
