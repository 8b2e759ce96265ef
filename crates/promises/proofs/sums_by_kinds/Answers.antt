use Rattle.claims.proofs.ByKind.{sums_by_kinds}
use Rattle.promises.proofs.sums_by_kinds.Goals as goal

pub returns : goal.returns
returns c = sums_by_kinds
