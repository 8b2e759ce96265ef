use mathlib.Core.Path.{◌∙◌}
use Rattle.encoding.proofs.bytes.Laws.{told}
use Rattle.encoding.proofs.bytes.le32.Goals as goal

pub returns : goal.returns
returns c = c.from_le_bytes.ensures ∙ told 3 _ _ c.bytes_at.ensures
