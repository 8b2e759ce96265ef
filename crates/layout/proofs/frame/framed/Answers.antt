use mathlib.Core.Path.{◌∙◌}
use Rattle.std.proofs.Common.{arith}
use Rattle.layout.proofs.frame.Around.{framed_is}
use Rattle.layout.proofs.frame.framed.Goals as goal

pub returns : goal.returns
returns c =
    let a = c.args in
    c.write_sums.ensures ∙ framed_is a.block _ _ a.kind a.count a.number (omega arith) c.copy_from_slice.ensures.after (c.copy_from_slice-2.ensures.after ∙ c.to_le_bytes.ensures)
