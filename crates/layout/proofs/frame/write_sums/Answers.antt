use mathlib.Core.Path.{◌∙◌}
use Rattle.std.proofs.Common.{arith}
use Rattle.layout.proofs.frame.Around.{summed_is}
use Rattle.layout.proofs.frame.write_sums.Goals as goal

pub returns : goal.returns
returns c =
    summed_is c.args.block.now _ (omega arith) _ c.check_sums-sums.result c.check_sums-sums.ensures (c.copy_from_slice.ensures.after ∙ c.to_le_bytes.ensures)
    (c.copy_from_slice-2.ensures.after ∙ c.to_le_bytes-2.ensures)
