use Rattle.std.proofs.Common.{arith}
use Rattle.report.proofs.fate.Laws.{fate_more, fates_fit}
use Rattle.report.proofs.fate.fate_to.Goals as goal

pub plus-fate-requires : goal.plus-fate-requires
plus-fate-requires c =
    rw (c.loop-stage.invariant, c.stage_fate.ensures.value)
    (fates_fit c.args.b.now c.args.s c.loop-stage.stage c.stage_fate.ensures.sound c.requires (omega arith))

pub loop-stage-preserved : goal.loop-stage-preserved
loop-stage-preserved c = rw (c.plus-fate.ensures, c.loop-stage.invariant, c.stage_fate.ensures.value) (fate_more _ _ _ _)
