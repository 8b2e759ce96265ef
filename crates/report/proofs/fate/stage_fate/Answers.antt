use Rattle.report.proofs.fate.Laws.{rates_fit, stage_fits}
use Rattle.report.proofs.fate.stage_fate.Goals as goal

pub parts_of-gas-requires : goal.parts_of-gas-requires
parts_of-gas-requires c = rw c.setup-setup.ensures.value (rates_fit c.args.b.now c.args.s c.args.stage c.setup-setup.ensures.sound).gas

pub parts_of-water-requires : goal.parts_of-water-requires
parts_of-water-requires c = rw c.setup-setup.ensures.value (rates_fit c.args.b.now c.args.s c.args.stage c.setup-setup.ensures.sound).water

pub fate_from-requires : goal.fate_from-requires
fate_from-requires c =
    rw (c.parts_of-gas.ensures, c.parts_of-water.ensures, c.cells_of-cells.ensures, c.year.ensures.value, c.setup-setup.ensures.value)
    (stage_fits c.args.b.now c.args.s c.args.stage c.year.ensures.sound c.requires.1 c.requires.0)
