-- A part of the set-up more, by what its block holds (document 01, "Journal blocks").
use Rattle.std.specs.Prelude.{ℕ, List}
use Rattle.amounts.specs.Decline.{Answer}
use Rattle.layout.specs.declared.holds.SetupPart.{SetupPart}
use Rattle.layout.specs.declared.holds.SetupPart.TheVariants.{Materials, Stage}
use Rattle.plant.specs.Setup.{set_up_on}
use Rattle.plant.specs.Stage.{described_on}
use Rattle.plant.specs.declared.setup.Setup.{Setup}

-- 4 on, of a part of the set-up: the substances and materials, or a stage
abbrev pub setup_by : Setup → SetupPart → ℕ → List ℕ → Answer Setup
setup_by u Materials count body = set_up_on u count body
setup_by u Stage count body = described_on u count body
