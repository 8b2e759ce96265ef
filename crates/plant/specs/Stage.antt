-- Kind 2 on a set-up: its next stage described (document 01, "Journal blocks"). The body is the block's bytes 8 to 507.
use Rattle.std.specs.Prelude.{ℕ, ◌+◌, ◌*◌, Bool, false, List, drop, set}
use Rattle.amounts.specs.Decline.{Answer, value_or, checked}
use Rattle.encoding.specs.Each.{put_to}
use Rattle.layout.specs.Outline.{with_described}
use Rattle.bodies.specs.Stage.{side_row, sewered, landfilled, rate_row, stage_checks}
use Rattle.bodies.specs.declared.stage.Rates.{Rates}
use Rattle.plant.specs.declared.setup.Pair.{Pair}
use Rattle.plant.specs.declared.setup.Setup.{Setup}
use Rattle.plant.specs.declared.setup.Stage.{Stage}

-- a pair by its side and its rates
abbrev pub pair_of : Answer Bool → Rates → Pair
pair_of side r = record { to_water = value_or false side; rates = r }

abbrev pub pair_row : List ℕ → ℕ → Pair
pair_row s i = pair_of (side_row s i) (rate_row s i)

abbrev pub stage_of : List ℕ → Stage
stage_of body = record { to_sewer = sewered body; to_landfill = landfilled body }

-- "8: 1 public water, 2 sewer. 9: residues 1 off site, 2 landfill. From 10, 17 bytes per substance": where a stage's water and residues go, and its pairs
abbrev pub with_stage : Setup → ℕ → List ℕ → Setup
with_stage u stage body =
    record {
      outline = with_described u.outline stage;
      numbers = u.numbers;
      classes = u.classes;
      counted = u.counted;
      stages = set u.stages stage (stage_of body);
      pairs = put_to (λ i. stage * 8 + i) (pair_row (drop 2 body)) u.pairs u.outline.substances;
    }

unfoldable pub described_on : Setup → ℕ → List ℕ → Answer Setup
unfolding checked
described_on u stage body = checked (stage_checks u.outline stage body) (with_stage u stage body)
