-- Kind 1: the set-up that the substances and the materials make (document 01, "Journal blocks"). The body is the block's bytes 8 to 507.
use Rattle.std.specs.Prelude.{ℕ, ◌%◌, ◌≤◌, ◌≡◌, false, List, length, get_or, replicate}
use Rattle.amounts.specs.Content.{counted_of}
use Rattle.amounts.specs.Decline.{Answer, checked, value_or}
use Rattle.amounts.specs.declared.treatment.Rate.{Rate}
use Rattle.encoding.specs.Each.{list_to}
use Rattle.layout.specs.Outline.{fresh_outline}
use Rattle.bodies.specs.Setup.{numbers_in, classes_in, contents_in, setup_checks, outline_of}
use Rattle.bodies.specs.declared.stage.Rates.{Rates}
use Rattle.plant.specs.declared.setup.Pair.{Pair}
use Rattle.plant.specs.declared.setup.Setup.{Setup}
use Rattle.plant.specs.declared.setup.Stage.{Stage}

-- each material's content of each substance, as it counts
abbrev pub counted_all : List ℕ → List ℕ → List ℕ
counted_all classes contents = list_to 96 (λ i. value_or 0 (counted_of (get_or classes (i % 8) 0) (get_or contents i 0)))

-- a stage that is not described yet, its rates and its pairs
abbrev pub no_rates : Rates
no_rates = let none : Rate = record { removal = 0; destruction = 0 } in record { gas = none; water = none }

abbrev pub no_pair : Pair
no_pair = record { to_water = false; rates = no_rates }

abbrev pub no_stage : Stage
no_stage = record { to_sewer = false; to_landfill = false }

-- before any block
abbrev pub fresh_setup : Setup
fresh_setup =
    record {
      outline = fresh_outline;
      numbers = replicate 8 0;
      classes = replicate 8 0;
      counted = replicate 96 0;
      stages = replicate 8 no_stage;
      pairs = replicate 64 no_pair;
    }

abbrev pub setup_of : ℕ → List ℕ → Setup
setup_of count body =
    record {
      outline = outline_of count body;
      numbers = numbers_in body;
      classes = classes_in body;
      counted = counted_all (classes_in body) (contents_in body);
      stages = replicate 8 no_stage;
      pairs = replicate 64 no_pair;
    }

-- kind 1 on a set-up: the body's set-up in place of none
unfoldable pub set_up_on : Setup → ℕ → List ℕ → Answer Setup
unfolding checked
set_up_on u count body = checked (setup_checks u.outline count body) (setup_of count body)

-- ---- what is true of every set-up of a book

-- "to 1,000,000"
abbrev pub IsRated : Rate → Type 0
IsRated r = (r.removal ≤ 1000000) × (r.destruction ≤ 1000000)

pub record Rated (r : Rates) : Type 0 where
  pub gas : IsRated r.gas
  pub water : IsRated r.water

pub record SoundSetup (u : Setup) : Type 0 where
  pub substances_few : u.outline.substances ≤ 8
  pub materials_few : u.outline.materials ≤ 12
  pub stages_few : u.outline.stages ≤ 8
  pub described_few : u.outline.described ≤ u.outline.stages
  -- a book has stages once it has substances
  pub stages_later : u.outline.substances ≡ 0 → u.outline.stages ≡ 0
  pub counted_small : (i : ℕ) → get_or u.counted i 0 ≤ 1000000
  pub rated : (pair : ℕ) → Rated (get_or u.pairs pair no_pair).rates
  pub pairs_long : length u.pairs ≡ 64
  pub stages_long : length u.stages ≡ 8
