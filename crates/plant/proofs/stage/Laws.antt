-- What a stage's bytes tell. Assumes nothing.
use mathlib.Core.Path.{◌≡◌}
use mathlib.Core.List.{List}
use Prim.Native.Nat.{ℕ, ◌+◌, ◌*◌, ◌≤◌}
use native.Mathlib.Numerals.{add-one}
use lib.ListN.{length, drop, set, drop_of_length-le}
use Rattle.encoding.specs.Bytes.{le}
use Rattle.encoding.specs.Each.{put_to}
use Rattle.plant.specs.Setup.{no_rates}
use Rattle.bodies.specs.Stage.{rates_at}
use Rattle.plant.specs.Stage.{pair_row}
use Rattle.plant.specs.declared.setup.Pair.{Pair}
use Rattle.plant.specs.declared.setup.Setup.{Setup}

-- nothing stands behind the last byte
pub no_row : (at : ℕ) (s : List ℕ) → length s ≤ at → no_rates ≡ rates_at (drop at s)
unfolding rates_at le
no_row at s h = rw (drop_of_length-le s h)

-- ---- the set-up with a stage more

-- the set-up with the first n pairs of a stage
abbrev pub paired : Setup → ℕ → List ℕ → ℕ → Setup
paired u stage body n =
    record {
      outline = u.outline;
      numbers = u.numbers;
      classes = u.classes;
      counted = u.counted;
      stages = u.stages;
      pairs = put_to (λ i. stage * 8 + i) (pair_row (drop 2 body)) u.pairs n;
    }

pub paired_more : (u : Setup) (stage : ℕ) (body : List ℕ) (i : ℕ) (pair : Pair) → pair ≡ pair_row (drop 2 body) i
    → set (paired u stage body i).pairs (stage * 8 + i) pair ≡ (paired u stage body (i + 1)).pairs
unfolding put_to
paired_more u stage body i pair p = rw (add-one i, p)
