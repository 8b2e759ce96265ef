-- What a block holds, by its kind (document 01, "Journal blocks"): one row for each kind.
use Rattle.std.specs.Prelude.{ℕ, cond, List, [], ◌∷◌, eqb, Ok, Err}
use Rattle.amounts.specs.Decline.{Answer}
use Rattle.amounts.specs.declared.decline.Decline.TheVariants.{NotNext}
use Rattle.layout.specs.declared.holds.Holds.{Holds}
use Rattle.layout.specs.declared.holds.Holds.TheVariants.{SetUp, Posts}
use Rattle.layout.specs.declared.holds.SetupPart.TheVariants.{Materials, Stage}

pub record Row : Type 0 where
  pub kind : ℕ
  pub holds : Holds

abbrev row : ℕ → Holds → Row
row kind holds = record { kind = kind; holds = holds }

-- "Kind 1, first, once. Count: substances", "Kind 2, once per stage in order. Count: the stage", "Kind 3, then, any number. Count: posts"
unfoldable pub rows : List Row
rows = row 1 (SetUp Materials) ∷ row 2 (SetUp Stage) ∷ row 3 Posts ∷ []

-- what the row of a kind says; "the kind isn't 1–3": a kind that has no row is a 3
unfoldable pub find : ℕ → List Row → Answer Holds
find kind [] = Err NotNext
find kind (r ∷ rs) = cond (eqb r.kind kind) (Ok r.holds) (find kind rs)

unfoldable pub holds_of : ℕ → Answer Holds
unfolding find rows
holds_of kind = find kind rows
