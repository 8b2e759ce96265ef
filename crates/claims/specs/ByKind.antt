-- What entered and what was handled, by the numbers of the kinds (document 01, "Treatment and report"; document 02, (b)). The sums of the other claims go by what a post
-- moves; these go by its fields and the number of its kind, and are read beside the paper without the table of the kinds.
use Rattle.std.specs.List.{sum_by}
use Rattle.std.specs.Prelude.{ℕ, ◌*◌, ◌≡◌, cond, ◌||◌, List, eqb}
use Rattle.kinds.specs.Fields.{post_at}
use Rattle.kinds.specs.declared.fields.Post.{Post}
use Rattle.book.specs.Ledger.{brings}
use Rattle.claims.specs.Demand as demand
use Rattle.claims.specs.Standing.{Call, standing, counted_in}
use Rattle.claims.specs.Weighing as weighing

-- "1 opening, 2 bought", "3 issued", "4 formed", "kind 14, found"; the other kinds count neither as entered nor as handled
pub data Sort : Type 0 where
  stock : Sort
  issued : Sort
  formed : Sort
  found : Sort
  other : Sort

unfoldable pub sort_of : ℕ → Sort
sort_of kind = cond (eqb kind 1 || eqb kind 2) stock (cond (eqb kind 3) issued (cond (eqb kind 4) formed (cond (eqb kind 14) found other)))

-- ".. of the substance"
abbrev pub of_substance : ℕ → Post → ℕ → ℕ
of_substance s p n = cond (eqb p.substance s) n 0

-- "Entered is g times counted content for each opening and bought post, and the quantity of each formed post of the substance"; "The entering side of the sum gains
-- the found amounts", g times content as stated
abbrev pub enters_as : List ℕ → ℕ → Sort → Post → ℕ
enters_as counted s stock p = brings counted p.material p.quantity s
enters_as counted s issued p = 0
enters_as counted s formed p = of_substance s p p.quantity
enters_as counted s found p = of_substance s p (p.quantity * p.content)
enters_as counted s other p = 0

-- "Handled is g times counted content for each issued post, and the same formed quantities"; found "counts as handled"
abbrev pub handles_as : List ℕ → ℕ → Sort → Post → ℕ
handles_as counted s stock p = 0
handles_as counted s issued p = brings counted p.material p.quantity s
handles_as counted s formed p = of_substance s p p.quantity
handles_as counted s found p = of_substance s p (p.quantity * p.content)
handles_as counted s other p = 0

-- what was found, which "goes to off site in the same step"
abbrev pub found_as : ℕ → Sort → Post → ℕ
found_as s stock p = 0
found_as s issued p = 0
found_as s formed p = 0
found_as s found p = of_substance s p (p.quantity * p.content)
found_as s other p = 0

-- "All is added over the accepted posts of the list", each by its kind
abbrev pub sum_posts : (Sort → Post → ℕ) → List (List ℕ) → ℕ
sum_posts f posts = sum_by (λ s. f (sort_of (post_at s).kind) (post_at s)) posts

-- for every list of calls given in turn to a fresh book, and every substance
pub record ByKinds (calls : List Call) (s : ℕ) : Type 0 where
  pub entered : demand.entered (standing calls) s ≡ sum_posts (enters_as (counted_in (standing calls)) s) (standing calls).posts
  pub handled : demand.handled (standing calls) s ≡ sum_posts (handles_as (counted_in (standing calls)) s) (standing calls).posts
  pub found : weighing.found (standing calls) s ≡ sum_posts (found_as s) (standing calls).posts

abbrev pub SumsByKinds : Type 0
SumsByKinds = (calls : List Call) (s : ℕ) → ByKinds calls s
