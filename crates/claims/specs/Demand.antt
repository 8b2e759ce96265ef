-- Demand 3 (document 01, "Treatment and report"): one claim about the whole list of calls.
use Rattle.std.specs.Prelude.{ℕ, ◌+◌, ◌*◌, ◌≤◌, ◌<◌, ◌≡◌, true, List, length, Some, Ok}
use Rattle.amounts.specs.Filed.{step_of}
use Rattle.book.specs.Entry.{enters, handles}
use Rattle.book.specs.Site.{fresh_book}
use Rattle.report.specs.Fate.{six_of, weigh, map_headings}
use Rattle.report.specs.Report.{report_of}
use Rattle.report.specs.declared.fate.Headings.{Headings}
use Rattle.report.specs.declared.report.Report.{Report}
use Rattle.claims.specs.Standing.{Call, run, Standing, standing, substances_of, counted_in, moves_of, sum_over}

-- "Entered is g times counted content for each opening and bought post, and the quantity of each formed post of the substance." "The entering side of
-- the sum gains the found amounts" (document 02, (b)).
abbrev pub entered : Standing → ℕ → ℕ
entered w s = sum_over (enters (counted_in w) s) (moves_of w)

-- "Handled is g times counted content for each issued post, and the same formed quantities", and the found amounts, which count as handled.
abbrev pub handled : Standing → ℕ → ℕ
handled w s = sum_over (handles (counted_in w) s) (moves_of w)

-- twice one number is at most twice another and the steps
abbrev pub WithinHalf : ℕ → ℕ → ℕ → Type 0
WithinHalf steps a b = (2 * a ≤ 2 * b + steps) × (2 * b ≤ 2 * a + steps)

-- a report against what stands
pub record Balanced (w : Standing) (s : ℕ) (r : Report) : Type 0 where
  -- "entered = store + held + shipped + consumed + destroyed + air + public water + soil + landfill + sewer + off site, as the report returns them"
  pub weighed_in : entered w s ≡ r.store + weigh r.fate
  -- "and handled = the same without store"
  pub weighed_out : handled w s ≡ weigh r.fate
  -- which is what the report returns as handled
  pub shown : r.handled ≡ handled w s
  -- the filed figures and the exact amounts: "each heading's step is the one that its exact amount takes"
  pub figures : r.due ≡ true → (h : Headings) × (r.filed ≡ Some h) × WithinHalf (six_of (map_headings step_of r.fate.headings)) (six_of h) (six_of r.fate.headings)
  -- "the count of posts accepted"
  pub counted : r.posts ≡ length w.posts

-- for every list of calls given in turn to a fresh book, and every substance that the book then has
abbrev pub Demand3 : Type 0
Demand3 =
    (calls : List Call) (s : ℕ) → s < substances_of (standing calls)
    → (r : Report) × (report_of (run fresh_book calls) s ≡ Ok r) × Balanced (standing calls) s r
