-- The report of a substance (document 01, "Treatment and report").
use Rattle.std.specs.Prelude.{ℕ, Bool, true, false, [], ◌∷◌, ltb, get_or, Option, Some, None}
use Rattle.amounts.specs.Decline.{Answer, check, checked, value_or}
use Rattle.amounts.specs.declared.decline.Decline.TheVariants.{NoSubstance}
use Rattle.amounts.specs.Filed.{filed_of}
use Rattle.amounts.specs.Threshold.{due_of}
use Rattle.plant.specs.declared.setup.Setup.{Setup}
use Rattle.book.specs.Site.{Book, stored}
use Rattle.book.specs.declared.site.Year.{Year}
use Rattle.report.specs.Fate.{fate_to, map_headings}
use Rattle.report.specs.declared.fate.Headings.{Headings}
use Rattle.report.specs.declared.report.Report.{Report}

-- "A filed figure is the heading's amount rounded half up to a step"; "A substance not due has no filed figures."
abbrev pub filing_of : Bool → Headings → Option Headings
filing_of true h = Some (map_headings filed_of h)
filing_of false h = None

abbrev pub due_in : Setup → Year → ℕ → Bool
due_in u y s = value_or false (due_of (get_or u.classes s 0) (get_or y.handled s 0))

-- by the set-up and the year: how many blocks the book has taken is not in it
abbrev pub report_in : Setup → Year → ℕ → Report
report_in u y s =
    let fate = fate_to y.sums u s 8 in
    record {
      posts = y.posts;
      number = get_or u.numbers s 0;
      handled = get_or y.handled s 0;
      due = due_in u y s;
      store = stored u y s;
      fate = fate;
      filed = filing_of (due_in u y s) fate.headings;
    }

abbrev pub report_at : Book → ℕ → Report
report_at b s = report_in b.setup b.year s

-- "declined by 12 alone, never for a substance that the book has"
unfoldable pub report_of : Book → ℕ → Answer Report
unfolding checked fate_to
report_of b s = checked (check (ltb s b.setup.outline.substances) NoSubstance ∷ []) (report_at b s)
