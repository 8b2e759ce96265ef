-- The line of a substance, and of a block that was refused (document 01, "`filing`" and "Treatment and report"), as bytes of ASCII.
use Rattle.std.specs.Prelude.{ℕ, Bool, true, false, List, [], ◌∷◌, ◌++◌, Option, Some, None}
use Rattle.report.specs.declared.fate.Headings.{Headings}
use Rattle.report.specs.declared.report.Report.{Report}
use Rattle.text.specs.Number.{space, decimal, figure_text}

-- "Each line ends with a line feed"
abbrev pub line_feed : ℕ
line_feed = 10

abbrev pub six_texts : List ℕ → List ℕ → List ℕ → List ℕ → List ℕ → List ℕ → List ℕ
six_texts a b c d e f =
    (space ∷ a) ++ ((space ∷ b) ++ ((space ∷ c) ++ ((space ∷ d) ++ ((space ∷ e) ++ (space ∷ f)))))

-- "six figures or `-` each"
abbrev pub filing_text : Option Headings → List ℕ
filing_text (Some h) =
    six_texts (figure_text h.air) (figure_text h.water) (figure_text h.soil) (figure_text h.land) (figure_text h.sewer) (figure_text h.offsite)
filing_text None = six_texts (45 ∷ []) (45 ∷ []) (45 ∷ []) (45 ∷ []) (45 ∷ []) (45 ∷ [])

abbrev pub yes_no : Bool → ℕ
yes_no true = 89
yes_no false = 78

-- "per substance in the book's order: number, handled in micrograms, Y or N for due, six figures or `-` each"
unfoldable pub line_text : Report → List ℕ
line_text r =
    decimal r.number ++ ((space ∷ decimal r.handled) ++ ((space ∷ yes_no r.due ∷ []) ++ (filing_text r.filed ++ (line_feed ∷ []))))

-- "`refused`, the block's place from 0 and the number"
unfoldable pub refused_text : ℕ → ℕ → List ℕ
refused_text place number =
    (114 ∷ 101 ∷ 102 ∷ 117 ∷ 115 ∷ 101 ∷ 100 ∷ []) ++ ((space ∷ decimal place) ++ ((space ∷ decimal number) ++ (line_feed ∷ [])))
