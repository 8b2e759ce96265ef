-- The return (document 01, "`filing`"), as bytes of ASCII.
use Rattle.std.specs.Prelude.{ℕ, zero, suc, List, [], ◌∷◌, ◌++◌}
use Rattle.book.specs.Site.{Book}
use Rattle.report.specs.Report.{report_at}
use Rattle.text.specs.Line.{line_text}

-- "substance handled due air water soil land sewer offsite"
abbrev pub title : List ℕ
title =
    115 ∷ 117 ∷ 98 ∷ 115 ∷ 116 ∷ 97 ∷ 110 ∷ 99 ∷ 101 ∷ 32
    ∷ 104 ∷ 97 ∷ 110 ∷ 100 ∷ 108 ∷ 101 ∷ 100 ∷ 32
    ∷ 100 ∷ 117 ∷ 101 ∷ 32
    ∷ 97 ∷ 105 ∷ 114 ∷ 32
    ∷ 119 ∷ 97 ∷ 116 ∷ 101 ∷ 114 ∷ 32
    ∷ 115 ∷ 111 ∷ 105 ∷ 108 ∷ 32
    ∷ 108 ∷ 97 ∷ 110 ∷ 100 ∷ 32
    ∷ 115 ∷ 101 ∷ 119 ∷ 101 ∷ 114 ∷ 32
    ∷ 111 ∷ 102 ∷ 102 ∷ 115 ∷ 105 ∷ 116 ∷ 101 ∷ 10
    ∷ []

-- "per substance in the book's order": the lines of the first n
unfoldable pub lines_to : Book → ℕ → List ℕ
lines_to b zero = []
lines_to b (suc n) = lines_to b n ++ line_text (report_at b n)

abbrev pub return_text : Book → List ℕ
return_text b = title ++ lines_to b b.setup.outline.substances
