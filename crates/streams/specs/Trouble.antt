-- The line on standard error of a program that stops.
use Rattle.std.specs.Prelude.{ℕ, List, ◌++◌, codes}
use Rattle.streams.specs.declared.trouble.Trouble.{Trouble}
use Rattle.streams.specs.declared.trouble.Trouble.TheVariants.{Unread, Unwritten}

abbrev pub text_of : Trouble → List ℕ
text_of Unread = codes "standard input can't be read"
text_of Unwritten = codes "standard output can't be written"

-- the line, behind the program's name
abbrev pub line_of : List ℕ → Trouble → List ℕ
line_of program t = program ++ (codes ": " ++ text_of t ++ codes "\n")
