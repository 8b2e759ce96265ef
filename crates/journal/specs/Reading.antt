-- Reading a journal, and what `filing` prints (document 01, "`filing`").
use Rattle.std.specs.Prelude.{ℕ, suc, ◌-◌, ◌<◌, ◌≡◌, Bool, false, List, Option, Some, None, Result, Ok, Err}
use Rattle.std.specs.Option.{is_some}
use Rattle.amounts.specs.Decline.{Answer, number}
use Rattle.amounts.specs.declared.decline.Decline.{Decline}
use Rattle.book.specs.Block.{block_on}
use Rattle.book.specs.Site.{Book, fresh_book}
use Rattle.book.specs.Blocks.{parts_in, read_all}
use Rattle.book.specs.declared.blocks.Refused.{Refused}
use Rattle.text.specs.Line.{refused_text}
use Rattle.text.specs.Print.{return_text}
use Rattle.journal.specs.declared.reading.Reading.{Reading}

-- ---- what a journal's bytes print

-- "At the first decline it stops and prints only one line"
abbrev pub outcome_text : Result Book Refused → List ℕ
outcome_text (Ok b) = return_text b
outcome_text (Err r) = refused_text r.place (number r.decline)

-- what `filing` prints of a journal
abbrev pub printed_of : List ℕ → List ℕ
printed_of s = outcome_text (read_all fresh_book 0 (parts_in s))

-- ---- the same, a part at a time

abbrev pub started : Reading
started = record { book = fresh_book; stopped = None }

abbrev pub after_block : Book → Answer Book → Reading
after_block b (Ok c) = record { book = c; stopped = None }
after_block b (Err n) = record { book = b; stopped = Some n }

-- a part goes to the book until one is declined
abbrev pub fed_while : Option Decline → Book → List ℕ → Reading
fed_while None b part = after_block b (block_on b part)
fed_while (Some d) b part = record { book = b; stopped = Some d }

abbrev pub fed : Reading → List ℕ → Reading
fed r part = fed_while r.stopped r.book part

-- "At the first decline it stops"
abbrev pub has_stopped : Reading → Bool
has_stopped r = is_some r.stopped

-- what there is to print after a part: the place of the block that was declined is the number of those before it
abbrev pub text_while : Option Decline → Book → List ℕ
text_while None b = return_text b
text_while (Some d) b = refused_text b.blocks (number d)

abbrev pub text_of : Reading → List ℕ
text_of r = text_while r.stopped r.book

-- how many parts a reading may still take: one for each number of 16 bits that no block has had, and the one that is declined
abbrev pub left_while : Option Decline → Book → ℕ
left_while None b = suc (65536 - b.blocks)
left_while (Some d) b = 0

abbrev pub parts_left : Reading → ℕ
parts_left r = left_while r.stopped r.book

-- a part that is fed leaves fewer
abbrev pub Advances : Reading → Reading → Type 0
Advances r x = has_stopped r ≡ false → parts_left x < parts_left r
