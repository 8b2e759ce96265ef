-- A journal block on a book (document 01, "Journal blocks" and "Why a call is declined, in checking order").
use Rattle.std.specs.Prelude.{ℕ, ◌+◌, List, Ok}
use Rattle.amounts.specs.Decline.{Answer, on_taken}
use Rattle.layout.specs.Frame.{count_of, body_of, held_at}
use Rattle.layout.specs.declared.holds.Holds.{Holds}
use Rattle.layout.specs.declared.holds.Holds.TheVariants.{SetUp, Posts}
use Rattle.plant.specs.Part.{setup_by}
use Rattle.plant.specs.declared.setup.Setup.{Setup}
use Rattle.book.specs.Posts.{posts_on}
use Rattle.book.specs.Site.{Book, book_with}
use Rattle.book.specs.declared.site.Year.{Year}

-- a block more on a book: with another set-up, or with another year
abbrev pub on_setup : Book → Answer Setup → Answer Book
on_setup b a = on_taken a (λ u. Ok (book_with u b.year (b.blocks + 1)))

abbrev pub on_year : Book → Answer Year → Answer Book
on_year b a = on_taken a (λ y. Ok (book_with b.setup y (b.blocks + 1)))

-- 4 on, by what the block holds
abbrev pub by_holds : Book → List ℕ → Holds → Answer Book
by_holds b s (SetUp part) = on_setup b (setup_by b.setup part (count_of s) (body_of s))
by_holds b s Posts = on_year b (posts_on b.setup b.year (count_of s) (body_of s))

-- 1 to 3, and then by what the block holds
unfoldable pub block_on : Book → List ℕ → Answer Book
unfolding held_at
block_on b s = on_taken (held_at b.blocks s) (by_holds b s)
