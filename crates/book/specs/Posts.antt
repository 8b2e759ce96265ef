-- Posts on a year, one by one and as a block of them (document 01, "Journal blocks" and "Why a call is declined, in checking order", 4 to 11).
use Rattle.std.specs.Prelude.{ℕ, zero, suc, List, [], ◌∷◌, Ok}
use Rattle.amounts.specs.Decline.{Answer, check, checked, on_taken}
use Rattle.amounts.specs.declared.decline.Decline.TheVariants.{Short}
use Rattle.layout.specs.Posts.{post_in, own_checks}
use Rattle.plant.specs.declared.setup.Setup.{Setup}
use Rattle.post.specs.Admission.{admitted}
use Rattle.post.specs.declared.moves.Move.{Move}
use Rattle.book.specs.Entry.{is_there, year_after}
use Rattle.book.specs.Site.{Book, book_with}
use Rattle.book.specs.declared.site.Year.{Year}

-- 11, and what a move that was admitted makes of a year
unfoldable pub entered : Setup → Year → Move → Answer Year
unfolding checked
entered u y m = checked (check (is_there y.store y.sums m) Short ∷ []) (year_after u y m)

-- a post: 4 to 10, and then 11
unfoldable pub post_on : Setup → Year → List ℕ → Answer Year
unfolding admitted entered
post_on u y s = on_taken (admitted u.outline u.numbers y.closed y.posts s) (entered u y)

-- "its posts are tried in turn, each from 5 on the book the earlier ones left": the first n of them, and the first decline is theirs. 4 holds of each, since
-- posts leave the set-up as it is.
unfoldable pub taken_to : Setup → Year → (ℕ → List ℕ) → ℕ → Answer Year
unfolding post_on
taken_to u y posts zero = Ok y
taken_to u y posts (suc n) = on_taken (taken_to u y posts n) (λ z. post_on u z (posts n))

-- "A block is taken whole or not at all."
unfoldable pub posts_on : Setup → Year → ℕ → List ℕ → Answer Year
unfolding checked taken_to
posts_on u y count body = on_taken (checked (own_checks u.outline y.closed count body) count) (taken_to u y (post_in body))

-- a single post on a book: "A single post is tried from decline 4 on and doesn't alter the block number."
unfoldable pub single_on : Book → List ℕ → Answer Book
unfolding post_on
single_on b s = on_taken (post_on b.setup b.year s) (λ y. Ok (book_with b.setup y b.blocks))
