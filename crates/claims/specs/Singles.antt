-- A block accepted is exactly its posts (document 01, "Journal blocks": "A block is taken whole or not at all").
use Rattle.std.specs.Prelude.{ℕ, ◌+◌, ◌≡◌, List, [], ◌∷◌, Ok}
use Rattle.amounts.specs.Decline.{Answer, checked, on_taken}
use Rattle.encoding.specs.Each.{list_to}
use Rattle.layout.specs.Frame.{block_kind, count_of, body_of, frame_checks}
use Rattle.layout.specs.Holds.{holds_of}
use Rattle.layout.specs.Posts.{post_in, own_checks}
use Rattle.layout.specs.declared.holds.Holds.TheVariants.{Posts}
use Rattle.book.specs.Block.{block_on}
use Rattle.book.specs.Site.{Book, book_with}
use Rattle.claims.specs.Standing.{Call, post, answer_to}

-- the book after calls of which each is taken, or the first decline
unfoldable pub all_taken : Book → List Call → Answer Book
all_taken b [] = Ok b
all_taken b (call ∷ calls) = on_taken (answer_to b call) (λ c. all_taken c calls)

-- the posts of a block as calls of their own
abbrev pub singles : List ℕ → List Call
singles s = list_to (count_of s) (λ i. post (post_in (body_of s) i))

-- A block of posts answers as its own bytes do, 1 to 3 and then 4 to 6, and then as its posts do, given alone in turn; and the book after it is theirs, with one
-- block more.
abbrev pub BlockIsItsPosts : Type 0
BlockIsItsPosts =
    (b : Book) (s : List ℕ) → holds_of (block_kind s) ≡ Ok Posts
    → block_on b s
    ≡ on_taken (checked (frame_checks b.blocks s) s) (λ _.
    on_taken (checked (own_checks b.setup.outline b.year.closed (count_of s) (body_of s)) s) (λ _.
    on_taken (all_taken b (singles s)) (λ c. Ok (book_with c.setup c.year (b.blocks + 1)))))
