-- A list of calls, and what stands after it (document 01, "Treatment and report"): all that is summed is read from the bytes of the accepted calls.
use Rattle.std.specs.List.{sum_by}
use Rattle.std.specs.Prelude.{ℕ, Bool, true, false, List, [], ◌∷◌, ◌++◌, map, Ok, Err}
use Rattle.amounts.specs.Decline.{Answer, is_taken, value_or}
use Rattle.encoding.specs.Each.{list_to}
use Rattle.layout.specs.Frame.{block_kind, count_of, body_of}
use Rattle.layout.specs.Holds.{holds_of}
use Rattle.layout.specs.Posts.{post_in}
use Rattle.bodies.specs.Setup.{numbers_in, classes_in, contents_in}
use Rattle.plant.specs.Setup.{counted_all}
use Rattle.layout.specs.declared.holds.Holds.{Holds}
use Rattle.layout.specs.declared.holds.Holds.TheVariants.{SetUp, Posts}
use Rattle.layout.specs.declared.holds.SetupPart.TheVariants.{Materials, Stage}
use Rattle.post.specs.Moves.{said}
use Rattle.post.specs.declared.moves.Move.{Move}
use Rattle.book.specs.Block.{block_on}
use Rattle.book.specs.Posts.{single_on}
use Rattle.book.specs.Site.{Book, fresh_book}

-- ---- the list

-- "Each call gives one post or one block, of any length and bytes."
pub data Call : Type 0 where
  post : List ℕ → Call
  block : List ℕ → Call

abbrev pub answer_to : Book → Call → Answer Book
answer_to b (post s) = single_on b s
answer_to b (block s) = block_on b s

-- "Each later call gets the book that the call before it returned, also after a decline"
abbrev pub after : Book → Call → Book
after b call = value_or b (answer_to b call)

unfoldable pub run : Book → List Call → Book
run b [] = b
run b (call ∷ calls) = run (after b call) calls

-- the calls of the list that aren't declined
abbrev pub keep : Bool → Call → List Call → List Call
keep true call calls = call ∷ calls
keep false call calls = calls

unfoldable pub accepted : Book → List Call → List Call
accepted b [] = []
accepted b (call ∷ calls) = keep (is_taken (answer_to b call)) call (accepted (after b call) calls)

-- ---- what stands

-- "that kind 1 block", and no bytes before it; the kind 2 blocks in turn; and the posts in turn
pub record Standing : Type 0 where
  pub first : List ℕ
  pub stages : List (List ℕ)
  pub posts : List (List ℕ)

abbrev pub nothing : Standing
nothing = record { first = []; stages = []; posts = [] }

abbrev pub with_posts : Standing → List (List ℕ) → Standing
with_posts w ps = record { first = w.first; stages = w.stages; posts = w.posts ++ ps }

-- a block more, by what it holds; one of no kind is never accepted, and changes nothing
abbrev pub with_block : Standing → List ℕ → Answer Holds → Standing
with_block w s (Ok (SetUp Materials)) = record { first = s; stages = w.stages; posts = w.posts }
with_block w s (Ok (SetUp Stage)) = record { first = w.first; stages = w.stages ++ (s ∷ []); posts = w.posts }
with_block w s (Ok Posts) = with_posts w (list_to (count_of s) (post_in (body_of s)))
with_block w s (Err n) = w

-- "A post is accepted if its own call, or that of the block of posts holding it, isn't declined."
abbrev pub stand : Standing → Call → Standing
stand w (post s) = with_posts w (s ∷ [])
stand w (block s) = with_block w s (holds_of (block_kind s))

-- after accepted calls
unfoldable pub stood : Standing → List Call → Standing
stood w [] = w
stood w (call ∷ calls) = stood (stand w call) calls

-- after the accepted calls of a list given in turn to a fresh book
abbrev pub standing : List Call → Standing
standing calls = stood nothing (accepted fresh_book calls)

-- ---- what it says

-- "The book has the substances of the accepted kind 1 block, and none before it"
abbrev pub substances_of : Standing → ℕ
substances_of w = count_of w.first

abbrev pub numbers_of : Standing → List ℕ
numbers_of w = numbers_in (body_of w.first)

abbrev pub classes_of : Standing → List ℕ
classes_of w = classes_in (body_of w.first)

-- "contents and classes being those of that kind 1 block": the contents as counted
abbrev pub counted_in : Standing → List ℕ
counted_in w = counted_all (classes_of w) (contents_in (body_of w.first))

-- what the posts move, in turn
abbrev pub moves_of : Standing → List Move
moves_of w = map (said (numbers_of w)) w.posts

-- "All is added over the accepted posts of the list"
abbrev pub sum_over : (Move → ℕ) → List Move → ℕ
sum_over f ms = sum_by f ms
