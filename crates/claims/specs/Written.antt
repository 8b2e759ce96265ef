-- The journal of a list of accepted calls, over their bytes alone, and what is claimed of it (document 02, (a)).
use Rattle.std.specs.List.{flat_map}
use Rattle.std.specs.Prelude.{ℕ, suc, ◌≤◌, ◌<◌, ◌≡◌, true, false, cond, List, [], ◌∷◌, ◌++◌, eqb, length, drop, Ok, Err}
use Rattle.amounts.specs.Decline.{Answer, Check, checked, on_taken, is_taken}
use Rattle.encoding.specs.Bytes.{padded}
use Rattle.encoding.specs.Each.{list_to}
use Rattle.layout.specs.Frame.{block_kind, count_of, body_of, frame_checks, block_of}
use Rattle.layout.specs.Holds.{holds_of}
use Rattle.layout.specs.Outline.{fresh_outline}
use Rattle.layout.specs.Posts.{post_in, own_checks}
use Rattle.layout.specs.declared.holds.Holds as block
use Rattle.layout.specs.declared.holds.Holds.TheVariants.{SetUp, Posts}
use Rattle.layout.specs.declared.outline.Outline.{Outline}
use Rattle.post.specs.Moves.{well_formed}
use Rattle.pages.specs.Calls.{Call, set_up, post, end, run, accepted}
use Rattle.pages.specs.Page.{Page, fresh_page, ended}
use Rattle.bodies.specs.Part.{part_checks}
use Rattle.pages.specs.Tally.{outline_after}

-- ---- the journal

-- lists one behind the other
unfoldable pub joined : {A : Type 0} → List (List A) → List A
joined [] = []
joined (l ∷ ls) = l ++ joined ls

-- what a block holds: its kind, its count and its body
pub record Sheet : Type 0 where
  pub kind : ℕ
  pub count : ℕ
  pub body : List ℕ

abbrev pub sheet : ℕ → ℕ → List ℕ → Sheet
sheet kind count body = record { kind = kind; count = count; body = body }

-- "its count the posts in it, the places behind them zero"
abbrev pub of_posts : List (List ℕ) → Sheet
of_posts posts = sheet 3 (length posts) (padded 500 (joined posts))

-- the sheets of accepted calls where these posts wait: "puts ten posts to a block and ends the last block early when told"
unfoldable pub sheets : List (List ℕ) → List Call → List Sheet
sheets waiting [] = []
sheets waiting (set_up kind count body ∷ calls) = sheet kind count body ∷ sheets waiting calls
sheets waiting (post s ∷ calls) =
    cond (eqb (length waiting) 9) (of_posts (waiting ++ (s ∷ [])) ∷ sheets [] calls) (sheets (waiting ++ (s ∷ [])) calls)
sheets waiting (end ∷ calls) = cond (eqb (length waiting) 0) (sheets [] calls) (of_posts waiting ∷ sheets [] calls)

-- "A block's number is how many blocks were written before it"
unfoldable pub framed_from : ℕ → List Sheet → List (List ℕ)
unfolding block_of
framed_from number [] = []
framed_from number (x ∷ xs) = block_of x.kind x.count number x.body ∷ framed_from (suc number) xs

unfoldable pub blocks_of : List Call → List (List ℕ)
unfolding sheets framed_from
blocks_of calls = framed_from 0 (sheets [] calls)

-- the calls of a list that a new writer over a lent buffer accepts, once ended
abbrev pub ended_calls : List ℕ → List Call → List Call
ended_calls lent calls = accepted (fresh_page lent) calls ++ (end ∷ [])

-- ---- 1: the buffer

-- "the buffer is the journal of the accepted calls .. and then the bytes that were lent; the filled length is the journal's"
pub record Holds (lent journal : List ℕ) (p : Page) : Type 0 where
  pub bytes : p.bytes ≡ journal ++ drop (length journal) lent
  pub filled : p.filled ≡ length journal
  pub fits : length journal ≤ length lent

abbrev pub WriterHoldsJournal : Type 0
WriterHoldsJournal =
    (lent : List ℕ) (calls : List Call) → Holds lent (joined (blocks_of (accepted (fresh_page lent) calls))) (run (fresh_page lent) calls)

-- and so it is once ended
abbrev pub EndedHoldsJournal : Type 0
EndedHoldsJournal = (lent : List ℕ) (calls : List Call) → Holds lent (joined (blocks_of (ended_calls lent calls))) (ended (run (fresh_page lent) calls))

-- ---- 2: the posts

-- the post that a call brings
abbrev pub post_by : Call → List (List ℕ)
post_by (set_up kind count body) = []
post_by (post s) = s ∷ []
post_by end = []

abbrev pub posts_taken : List Call → List (List ℕ)
posts_taken calls = flat_map post_by calls

-- the posts that a block holds: a block of posts its count of them, another none
abbrev pub posts_by : List ℕ → Answer block.Holds → List (List ℕ)
posts_by s (Ok (SetUp part)) = []
posts_by s (Ok Posts) = list_to (count_of s) (post_in (body_of s))
posts_by s (Err n) = []

abbrev pub posts_in : List ℕ → List (List ℕ)
posts_in s = posts_by s (holds_of (block_kind s))

abbrev pub posts_in_all : List (List ℕ) → List (List ℕ)
posts_in_all blocks = flat_map posts_in blocks

-- "the blocks, once ended, hold the same posts in order"
abbrev pub BlocksHoldPosts : Type 0
BlocksHoldPosts =
    (lent : List ℕ) (calls : List Call) → posts_in_all (blocks_of (ended_calls lent calls)) ≡ posts_taken (accepted (fresh_page lent) calls)

-- ---- 3: the checks that need no book

-- 4 and 6 of a block's own bytes, by an outline and what it holds
abbrev pub body_rows : Outline → List ℕ → block.Holds → List Check
body_rows o s (SetUp part) = part_checks o part (count_of s) (body_of s)
body_rows o s Posts = own_checks o false (count_of s) (body_of s)

-- the outline after a block: only a part of the set-up changes it
abbrev pub outline_by : Outline → List ℕ → Answer block.Holds → Outline
outline_by o s (Ok (SetUp part)) = outline_after o part (count_of s) (body_of s)
outline_by o s (Ok Posts) = o
outline_by o s (Err n) = o

abbrev pub outline_past : Outline → List ℕ → Outline
outline_past o s = outline_by o s (holds_of (block_kind s))

-- 1 to 3 by its place, 4 and 6 by the outline of the blocks before it, and 6 and 7 of each of its posts
pub record Passes (place : ℕ) (o : Outline) (s : List ℕ) : Type 0 where
  pub frame : is_taken (checked (frame_checks place s) s) ≡ true
  pub body : is_taken (on_taken (holds_of (block_kind s)) (λ h. checked (body_rows o s h) s)) ≡ true
  pub posts : holds_of (block_kind s) ≡ Ok Posts → (i : ℕ) → i < count_of s → is_taken (well_formed o (post_in (body_of s) i)) ≡ true

abbrev pub AllPass : ℕ → Outline → List (List ℕ) → Type 0
AllPass place o [] = Unit
AllPass place o (s ∷ blocks) = Passes place o s × AllPass (suc place) (outline_past o s) blocks

abbrev pub BlocksPass : Type 0
BlocksPass = (lent : List ℕ) (calls : List Call) → AllPass 0 fresh_outline (blocks_of (ended_calls lent calls))
