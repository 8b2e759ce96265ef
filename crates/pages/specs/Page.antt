-- What a writer has, as a page: the lent buffer's bytes, how many are filled, and the block being filled; and what its calls make of it, one by one (document 02,
-- (a)). What the bytes of a whole list of calls are is said without a page in the claims.
use Rattle.std.specs.Prelude.{ℕ, ◌+◌, ◌*◌, ◌≡◌, cond, List, eqb, length, replicate, Ok}
use Rattle.amounts.specs.Decline.{Answer, checked, on_taken, value_or, verdict_of}
use Rattle.layout.specs.Frame.{body_of, block_of}
use Rattle.layout.specs.Posts.{post_size}
use Rattle.layout.specs.declared.holds.SetupPart.{SetupPart}
use Rattle.encoding.specs.Bytes.{placed}
use Rattle.pages.specs.Tally as tally
use Rattle.pages.specs.Tally.{part_of_kind, set_up_checks, post_answer}
use Rattle.pages.specs.declared.tally.Tally.{Tally}

-- ---- the block being filled

-- how far the writer has come, and the block with the posts that wait
pub record Draft : Type 0 where
  pub tally : Tally
  pub block : List ℕ

abbrev pub draft_of : Tally → List ℕ → Draft
draft_of t block = record { tally = t; block = block }

-- a block of zeros
abbrev pub fresh_draft : Tally → Draft
fresh_draft t = draft_of t (replicate 512 0)

-- "from byte 8": a post goes behind those that wait
abbrev pub post_place : Tally → ℕ
post_place t = 8 + t.waiting * post_size

abbrev pub with_post : Draft → List ℕ → List ℕ
with_post d s = placed d.block (post_place d.tally) s

-- the block that so many of its posts make
abbrev pub posts_block : ℕ → ℕ → List ℕ → List ℕ
posts_block count number block = block_of 3 count number (body_of block)

-- ---- the page

pub record Page : Type 0 where
  pub bytes : List ℕ
  pub filled : ℕ
  pub draft : Draft

abbrev pub page_of : List ℕ → ℕ → Draft → Page
page_of bytes filled d = record { bytes = bytes; filled = filled; draft = d }

-- "A new writer has filled 0 bytes"
abbrev pub fresh_page : List ℕ → Page
fresh_page lent = page_of lent 0 (fresh_draft tally.fresh_tally)

-- a block behind what is filled; all other bytes stay
abbrev pub with_block : Page → List ℕ → Draft → Page
with_block p block d = page_of (placed p.bytes p.filled block) (p.filled + 512) d

-- the block of the posts that wait is written, and the next one is zero
abbrev pub finished : Page → ℕ → List ℕ → Page
finished p count block = with_block p (posts_block count p.draft.tally.blocks block) (fresh_draft (tally.finished p.draft.tally))

-- "A tenth post writes its block"
unfoldable pub posted : Page → List ℕ → Page
unfolding tally.posted
posted p s =
    cond (eqb p.draft.tally.waiting 9) (finished p 10 (with_post p.draft s))
    (page_of p.bytes p.filled (draft_of (tally.posted p.draft.tally) (with_post p.draft s)))

unfoldable pub post_on : Page → List ℕ → Answer Page
unfolding post_answer posted
post_on p s = on_taken (post_answer (length p.bytes) p.draft.tally s) (λ _. Ok (posted p s))

-- the page with a part of the set-up more
abbrev pub with_part : Page → ℕ → SetupPart → ℕ → List ℕ → Page
with_part p kind part count body =
    with_block p (block_of kind count p.draft.tally.blocks body) (draft_of (tally.set_up p.draft.tally part count body) p.draft.block)

unfoldable pub set_up_on : Page → ℕ → ℕ → List ℕ → Answer Page
unfolding part_of_kind checked tally.set_up block_of
set_up_on p kind count body =
    on_taken (part_of_kind kind) (λ part. checked (set_up_checks (length p.bytes) p.draft.tally part count body) (with_part p kind part count body))

-- "ending with no post waiting writes nothing"
unfoldable pub ended : Page → Page
ended p = cond (eqb p.draft.tally.waiting 0) p (finished p p.draft.tally.waiting p.draft.block)

-- ---- what is true of every writer

pub record Sound (p : Page) : Type 0 where
  pub counted : tally.Sound (length p.bytes) p.draft.tally
  pub filled_is : p.filled ≡ p.draft.tally.blocks * 512

-- what a call answers, and the page after it: as it was where the call is declined
pub record Answers (p : Page) (a : Answer Page) (v : Answer Unit) (q : Page) : Type 0 where
  pub verdict : v ≡ verdict_of a
  pub after : q ≡ value_or p a
