-- A writer's page shows blocks and the posts that wait: one relation, which every accepted call keeps. Assumes nothing.
use mathlib.Core.Path.{◌≡◌, refl, sym, ap, subst, ◌∙◌}
use mathlib.Core.Bool.{true}
use mathlib.Core.List.{List, [], ◌∷◌, ◌++◌, append_assoc, append-nil}
use Prim.Native.Nat.{ℕ, ◌+◌, ◌-◌, ◌*◌, ◌≤◌, ◌<◌}
use native.Mathlib.Omega.{arith}
use lib.ListN.{length, drop, length-append, length-drop}
use lib.Seq.{take_at}
use Rattle.std.proofs.lemmas.Grind.{common_steps, fold-append}
use Rattle.std.proofs.lemmas.List.Elements.{All-nil, All-push}
use Rattle.std.specs.List.{All}
use Rattle.layout.specs.Frame.{body_of, block_of}
use Rattle.layout.specs.Outline.{fresh_outline, may_post}
use Rattle.layout.specs.declared.holds.SetupPart.{SetupPart}
use Rattle.layout.specs.declared.outline.Outline.{Outline}
use Rattle.encoding.specs.Bytes.{placed}
use Rattle.pages.specs.Page.{Page, fresh_page}
use Rattle.pages.specs.Tally.{outline_after}
use Rattle.pages.specs.declared.tally.Tally.{Tally}
use Rattle.claims.specs.Written.{joined, posts_in, posts_in_all, outline_past, Passes, AllPass}
use Rattle.claims.proofs.written.Accepted.{SetUpTaken}
use Rattle.claims.proofs.written.Blocks.{outline_over, pass_last, posts_last, set_up_holds, set_up_outline, set_up_passes, Formed, each_long}
use Rattle.claims.proofs.written.Blocks.{posts_body, block_of_posts, posts_outline, posts_held, posts_pass}
use Rattle.claims.proofs.written.Places.{placed_at, zeros, zeros_long, zeros-append, drop-zeros, joined_last}

-- ---- the bytes: blocks, and then the bytes that were lent

pub record Filled (lent : List ℕ) (blocks : List (List ℕ)) (bytes : List ℕ) (filled : ℕ) : Type 0 where
  pub bytes_are : bytes ≡ joined blocks ++ drop (length (joined blocks)) lent
  pub filled_is : filled ≡ length (joined blocks)
  pub size : length (joined blocks) ≡ length blocks * 512
  pub within : length (joined blocks) ≤ length lent

-- no block yet
pub filled_none : (lent : List ℕ) → Filled lent [] lent 0
unfolding joined
filled_none lent = record { bytes_are = refl; filled_is = refl; size = omega arith; within = omega arith }

module _ (lent : List ℕ) (blocks : List (List ℕ)) (bytes : List ℕ) (filled : ℕ) (h : Filled lent blocks bytes filled) where
  abbrev so_far : ℕ
  so_far = length (joined blocks)

  -- the buffer keeps its length
  pub same_length : length bytes ≡ length lent
  same_length = omega (arith, ap length h.bytes_are, length-append (joined blocks) (drop so_far lent), length-drop so_far lent)

  -- one block more
  pub filled_next : (x : List ℕ) → length x ≡ 512 → length blocks * 512 + 512 ≤ length lent → Filled lent (blocks ++ (x ∷ [])) (placed bytes filled x) (filled + 512)
  filled_next x long room =
      let j : List ℕ = joined blocks in
      let more : length (joined (blocks ++ (x ∷ []))) ≡ length j + length x = ap length (joined_last blocks x) ∙ length-append j x in
      let fits : length x ≤ length (drop so_far lent) = omega (arith, length-drop so_far lent) in
      record {
        bytes_are =
            rw (h.bytes_are, joined_last blocks x) (grind (arith, common_steps, placed_at j (drop so_far lent) x filled, h.filled_is, fits));
        filled_is = omega arith;
        size = omega (arith, length-append blocks (x ∷ []));
        within = omega arith;
      }

-- ---- the block being filled: zeros, but for the posts that wait

abbrev pub drafted : List (List ℕ) → List ℕ
drafted waiting = zeros 8 ++ (joined waiting ++ zeros (504 - length (joined waiting)))

-- no post waits
pub drafted_none : zeros 512 ≡ drafted []
unfolding joined
drafted_none = sym (zeros-append 8 504)

-- one post more waits
pub drafted_next : (waiting : List (List ℕ)) (s : List ℕ) → length (joined waiting) + length s ≤ 504
    → placed (drafted waiting) (8 + length (joined waiting)) s ≡ drafted (waiting ++ (s ∷ []))
drafted_next waiting s fits =
    let j : List ℕ = joined waiting in
    let m : ℕ = 504 - length j - length s in
    let front : List ℕ = zeros 8 ++ j in
    let room : 504 - length j ≡ length s + m = omega arith in
    let rest : m ≡ 504 - length (j ++ s) = omega (arith, length-append j s) in
    grind (arith, common_steps, placed_at front (zeros (length s + m)) s (8 + length j), drop-zeros (length s) m, joined_last waiting s, room, rest)

-- its body is that of the posts' block
pub drafted_body : (posts : List (List ℕ)) → length (joined posts) ≤ 500 → body_of (drafted posts) ≡ posts_body posts
drafted_body posts fits =
    let j : List ℕ = joined posts in
    let m : ℕ = 500 - length j in
    let more : 504 - length j ≡ m + 4 = omega arith in
    let long : length (j ++ zeros m) ≡ 500 = omega (arith, length-append j (zeros m), zeros_long m) in
    rw (more, ← zeros-append m 4, ← append_assoc j (zeros m) (zeros 4)) (take_at (j ++ zeros m) (zeros 4) 500 long)

-- ---- what the blocks and the posts that wait tell

-- they hold the posts, the blocks pass and make the outline, and the posts that wait are well formed by it
pub record Told (posts blocks waiting : List (List ℕ)) (o : Outline) : Type 0 where
  pub held : posts_in_all blocks ++ waiting ≡ posts
  pub pass : AllPass 0 fresh_outline blocks
  pub outline : o ≡ outline_over fresh_outline blocks
  pub formed : All (Formed o) waiting

-- a new writer has neither
pub told_none : Told [] [] [] fresh_outline
told_none = record { held = refl; pass = tt; outline = refl; formed = All-nil (Formed fresh_outline) }

-- one post more
pub told_post : (posts blocks waiting : List (List ℕ)) (o : Outline) (s : List ℕ) → Told posts blocks waiting o → Formed o s
    → Told (posts ++ (s ∷ [])) blocks (waiting ++ (s ∷ [])) o
told_post posts blocks waiting o s h e =
    record {
      held = sym (append_assoc (posts_in_all blocks) waiting (s ∷ [])) ∙ ap (λ (l : List (List ℕ)). l ++ (s ∷ [])) h.held;
      pass = h.pass;
      outline = h.outline;
      formed = All-push (Formed o) waiting s h.formed e;
    }

-- one block more, whose posts were those that waited
told_block : (posts blocks waiting : List (List ℕ)) (o next : Outline) (x : List ℕ) → Told posts blocks waiting o → posts_in x ≡ waiting → outline_past o x ≡ next
    → Passes (length blocks) o x → Told posts (blocks ++ (x ∷ [])) [] next
told_block posts blocks waiting o next x h same onward passes =
    let place : 0 + length blocks ≡ length blocks = omega arith in
    record {
      held = rw (append-nil (posts_in_all (blocks ++ (x ∷ []))), posts_last blocks x, same) h.held;
      pass = pass_last 0 fresh_outline blocks x h.pass (rw (place, ← h.outline) passes);
      outline = rw (fold-append outline_past fresh_outline blocks (x ∷ []), ← h.outline, onward) refl;
      formed = All-nil (Formed next);
    }

-- a set-up block, while no post waits
pub told_set_up : (posts blocks : List (List ℕ)) (room : ℕ) (t : Tally) (kind : ℕ) (part : SetupPart) (count : ℕ) (body : List ℕ) → Told posts blocks [] t.outline
    → t.blocks ≡ length blocks → SetUpTaken room t kind part count body
    → Told posts (blocks ++ (block_of kind count t.blocks body ∷ [])) [] (outline_after t.outline part count body)
told_set_up posts blocks room t kind part count body h number a =
    let n : ℕ = t.blocks in
    let o : Outline = t.outline in
    let x : List ℕ = block_of kind count n body in
    let passes = set_up_passes kind count n body part a.holds o a.long a.free.number a.rows in
    told_block posts blocks [] o (outline_after o part count body) x h (set_up_holds kind count n body part a.holds)
    (set_up_outline kind count n body part a.holds o a.long) (subst (λ (k : ℕ). Passes k o x) number passes)

-- the posts that wait become a block
pub told_finished : (posts blocks waiting : List (List ℕ)) (o : Outline) → Told posts blocks waiting o → 1 ≤ length waiting → length waiting ≤ 10 → may_post o ≡ true
    → length blocks < 65536 → Told posts (blocks ++ (block_of_posts (length blocks) waiting ∷ [])) [] o
told_finished posts blocks waiting o h some few turn small =
    let n : ℕ = length blocks in
    let each = each_long o waiting h.formed in
    told_block posts blocks waiting o o (block_of_posts n waiting) h (posts_held n waiting each few) (posts_outline n waiting o)
    (posts_pass n waiting each few o turn some small h.formed)

-- ---- the relation

-- a block that is begun has its room, and its posts are in their turn
pub record Begins (lent : List ℕ) (blocks : List (List ℕ)) (o : Outline) : Type 0 where
  pub number : length blocks < 65536
  pub room : length blocks * 512 + 512 ≤ length lent
  pub in_turn : may_post o ≡ true

-- a page after blocks were written, with posts that wait and all posts that were taken
pub record Shows (lent : List ℕ) (posts blocks waiting : List (List ℕ)) (p : Page) : Type 0 where
  pub filled : Filled lent blocks p.bytes p.filled
  pub number : p.draft.tally.blocks ≡ length blocks
  pub count : p.draft.tally.waiting ≡ length waiting
  pub few : length waiting < 10
  pub block : p.draft.block ≡ drafted waiting
  pub begun : 0 < length waiting → Begins lent blocks p.draft.tally.outline
  pub told : Told posts blocks waiting p.draft.tally.outline

-- a new writer's page
pub shows_fresh : (lent : List ℕ) → Shows lent [] [] [] (fresh_page lent)
shows_fresh lent =
    record {
      filled = filled_none lent;
      number = refl;
      count = refl;
      few = omega arith;
      block = drafted_none;
      begun = λ l. absurd (omega arith);
      told = told_none;
    }
