-- What each accepted call makes of the page that shows blocks and waiting posts. Assumes nothing.
use mathlib.Core.Path.{◌≡◌, refl, sym, ap, ◌∙◌}
use mathlib.Core.List.{List, [], ◌∷◌, ◌++◌}
use Prim.Native.Nat.{ℕ, ◌+◌, ◌*◌, ◌≤◌}
use native.Mathlib.Decide.{ℕ_discrete}
use native.Mathlib.Omega.{arith}
use borrow.Author.Tests.{eq-eqb, ne_eqb}
use lib.ListN.{length, length-append}
use Rattle.layout.specs.Frame.{body_of, block_of}
use Rattle.layout.specs.declared.holds.SetupPart.{SetupPart}
use Rattle.layout.specs.declared.outline.Outline.{Outline}
use Rattle.layout.proofs.frame.Made.{made_long}
use Rattle.pages.specs.Page as page
use Rattle.pages.specs.Page.{Page, page_of, draft_of, with_part, finished, posts_block, with_post, posted}
use Rattle.pages.specs.Tally as tally
use Rattle.pages.specs.Tally.{tally_of}
use Rattle.pages.specs.declared.tally.Tally.{Tally}
use Rattle.claims.specs.Written.{joined}
use Rattle.claims.proofs.written.Accepted.{SetUpTaken, PostTaken}
use Rattle.claims.proofs.written.Blocks.{each_long, posts_body, block_of_posts, body_long}
use Rattle.claims.proofs.written.Places.{joined_long}
use Rattle.claims.proofs.written.Shows.{Filled, same_length, filled_next, drafted, drafted_none, drafted_next, drafted_body}
use Rattle.claims.proofs.written.Shows.{Told, told_post, told_set_up, told_finished, Begins, Shows}

-- ---- a set-up block

module _ (lent : List ℕ) (posts blocks : List (List ℕ)) (p : Page) (kind : ℕ) (part : SetupPart) (count : ℕ) (body : List ℕ) where
  pub shows_set_up : Shows lent posts blocks [] p → SetUpTaken (length p.bytes) p.draft.tally kind part count body
      → Shows lent posts (blocks ++ (block_of kind count p.draft.tally.blocks body ∷ [])) [] (with_part p kind part count body)
  unfolding tally.set_up
  shows_set_up h a =
      let t : Tally = p.draft.tally in
      let x : List ℕ = block_of kind count t.blocks body in
      let same = same_length lent blocks p.bytes p.filled h.filled in
      let room : length blocks * 512 + 512 ≤ length lent = omega (arith, a.free.fits, h.number) in
      record {
        filled = filled_next lent blocks p.bytes p.filled h.filled x (made_long kind count t.blocks body a.long) room;
        number = omega (arith, h.number, length-append blocks (x ∷ []));
        count = h.count;
        few = h.few;
        block = h.block;
        begun = λ l. absurd (omega arith);
        told = told_set_up posts blocks (length p.bytes) t kind part count body h.told h.number a;
      }

-- ---- posts become a block

module _ (lent : List ℕ) (posts blocks waiting : List (List ℕ)) (p : Page) (number : p.draft.tally.blocks ≡ length blocks)
    (filled : Filled lent blocks p.bytes p.filled) (b : Begins lent blocks p.draft.tally.outline)
    (told : Told posts blocks waiting p.draft.tally.outline) (some : 1 ≤ length waiting) (few : length waiting ≤ 10) where
  pub shows_finished : (count : ℕ) (block : List ℕ) → count ≡ length waiting → block ≡ drafted waiting
      → Shows lent posts (blocks ++ (block_of_posts (length blocks) waiting ∷ [])) [] (finished p count block)
  shows_finished count block is e =
      let o : Outline = p.draft.tally.outline in
      let n : ℕ = length blocks in
      let x : List ℕ = block_of_posts n waiting in
      let y : List ℕ = posts_block count p.draft.tally.blocks block in
      let each = each_long o waiting told.formed in
      let body : body_of block ≡ posts_body waiting = ap body_of e ∙ drafted_body waiting (omega (arith, joined_long 48 waiting each)) in
      let made : y ≡ x = rw (is, number, body) in
      let whole = body_long (length waiting) (joined waiting) (joined_long 48 waiting each) few in
      let next = filled_next lent blocks p.bytes p.filled filled x (made_long 3 (length waiting) n (posts_body waiting) whole) b.room in
      record {
        filled = rw made next;
        number = omega (arith, number, length-append blocks (x ∷ []));
        count = refl;
        few = omega arith;
        block = drafted_none;
        begun = λ l. absurd (omega arith);
        told = told_finished posts blocks waiting o told some few b.in_turn b.number;
      }

-- ---- a post

module _ (lent : List ℕ) (posts blocks waiting : List (List ℕ)) (p : Page) (s : List ℕ) (h : Shows lent posts blocks waiting p)
    (a : PostTaken (length p.bytes) p.draft.tally s) where
  abbrev o : Outline
  o = p.draft.tally.outline

  abbrev more : List (List ℕ)
  more = waiting ++ (s ∷ [])

  -- it has its room: that of the block it begins, or of the one begun
  begins : Begins lent blocks o
  begins = go (ℕ_discrete (length waiting) 0)
    where
      go : Dec (length waiting ≡ 0) → Begins lent blocks o
      go (yes e) =
          let free = a.free (h.count ∙ e) in
          let same = same_length lent blocks p.bytes p.filled h.filled in
          record { number = omega (arith, free.number, h.number); room = omega (arith, free.fits, h.number); in_turn = a.in_turn }
      go (no d) = h.begun (omega arith)

  -- it goes behind those that wait
  behind : with_post p.draft s ≡ drafted more
  behind =
      let long = joined_long 48 waiting (each_long o waiting h.told.formed) in
      let fits : length (joined waiting) + length s ≤ 504 = omega (arith, h.few, a.long) in
      let at : p.draft.tally.waiting * 48 ≡ length (joined waiting) = omega (arith, h.count) in
      rw (h.block, at) (drafted_next waiting s fits)

  told_more : Told (posts ++ (s ∷ [])) blocks more o
  told_more = told_post posts blocks waiting o s h.told a.formed

  more_long : length more ≡ length waiting + 1
  more_long = length-append waiting (s ∷ [])

  -- a tenth post writes its block
  pub shows_tenth : length waiting ≡ 9 → Shows lent (posts ++ (s ∷ [])) (blocks ++ (block_of_posts (length blocks) more ∷ [])) [] (posted p s)
  unfolding posted
  shows_tenth e =
      rw (eq-eqb p.draft.tally.waiting 9 (h.count ∙ e))
      (shows_finished lent (posts ++ (s ∷ [])) blocks more p h.number h.filled begins told_more (omega (arith, more_long)) (omega (arith, more_long))
      10 (with_post p.draft s) (omega (arith, more_long)) behind)

  -- another waits
  pub shows_waiting : (length waiting ≡ 9 → ⊥) → Shows lent (posts ++ (s ∷ [])) blocks more (posted p s)
  unfolding posted tally.posted
  shows_waiting d =
      rw (ne_eqb p.draft.tally.waiting 9 (λ e. d (sym h.count ∙ e)))
      (record {
        filled = h.filled;
        number = h.number;
        count = omega (arith, h.count, more_long);
        few = omega (arith, h.few, more_long);
        block = behind;
        begun = λ l. begins;
        told = told_more;
      })

-- ---- an end

-- with no post waiting it writes nothing
pub shows_same : (lent : List ℕ) (posts blocks : List (List ℕ)) (p : Page) → Shows lent posts blocks [] p → Shows lent posts blocks [] (page.ended p)
unfolding page.ended
shows_same lent posts blocks p h = rw (eq-eqb p.draft.tally.waiting 0 h.count) h

-- and else the posts that wait become a block
pub shows_ended : (lent : List ℕ) (posts blocks waiting : List (List ℕ)) (p : Page) → Shows lent posts blocks waiting p → 1 ≤ length waiting
    → Shows lent posts (blocks ++ (block_of_posts (length blocks) waiting ∷ [])) [] (page.ended p)
unfolding page.ended
shows_ended lent posts blocks waiting p h one =
    rw (ne_eqb p.draft.tally.waiting 0 (λ e. omega (arith, h.count)))
    (shows_finished lent posts blocks waiting p h.number h.filled (h.begun one) h.told one (omega (arith, h.few)) p.draft.tally.waiting p.draft.block h.count h.block)
