-- What a call makes of a page, by what it makes of the tally. Assumes nothing.
use mathlib.Core.Path.{◌≡◌, refl, sym, ap, ap₂, ◌∙◌}
use mathlib.Core.List.{List, ◌++◌}
use Prim.Native.Nat.{ℕ, ◌+◌, ◌*◌}
use native.Mathlib.Omega.{arith}
use borrow.Author.Tests.{eq-eqb, ne_eqb}
use lib.ListN.{length, take, drop, replicate, length-replicate}
use lib.Seq.{take_at, drop_at}
use Rattle.std.specs.Prelude.{Ok, Err}
use Rattle.amounts.specs.Decline.{Answer, checked, on_taken, value_or, verdict_of}
use Rattle.amounts.specs.declared.decline.Decline.{Decline}
use Rattle.amounts.proofs.decline.Laws.{verdict_guards, checked_maps, checked_verdict}
use Rattle.encoding.proofs.bytes.Placed.{placed_in}
use Rattle.encoding.specs.Bytes.{placed}
use Rattle.layout.specs.Frame.{body_of, block_of}
use Rattle.layout.specs.declared.holds.SetupPart.{SetupPart}
use Rattle.kinds.specs.Kind.{Row}
use Rattle.pages.proofs.tally.Laws as laws
use Rattle.pages.proofs.tally.Laws.{Free}
use Rattle.pages.specs.Page.{Page, page_of, draft_of, fresh_draft, with_post, with_part, posts_block, finished, posted, post_on, set_up_on, ended, Sound, Answers}
use Rattle.pages.specs.Tally as tally
use Rattle.pages.specs.Tally.{part_of_kind, set_up_checks, post_answer, Begun, Counts}
use Rattle.pages.specs.declared.tally.Tally.{Tally}

-- ---- a page answers as its tally does

-- the page after a set-up block, by its tally then
abbrev pub set_up_page : Page → ℕ → ℕ → List ℕ → Tally → Page
set_up_page p kind count body u =
    page_of (placed p.bytes p.filled (block_of kind count p.draft.tally.blocks body)) (p.filled + 512) (draft_of u p.draft.block)

pub set_up_as : (p : Page) (kind count : ℕ) (body : List ℕ)
    → set_up_on p kind count body ≡ on_taken (tally.set_up_on (length p.bytes) p.draft.tally kind count body) (λ u. Ok (set_up_page p kind count body u))
unfolding set_up_on tally.set_up_on tally.part_on
set_up_as p kind count body = go (part_of_kind kind)
  where
    go : (a : Answer SetupPart)
        → on_taken a (λ part. checked (set_up_checks (length p.bytes) p.draft.tally part count body) (with_part p kind part count body))
        ≡ on_taken (on_taken a (λ part. tally.part_on (length p.bytes) p.draft.tally part count body)) (λ u. Ok (set_up_page p kind count body u))
    go (Ok part) = checked_maps (set_up_page p kind count body) (set_up_checks (length p.bytes) p.draft.tally part count body) (tally.set_up p.draft.tally part count body)
    go (Err n) = refl

pub post_as : (p : Page) (s : List ℕ) → post_on p s ≡ on_taken (tally.post_on (length p.bytes) p.draft.tally s) (λ _. Ok (posted p s))
unfolding post_on tally.post_on
post_as p s = go (post_answer (length p.bytes) p.draft.tally s)
  where
    go : (a : Answer Row) → on_taken a (λ _. Ok (posted p s)) ≡ on_taken (on_taken a (λ _. Ok (tally.posted p.draft.tally))) (λ _. Ok (posted p s))
    go (Ok k) = refl
    go (Err n) = refl

-- ---- what the code makes of a page

-- a body put into a block of zeros is its body
body_in : (body : List ℕ) → length body ≡ 500 → body_of (placed (replicate 512 0) 8 body) ≡ body
body_in body long =
    let zeros : List ℕ = replicate 512 0 in
    ap body_of (placed_in zeros 8 body (omega (arith, long, length-replicate {A = ℕ} 512 0)))
    ∙ ap (take 500) (drop_at (take 8 zeros) (body ++ drop (8 + length body) zeros) 8 refl)
    ∙ take_at body (drop (8 + length body) zeros) 500 long

-- what a call declines stays as it was
pub declined : (p : Page) (a : Answer Tally) (f : Tally → Answer Page) (d : Decline) (u : Tally) → Counts p.draft.tally a (Err d) u → p.filled ≡ p.draft.tally.blocks * 512
    → Answers p (on_taken a f) (Err d) (page_of p.bytes (u.blocks * 512) (draft_of u p.draft.block))
declined p (Ok x) f d u c e = let z = c.verdict in cc
declined p (Err n) f d u c e =
    let as_filled : u.blocks * 512 ≡ p.filled = ap (λ (x : Tally). x.blocks * 512) c.after ∙ sym e in
    record { verdict = c.verdict; after = ap₂ (λ (m : ℕ) (x : Tally). page_of p.bytes m (draft_of x p.draft.block)) as_filled c.after }

-- a call that is taken
taken : (p q : Page) (a : Answer Tally) (f : Tally → Page) (u : Tally) → Counts p.draft.tally a (Ok (tt {0})) u → q ≡ f u → Answers p (on_taken a (λ u. Ok (f u))) (Ok tt) q
taken p q (Ok x) f u c e = record { verdict = refl; after = e ∙ ap f c.after }
taken p q (Err n) f u c e = let z = c.verdict in cc

-- ---- a set-up block that is taken

-- a kind that is taken is a part of the set-up, which is taken
record PartTaken (room : ℕ) (t : Tally) (count : ℕ) (body : List ℕ) (u : Tally) : Type 0 where
  part : SetupPart
  told : laws.Taken room t part count body
  is : u ≡ tally.set_up t part count body

set_up_part : (room : ℕ) (t : Tally) (kind count : ℕ) (body : List ℕ) (u : Tally) → tally.Sound room t
    → Counts t (tally.set_up_on room t kind count body) (Ok (tt {0})) u → PartTaken room t count body u
unfolding tally.set_up_on tally.part_on
set_up_part room t kind count body u sound c = go (part_of_kind kind) c.verdict c.after
  where
    go : (a : Answer SetupPart) → Ok (tt {0}) ≡ verdict_of (on_taken a (λ part. tally.part_on room t part count body))
        → u ≡ value_or t (on_taken a (λ part. tally.part_on room t part count body)) → PartTaken room t count body u
    go (Err n) e f = cc
    go (Ok part) e f =
        let rows = set_up_checks room t part count body in
        let passes : Ok (tt {0}) ≡ checked rows (tt {0}) = e ∙ checked_verdict rows (tally.set_up t part count body) in
        record {
          part = part;
          told = laws.set_up_taken room t sound part count body passes;
          is =
              f
              ∙ ap (value_or t) (checked_maps (λ (_ : Unit). tally.set_up t part count body) rows (tt {0}))
              ∙ ap (λ (a : Answer Unit). value_or t (on_taken a (λ _. Ok (tally.set_up t part count body)))) (sym passes);
        }

module _ (p : Page) (sound : Sound p) (kind count : ℕ) (body : List ℕ) (u : Tally)
    (c : Counts p.draft.tally (tally.set_up_on (length p.bytes) p.draft.tally kind count body) (Ok (tt {0})) u) where
  abbrev t : Tally
  t = p.draft.tally

  part : PartTaken (length p.bytes) t count body u
  part = set_up_part (length p.bytes) t kind count body u sound.counted c

  pub set_up_room : Free (length p.bytes) t
  set_up_room = part.told.free

  pub set_up_written : (made bytes : List ℕ) → made ≡ placed (replicate 512 0) 8 body → bytes ≡ placed p.bytes (t.blocks * 512) (block_of kind count t.blocks (body_of made))
      → Answers p (set_up_on p kind count body) (Ok tt) (page_of bytes (u.blocks * 512) (draft_of u p.draft.block))
  unfolding tally.set_up
  set_up_written made bytes w b =
      let same : body_of made ≡ body = ap body_of w ∙ body_in body part.told.long in
      let is : bytes ≡ placed p.bytes p.filled (block_of kind count t.blocks body) =
      b ∙ ap₂ (λ (n : ℕ) (x : List ℕ). placed p.bytes n (block_of kind count t.blocks x)) (sym sound.filled_is) same in
      let blocks : u.blocks ≡ t.blocks + 1 = ap (λ (x : Tally). x.blocks) part.is in
      let filled : u.blocks * 512 ≡ p.filled + 512 = omega (arith, blocks, sound.filled_is) in
      rw (set_up_as p kind count body)
      (taken p _ _ (set_up_page p kind count body) u c (ap₂ (λ (x : List ℕ) (n : ℕ). page_of x n (draft_of u p.draft.block)) is filled))

-- ---- a post that is taken, and an end

-- the posts of a block are written
finished_is : (p : Page) (count : ℕ) (block bytes : List ℕ) (u : Tally) → Sound p → u ≡ tally.finished p.draft.tally
    → bytes ≡ placed p.bytes (p.draft.tally.blocks * 512) (posts_block count p.draft.tally.blocks block)
    → page_of bytes (u.blocks * 512) (fresh_draft u) ≡ finished p count block
finished_is p count block bytes u sound e b =
    let filled : u.blocks * 512 ≡ p.filled + 512 = omega (arith, ap (λ (x : Tally). x.blocks) e, sound.filled_is) in
    let is : bytes ≡ placed p.bytes p.filled (posts_block count p.draft.tally.blocks block) =
    b ∙ ap (λ (n : ℕ). placed p.bytes n (posts_block count p.draft.tally.blocks block)) (sym sound.filled_is) in
    let written = placed p.bytes p.filled (posts_block count p.draft.tally.blocks block) in
    ap₂ (λ (x : List ℕ) (n : ℕ). page_of x n (fresh_draft u)) is filled ∙ ap (λ (x : Tally). page_of written (p.filled + 512) (fresh_draft x)) e

module _ (p : Page) (sound : Sound p) (s : List ℕ) (u : Tally) (c : Counts p.draft.tally (tally.post_on (length p.bytes) p.draft.tally s) (Ok (tt {0})) u) where
  abbrev v : Tally
  v = p.draft.tally

  passes : Ok (tt {0}) ≡ verdict_of (post_answer (length p.bytes) v s)
  passes = c.verdict ∙ ap verdict_of (laws.post_on_is (length p.bytes) v s) ∙ verdict_guards (verdict_of (post_answer (length p.bytes) v s)) (tally.posted v)

  post_is : u ≡ tally.posted v
  post_is = c.after ∙ ap (value_or v) (laws.post_on_is (length p.bytes) v s) ∙ ap (λ (a : Answer Unit). value_or v (on_taken a (λ _. Ok (tally.posted v)))) (sym passes)

  -- the tenth
  pub tenth_written : (block bytes : List ℕ) → v.waiting ≡ 9 → block ≡ with_post p.draft s → bytes ≡ placed p.bytes (v.blocks * 512) (posts_block 10 v.blocks block)
      → Answers p (post_on p s) (Ok tt) (page_of bytes (u.blocks * 512) (fresh_draft u))
  unfolding posted tally.posted
  tenth_written block bytes nine w b =
      let is : u ≡ tally.finished v = post_is ∙ rw (eq-eqb _ _ nine) in
      let page : page_of bytes (u.blocks * 512) (fresh_draft u) ≡ posted p s =
      finished_is p 10 block bytes u sound is b ∙ ap (finished p 10) w ∙ rw (eq-eqb _ _ nine) in
      rw (post_as p s) (taken p _ _ (λ _. posted p s) u c page)

  -- another
  pub other_waits : (block : List ℕ) → (v.waiting ≡ 9 → ⊥) → block ≡ with_post p.draft s → Answers p (post_on p s) (Ok tt) (page_of p.bytes (u.blocks * 512) (draft_of u block))
  unfolding posted tally.posted
  other_waits block n w =
      let is : u ≡ tally.tally_of v.outline (v.waiting + 1) v.blocks = post_is ∙ rw (ne_eqb _ _ n) in
      let filled : u.blocks * 512 ≡ p.filled = ap (λ (x : Tally). x.blocks * 512) is ∙ sym sound.filled_is in
      let page : page_of p.bytes (u.blocks * 512) (draft_of u block) ≡ posted p s =
      ap₂ (λ (x : ℕ) (y : List ℕ). page_of p.bytes x (draft_of u y)) filled w
      ∙ ap (λ (x : Tally). page_of p.bytes p.filled (draft_of x (with_post p.draft s))) post_is
      ∙ rw (ne_eqb _ _ n) in
      rw (post_as p s) (taken p _ _ (λ _. posted p s) u c page)

module _ (p : Page) (sound : Sound p) (u : Tally) (e : u ≡ tally.ended p.draft.tally) where
  pub end_nothing : p.draft.tally.waiting ≡ 0 → page_of p.bytes (u.blocks * 512) (draft_of u p.draft.block) ≡ ended p
  unfolding ended tally.ended
  end_nothing z =
      let is : u ≡ p.draft.tally = e ∙ rw (eq-eqb _ _ z) in
      ap₂ (λ (n : ℕ) (x : Tally). page_of p.bytes n (draft_of x p.draft.block)) (ap (λ (x : Tally). x.blocks * 512) is ∙ sym sound.filled_is) is ∙ rw (eq-eqb _ _ z)

  pub end_written : (bytes : List ℕ) → (p.draft.tally.waiting ≡ 0 → ⊥)
      → bytes ≡ placed p.bytes (p.draft.tally.blocks * 512) (posts_block p.draft.tally.waiting p.draft.tally.blocks p.draft.block)
      → page_of bytes (u.blocks * 512) (fresh_draft u) ≡ ended p
  unfolding ended tally.ended
  end_written bytes n b = finished_is p p.draft.tally.waiting p.draft.block bytes u sound (e ∙ rw (ne_eqb _ _ n)) b ∙ rw (ne_eqb _ _ n)
