-- A counter answers as each page that has come as far. Assumes nothing.
use mathlib.Core.Path.{◌≡◌, refl, sym, ap, ap₂, subst, ◌∙◌}
use mathlib.Core.Bool.{Bool, true, false, cond}
use mathlib.Core.List.{List}
use Prim.Native.Nat.{ℕ, ◌+◌, ◌*◌, ◌≤◌}
use native.Mathlib.Decide.{dec_le}
use native.Mathlib.Omega.{arith}
use lib.Dec.{eqb}
use lib.ListN.{length}
use Rattle.std.specs.Prelude.{Ok, Err}
use Rattle.amounts.specs.Decline.{value_or, verdict_of, Answer, on_taken}
use Rattle.encoding.specs.Bytes.{placed}
use Rattle.encoding.proofs.bytes.Placed.{placed_long, placed_out}
use Rattle.pages.specs.Page as pages
use Rattle.pages.specs.Page.{Page}
use Rattle.pages.specs.Tally.{finished, posted, ended, set_up_on, post_on, Counts}
use Rattle.pages.specs.declared.tally.Tally.{Tally}
use Rattle.pages.proofs.page.Laws.{set_up_page, set_up_as, post_as}
use Rattle.pages.proofs.tally.Laws.{set_up_adds, post_on_taken}
use Rattle.pages.specs.declared.counter.Counter.{Counter}
use Rattle.records.specs.Recorder.{Reached, StandsFor, Follows}

-- bytes that are put leave the length
length-placed : (l : List ℕ) (at : ℕ) (s : List ℕ) → length (placed l at s) ≡ length l
length-placed l at s = go (dec_le (at + length s) (length l))
  where
    go : Dec (at + length s ≤ length l) → length (placed l at s) ≡ length l
    go (yes h) = placed_long l at s h
    go (no h) = ap length (placed_out l at s (omega arith))

-- ---- posts and ends, by the page's own tally

module _ (room : ℕ) (p : Page) (r : Reached room p.draft.tally p) where
  abbrev own : Tally
  own = p.draft.tally

  written : (count : ℕ) (block : List ℕ) → Reached room (finished own) (pages.finished p count block)
  written count block = record { long = length-placed p.bytes p.filled _ ∙ r.long; tally = refl; filled = omega (arith, r.filled) }

  posted_own : (s : List ℕ) → Reached room (posted own) (pages.posted p s)
  unfolding pages.posted posted
  posted_own s = go (eqb own.waiting 9) refl
    where
      go : (nine : Bool) → eqb own.waiting 9 ≡ nine
          → Reached room (posted own)
          (cond nine (pages.finished p 10 (pages.with_post p.draft s)) (pages.page_of p.bytes p.filled (pages.draft_of (posted own) (pages.with_post p.draft s))))
      go true e = rw e (written 10 (pages.with_post p.draft s))
      go false e = record { long = r.long; tally = refl; filled = rw e r.filled }

  ended_own : Reached room (ended own) (pages.ended p)
  unfolding pages.ended ended
  ended_own = go (eqb own.waiting 0)
    where
      go : (none : Bool) → Reached room (cond none own (finished own)) (cond none p (pages.finished p own.waiting p.draft.block))
      go true = r
      go false = written own.waiting p.draft.block

-- ---- each call

module _ (room : ℕ) (t : Tally) (p : Page) (r : Reached room t p) where
  -- a page answers as its tally, and has come as far then
  pub record Alike (answer : Answer Page) (v : Answer Unit) (u : Tally) : Type 0 where
    pub verdict : v ≡ verdict_of answer
    pub after : Reached room u (value_or p answer)

  alike : (a : Answer Tally) (f : Tally → Page) (v : Answer Unit) (u : Tally) → Counts t a v u → ((x : Tally) → a ≡ Ok x → Reached room x (f x))
      → Alike (on_taken a (λ x. Ok (f x))) v u
  alike (Ok x) f v u c h = record { verdict = c.verdict; after = rw c.after (h x refl) }
  alike (Err n) f v u c h = record { verdict = c.verdict; after = rw c.after r }

  pub set_up_alike : (kind count : ℕ) (body : List ℕ) (v : Answer Unit) (u : Tally) → Counts t (set_up_on room t kind count body) v u
      → Alike (pages.set_up_on p kind count body) v u
  set_up_alike kind count body v u c =
      let page : Tally → Page = set_up_page p kind count body in
      let is = set_up_as p kind count body ∙ ap₂ (λ (n : ℕ) (x : Tally). on_taken (set_up_on n x kind count body) (λ y. Ok (page y))) r.long r.tally in
      rw is
      (alike (set_up_on room t kind count body) page v u c
      (λ x e. record { long = length-placed p.bytes p.filled _ ∙ r.long; tally = refl; filled = omega (arith, r.filled, set_up_adds room t kind count body x e) }))

  at_own : Reached room p.draft.tally p
  at_own = record { long = r.long; tally = refl; filled = r.filled ∙ ap (λ (x : Tally). x.blocks * 512) (sym r.tally) }

  pub post_alike : (s : List ℕ) (v : Answer Unit) (u : Tally) → Counts t (post_on room t s) v u → Alike (pages.post_on p s) v u
  unfolding post_on
  post_alike s v u c =
      let is = post_as p s ∙ ap₂ (λ (n : ℕ) (x : Tally). on_taken (post_on n x s) (λ _. Ok (pages.posted p s))) r.long r.tally in
      let after : Reached room (posted t) (pages.posted p s) = subst (λ (x : Tally). Reached room (posted x) (pages.posted p s)) r.tally (posted_own room p at_own s) in
      rw is
      (alike (post_on room t s) (λ _. pages.posted p s) v u c (λ x e. subst (λ (y : Tally). Reached room y (pages.posted p s)) (sym (post_on_taken room t s x e)) after))

  pub end_alike : (u : Tally) → u ≡ ended t → Reached room u (pages.ended p)
  end_alike u e =
      subst (λ (y : Tally). Reached room y (pages.ended p)) (sym e)
      (subst (λ (x : Tally). Reached room (ended x) (pages.ended p)) r.tally (ended_own room p at_own))

-- ---- a counter

pub counter_follows : (answers : Page → Answer Page) (a b : Counter) (v : Answer Unit) → b.room ≡ a.room
    → ((p : Page) (r : Reached a.room a.tally p) → Alike a.room a.tally p r (answers p) v b.tally)
    → Follows (λ _. 0) StandsFor answers a b v
unfolding StandsFor
counter_follows answers a b v e h =
    record {
      lent_stays = refl;
      verdict = λ p r. (h p r).verdict;
      after = λ p r. subst (λ (n : ℕ). Reached n b.tally (value_or p (answers p))) (sym e) (h p r).after;
    }
