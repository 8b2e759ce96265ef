-- What a call on a tally answers, and that every tally stays sound. Assumes nothing.
use mathlib.Core.Path.{◌≡◌, refl, sym, ap, subst, ◌∙◌}
use mathlib.Core.Bool.{Bool, true, false, true≢false, cond, not, ◌&&◌}
use mathlib.Core.List.{List, [], ◌∷◌}
use Prim.Native.Nat.{ℕ, ◌+◌, ◌*◌, ◌≤◌, ◌<◌}
use native.Mathlib.Omega.{arith}
use borrow.Author.Tests.{ltb-true, leb-true, eqb-true, eqb-false, ne_eqb}
use lib.Dec.{eqb, leb, ltb}
use lib.ListN.{length}
use Rattle.std.specs.Prelude.{Ok, Err}
use Rattle.amounts.specs.Decline.{Answer, check, checked, on_taken, value_or, verdict_of}
use Rattle.amounts.specs.declared.decline.Decline.{Decline}
use Rattle.amounts.specs.declared.decline.Decline.TheVariants.{OutOfTurn, NoRoom}
use Rattle.amounts.proofs.decline.Laws.{was_taken, answer_guards, verdict_guards, AllPass, passed, checked_maps, checked_verdict, one_answers, pass_both, checked_both}
use Rattle.std.proofs.lemmas.Bool.{and_parts}
use Rattle.layout.specs.Holds.{holds_of}
use Rattle.layout.specs.Outline.{may_post, may_set_up, may_describe}
use Rattle.layout.specs.declared.holds.Holds.{Holds}
use Rattle.layout.specs.declared.holds.Holds.TheVariants.{SetUp, Posts}
use Rattle.layout.specs.declared.holds.SetupPart.{SetupPart}
use Rattle.layout.specs.declared.holds.SetupPart.TheVariants.{Materials, Stage}
use Rattle.layout.specs.declared.outline.Outline.{Outline}
use Rattle.kinds.specs.Kind.{Row}
use Rattle.post.specs.Moves.{well_formed}
use Rattle.bodies.specs.Part.{part_checks}
use Rattle.pages.specs.Tally.{is_free, as_part, part_of_kind, set_up_checks, may_begin, post_answer, finished, posted, ended}
use Rattle.pages.specs.Tally.{set_up, part_on, set_up_on, post_on, Begun, Sound, Counts}
use Rattle.pages.specs.declared.tally.Tally.{Tally}

-- ---- what a call answers, check by check

-- the last check of a part of the set-up, behind those of the part
pub last_check : (room : ℕ) (t : Tally) (part : SetupPart) (count : ℕ) (body : List ℕ) → Ok (tt {0}) ≡ checked (part_checks t.outline part count body) (tt {0})
    → checked (set_up_checks room t part count body) (tt {0}) ≡ cond (is_free room t) (Ok (tt {0})) (Err NoRoom)
last_check room t part count body e =
    rw (checked_both (part_checks t.outline part count body) (check (is_free room t) NoRoom ∷ []) (tt {0}), ← e) (one_answers (is_free room t) NoRoom (tt {0}))

-- a check of the part that fails
pub part_declined : (room : ℕ) (t : Tally) (part : SetupPart) (count : ℕ) (body : List ℕ) (n : Decline) → Err n ≡ checked (part_checks t.outline part count body) (tt {0})
    → Err n ≡ checked (set_up_checks room t part count body) (tt {0})
part_declined room t part count body n e = rw (checked_both (part_checks t.outline part count body) (check (is_free room t) NoRoom ∷ []) (tt {0}), ← e)

-- a post is taken as its verdict says
pub post_on_is : (room : ℕ) (t : Tally) (s : List ℕ) → post_on room t s ≡ on_taken (verdict_of (post_answer room t s)) (λ _. Ok (posted t))
unfolding post_on
post_on_is room t s = answer_guards (post_answer room t s) (posted t)

-- a post's verdict, by its turn, its form and whether it may begin a block
abbrev verdict_from : Bool → Answer Unit → Bool → Answer Unit
verdict_from turn formed begins = on_taken (checked (check turn OutOfTurn ∷ []) (tt {0})) (λ _. on_taken formed (λ _. checked (check begins NoRoom ∷ []) (tt {0})))

pub post_verdict : (room : ℕ) (t : Tally) (s : List ℕ)
    → verdict_of (post_answer room t s) ≡ verdict_from (may_post t.outline) (verdict_of (well_formed t.outline s)) (may_begin room t)
unfolding post_answer checked
post_verdict room t s = go (may_post t.outline)
  where
    inner : (w : Answer Row) (b : Bool)
        → verdict_of (on_taken w (λ k. checked (check b NoRoom ∷ []) k)) ≡ on_taken (verdict_of w) (λ _. checked (check b NoRoom ∷ []) (tt {0}))
    inner (Ok k) b = checked_verdict (check b NoRoom ∷ []) k
    inner (Err n) b = refl

    go : (m : Bool)
        → verdict_of (on_taken (checked (check m OutOfTurn ∷ []) s) (λ s. on_taken (well_formed t.outline s) (λ k. checked (check (may_begin room t) NoRoom ∷ []) k)))
        ≡ verdict_from m (verdict_of (well_formed t.outline s)) (may_begin room t)
    go true = inner (well_formed t.outline s) (may_begin room t)
    go false = refl

-- a kind that has a part holds it
pub has_part : (kind : ℕ) (part : SetupPart) → part_of_kind kind ≡ Ok part → holds_of kind ≡ Ok (SetUp part)
unfolding part_of_kind
has_part kind part e = go (holds_of kind) e
  where
    go : (a : Answer Holds) → as_part a ≡ Ok part → a ≡ Ok (SetUp part)
    go (Ok (SetUp p)) f = cc
    go (Ok Posts) f = cc
    go (Err n) f = cc

-- ---- what an accepted set-up block tells

-- a site to be set up, or with a stage left to describe, takes no post
not_set_up : (o : Outline) → may_set_up o ≡ true → may_post o ≡ false
not_set_up o e = rw e

not_described : (o : Outline) (stage : ℕ) → may_describe o stage ≡ true → may_post o ≡ false
not_described o stage e =
    let l = ltb-true o.described o.stages (and_parts (ltb o.described o.stages) (eqb stage o.described) e).0 in
    rw (ne_eqb o.described o.stages (λ q. omega arith)) (none (not (eqb o.substances 0)))
  where
    none : (t : Bool) → (t && false) ≡ false
    none true = refl
    none false = refl

-- 4 and 6 of either part tell that no post may be taken yet, and the body's length
pub early : (o : Outline) (part : SetupPart) (count : ℕ) (body : List ℕ) → AllPass (part_checks o part count body) → (may_post o ≡ false) × (length body ≡ 500)
early o Materials count body h = (not_set_up o h.0, eqb-true (length body) 500 h.1.0)
early o Stage count body h = (not_described o count h.0, eqb-true (length body) 500 h.1.0)

-- a stage that is taken is the next
next_stage : (o : Outline) (part : SetupPart) (count : ℕ) (body : List ℕ) → AllPass (part_checks o part count body) → part ≡ Stage → may_describe o count ≡ true
next_stage o part count body h e = (subst (λ (p : SetupPart). AllPass (part_checks o p count body)) e h).0

pub stage_is : (o : Outline) (count : ℕ) → may_describe o count ≡ true → (o.described < o.stages) × (count ≡ o.described)
stage_is o count e =
    let z = and_parts (ltb o.described o.stages) (eqb count o.described) e in (ltb-true o.described o.stages z.0, eqb-true count o.described z.1)

-- 13: there is room for one more block
pub record Free (room : ℕ) (t : Tally) : Type 0 where
  pub number : t.blocks < 65536
  pub fits : t.blocks * 512 + 512 ≤ room

pub is_free_lem : (room : ℕ) (t : Tally) → is_free room t ≡ true → Free room t
is_free_lem room t e =
    let z = and_parts (ltb t.blocks 65536) (leb (t.blocks * 512 + 512) room) e in
    record { number = ltb-true t.blocks 65536 z.0; fits = leb-true (t.blocks * 512 + 512) room z.1 }

-- what a part of the set-up that passes its checks tells
pub record Taken (room : ℕ) (t : Tally) (part : SetupPart) (count : ℕ) (body : List ℕ) : Type 0 where
  pub free : Free room t
  pub none_waits : t.waiting ≡ 0
  pub long : length body ≡ 500
  pub in_turn : part ≡ Stage → may_describe t.outline count ≡ true
  pub sound : Sound room (set_up t part count body)

module _ (room : ℕ) (t : Tally) (sound : Sound room t) where
  -- while no post may come, none waits
  pub none_waits : may_post t.outline ≡ false → t.waiting ≡ 0
  none_waits e = go (eqb t.waiting 0) refl
    where
      go : (b : Bool) → eqb t.waiting 0 ≡ b → t.waiting ≡ 0
      go true f = eqb-true t.waiting 0 f
      go false f = absurd (true≢false (sym (sound.begun (omega (arith, eqb-false t.waiting 0 f))).in_turn ∙ e))

  pub set_up_taken : (part : SetupPart) (count : ℕ) (body : List ℕ) → Ok (tt {0}) ≡ checked (set_up_checks room t part count body) (tt {0}) → Taken room t part count body
  unfolding set_up
  set_up_taken part count body e =
      let rows = part_checks t.outline part count body in
      let pass = pass_both rows (check (is_free room t) NoRoom ∷ []) (passed (set_up_checks room t part count body) (tt {0}) (tt {0}) (sym e)).0 in
      let free = is_free_lem room t pass.1.0 in
      let none = none_waits (early t.outline part count body pass.0).0 in
      record {
        free = free;
        none_waits = none;
        long = (early t.outline part count body pass.0).1;
        in_turn = next_stage t.outline part count body pass.0;
        sound = record {
          few = sound.few;
          blocks_few = omega (arith, free.number);
          within = omega (arith, free.fits);
          begun = λ h. absurd (omega (arith, none, h));
        };
      }

  -- ---- posts and ends

  finished_sound : Begun room t → Sound room (finished t)
  finished_sound b =
      record {
        few = omega arith;
        blocks_few = omega (arith, b.number);
        within = omega (arith, b.room_left);
        begun = λ h. absurd (omega (arith, h));
      }

  pub posted_sound : Begun room t → Sound room (posted t)
  unfolding posted
  posted_sound b = go (eqb t.waiting 9) refl
    where
      go : (nine : Bool) → eqb t.waiting 9 ≡ nine → Sound room (cond nine (finished t) (record { outline = t.outline; waiting = t.waiting + 1; blocks = t.blocks }))
      go true e = finished_sound b
      go false e =
          record {
            few = omega (arith, sound.few, eqb-false t.waiting 9 e);
            blocks_few = sound.blocks_few;
            within = sound.within;
            begun = λ h. record { number = b.number; room_left = b.room_left; in_turn = b.in_turn };
          }

  pub ended_sound : Sound room (ended t)
  unfolding ended
  ended_sound = go (eqb t.waiting 0) refl
    where
      go : (none : Bool) → eqb t.waiting 0 ≡ none → Sound room (cond none t (finished t))
      go true e = sound
      go false e = finished_sound (sound.begun (omega (arith, eqb-false t.waiting 0 e)))

  -- a post in its turn that may begin its block, or joins one that is begun
  pub begun : may_post t.outline ≡ true → may_begin room t ≡ true → Begun room t
  begun m e = go (eqb t.waiting 0) refl e
    where
      go : (b : Bool) → eqb t.waiting 0 ≡ b → cond b (is_free room t) true ≡ true → Begun room t
      go true z f = let free = is_free_lem room t f in record { number = free.number; room_left = free.fits; in_turn = m }
      go false z f = sound.begun (omega (arith, eqb-false t.waiting 0 z))

  -- a post that is taken is in its turn, and where it begins a block there is room
  pub post_taken : (s : List ℕ) → Ok (tt {0}) ≡ verdict_of (post_answer room t s) → Begun room t
  unfolding checked
  post_taken s e = go (may_post t.outline) (verdict_of (well_formed t.outline s)) (may_begin room t) refl refl (e ∙ post_verdict room t s)
    where
      go : (m : Bool) (w : Answer Unit) (b : Bool) → may_post t.outline ≡ m → may_begin room t ≡ b → Ok (tt {0}) ≡ verdict_from m w b → Begun room t
      go true (Ok k) true p q f = begun p q
      go true (Ok k) false p q f = cc
      go true (Err n) b p q f = cc
      go false w b p q f = cc

-- a part of the set-up counts as its checks answer
pub set_up_counts : (room : ℕ) (t : Tally) (kind : ℕ) (part : SetupPart) (count : ℕ) (body : List ℕ) (v : Answer Unit) → Ok part ≡ part_of_kind kind
    → v ≡ checked (set_up_checks room t part count body) (tt {0})
    → Counts t (set_up_on room t kind count body) v (value_or t (on_taken v (λ _. Ok (set_up t part count body))))
unfolding set_up_on part_on
set_up_counts room t kind part count body v k e =
    let is : set_up_on room t kind count body ≡ on_taken v (λ _. Ok (set_up t part count body)) =
    rw (← k, checked_maps (λ (_ : Unit). set_up t part count body) (set_up_checks room t part count body) (tt {0}), ← e) in
    record { verdict = sym (verdict_guards v (set_up t part count body)) ∙ ap verdict_of (sym is); after = ap (value_or t) (sym is) }

-- a kind that holds no part of the set-up
pub kind_declined : (room : ℕ) (t : Tally) (kind count : ℕ) (body : List ℕ) (n : Decline) → Err n ≡ part_of_kind kind → Counts t (set_up_on room t kind count body) (Err n) t
unfolding set_up_on
kind_declined room t kind count body n e = record { verdict = rw (← e); after = rw (← e) }

-- a set-up block that is taken is one block more
pub set_up_adds : (room : ℕ) (t : Tally) (kind count : ℕ) (body : List ℕ) (u : Tally) → set_up_on room t kind count body ≡ Ok u → u.blocks ≡ t.blocks + 1
unfolding set_up_on part_on set_up
set_up_adds room t kind count body u e =
    let a = was_taken (part_of_kind kind) _ u e in
    ap (λ (x : Tally). x.blocks) (passed (set_up_checks room t a.0 count body) (set_up t a.0 count body) u a.2).1

-- the tally after a post that is taken
pub post_on_taken : (room : ℕ) (t : Tally) (s : List ℕ) (u : Tally) → post_on room t s ≡ Ok u → u ≡ posted t
unfolding post_on
post_on_taken room t s u e = let a = was_taken (post_answer room t s) _ u e in cc
