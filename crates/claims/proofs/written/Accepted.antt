-- What a writer's accepted calls tell. Assumes nothing.
use mathlib.Core.Path.{◌≡◌}
use mathlib.Core.Bool.{true, false}
use mathlib.Core.List.{List, [], ◌∷◌}
use Prim.Native.Nat.{ℕ}
use native.Mathlib.Omega.{arith}
use lib.ListN.{length}
use Rattle.std.proofs.lemmas.Bool.Decides.{nat_tests}
use Rattle.std.specs.Prelude.{Ok}
use Rattle.amounts.specs.Decline.{Answer, check, checked, is_taken}
use Rattle.amounts.specs.declared.decline.Decline.TheVariants.{NoRoom}
use Rattle.layout.specs.Holds.{holds_of}
use Rattle.layout.specs.Outline.{may_post}
use Rattle.layout.specs.declared.holds.Holds.{Holds}
use Rattle.layout.specs.declared.holds.Holds.TheVariants.{SetUp, Posts}
use Rattle.layout.specs.declared.holds.SetupPart.{SetupPart}
use Rattle.layout.specs.declared.outline.Outline.{Outline}
use Rattle.amounts.proofs.decline.Laws.{was_taken, AllPass, passed, pass_both}
use Rattle.kinds.specs.Kind.{Row}
use Rattle.post.specs.Moves.{laid_out, well_formed}
use Rattle.pages.specs.Page.{Page, posted, post_on, with_part, set_up_on}
use Rattle.bodies.specs.Part.{part_checks}
use Rattle.pages.specs.Tally.{is_free, part_of_kind, set_up_checks, may_begin, post_answer}
use Rattle.pages.proofs.tally.Laws.{Free, is_free_lem, early, has_part}
use Rattle.pages.specs.declared.tally.Tally.{Tally}

-- ---- a set-up block

-- a part of the set-up is no posts
pub not_posts : {a : Answer Holds} (part : SetupPart) → a ≡ Ok (SetUp part) → a ≡ Ok Posts → ⊥
not_posts part e f = cc

pub record SetUpTaken (room : ℕ) (t : Tally) (kind : ℕ) (part : SetupPart) (count : ℕ) (body : List ℕ) : Type 0 where
  pub holds : holds_of kind ≡ Ok (SetUp part)
  pub rows : AllPass (part_checks t.outline part count body)
  pub not_yet : may_post t.outline ≡ false
  pub long : length body ≡ 500
  pub free : Free room t

pub set_up_taken : (p q : Page) (kind count : ℕ) (body : List ℕ) → set_up_on p kind count body ≡ Ok q
    → (part : SetupPart) × SetUpTaken (length p.bytes) p.draft.tally kind part count body × (q ≡ with_part p kind part count body)
unfolding set_up_on
set_up_taken p q kind count body e =
    let t : Tally = p.draft.tally in
    let room : ℕ = length p.bytes in
    let a = was_taken (part_of_kind kind) (λ part. checked (set_up_checks room t part count body) (with_part p kind part count body)) q e in
    let part = a.0 in
    let h = passed (set_up_checks room t part count body) (with_part p kind part count body) q a.2 in
    let both = pass_both (part_checks t.outline part count body) (check (is_free room t) NoRoom ∷ []) h.0 in
    let soon = early t.outline part count body both.0 in (
      part,
      record { holds = has_part kind part a.1; rows = both.0; not_yet = soon.0; long = soon.1; free = is_free_lem room t both.1.0 },
      h.1,
    )

-- ---- a post

-- a post in its layout is 48 bytes, and so is a well-formed one
pub laid_long : (o : Outline) (s : List ℕ) (r : Row) → laid_out o s ≡ Ok r → length s ≡ 48
unfolding laid_out checked
laid_long o s r e = grind (arith, nat_tests)

pub formed_long : (o : Outline) (s : List ℕ) → is_taken (well_formed o s) ≡ true → length s ≡ 48
unfolding well_formed laid_out checked
formed_long o s e = grind (arith, nat_tests)

pub record PostTaken (room : ℕ) (t : Tally) (s : List ℕ) : Type 0 where
  pub in_turn : may_post t.outline ≡ true
  pub formed : is_taken (well_formed t.outline s) ≡ true
  pub long : length s ≡ 48
  pub free : t.waiting ≡ 0 → Free room t

pub post_taken : (p q : Page) (s : List ℕ) → post_on p s ≡ Ok q → PostTaken (length p.bytes) p.draft.tally s × (q ≡ posted p s)
unfolding post_on post_answer checked
post_taken p q s e =
    let t : Tally = p.draft.tally in
    let room : ℕ = length p.bytes in
    let turn : may_post t.outline ≡ true = grind arith in
    let formed : is_taken (well_formed t.outline s) ≡ true = grind arith in
    let begins : may_begin room t ≡ true = grind arith in
    let is : q ≡ posted p s = grind arith in
    (record { in_turn = turn; formed = formed; long = formed_long t.outline s formed; free = λ z. is_free_lem room t (grind (arith, nat_tests)) }, is)
