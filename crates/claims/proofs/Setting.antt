-- The set-up of a book is what the accepted set-up blocks say. Assumes nothing.
use mathlib.Core.Path.{◌≡◌, refl, sym, ap, ◌∙◌}
use mathlib.Core.Bool.{false}
use mathlib.Core.List.{List, [], ◌∷◌, ◌++◌}
use Prim.Native.Nat.{ℕ, ◌+◌, ◌*◌, ◌≤◌, ◌<◌}
use native.Mathlib.Omega.{arith}
use Rattle.std.proofs.lemmas.Bool.Decides.{nat_tests}
use Rattle.std.proofs.lemmas.Grind.{common_steps}
use Rattle.std.proofs.lemmas.List.Elements.{All-nil, All-tail, All-push, All-weaker}
use Rattle.std.specs.List.{All}
use lib.ListN.{length, get_or, drop, set}
use Rattle.encoding.specs.Each.{put_to}
use Rattle.amounts.specs.Decline.{value_or}
use Rattle.bodies.specs.Setup.{materials_in, numbers_in, classes_in, contents_in}
use Rattle.plant.specs.Setup.{no_rates, no_pair, no_stage, counted_all, setup_of, SoundSetup}
use Rattle.bodies.specs.Stage.{second_of, rate_row}
use Rattle.plant.specs.Stage.{stage_of, pair_row, with_stage}
use Rattle.plant.specs.declared.setup.Setup.{Setup}
use Rattle.encoding.proofs.Each.{put_at, put_other}
use Rattle.plant.proofs.stage.Laws as stage_laws
use Rattle.plant.proofs.setup.Taken.{same_at}
use Rattle.bodies.proofs.stage.Taken as stage
use Rattle.layout.specs.Frame.{count_of, body_of}
use Rattle.claims.specs.Weighing.{stage_in}

-- ---- the block of a stage

-- it names a stage below a number
abbrev pub Below : ℕ → List ℕ → Type 0
Below n s = count_of s < n

-- one block more, of the next stage, is the block of that stage
stage_new : (n : ℕ) (blocks : List (List ℕ)) (x : List ℕ) → count_of x ≡ n → All (Below n) blocks → stage_in n (blocks ++ (x ∷ [])) ≡ body_of x
unfolding stage_in
stage_new n [] x e h = grind (arith, nat_tests)
stage_new n (s ∷ blocks) x e h =
    let here : count_of s < n = h 0 s (omega arith) in
    grind (arith, nat_tests, stage_new n blocks x e (All-tail (Below n) s blocks h))

-- and of no other
stage_old : (n : ℕ) (blocks : List (List ℕ)) (x : List ℕ) → (count_of x ≡ n → ⊥) → stage_in n (blocks ++ (x ∷ [])) ≡ stage_in n blocks
unfolding stage_in
stage_old n [] x d = grind (arith, nat_tests)
stage_old n (s ∷ blocks) x d = grind (arith, nat_tests, stage_old n blocks x d)

stage_none : (n : ℕ) → stage_in n [] ≡ []
unfolding stage_in
stage_none n = refl

-- ---- of no bytes

-- the first case
no_case : value_or false (second_of 0) ≡ false
unfolding second_of
no_case = refl

-- no rates
no_row : (s : ℕ) → rate_row (drop 2 []) s ≡ no_rates
no_row s = sym (stage_laws.no_row (s * 17) [] (omega arith))

no_stage_row : stage_of [] ≡ no_stage
no_stage_row = rw no_case

no_pair_row : (s : ℕ) → pair_row (drop 2 []) s ≡ no_pair
no_pair_row s = rw (no_case, no_row s)

-- ---- a set-up by the bytes of its blocks

pub record SetBy (t : List ℕ) (stages : List (List ℕ)) (u : Setup) : Type 0 where
  pub some : 1 ≤ u.outline.substances
  pub substances : u.outline.substances ≡ count_of t
  pub materials : u.outline.materials ≡ materials_in (body_of t)
  pub numbers : u.numbers ≡ numbers_in (body_of t)
  pub classes : u.classes ≡ classes_in (body_of t)
  pub counted : u.counted ≡ counted_all (classes_in (body_of t)) (contents_in (body_of t))
  pub below : All (Below u.outline.described) stages
  pub goes : (k : ℕ) → k < 8 → get_or u.stages k no_stage ≡ stage_of (stage_in k stages)
  pub pairs : (k s : ℕ) → k < 8 → s < u.outline.substances → get_or u.pairs (k * 8 + s) no_pair ≡ pair_row (drop 2 (stage_in k stages)) s

-- the substances and materials, and no stage yet
pub set_by : (t : List ℕ) → 1 ≤ count_of t → SetBy t [] (setup_of (count_of t) (body_of t))
set_by t l =
    record {
      some = l;
      substances = refl;
      materials = refl;
      numbers = refl;
      classes = refl;
      counted = refl;
      below = All-nil (Below 0);
      goes = λ k h. same_at 8 k no_stage ∙ sym (ap stage_of (stage_none k) ∙ no_stage_row);
      pairs = λ k s h l. same_at 64 (k * 8 + s) no_pair ∙ sym (ap (λ (x : List ℕ). pair_row (drop 2 x) s) (stage_none k) ∙ no_pair_row s);
    }

-- one stage more
module _ (t x : List ℕ) (stages : List (List ℕ)) (u : Setup) (h : SetBy t stages u) (w : SoundSetup u) (a : stage.Accepts u.outline (count_of x) (body_of x)) where
  few : count_of x < 8
  few = omega (arith, a.next, a.left, w.stages_few)

  newest : stage_in (count_of x) (stages ++ (x ∷ [])) ≡ body_of x
  newest = stage_new (count_of x) stages x refl (rw a.next h.below)

  -- what is written at the stage's place is there, and the other places stand
  there : {A : Type 0} (case : List ℕ → A) (l : List A) (d : A) → length l ≡ 8 → ((k : ℕ) → k < 8 → get_or l k d ≡ case (stage_in k stages))
      → (k : ℕ) → k < 8 → get_or (set l (count_of x) (case (body_of x))) k d ≡ case (stage_in k (stages ++ (x ∷ [])))
  there case l d long before k hk = grind (arith, common_steps, few, before k hk, newest, stage_old k stages x)

  -- and so for the pairs of the stage
  module _ {A : Type 0} (row : List ℕ → ℕ → A) (l : List A) (d : A) (long : length l ≡ 64)
      (before : (k s : ℕ) → k < 8 → s < u.outline.substances → get_or l (k * 8 + s) d ≡ row (drop 2 (stage_in k stages)) s) where
    abbrev put : List A
    put = put_to (λ i. count_of x * 8 + i) (row (drop 2 (body_of x))) l u.outline.substances

    all_there : (k s : ℕ) → k < 8 → s < u.outline.substances → get_or put (k * 8 + s) d ≡ row (drop 2 (stage_in k (stages ++ (x ∷ [])))) s
    all_there k s hk hs =
        let small = w.substances_few in
        let place : ℕ → ℕ = λ i. count_of x * 8 + i in
        let written = put_at place (row (drop 2 (body_of x))) l u.outline.substances s d (λ i j q. omega arith) hs in
        let elsewhere = put_other place (row (drop 2 (body_of x))) l u.outline.substances (k * 8 + s) d in
        grind (arith, before k s hk hs, written, elsewhere, newest, stage_old k stages x)

  pub set_next : SetBy t (stages ++ (x ∷ [])) (with_stage u (count_of x) (body_of x))
  set_next =
      record {
        some = h.some;
        substances = h.substances;
        materials = h.materials;
        numbers = h.numbers;
        classes = h.classes;
        counted = h.counted;
        below =
            All-push (Below (count_of x + 1)) stages x
            (All-weaker (Below u.outline.described) (Below (count_of x + 1)) (λ s l. omega (arith, a.next)) stages h.below) (omega arith);
        goes = there stage_of u.stages no_stage w.stages_long h.goes;
        pairs = all_there pair_row u.pairs no_pair w.pairs_long h.pairs;
      }
