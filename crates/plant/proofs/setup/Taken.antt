-- What is true of the fresh set-up, and of what a kind 1 block that is taken leaves. Assumes nothing.
use mathlib.Core.Path.{◌≡◌, refl}
use mathlib.Core.Bool.{Bool, true, false, cond}
use mathlib.Core.List.{List, [], ◌∷◌}
use Prim.Native.Nat.{ℕ, zero, suc, ◌%◌, ◌≤◌}
use native.Mathlib.Omega.{arith}
use lib.Dec.{leb}
use lib.ListN.{get_or, replicate, length-replicate}
use borrow.Author.Tests.{leb-true}
use Rattle.amounts.specs.Class.{class_of}
use Rattle.amounts.specs.declared.class.Class.{Class}
use Rattle.amounts.specs.Content.{is_ppm, counted_from, counts, counted_of}
use Rattle.std.specs.Prelude.{Ok, Err}
use Rattle.amounts.specs.Decline.{Answer, check, checked, on_taken, value_or}
use Rattle.amounts.specs.declared.decline.Decline.TheVariants.{Layout}
use Rattle.bodies.specs.Setup.{classes_in, contents_in}
use Rattle.plant.specs.Setup.{no_rates, no_pair, no_stage, counted_all, fresh_setup, setup_of, Rated, SoundSetup}
use Rattle.layout.specs.declared.outline.Outline.{Outline}
use Rattle.encoding.proofs.Each.{list_keeps}
use Rattle.bodies.proofs.setup.Taken.{Accepts}

-- each place of a list of one value has it
pub same_at : {A : Type 0} (n i : ℕ) (a : A) → get_or (replicate n a) i a ≡ a
same_at zero i a = refl
same_at (suc n) zero a = refl
same_at (suc n) (suc i) a = same_at n i a

pub no_rates_rated : Rated no_rates
no_rates_rated =
    record { gas = (omega arith, omega arith); water = (omega arith, omega arith) }

pub none_rated : (n pair : ℕ) → Rated (get_or (replicate n no_pair) pair no_pair).rates
none_rated n pair = rw (same_at n pair no_pair) no_rates_rated

pub fresh_sound : SoundSetup fresh_setup
fresh_sound =
    record {
      substances_few = omega arith;
      materials_few = omega arith;
      stages_few = omega arith;
      described_few = omega arith;
      stages_later = λ e. refl;
      counted_small = λ i. omega (arith, same_at {A = ℕ} 96 i 0);
      rated = none_rated 64;
      pairs_long = length-replicate 64 no_pair;
      stages_long = length-replicate 8 no_stage;
    }

-- a content that counts is at most the whole
counted_le : (class ppm : ℕ) → value_or 0 (counted_of class ppm) ≤ 1000000
unfolding counted_of checked
counted_le class ppm = by (class_of class)
  where
    go : (t u : Bool) → leb ppm 1000000 ≡ t → value_or 0 (checked (check t Layout ∷ []) (cond u ppm 0)) ≤ 1000000
    go false u e = omega arith
    go true true e = leb-true ppm 1000000 e
    go true false e = omega arith

    by : (x : Answer Class) → value_or 0 (on_taken x (λ c. checked (check (is_ppm ppm) Layout ∷ []) (counts c ppm))) ≤ 1000000
    by (Ok c) = go (leb ppm 1000000) (leb (counted_from c) ppm) refl
    by (Err d) = omega arith

counted_all_le : (classes contents : List ℕ) (i : ℕ) → get_or (counted_all classes contents) i 0 ≤ 1000000
counted_all_le classes contents =
    list_keeps (λ n. n ≤ 1000000) 96 (λ k. value_or 0 (counted_of (get_or classes (k % 8) 0) (get_or contents k 0))) 0 (omega arith)
    (λ k h. counted_le (get_or classes (k % 8) 0) (get_or contents k 0))

pub sound_set_up : (o : Outline) (count : ℕ) (body : List ℕ) → Accepts o count body → SoundSetup (setup_of count body)
sound_set_up o count body a =
    record {
      substances_few = a.substances.1;
      materials_few = a.materials;
      stages_few = a.stages;
      described_few = omega arith;
      stages_later = λ e. absurd (omega (arith, a.substances.0));
      counted_small = counted_all_le (classes_in body) (contents_in body);
      rated = none_rated 64;
      pairs_long = length-replicate 64 no_pair;
      stages_long = length-replicate 8 no_stage;
    }
