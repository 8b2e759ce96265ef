-- Reading a set-up's numbers. Assumes nothing.
use mathlib.Core.Path.{◌≡◌, refl, sym, ap, ◌∙◌}
use mathlib.Core.List.{List}
use Prim.Native.Nat.{ℕ, zero, suc, ◌+◌, ◌*◌, ◌%◌, ◌<◌}
use native.Mathlib.Omega.{arith}
use lib.ListN.{drop, get_or}
use lib.Seq.{drop-drop}
use denote.Param.Members.{Mut}
use Rattle.std.specs.Array.{IsFromFnResult}
use Rattle.std.specs.Prelude.{Ok, Err}
use Rattle.amounts.specs.Content.{counted_of}
use Rattle.amounts.specs.Decline.{checked, value_or}
use Rattle.amounts.specs.declared.decline.Decline.{Decline}
use Rattle.amounts.proofs.decline.Laws.{accepts, declines}
use Rattle.encoding.specs.Bytes.{le, les}
use Rattle.encoding.specs.Each.{list_to}
use Rattle.encoding.proofs.Each.{list_made, list_at}
use Rattle.bodies.specs.Setup.{contents_in, setup_checks}
use Rattle.plant.specs.Setup.{counted_all, setup_of, set_up_on}
use Rattle.plant.specs.declared.setup.Setup.{Setup}
use Rattle.bodies.proofs.Ranges.{Computes}

-- ---- numbers of w bytes, one after the other from a place of s on, read into an array

module _ (w at : ℕ) (s : List ℕ) {F : Type 0} {g : Mut F (ℕ × Unit {0}) ℕ} (p : F) (pure : Computes g p (λ i. le w (drop (at + i * w) s))) where
  pub les_made : (xs : List ℕ) (n : ℕ) → IsFromFnResult g p xs n → xs ≡ les w n (drop at s)
  les_made xs n h =
      list_made g p (λ i. le w (drop (i * w) (drop at s)))
      (λ i y q called. let z = pure i y q called in (z.0, z.1 ∙ ap (λ (l : List ℕ). le w l) (sym (drop-drop (i * w) at s)))) xs n h

-- ---- the contents as they count

list_same : {A : Type 0} (n : ℕ) (f g : ℕ → A) → ((i : ℕ) → i < n → f i ≡ g i) → list_to n f ≡ list_to n g
unfolding list_to
list_same zero f g h = refl
list_same (suc n) f g h = rw (list_same n f g (λ i l. h i (omega arith)), h n (omega arith))

-- read one by one they are those of the list that is read
pub counted_told : (classes body : List ℕ) → list_to 96 (λ i. value_or 0 (counted_of (get_or classes (i % 8) 0) (le 4 (drop (26 + i * 4) body)))) ≡ counted_all classes (contents_in body)
counted_told classes body =
    list_same 96 _ _ (λ i l.
    let there : get_or (contents_in body) i 0 ≡ le 4 (drop (26 + i * 4) body) =
    list_at 96 (λ k. le 4 (drop (k * 4) (drop 26 body))) i 0 l ∙ ap (λ (s : List ℕ). le 4 s) (drop-drop (i * 4) 26 body) in
    ap (λ n. value_or 0 (counted_of (get_or classes (i % 8) 0) n)) (sym there))

-- ---- a kind 1 block by the verdict of its checks

module _ (u : Setup) (count : ℕ) (body : List ℕ) where
  pub set_up_declined : (d : Decline) → Err d ≡ checked (setup_checks u.outline count body) (tt {0}) → set_up_on u count body ≡ Err d
  unfolding set_up_on
  set_up_declined d e = declines (tt {0}) (setup_of count body) (setup_checks u.outline count body) d e

  pub set_up_taken : {t : Unit} → Ok t ≡ checked (setup_checks u.outline count body) (tt {0}) → set_up_on u count body ≡ Ok (setup_of count body)
  unfolding set_up_on
  set_up_taken e = accepts (tt {0}) (setup_of count body) (setup_checks u.outline count body) e
