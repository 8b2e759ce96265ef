-- What a chain over the numbers 0 .. n - 1 gives, for a closure without a state of its own. Assumes nothing.
use mathlib.Core.Path.{◌≡◌, refl, sym, ap, ◌∙◌}
use mathlib.Core.Bool.{Bool, true, false}
use mathlib.Core.List.{List, map-id}
use Prim.Native.Nat.{ℕ, zero, suc, ◌+◌, ◌<◌}
use native.Mathlib.Numerals.{add-one}
use native.Mathlib.Omega.{arith}
use lib.ListN.{length, get_or}
use denote.Param.Members.{Mut}
use Rattle.std.specs.Prelude.{Option, MatchOption, MatchBool, HoldsAt, map}
use Rattle.std.specs.List.{range_with_len, AllWithin, FoldsTo, fold, sum_by}
use Rattle.std.specs.Iterator.{YieldsThen, Drains}
use Rattle.std.specs.Iterator.Runs.{EachRunFrom}
use Rattle.std.specs.Iterator.Adapters.{map_source, map_callee}
use Rattle.std.specs.declared.iter.Map.{Map}
use Rattle.std.specs.Fn.{Called}
use Rattle.std.specs.declared.ops.Range.{Range}
use Rattle.std.proofs.iter.Yields.{nat_range_steps}
use Rattle.std.proofs.lemmas.Iterator.{YieldsList, maps, YieldsList-from_range, YieldsList-from_map, cases_from_all}
use Rattle.std.proofs.lemmas.Iterator.Consumers.{sum_by_from_yields_List, fits_by_from_yields_list}
use Rattle.std.proofs.lemmas.List.FromFn.{length-range_with_len, get_or-range_with_len, sum_by-map-range_with_len_more}
use Rattle.encoding.specs.Each.{sum_to, all_to}
use Rattle.encoding.proofs.Each.{all_fails}

each_holds : (n : ℕ) (f : ℕ → Bool) → ((i : ℕ) → i < n → f i ≡ true) → all_to n f ≡ true
unfolding all_to
each_holds zero f h = refl
each_holds (suc n) f h = rw (each_holds n f (λ i l. h i (omega arith)), h n (omega arith))

-- a call at a number leaves the closure as it was, and gives f of the number
abbrev pub Computes : {F A : Type 0} → Mut F (ℕ × Unit {0}) A → F → (ℕ → A) → Type 0
Computes {F} {A} g p f = (i : ℕ) (y : A) (q : F) → Called g p (i, tt) y q → (q ≡ p) × (y ≡ f i)

-- ---- what `all` gives

module _ {F : Type 0} {g : Mut F (ℕ × Unit {0}) Bool} (p : F) (f : ℕ → Bool) (n : ℕ) (pure : Computes g p f) where
  abbrev all : List ℕ
  all = range_with_len 0 n

  at : (i : ℕ) → i < n → get_or (range_with_len 0 n) i 0 ≡ i
  at i l = omega (arith, get_or-range_with_len 0 n i 0 l)

  told : (r : Bool) → MatchBool r (AllWithin (λ i. f i ≡ true) all 0 (length all)) ((k : ℕ) × (k < length all) × HoldsAt (λ i. f i ≡ false) all k) → r ≡ all_to n f
  told true h = sym (each_holds n f (λ i l. ap f (sym (at i l)) ∙ h i 0 (omega arith) (omega (arith, length-range_with_len 0 n))))
  told false (k, l, h) = let m : k < n = omega (arith, length-range_with_len 0 n) in all_fails n f k m (ap f (sym (at k m)) ∙ h 0)

  pub all_told : {end : ℕ} {u : Range ℕ} (r : Bool) → end ≡ n
      → (xs : List ℕ) × (o : Option ℕ) × (j : F) × YieldsThen nat_range_steps (record { start = 0; end = end }) xs o u
      × FoldsTo (λ p x q. Called g p (x, tt) true q) p xs j × MatchOption o (r ≡ true) (λ x. (r ≡ false) × ((h : F) × Called g j (x, tt) false h))
      → r ≡ all_to n f
  all_told {end} {u} r e ran =
      told r
      (cases_from_all u p r (λ i. f i ≡ true) (λ i. f i ≡ false) ran (YieldsList-from_range 0 end n refl (omega arith))
      (λ i q k. let w = pure i true q k in (w.0, sym w.1))
      (λ i q k. sym (pure i false q k).1))

-- ---- what `sum` after `map` gives

range_sum : (n : ℕ) (f : ℕ → ℕ) → sum_by f (range_with_len 0 n) ≡ sum_to n f
unfolding sum_to
range_sum zero f = refl
range_sum (suc n) f =
    let more = sum_by-map-range_with_len_more f (λ (i : ℕ). i) 0 n n (omega arith) in
    let last : sum_by f (range_with_len 0 (n + 1)) ≡ sum_by f (range_with_len 0 n) + f n = rw (map-id (range_with_len 0 (n + 1)), map-id (range_with_len 0 n)) at more in
    rw add-one at last ∙ ap (λ k. k + f n) (range_sum n f)

module _ {F : Type 0} {g : Mut F (ℕ × Unit {0}) ℕ} (p : F) (f : ℕ → ℕ) (n : ℕ) (pure : Computes g p f) {s : Map (Range ℕ) F}
    (source : map_source s ≡ record { start = 0; end = n }) (callee : map_callee s ≡ p) where
  listed : YieldsList (maps nat_range_steps g) (λ x. x) s (map f (range_with_len 0 n))
  listed = YieldsList-from_map g f (YieldsList-from_range 0 n n source (omega arith)) callee pure

  pub sum_fits : (top : ℕ) → sum_to n f < top → EachRunFrom (maps nat_range_steps g) s (λ p. fold (λ a x. a + x) 0 p.items < top)
  sum_fits top l = fits_by_from_yields_list f (range_with_len 0 n) s top listed (omega (arith, range_sum n f))

  pub sum_told : (r : ℕ) → (xs : List ℕ) × (Unit {0} → Drains (maps nat_range_steps g) s xs) × (r ≡ fold (λ a x. a + x) 0 xs) → r ≡ sum_to n f
  sum_told r ran = sum_by_from_yields_List f (range_with_len 0 n) s r ran listed ∙ range_sum n f
