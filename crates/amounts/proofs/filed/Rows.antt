-- A search of the code's bounds, which rise, finds the case that the definition does. Assumes nothing.
use Rattle.std.proofs.Common.{◌≡◌, ℕ, zero, suc, ◌+◌, ◌<◌, ◌≤◌, Bool, true, false, List, [], ◌∷◌, length, get_or, leb}
use Rattle.std.proofs.Common.{refl, sym, ap, ◌∙◌, arith}
use borrow.Author.Tests.{le-leb}
use Rattle.std.specs.List.{AllAdjacentBelow}
use Rattle.std.specs.List.Sorted.{IsPartitionPoint, IsPartitionedBy}
use Rattle.std.proofs.lemmas.List.Sorted.{IsNonDecreasingBy-from_all_adjacent, IsPartitionedBy-leb}
use Rattle.amounts.specs.Filed.{Row, ◌steps◌, rows, case_in, case_of}
use Rattle.amounts.specs.declared.filed.Case.{Case}
use Rattle.amounts.specs.declared.filed.TheConstants.{BOUNDS, STEPS}

-- bounds and their steps as rows of the definition
unfoldable pub paired : List ℕ → List ℕ → List Row
paired [] ss = []
paired (b ∷ bs) [] = []
paired (b ∷ bs) (s ∷ ss) = b steps s ∷ paired bs ss

-- what the code has of the rows: the first holds from 0
abbrev pub coded : List Row
coded = paired (0 ∷ BOUNDS) STEPS

-- the case that is last reached where i of the bounds are, numbered on from n
abbrev after : ℕ → Case → List ℕ → ℕ → ℕ → Case
after n last ss zero d = last
after n last ss (suc i) d = record { number = n + i; step = get_or ss i d }

module _ (a : ℕ) where
  abbrev pub reached : ℕ → Bool
  reached b = leb b a

  in_rows : (n : ℕ) (last : Case) (bs ss : List ℕ) (i d : ℕ) → i ≤ length bs → length bs ≤ length ss
      → ((k : ℕ) → k < i → reached (get_or bs k 0) ≡ true) → ((k : ℕ) → i ≤ k → k < length bs → reached (get_or bs k 0) ≡ false)
      → case_in n last (paired bs ss) a ≡ after n last ss i d
  unfolding case_in paired
  in_rows n last [] ss zero d h m before behind = refl
  in_rows n last [] ss (suc i) d h m before behind = absurd (omega (arith, h))
  in_rows n last (b ∷ bs) [] i d h m before behind = absurd (omega (arith, m))
  in_rows n last (b ∷ bs) (s ∷ ss) zero d h m before behind = rw (behind 0 (omega arith) (omega arith))
  in_rows n last (b ∷ bs) (s ∷ ss) (suc i) d h m before behind =
      rw (before 0 (omega arith)) (
      in_rows (suc n) (record { number = n; step = s }) bs ss i d (omega (arith, h)) (omega (arith, m)) (λ k l. before (suc k) (omega (arith, l)))
      (λ k l m. behind (suc k) (omega (arith, l)) (omega (arith, m)))
      ∙ next i)
    where
      next : (i : ℕ) → after (suc n) (record { number = n; step = s }) ss i d ≡ after n last (s ∷ ss) (suc i) d
      next zero = grind arith
      next (suc i) = grind arith

  rise : AllAdjacentBelow (λ (x y : ℕ). x ≤ y) BOUNDS 10
  rise zero d h = omega arith
  rise (suc zero) d h = omega arith
  rise (suc (suc zero)) d h = omega arith
  rise (suc (suc (suc zero))) d h = omega arith
  rise (suc (suc (suc (suc zero)))) d h = omega arith
  rise (suc (suc (suc (suc (suc zero))))) d h = omega arith
  rise (suc (suc (suc (suc (suc (suc zero)))))) d h = omega arith
  rise (suc (suc (suc (suc (suc (suc (suc zero))))))) d h = omega arith
  rise (suc (suc (suc (suc (suc (suc (suc (suc zero)))))))) d h = omega arith
  rise (suc (suc (suc (suc (suc (suc (suc (suc (suc k))))))))) d h = absurd (omega (arith, h))

  -- the bounds that an amount reaches stand before those that it does not
  pub parted : IsPartitionedBy reached BOUNDS
  parted = IsPartitionedBy-leb (λ (b : ℕ). b) BOUNDS a (IsNonDecreasingBy-from_all_adjacent (λ (b : ℕ). b) BOUNDS rise)

  abbrev Point : ℕ → Type 0
  Point i = IsPartitionPoint (λ (b : ℕ). reached b ≡ true) (λ (b : ℕ). reached b ≡ false) BOUNDS i

  -- so where the rows are the definition's, the last that is reached has the case
  pub found : rows ≡ coded → (i d : ℕ) → i ≤ 10 → Point i → record { number = i; step = get_or STEPS i d } ≡ case_of a
  unfolding case_of
  found same i d h point =
      let first : 0 + i ≡ i = omega arith in
      let there = in_rows 0 (record { number = 0; step = 0 }) (0 ∷ BOUNDS) STEPS (suc i) d (omega (arith, h)) (omega arith) before behind in
      let by_definition = ap (λ (table : List Row). case_in 0 (record { number = 0; step = 0 }) table a) same in
      sym (by_definition ∙ rw first at there)
    where
      before : (k : ℕ) → k < suc i → reached (get_or (0 ∷ BOUNDS) k 0) ≡ true
      before zero l = le-leb 0 a (omega arith)
      before (suc k) l = point.0 k 0 (omega arith) (omega (arith, l))

      behind : (k : ℕ) → suc i ≤ k → k < 11 → reached (get_or (0 ∷ BOUNDS) k 0) ≡ false
      behind zero l m = absurd (omega (arith, l))
      behind (suc k) l m = point.1 k 0 (omega (arith, l)) (omega (arith, m))
