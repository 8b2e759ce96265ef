-- A binary search of the code's rows by their numbers, which rise, finds what the definition does. Assumes nothing.
use Rattle.std.proofs.Common.{◌≡◌, ◌≢◌, ℕ, zero, suc, ◌<◌, ◌≤◌, get_or, Ok, Err, Less, Equal, Greater, zero-le, sym, refl, subst, arith, ne_eqb, inl, inr, lit<}
use lib.Ieee.{of_bits, round}
use Rattle.std.specs.List.{AllAdjacentBelow, HoldsAt}
use Rattle.std.specs.List.Sorted.{IsPartitionPoint, IsNonDecreasingBy}
use Rattle.std.specs.Ordering.{nat_cmp, ordering_index}
use Rattle.std.proofs.lemmas.Bool.{cases_lt}
use Rattle.std.proofs.lemmas.Bool.Decides.{nat_tests}
use Rattle.std.proofs.lemmas.Cmp.{ranked}
use Rattle.std.proofs.lemmas.List.Sorted.{IsNonDecreasingBy-from_all_adjacent}
use Rattle.amounts.specs.declared.decline.Decline.TheVariants.{NoRow}
use Rattle.losses.specs.Coefficient.{entry, rows, row_of}
use Rattle.forms.specs.Binary64.{decimal}
use Rattle.losses.specs.declared.coefficient.TheConstants.{ROWS}
use Rattle.losses.specs.declared.coefficient.Entry.{Entry}

module _ (n : ℕ) where
  -- the comparisons with n rise along the rows
  rise : AllAdjacentBelow (λ (x y : Entry). ordering_index (nat_cmp x.number n) ≤ ordering_index (nat_cmp y.number n)) ROWS 5
  rise zero d h = grind (arith, nat_tests)
  rise (suc zero) d h = grind (arith, nat_tests)
  rise (suc (suc zero)) d h = grind (arith, nat_tests)
  rise (suc (suc (suc zero))) d h = grind (arith, nat_tests)
  rise (suc (suc (suc (suc k)))) d h = absurd (omega (arith, h))

  -- a place that has the number has its row
  hit : (i : ℕ) (d : Entry) → i < 5 → (get_or ROWS i d).number ≡ n → row_of n ≡ Ok (get_or ROWS i d).row
  unfolding row_of rows of_bits round
  hit zero d h e = subst (λ (m : ℕ). row_of m ≡ Ok (get_or ROWS 0 d).row) e refl
  hit (suc zero) d h e = subst (λ (m : ℕ). row_of m ≡ Ok (get_or ROWS 1 d).row) e refl
  hit (suc (suc zero)) d h e = subst (λ (m : ℕ). row_of m ≡ Ok (get_or ROWS 2 d).row) e refl
  hit (suc (suc (suc zero))) d h e = subst (λ (m : ℕ). row_of m ≡ Ok (get_or ROWS 3 d).row) e refl
  hit (suc (suc (suc (suc zero)))) d h e = subst (λ (m : ℕ). row_of m ≡ Ok (get_or ROWS 4 d).row) e refl
  hit (suc (suc (suc (suc (suc k))))) d h e = absurd (omega (arith, h))

  -- a number that no row has
  none : (d : Entry) → ((i : ℕ) → i < 5 → (get_or ROWS i d).number ≢ n) → row_of n ≡ Err NoRow
  unfolding row_of rows
  none d differs =
      rw (
        ne_eqb 53 n (differs 0 (lit< tt)),
        ne_eqb 80 n (differs 1 (lit< tt)),
        ne_eqb 300 n (differs 2 (lit< tt)),
        ne_eqb 392 n (differs 3 (lit< tt)),
        ne_eqb 400 n (differs 4 (lit< tt)),
      )

  -- where it finds a row, that is the number's
  pub found : (i : ℕ) (d : Entry) → i < 5 → HoldsAt (λ (e : Entry). nat_cmp e.number n ≡ Equal) ROWS i → row_of n ≡ Ok (get_or ROWS i d).row
  found i d inside equal = hit i d inside (ranked (get_or ROWS i d).number n Equal (sym (equal d)))

  -- where it finds none, each row's number is below n or above
  pub missed : (i : ℕ) → (IsNonDecreasingBy (λ (e : Entry). ordering_index (nat_cmp e.number n)) ROWS
      → IsPartitionPoint (λ (e : Entry). nat_cmp e.number n ≡ Less) (λ (e : Entry). nat_cmp e.number n ≡ Greater) ROWS i) → row_of n ≡ Err NoRow
  missed i parted = none d differs
    where
      d : Entry
      d = entry 0 (decimal 0 1) (decimal 0 1)

      split : IsPartitionPoint (λ (e : Entry). nat_cmp e.number n ≡ Less) (λ (e : Entry). nat_cmp e.number n ≡ Greater) ROWS i
      split = parted (IsNonDecreasingBy-from_all_adjacent (λ (e : Entry). ordering_index (nat_cmp e.number n)) ROWS rise)

      differs : (k : ℕ) → k < 5 → (get_or ROWS k d).number ≢ n
      differs k h same = elim (cases_lt k i) [
        | inl below ↦ omega (arith, same, ranked (get_or ROWS k d).number n Less (sym (split.0 k d zero-le below)))
        | inr after ↦ omega (arith, same, ranked (get_or ROWS k d).number n Greater (sym (split.1 k d after h)))
      ]
