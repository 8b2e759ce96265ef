-- The records of bytes, one by one. Assumes nothing.
use mathlib.Core.Path.{◌≡◌, refl, sym, ap, ◌∙◌}
use mathlib.Core.List.{List, [], ◌∷◌}
use Prim.Native.Nat.{ℕ, zero, suc, ◌≤◌, ◌<◌}
use native.Mathlib.Omega.{arith}
use native.Mathlib.Decide.{ℕ_discrete}
use borrow.Author.Tests.{eq-eqb, ne_eqb, le-leb, lt-leb}
use lib.ListN.{length, length-drop}
use Rattle.records.specs.Records.{Recorded, malformed, record_of, tag_of, span_of, bytes_of, first_of, rest_of, behind, records_to, records_in}

-- ---- the first record

pub first_short : (s : List ℕ) → length s < span_of s → first_of s ≡ malformed
unfolding first_of
first_short s h = rw (lt-leb (span_of s) (length s) h)

pub first_complete : (s : List ℕ) → span_of s ≤ length s → first_of s ≡ record_of (tag_of s) (bytes_of s)
unfolding first_of
first_complete s h = rw (le-leb (span_of s) (length s) h)

-- ---- the first record, and those of the rest

records_none : (n : ℕ) (s : List ℕ) → length s ≡ 0 → records_to n s ≡ []
unfolding records_to
records_none zero s e = refl
records_none (suc n) s e = rw (eq-eqb (length s) 0 e)

records_next : (n : ℕ) (s : List ℕ) → (length s ≡ 0 → ⊥) → records_to (suc n) s ≡ first_of s ∷ behind (first_of s) (records_to n (rest_of s))
unfolding records_to
records_next n s d = rw (ne_eqb (length s) 0 d)

-- a bound that is no less than the length makes no difference
enough : (n m : ℕ) (s : List ℕ) → length s ≤ n → length s ≤ m → records_to n s ≡ records_to m s
enough zero m s h g = records_none zero s (omega arith) ∙ sym (records_none m s (omega arith))
enough (suc n) zero s h g = records_none (suc n) s (omega arith) ∙ sym (records_none zero s (omega arith))
enough (suc n) (suc m) s h g = go (ℕ_discrete (length s) 0) (enough n m (rest_of s))
  where
    go : Dec (length s ≡ 0) → (length (rest_of s) ≤ n → length (rest_of s) ≤ m → records_to n (rest_of s) ≡ records_to m (rest_of s)) → records_to (suc n) s ≡ records_to (suc m) s
    go (yes e) rest = records_none (suc n) s e ∙ sym (records_none (suc m) s e)
    go (no d) rest =
        records_next n s d
        ∙ ap (λ (rs : List Recorded). first_of s ∷ behind (first_of s) rs) (rest (omega (arith, length-drop (span_of s) s)) (omega (arith, length-drop (span_of s) s)))
        ∙ sym (records_next m s d)

pub records_first : (s : List ℕ) → 0 < length s → records_in s ≡ first_of s ∷ behind (first_of s) (records_in (rest_of s))
records_first s h =
    enough (length s) (suc (length s)) s (omega arith) (omega arith)
    ∙ records_next (length s) s (λ e. omega arith)
    ∙ ap (λ (rs : List Recorded). first_of s ∷ behind (first_of s) rs) (enough (length s) (length (rest_of s)) (rest_of s) (omega (arith, length-drop (span_of s) s)) (omega arith))

pub records_end : (s : List ℕ) → length s ≡ 0 → records_in s ≡ []
records_end s e = records_none (length s) s e
