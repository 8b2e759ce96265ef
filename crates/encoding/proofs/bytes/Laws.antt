-- Numbers in bytes, one law for every width. Assumes nothing.
use mathlib.Core.Path.{◌≡◌, refl, sym, ap, ap₂, ◌∙◌}
use mathlib.Core.Bool.{true}
use mathlib.Core.List.{List, [], ◌∷◌}
use Prim.Native.Nat.{ℕ, zero, suc, ◌+◌, ◌*◌, ◌^◌, ◌≤◌, ◌<◌}
use native.Mathlib.Decide.{dec_lt}
use native.Mathlib.Numerals.{add-one}
use native.Mathlib.Nat.{zero-add, one-mul, suc-add, mul-zero, mul_comm, mul_assoc, pow-succ'}
use Rattle.std.specs.Array.{IsFirstChunk}
use Rattle.std.specs.Int.{byte_worth, sum_through}
use native.Mathlib.Omega.{arith}
use lib.Dec.{leb}
use borrow.Author.Tests.{leb-true}
use lib.ListN.{length, replicate, get_or, drop, drop_of_length-le, get_or-eq_default}
use lib.Seq.{drop-cons, length-take-le, ext_get_or, get_or-take}
use Rattle.encoding.specs.Bytes.{le, first_bytes, all_zero, within}
use Rattle.std.proofs.lemmas.Bool.{and_parts}
use Rattle.encoding.proofs.Each.{length_list, list_at}

le_nil : (n : ℕ) → le n [] ≡ 0
unfolding le
le_nil zero = refl
le_nil (suc n) = refl

-- past the end
le_out : (n at : ℕ) (s : List ℕ) → length s ≤ at → le n (drop at s) ≡ 0
le_out n at s h = rw (drop_of_length-le s h) (le_nil n)

-- n bytes hold a number below 256 ^ n
pub le_small : (n : ℕ) (s : List ℕ) → ((i : ℕ) → get_or s i 0 < 256) → le n s < 256 ^ n
unfolding le
le_small zero s h = omega arith
le_small (suc n) [] h = let ih = le_small n [] h in rw pow-succ' (omega arith)
le_small (suc n) (x ∷ s) h = let ih = le_small n s (λ i. h (suc i)) in rw pow-succ' (omega (arith, h 0))

-- a number of m + n bytes: the low m, and the high n times 256 ^ m
split : (m n : ℕ) (s : List ℕ) → le (m + n) s ≡ le m s + 256 ^ m * le n (drop m s)
unfolding le
split zero n s = simp (zero-add, one-mul)
split (suc m) n [] = simp (le_nil, mul-zero, zero-add)
split (suc m) n (x ∷ s) = let ih = split m n s in rw (suc-add, pow-succ', mul_assoc) (omega arith)

pub one : (at : ℕ) (s : List ℕ) → le 1 (drop at s) ≡ get_or s at 0
unfolding le
one at s = go (dec_lt at (length s))
  where
    go : Dec (at < length s) → le 1 (drop at s) ≡ get_or s at 0
    go (yes h) = rw (drop-cons s at 0) (omega arith)
    go (no h) = le_out 1 at s (omega arith) ∙ sym (get_or-eq_default s 0 (omega arith))

le_more : (n : ℕ) (s : List ℕ) → le (suc (suc n)) s ≡ le (suc n) s + get_or s (suc n) 0 * 256 ^ suc n
le_more n s = rw (← add-one (suc n), split (suc n) 1 s, one (suc n) s, mul_comm (256 ^ suc n)) refl

-- n + 1 bytes, told one by one
pub le_worths : (n : ℕ) (s : List ℕ) → le (suc n) s ≡ sum_through (λ i. byte_worth i (get_or s i 0)) n
le_worths zero s = one 0 s
le_worths (suc n) s = le_more n s ∙ ap (λ m. m + get_or s (suc n) 0 * 256 ^ suc n) (le_worths n s)

through_same : (n : ℕ) (f g : ℕ → ℕ) → ((i : ℕ) → i ≤ n → f i ≡ g i) → sum_through f n ≡ sum_through g n
through_same zero f g h = h 0 (omega arith)
through_same (suc n) f g h = ap₂ (λ (x y : ℕ). x + y) (through_same n f g (λ i l. h i (omega arith))) (h (suc n) (omega arith))

-- what `from_le_bytes` reads of them
pub told : (n : ℕ) (s bs : List ℕ) → bs ≡ first_bytes (suc n) s → sum_through (λ i. byte_worth i (get_or bs i 0)) n ≡ le (suc n) s
told n s bs e =
    through_same n (λ i. byte_worth i (get_or bs i 0)) (λ i. byte_worth i (get_or s i 0))
    (λ i l. ap (byte_worth i) (ap (λ (x : List ℕ). get_or x i 0) e ∙ list_at (suc n) (λ k. get_or s k 0) i 0 (omega arith)))
    ∙ sym (le_worths n s)

-- what `first_chunk` gives of them
pub chunk_is : (s bs : List ℕ) (n : ℕ) → IsFirstChunk s bs n → bs ≡ first_bytes n s
chunk_is s bs n h =
    ext_get_or 0 bs (first_bytes n s) (omega (arith, ap length h.same, length-take-le n s h.enough, length_list n (λ i. get_or s i 0)))
    (λ i l.
    let below : i < n = omega (arith, ap length h.same, length-take-le n s h.enough) in
    ap (λ (x : List ℕ). get_or x i 0) h.same ∙ get_or-take n s i 0 below ∙ sym (list_at n (λ k. get_or s k 0) i 0 below))

-- zeros are zero
pub zeros_zero : (n : ℕ) → all_zero (replicate n 0) ≡ true
zeros_zero zero = refl
zeros_zero (suc n) = zeros_zero n

pub within_true : (low high n : ℕ) → within low high n ≡ true → (low ≤ n) × (n ≤ high)
within_true low high n e = let h = and_parts (leb low n) (leb n high) e in (leb-true low n h.0, leb-true n high h.1)
