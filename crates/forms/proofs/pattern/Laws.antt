-- Which patterns of 64 bits are finite: those that, without the sign, lie below 0x7ff0_0000_0000_0000. Assumes nothing.
use mathlib.Core.Path.{◌≡◌, refl, sym, ap, ◌∙◌, subst}
use mathlib.Core.Bool.{Bool, true, false, not, ◌&&◌, cond, true≢false, false≢true}
use Prim.Native.Nat.{ℕ, zero, suc, ◌+◌, ◌*◌, ◌%◌, ◌/◌, ◌≤◌, ◌<◌, ◌^◌}
use native.Mathlib.Nat.{mul-pos, zero-lt-suc}
use native.Mathlib.Omega.{arith}
use lib.IntN.{ℤ}
use lib.Dec.{T, eqb, leb, eqb-suc-zero}
use lib.Pow.{pow_pos}
use lib.Ieee.{Float, nan, inf, fin, binary64, up, down, odd, of_fields, of_bits, nan_bits, le, round}
use lib.Ieee.Exact.{HasValue, odd_sign}
use lib.Ieee.Fits.{down_pos}
use lib.Ieee.Positive.{first_pos}
use lib.Ieee.Bits.{nan_bits_above}
use Rattle.std.proofs.lemmas.Bool.Decides.{nat_tests}
use borrow.Author.Tests.{eq-eqb, ne_eqb, le-ltb}
use Rattle.forms.specs.Binary64.{whole, finite, value_of}
use Rattle.forms.specs.Pattern.{◌to◌, in_range}

digits_finite : (d : ℕ) (s : Bool) (q k l : ℕ) → finite (odd d s q k l) ≡ true
unfolding odd
digits_finite d s zero k l = refl
digits_finite d s (suc q) k l = refl

pick : (a b s : Bool) (v : Float) → finite v ≡ true → finite (cond a (cond b (inf s) nan) v) ≡ not a
pick a b s v h = grind arith

-- by the exponent's field
by_field : (s : Bool) (x t : ℕ) → finite (of_fields binary64 s x t) ≡ not (eqb x 2047)
unfolding of_fields
by_field s zero t = digits_finite 53 s t 0 1074
by_field s (suc x) t = pick (eqb (suc x) 2047) (eqb t 0) s (odd 53 s (2 ^ 52 + t) x 1074) (digits_finite 53 s (2 ^ 52 + t) x 1074)

by_pattern : (b : ℕ) → finite (value_of b) ≡ not (eqb (b % 2 ^ 63 / 2 ^ 52) 2047)
unfolding of_bits
by_pattern b = by_field (leb (2 ^ 63) b) (b % 2 ^ 63 / 2 ^ 52) (b % 2 ^ 52)

module _ (b : ℕ) where
  pub finite_below : b % 0x8000_0000_0000_0000 < 0x7ff0_0000_0000_0000 → finite (value_of b) ≡ true
  finite_below h = by_pattern b ∙ ap not (ne_eqb (b % 2 ^ 63 / 2 ^ 52) 2047 (λ (e : b % 2 ^ 63 / 2 ^ 52 ≡ 2047). omega arith))

  pub not_finite : b < 2 ^ 64 → 0x7ff0_0000_0000_0000 ≤ b % 0x8000_0000_0000_0000 → finite (value_of b) ≡ false
  not_finite f h = by_pattern b ∙ ap not (eq-eqb (b % 2 ^ 63 / 2 ^ 52) 2047 (omega arith))

  pub no_nan : b % 0x8000_0000_0000_0000 < 0x7ff0_0000_0000_0000 → T (not (nan_bits binary64 b))
  no_nan h =
      subst (λ (t : Bool). T (not t)) (sym (nan_bits_above binary64 b ∙ le-ltb (2047 * 2 ^ 52) (b % 2 ^ 63) (omega arith))) tt

pub ruleset finiteness = (finite_below, not_finite, no_nan)

-- ---- which patterns are zero: those of which nothing but the sign is set

-- the size of a value, by any fraction that it equals
size : (m : ℕ) (e : ℤ) (a l : ℕ) → m * up e * 2 ^ l ≡ a * down e → 0 < a → 0 < m * up e
size m e a l v A = first_pos (m * up e) (2 ^ l) (subst (λ (k : ℕ). 0 < k) (sym v) (mul-pos A (down_pos e)))

-- what is below zero, and what is above it
pub below_zero : (x : Float) (a l : ℕ) → HasValue x true a (2 ^ l) → 0 < a → le (whole 0) x ≡ false
unfolding le round
below_zero (fin false m e) a l v A = absurd (false≢true v.0)
below_zero (fin true m e) a l v A = rw (ne_eqb (0 * down e) (m * up e * 1) (λ (z : 0 * down e ≡ m * up e * 1). omega (arith, size m e a l v.1 A)))
below_zero nan a l v A = elim v [ ]
below_zero (inf _) a l v A = elim v [ ]

over_zero : (x : Float) (a l : ℕ) → HasValue x false a (2 ^ l) → 0 < a → le x (whole 0) ≡ false
unfolding le round
over_zero (fin true m e) a l v A = absurd (true≢false v.0)
over_zero (fin false m e) a l v A =
    rw (le-ltb (m * up e * 1) (0 * down e) (omega arith), ne_eqb (m * up e * 1) (0 * down e) (λ (z : m * up e * 1 ≡ 0 * down e). omega (arith, size m e a l v.1 A)))
over_zero nan a l v A = elim v [ ]
over_zero (inf _) a l v A = elim v [ ]

not_zero : (x : Float) (s : Bool) (a l : ℕ) → HasValue x s a (2 ^ l) → 0 < a → in_range (0 to 0) x ≡ false
unfolding in_range
not_zero x true a l v A = grind (arith, below_zero x a l v A)
not_zero x false a l v A = grind (arith, over_zero x a l v A)

digits_zero : (d : ℕ) (s : Bool) (q k l : ℕ) → in_range (0 to 0) (odd d s q k l) ≡ eqb q 0
unfolding odd le round in_range
digits_zero d true zero k l = refl
digits_zero d false zero k l = refl
digits_zero d s (suc q) k l = not_zero (odd d s (suc q) k l) s (suc q * 2 ^ k) l (odd_sign d s (suc q) k l) (mul-pos (zero-lt-suc q) (pow_pos k)) ∙ sym (eqb-suc-zero q)

fields_zero : (s : Bool) (x t : ℕ) → in_range (0 to 0) (of_fields binary64 s x t) ≡ eqb x 0 && eqb t 0
unfolding of_fields in_range
fields_zero s zero t = digits_zero 53 s t 0 1074
fields_zero s (suc x) t = go (eqb (suc x) 2047) (eqb t 0) ∙ ap (λ (a : Bool). a && eqb t 0) (sym (eqb-suc-zero x))
  where
    go : (a b : Bool) → in_range (0 to 0) (cond a (cond b (inf s) nan) (odd 53 s (2 ^ 52 + t) x 1074)) ≡ false
    go true true = refl
    go true false = refl
    go false b = digits_zero 53 s (2 ^ 52 + t) x 1074 ∙ ne_eqb (2 ^ 52 + t) 0 (λ (e : 2 ^ 52 + t ≡ 0). omega arith)

pub zero_pattern : (b : ℕ) → eqb (b % 2 ^ 63) 0 ≡ in_range (0 to 0) (value_of b)
unfolding of_bits
zero_pattern b =
    same (b % 2 ^ 63 / 2 ^ 52) (b % 2 ^ 52) (b % 2 ^ 63) (λ h k. omega arith) (λ h. omega arith) (λ h. omega arith)
    ∙ sym (fields_zero (leb (2 ^ 63) b) (b % 2 ^ 63 / 2 ^ 52) (b % 2 ^ 52))
  where
    same : (x t n : ℕ) → (x ≡ 0 → t ≡ 0 → n ≡ 0) → (n ≡ 0 → x ≡ 0) → (n ≡ 0 → t ≡ 0) → eqb n 0 ≡ eqb x 0 && eqb t 0
    same x t n f g h = grind (arith, nat_tests)
