-- The whole part of a float by the fields of its pattern: its shifted digits below 2 ^ 64, and the largest number of 64 bits from there on. From 1 on std has the laws. Assumes nothing.
use Rattle.std.proofs.Common.{◌≡◌, ℕ, zero, suc, ◌+◌, ◌-◌, ◌*◌, ◌/◌, ◌%◌, ◌^◌, ◌<◌, ◌≤◌, min, Bool, true, false, cond, not, T, eqb, leb, ◌⊎◌, sym}
use Rattle.std.proofs.Common.{refl, ap, ◌∙◌, subst, inl, inr, zero-le, le_trans, le_of_eq, lt_of_lt_of_le, le-add_right, mod-lt, mod-eq_of_lt, mul-le-mul, one-mul, lt_of_not-le}
use Rattle.std.proofs.Common.{le-div_iff_mul-le, zero-mul, mul-one, arith, lit<, nltb→le, T_not, pow_pos, pow_mono, pow-add}
use mathlib.Core.Bool.{false≢true}
use native.Mathlib.Nat.{div-eq_of_lt}
use lib.Pow.{field}
use lib.Bits.{bit_and, bit_or, and_mask, or_shifted_r}
use lib.Ieee.{Float, nan, inf, fin, binary64, of_fields, of_bits, to_bits, odd, up, down, fits, le, lt, eq, round, to_unsigned}
use lib.Ieee.Exact.{HasValue, odd_sign}
use lib.Ieee.Bits.{of_bits-to_bits}
use lib.Ieee.Fits.{down_pos}
use lib.Ieee.Order.{le_of_values}
use Rattle.forms.specs.Binary64.{whole}
use Rattle.std.specs.Prelude.{nat_lt, if◌then◌else◌}
use Rattle.std.proofs.lemmas.Bool.Decides.{nat_tests}
use Rattle.losses.specs.Whole.{whole_part}
use Rattle.forms.proofs.pattern.Laws.{below_zero}
use Rattle.std.proofs.num.Truncating.{one, two_to, up_by, cut_down, cut_up, below_one}

-- the code's 0 and 2 ^ 64, by their bit patterns
abbrev nought : Float
nought = of_bits binary64 0

abbrev limit : Float
limit = of_bits binary64 0x43f0_0000_0000_0000

nought_is : nought ≡ whole 0
unfolding of_bits round
nought_is = refl

limit_is : limit ≡ two_to 64
unfolding of_bits
limit_is = refl

yes : {b : Bool} → b ≡ true → T b
yes h = subst T (sym h) tt

no : {b : Bool} → b ≡ false → T (not b)
no h = subst (λ (a : Bool). T (not a)) (sym h) tt

-- ---- below 0, and from 2 ^ 64 on

pub negative : (x : Float) → le nought x ≡ false → 0 ≡ whole_part x
unfolding le of_bits to_unsigned
negative nan h = refl
negative (inf true) h = refl
negative (inf false) h = absurd (no h)
negative (fin true m e) h = refl
negative (fin false m e) h =
    absurd (T_not (le nought (fin false m e)) (no h) (le_of_values nought (fin false m e) 0 1 (m * up e) (down e) (lit< tt) (down_pos e) (refl, refl) (refl, refl) (rw zero-mul zero-le)))

capped : (q : ℕ) → 18446744073709551616 ≤ q → 18446744073709551615 ≡ min q 18446744073709551615
capped q h = omega arith

tidy : (n d : ℕ) → 18446744073709551616 * d ≤ n * 1 → 18446744073709551616 * d ≤ n
tidy n d h = omega arith

pub saturated : (x : Float) → le nought x ≡ true → lt x limit ≡ false → 18446744073709551615 ≡ whole_part x
unfolding le lt eq of_bits to_unsigned
saturated nan a b = absurd (yes a)
saturated (inf true) a b = absurd (yes a)
saturated (inf false) a b = refl
saturated (fin false m e) a b =
    capped (m * up e / down e) ((le-div_iff_mul-le (down_pos e)).1 (tidy (m * up e) (down e) (nltb→le (m * up e * 1) (1 * 2 ^ 64 * down e) (no b))))
saturated (fin true m e) a b = absurd (omega (arith, down_pos e, nltb→le 0 (m * up e * 1 + 1 * 2 ^ 64 * down e) (no b)))

-- ---- below 1, where the exponent's field is at most 1022

units : (j t : ℕ) → 1022 ≤ j → 2 ^ 1074 ≤ (2 ^ 52 + t) * 2 ^ j
units j t h = le_trans (le_of_eq (pow-add 2 52 1022)) (mul-le-mul (le-add_right (2 ^ 52) t) (pow_mono h))

-- a size of 1 or more is that of a value from 1 on, or of one below 0
outside : (s : Bool) (x : Float) (a : ℕ) → HasValue x s a (2 ^ 1074) → 2 ^ 1074 ≤ a → le (whole 0) x ≡ true → le one x ≡ false → ⊥
outside true x a v h p q = false≢true (sym (below_zero x a 1074 v (lt_of_lt_of_le (pow_pos 1074) h)) ∙ p)
outside false x a v h p q =
    T_not (le one x) (no q) (le_of_values one x 1 1 a (2 ^ 1074) (lit< tt) (pow_pos 1074) (refl, refl) v (le_trans (le_of_eq (one-mul (2 ^ 1074))) (le_trans h (le_of_eq (sym (mul-one a))))))

small_field : (s : Bool) (x t : ℕ) → le (whole 0) (of_fields binary64 s x t) ≡ true → le one (of_fields binary64 s x t) ≡ false → x ≤ 1022
unfolding of_fields le round
small_field s zero t p q = zero-le
small_field s (suc j) t p q = go (eqb (suc j) 2047) (eqb t 0) s p q
  where
    value : Bool → Bool → Bool → Float
    value a b s = cond a (cond b (inf s) nan) (odd 53 s (2 ^ 52 + t) j 1074)

    go : (a b s : Bool) → le (whole 0) (value a b s) ≡ true → le one (value a b s) ≡ false → suc j ≤ 1022
    go true true true p q = absurd (yes p)
    go true true false p q = absurd (no q)
    go true false s p q = absurd (yes p)
    go false b s p q = lt_of_not-le (λ (h : 1022 ≤ j). outside s (odd 53 s (2 ^ 52 + t) j 1074) ((2 ^ 52 + t) * 2 ^ j) (odd_sign 53 s (2 ^ 52 + t) j 1074) (units j t h) p q)

-- what the proof of `whole_part` cites: of an x that the format holds and that is from 0 to below 2 ^ 64, the exponent's field and the digits with their leading one
module _ (x : Float) (held : fits binary64 x ≡ true) (a : le nought x ≡ true) (c : lt x limit ≡ true) where
  F : T (fits binary64 x)
  F = yes held

  abbrev b : ℕ
  b = to_bits binary64 x

  abbrev exponent : ℕ
  exponent = b / 2 ^ 52 % 2048

  abbrev digits : ℕ
  digits = bit_or (bit_and b (2 ^ 52 - 1)) (2 ^ 52)

  under : T (lt x (two_to 64))
  under = subst (λ (k : Float). T (lt x k)) limit_is (yes c)

  -- from 1 on, the field is what stands above the digits; below 1 it is small
  sides : (T (le one x) × (exponent ≡ b / 2 ^ 52)) ⊎ (T (not (le one x)) × (exponent ≤ 1022))
  unfolding of_bits
  sides = go (le one x) refl
    where
      same : of_bits binary64 b ≡ x
      same = of_bits-to_bits binary64 x F

      less : (e : ℕ) → e - 1075 < 64 → e < 2048
      less e k = omega arith

      go : (t : Bool) → le one x ≡ t → (T (le one x) × (exponent ≡ b / 2 ^ 52)) ⊎ (T (not (le one x)) × (exponent ≤ 1022))
      go true h = inl (yes h, mod-eq_of_lt (less (b / 2 ^ 52) (up_by x F (yes h) under)))
      go false h =
          inr (
            no h,
            subst (λ (k : ℕ). k ≤ 1022) (field b 11 52)
                (small_field (leb (2 ^ 63) b) (b % 2 ^ 63 / 2 ^ 52) (b % 2 ^ 52) (ap (le (whole 0)) same ∙ ap (λ (k : Float). le k x) (sym nought_is) ∙ a) (ap (le one) same ∙ h)),
          )

  digits_lt : digits < 2 ^ 53
  digits_lt = rw (and_mask b 52, or_shifted_r 1 52 (b % 2 ^ 52) (mod-lt b (pow_pos 52))) (omega (arith, mod-lt b (pow_pos 52)))

  shifted_out : (n : ℕ) → 53 ≤ n → digits / 2 ^ n ≡ 0
  shifted_out n h = div-eq_of_lt (lt_of_lt_of_le digits_lt (pow_mono h))

  pub up_fits : exponent - 1075 < 64
  up_fits = elim sides [ inl z ↦ rw z.1 (up_by x F z.0 under) | inr z ↦ go exponent z.1 ]
    where
      go : (e : ℕ) → e ≤ 1022 → e - 1075 < 64
      go e h = omega arith

  by_division : exponent ≤ 1075 → digits / 2 ^ (1075 - exponent) ≡ whole_part x
  by_division k = elim sides [ inl z ↦ rw z.1 (cut_down x F z.0 under (rw z.1 at k)) | inr z ↦ shifted_out (1075 - exponent) (go exponent z.1) ∙ below_one 64 x z.0 ]
    where
      go : (e : ℕ) → e ≤ 1022 → 53 ≤ 1075 - e
      go e h = omega arith

  -- from 64 places on no digit is left
  pub cut : exponent ≤ 1075 → (if nat_lt (1075 - exponent) 64 then digits / 2 ^ (1075 - exponent) else 0) ≡ whole_part x
  cut k = go (1075 - exponent) (by_division k)
    where
      go : (n : ℕ) → digits / 2 ^ n ≡ whole_part x → (if nat_lt n 64 then digits / 2 ^ n else 0) ≡ whole_part x
      go n h = grind (arith, nat_tests, shifted_out n)

  pub raised : 1075 < exponent → digits * 2 ^ (exponent - 1075) % 2 ^ 64 ≡ whole_part x
  raised k = elim sides [ inl z ↦ rw z.1 (cut_up x F z.0 under (rw z.1 at k)) | inr z ↦ absurd (go exponent z.1 k) ]
    where
      go : (e : ℕ) → e ≤ 1022 → 1075 < e → ⊥
      go e h k = omega arith

-- each way through the code
pub ruleset by_bits = (negative, saturated, up_fits, cut, raised)
