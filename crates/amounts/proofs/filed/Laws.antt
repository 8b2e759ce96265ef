-- The rows of the steps by their numbers, document 01's step, rounding half up to it, and how far a filed figure can be from its amount. Assumes nothing.
use mathlib.Core.Path.{◌≡◌, refl, sym, ap, ◌∙◌, subst}
use mathlib.Core.Logic.{◌⊎◌, inl, inr}
use mathlib.Core.Bool.{Bool, true, false}
use mathlib.Core.List.{List, [], ◌∷◌}
use Prim.Native.Nat.{ℕ, zero, suc, ◌+◌, ◌*◌, ◌/◌, ◌%◌, ◌^◌, ◌≤◌, ◌<◌}
use native.Mathlib.Nat.{div-lt_iff_lt-mul, mul-div_cancel, mul-add-div_right, div-add-mod', div-eq_of_lt, div-eq_of_lt-le, div-mul-le_self, lt-div-mul-add, mod-lt}
use native.Mathlib.Nat.{pow-suc, pow-le-pow_right, one-le-pow, le_trans, lt_of_lt_of_le, lt_irrefl, mul-le-mul_right, add_assoc}
use native.Mathlib.Omega.{arith}
use lib.Dec.{leb, lit<}
use borrow.Author.Tests.{le-leb, lt-leb, leb-true, leb-false}
use Rattle.amounts.specs.Filed.{Row, ◌steps◌, rows, case_in, case_of, step_of, half_up, filed_of, LargestPower, TenthOfPower, StepIsTenthOfPower}
use Rattle.amounts.specs.declared.filed.Case.{Case}

pub either : (a b : ℕ) → (a ≤ b) ⊎ (b < a)
either a b = go (leb a b) refl
  where
    go : (t : Bool) → leb a b ≡ t → (a ≤ b) ⊎ (b < a)
    go true e = inl (leb-true a b e)
    go false e = inr (leb-false a b e)

-- ---- powers of ten

power_mono : {i j : ℕ} → i ≤ j → 10 ^ i ≤ 10 ^ j
power_mono h = pow-le-pow_right (lit< tt) h

power_back : (i n a : ℕ) → 10 ^ i ≤ a → a < 10 ^ n → i < n
power_back i n a h k =
    elim (either n i) [ inl l ↦ absurd (lt_irrefl a (lt_of_lt_of_le k (le_trans (power_mono l) h))) | inr l ↦ l ]

ten_times : (i j : ℕ) → i ≡ suc j → 10 ^ i ≡ 10 ^ j * 10
ten_times i j e = ap (λ (k : ℕ). 10 ^ k) e ∙ pow-suc 10 j

-- ---- the rows by their numbers

-- the amount from which case n holds
abbrev begins : ℕ → ℕ
begins zero = 0
begins (suc n) = 10 ^ (10 + n)

abbrev pub case_at : ℕ → Case
case_at n = record { number = n; step = 10 ^ (8 + n) }

-- k rows of the decades, numbered on from n
decades : ℕ → ℕ → List Row
decades n zero = []
decades n (suc k) = begins n steps 10 ^ (8 + n) ∷ decades (suc n) k

rows_are_decades : rows ≡ decades 0 11
unfolding rows decades
rows_are_decades = refl

-- an amount of case n
abbrev InCase : ℕ → ℕ → Type 0
InCase n a = (begins n ≤ a) × (a < 10 ^ (10 + n))

-- what an amount that has reached row n reaches in the k rows behind it
reaches : (k n a : ℕ) → n + k ≡ 10 → a < 10 ^ 20 → begins n ≤ a
    → (m : ℕ) × InCase m a × (case_in (suc n) (case_at n) (decades (suc n) k) a ≡ case_at m)
unfolding case_in decades
reaches zero n a e f h =
    let z : n ≡ 10 = omega arith in
    (n, (h, subst (λ (i : ℕ). a < 10 ^ (10 + i)) (sym z) f), refl)
reaches (suc k) n a e f h =
    elim (either (10 ^ (10 + n)) a) [
      | inl l ↦ let z = reaches k (suc n) a (omega arith) f l in (z.0, z.1, rw (le-leb (10 ^ (10 + n)) a l) z.2)
      | inr l ↦ (n, (h, l), rw (lt-leb (10 ^ (10 + n)) a l))
    ]

-- every amount below 10 ^ 20 is in a case, and that is the one it has
case_of_number : (a : ℕ) → a < 10 ^ 20 → (n : ℕ) × InCase n a × (case_of a ≡ case_at n)
unfolding case_of case_in decades
case_of_number a f =
    let z = reaches 10 0 a refl f (omega arith) in
    (z.0, z.1, ap (λ (table : List Row). case_in 0 (record { number = 0; step = 0 }) table a) rows_are_decades ∙ rw (le-leb 0 a (omega arith)) z.2)

-- no amount is in two cases
one_case : (m n a : ℕ) → InCase m a → InCase n a → m ≡ n
one_case zero zero a s t = refl
one_case zero (suc n) a s t = absurd (omega (arith, power_back (10 + n) 10 a t.0 s.1))
one_case (suc m) zero a s t = absurd (omega (arith, power_back (10 + m) 10 a s.0 t.1))
one_case (suc m) (suc n) a s t =
    omega (arith, power_back (10 + m) (10 + suc n) a s.0 t.1, power_back (10 + n) (10 + suc m) a t.0 s.1)

few : (n a : ℕ) → a < 10 ^ 20 → InCase n a → n ≤ 10
few zero a f t = omega arith
few (suc n) a f t = omega (arith, power_back (10 + n) 20 a t.0 f)

-- ---- the step

-- what rounding uses of an amount and its step
pub record Step (a s : ℕ) : Type 0 where
  pub half : ℕ
  pub some : 0 < s
  pub twice : s ≡ half + half
  pub under : a < 100 * s
  pub most : (s ≤ 100000000000000000) ⊎ (s ≡ 1000000000000000000)

step_in : (n a : ℕ) → a < 10 ^ 20 → InCase n a → Step a (10 ^ (8 + n))
step_in n a f t =
    let half = ten_times (8 + n) (7 + n) (omega arith) in
    let tenth = ten_times (9 + n) (8 + n) (omega arith) in
    let whole = ten_times (10 + n) (9 + n) (omega arith) in
    let some : 1 ≤ 10 ^ (7 + n) = one-le-pow (7 + n) 10 (lit< tt) in
    record {
      half = 10 ^ (7 + n) * 5;
      some = omega arith;
      twice = omega arith;
      under = omega (arith, t.1);
      most = elim (either n 9) [
        | inl l ↦ inl (power_mono {j = 17} (omega arith))
        | inr l ↦ inr (ap (λ (i : ℕ). 10 ^ (8 + i)) {y = 10} (omega (arith, few n a f t)))
      ];
    }

pub step_is : (a : ℕ) → a < 2 ^ 64 → Step a (step_of a)
unfolding step_of
step_is a f =
    let z = case_of_number a (omega arith) in
    subst (λ (c : Case). Step a c.step) (sym z.2) (step_in z.0 a (omega arith) z.1)

-- the same of a step that the code has
pub step_there : (a s : ℕ) → a < 2 ^ 64 → s ≡ step_of a → Step a s
step_there a s f e = subst (λ (k : ℕ). Step a k) (sym e) (step_is a f)

-- ---- document 01's step

high : (n a : ℕ) → InCase n a → 10 ^ 10 ≤ a → (p : ℕ) × LargestPower p a × (10 ^ (8 + n) ≡ p / 10)
high zero a t h = absurd (omega (arith, t.1))
high (suc n) a t h =
    let tenth = ten_times (10 + n) (8 + suc n) (omega arith) in (
      10 ^ (10 + n),
      record {
        exponent = 10 + n;
        power = refl;
        reached = t.0;
        largest = λ (k : ℕ) (l : 10 ^ k ≤ a). power_mono (omega (arith, power_back k (10 + suc n) a l t.1));
      },
      sym (ap (λ (k : ℕ). k / 10) tenth ∙ mul-div_cancel (10 ^ (8 + suc n)) (lit< tt)),
    )

pub step_is_tenth_of_power : StepIsTenthOfPower
unfolding step_of
step_is_tenth_of_power a f =
    let z = case_of_number a f in
    subst (λ (c : Case). TenthOfPower a c.step) (sym z.2) (record {
      low = λ (l : a < 10 ^ 10). ap (λ (i : ℕ). 10 ^ (8 + i)) (one_case z.0 0 a z.1 (omega arith, l));
      high = high z.0 a z.1;
    })

-- ---- rounding half up, with the half h of the step s

pub half_is : (s h : ℕ) → s ≡ h + h → s / 2 ≡ h
half_is s h e = omega arith

module _ (a s h : ℕ) (some : 0 < s) (twice : s ≡ h + h) where
  apart : (a + h) / s ≡ a / s + (a % s + h) / s
  apart =
      ap (λ (k : ℕ). (k + h) / s) (sym (div-add-mod' a s))
      ∙ ap (λ (k : ℕ). k / s) (add_assoc (a / s * s) (a % s) h)
      ∙ mul-add-div_right some (a / s) (a % s + h)

  rounds_down : a % s < h → a / s ≡ (a + h) / s
  rounds_down l = sym (apart ∙ ap (λ (k : ℕ). a / s + k) (div-eq_of_lt (omega arith)) ∙ omega arith)

  rounds_up : h ≤ a % s → a / s + 1 ≡ (a + h) / s
  rounds_up l =
      sym (apart ∙ ap (λ (k : ℕ). a / s + k) (div-eq_of_lt-le {k = 1} s (omega arith) (omega (arith, mod-lt a some))))

  off : ((a + h) / s * s ≤ a + h) × (a ≤ (a + h) / s * s + h)
  off = (div-mul-le_self (a + h) s, omega (arith, lt-div-mul-add {a = a + h} some))

module _ (a s : ℕ) (z : Step a s) (e : s ≡ step_of a) where
  by_half : (a + z.half) / s * s ≡ filed_of a
  unfolding filed_of
  by_half = ap (λ (k : ℕ). (a + k) / s * s) (sym (half_is s z.half z.twice)) ∙ ap (λ (k : ℕ). half_up k a) e

  pub filed_down : a % s < s / 2 → a / s * s ≡ filed_of a
  filed_down l =
      ap (λ (k : ℕ). k * s) (rounds_down a s z.half z.some z.twice (rw (half_is s z.half z.twice) at l)) ∙ by_half

  pub filed_up : s / 2 ≤ a % s → (a / s + 1) * s ≡ filed_of a
  filed_up l =
      ap (λ (k : ℕ). k * s) (rounds_up a s z.half z.some z.twice (rw (half_is s z.half z.twice) at l)) ∙ by_half

-- rounding up stays within 64 bits: below 10 ^ 18 by the step's size, and at 10 ^ 18 by what the remainder leaves
pub room_up : (a s : ℕ) → a < 2 ^ 64 → (z : Step a s) → z.half ≤ a % s → (a / s + 1) * s < 2 ^ 64
room_up a s f z l =
    elim z.most [
      | inl m ↦
          let q : a / s < 100 = (div-lt_iff_lt-mul z.some).1 z.under in
          let w : (a / s + 1) * s ≤ 100 * s = mul-le-mul_right s (omega arith) in
          omega arith
      | inr e ↦
          let g : 500000000000000000 ≤ a % s = omega (arith, z.twice) in
          subst (λ (k : ℕ). 500000000000000000 ≤ a % k → (a / k + 1) * k < 2 ^ 64) (sym e) (λ (v : 500000000000000000 ≤ a % 1000000000000000000). omega arith) g
    ]

-- ---- the laws of a filed figure

-- it differs from its amount by at most half of the step, either way
pub filed_within : (a : ℕ) → a < 2 ^ 64 → (filed_of a ≤ a + step_of a / 2) × (a ≤ filed_of a + step_of a / 2)
unfolding filed_of
filed_within a f =
    let z = step_is a f in
    rw (half_is (step_of a) z.half z.twice) (off a (step_of a) z.half z.some z.twice)

-- it is a multiple of the step
pub filed_multiple : (a : ℕ) → (k : ℕ) × (filed_of a ≡ k * step_of a)
unfolding filed_of
filed_multiple a = ((a + step_of a / 2) / step_of a, refl)
