-- What an operation of f64 leaves of bounds on its operands: each rounds once, and rounding keeps an order between values. Assumes nothing.
use Rattle.std.proofs.Common.{◌≡◌, ℕ, zero, suc, ◌+◌, ◌-◌, ◌*◌, ◌^◌, ◌<◌, ◌≤◌, Bool, true, false, cond, ◌&&◌, ◌||◌, T, eqb, ltb, leb, ◌⊎◌, ℤ, pos}
use Rattle.std.proofs.Common.{sym, refl, ap, ◌∙◌, subst, inl, inr, true≢false, zero-le, le_trans, le_of_eq, le_refl, le_of_lt, lt_irrefl, lt_of_lt_of_le, mul-le-mul_right, zero-lt-suc}
use Rattle.std.proofs.Common.{mul_assoc, mul_comm, mul-le-mul, eq-or-lt_of_le, mul-pos, one-mul, mul-zero, zero-mul, mul-one, mul_right_comm, le_of_mul-le-mul_right, arith, lit<, lit≤, le→leb}
use Rattle.std.proofs.Common.{eqb→eq, ltb→lt, lt→ltb, leb→le, pow-add}
use mathlib.Core.Bool.{beq}
use native.Mathlib.Nat.{pow-succ', mul-mul-mul_comm, eq_of_mul-eq-mul_right}
use lib.Dec.{eqb_refl, eqb-suc-zero}
use lib.Pow.{pow-lt}
use lib.Ieee.{Float, nan, inf, fin, binary64, up, down, unlike, round, sum, add, mul, div, le}
use lib.Ieee.Fits.{up_pos, down_pos, and_l, and_r}
use lib.Ieee.Exact.{HasValue, round_exact}
use lib.Ieee.Back.{round_whole}
use lib.Ieee.Order.{round_mono, le_of_values, transfer}
use Rattle.std.proofs.lemmas.Bool.{and_parts}
use Rattle.forms.specs.Binary64.{whole, ◌⊗◌, ◌⊘◌, ◌⊕◌, finite}
use Rattle.forms.specs.Pattern.{◌to◌, in_range}

-- ---- tests and facts
-- a test that is `true`, and a test that passes
pub T_of : {b : Bool} → b ≡ true → T b
T_of e = subst T (sym e) tt

pub of_T : (b : Bool) → T b → b ≡ true
of_T true t = refl
of_T false t = elim t [ ]

-- two tests that pass together are one
pub same_test : (a b : Bool) → (T a → T b) → (T b → T a) → a ≡ b
same_test true true f g = refl
same_test true false f g = absurd (f tt)
same_test false true f g = absurd (g tt)
same_test false false f g = refl

-- what `le` asks of two values that are not negative is the order of the numbers
pub ordered : (a b : ℕ) → (ltb a b || (eqb a b && true)) ≡ leb a b
ordered a b =
    same_test (ltb a b || (eqb a b && true)) (leb a b)
    (there (ltb a b) (eqb a b) (λ t. le_of_lt (ltb→lt a b t)) (λ t. le_of_eq (eqb→eq a b t)))
    (λ t.
    elim (eq-or-lt_of_le (leb→le a b t)) [
      | inl e ↦ back (ltb a b) (eqb a b) (inr (subst (λ (x : ℕ). T (eqb a x)) e (eqb_refl a)))
      | inr l ↦ back (ltb a b) (eqb a b) (inl (lt→ltb a b l))
    ])
  where
    there : (p q : Bool) → (T p → a ≤ b) → (T q → a ≤ b) → T (p || (q && true)) → T (leb a b)
    there true q f g t = le→leb a b (f tt)
    there false true f g t = le→leb a b (g tt)
    there false false f g t = elim t [ ]

    back : (p q : Bool) → T p ⊎ T q → T (p || (q && true))
    back true q h = tt
    back false true h = tt
    back false false (inl h) = h
    back false false (inr h) = h

pub at_most : (a b : ℕ) → T (ltb a b || (eqb a b && true)) → a ≤ b
at_most a b t = leb→le a b (subst T (ordered a b) t)

-- ---- values by their fractions

-- finite, from 0 to b / d: either sign of zero is 0
pub data Under (b d : ℕ) : Float → Type 0 where
  under : (s : Bool) (m : ℕ) (e : ℤ) → (T s → m * up e ≡ 0) → m * up e * d ≤ b * down e → Under b d (fin s m e)

-- finite, from 0 to 2 ^ n
pub data Within (n : ℕ) : Float → Type 0 where
  within : (s : Bool) (m : ℕ) (e : ℤ) → (T s → m * up e ≡ 0) → m * up e ≤ 2 ^ n * down e → Within n (fin s m e)

-- finite, and a / c at least, without a sign
pub data Over (a c : ℕ) : Float → Type 0 where
  over : (m : ℕ) (e : ℤ) → a * down e ≤ m * up e * c → Over a c (fin false m e)

-- up to a whole number that is at most 2 ^ n
pub within_under : {n b : ℕ} {x : Float} → b ≤ 2 ^ n → Under b 1 x → Within n x
within_under r (under s m e z h) = within s m e z (le_trans (le_of_eq (sym (mul-one (m * up e)))) (le_trans h (mul-le-mul_right (down e) r)))

pub exact_whole : (n : ℕ) → n ≤ 2 ^ 53 → HasValue (whole n) false n 1
exact_whole n h = round_whole binary64 false n h

-- the powers of two up to 2 ^ 1023 are values of f64
pub exact_power : (n : ℕ) → n ≤ 1023 → HasValue (whole (2 ^ n)) false (2 ^ n) 1
exact_power n h =
    round_exact binary64 false (2 ^ n) 1 1 (n + 1074) (lit< tt) (lit< tt)
    (rw one-mul (pow-lt {j = 2098} (omega arith)))
    (sym (mul-one (1 * 2 ^ (n + 1074)) ∙ one-mul (2 ^ (n + 1074)) ∙ pow-add 2 n 1074))

-- a zero product with a factor above zero
no_product : (x d : ℕ) → 0 < d → x * d ≡ 0 → x ≡ 0
no_product x d D e = eq_of_mul-eq-mul_right d D x 0 (e ∙ sym (zero-mul d))

-- what the order says of -0
pub both_zero : (a b : ℕ) → T (eqb a b && eqb a 0) → (a ≡ 0) × (b ≡ 0)
both_zero a b t =
    let z : a ≡ 0 = eqb→eq a 0 (and_r (eqb a b) (eqb a 0) t) in
    (z, sym (eqb→eq a b (and_l (eqb a b) (eqb a 0) t)) ∙ z)

-- a zero of either sign, by its fraction and by its value
zero_size : {b d : ℕ} (s : Bool) (m : ℕ) (e : ℤ) → m * up e ≡ 0 → Under b d (fin s m e)
zero_size {b} {d} s m e z = under s m e (λ t. z) (subst (λ (x : ℕ). x * d ≤ b * down e) (sym z) (le_trans (le_of_eq (zero-mul d)) zero-le))

zero_value : {b d : ℕ} (s : Bool) (x : Float) (c : ℕ) → 0 < c → HasValue x s 0 c → Under b d x
zero_value s (fin t m e) c C v = zero_size t m e (no_product (m * up e) c C (v.1 ∙ zero-mul (down e)))
zero_value s nan c C v = elim v [ ]
zero_value s (inf _) c C v = elim v [ ]

-- between a value that is not below 0 and b / d
pub capped : {b d : ℕ} (a c : ℕ) (lo hi x : Float) → HasValue lo false a c → HasValue hi false b d → 0 < d → T (le lo x) → T (le x hi) → Under b d x
unfolding le
capped a c nan hi x v w D p q = absurd v
capped a c (inf s) hi x v w D p q = absurd v
capped a c (fin true l j) hi x v w D p q = absurd (true≢false v.0)
capped a c (fin false l j) nan x v w D p q = absurd w
capped a c (fin false l j) (inf s) x v w D p q = absurd w
capped a c (fin false l j) (fin true h k) x v w D p q = absurd (true≢false w.0)
capped a c (fin false l j) (fin false h k) nan v w D p q = absurd p
capped a c (fin false l j) (fin false h k) (inf true) v w D p q = absurd p
capped a c (fin false l j) (fin false h k) (inf false) v w D p q = absurd q
capped a c (fin false l j) (fin false h k) (fin true m e) v w D p q =
    zero_size true m e (no_product (m * up e) (down j) (down_pos j) (both_zero (l * up j * down e) (m * up e * down j) p).1)
capped {b} {d} a c (fin false l j) (fin false h k) (fin false m e) v w D p q =
    under false m e (λ t. absurd t)
    (transfer (m * up e) b (down e) d (m * up e) (h * up k) (down e) (down k) (down_pos e) (down_pos k) refl (sym w.1) (at_most (m * up e * down k) (h * up k * down e) q))

-- a / c ≤ l / j ≤ m / e
pub chain : (a c l j m e : ℕ) → 0 < j → a * j ≤ l * c → l * e ≤ m * j → a * e ≤ m * c
chain a c l j m e J h k =
    le_of_mul-le-mul_right
    (le_trans (le_of_eq (mul_right_comm a e j)) (le_trans (mul-le-mul_right e h)
    (le_trans (le_of_eq (mul_right_comm l c e)) (le_trans (mul-le-mul_right c k) (le_of_eq (mul_right_comm m j c))))))
    J

-- above what is itself a / c at least
pub over_more : {a c : ℕ} {lo : Float} (x : Float) → 0 < a → Over a c lo → T (finite x) → T (le lo x) → Over a c x
unfolding le
over_more {a} {c} (fin false m e) A (over l j v) f p =
    over m e (chain a c (l * up j) (down j) (m * up e) (down e) (down_pos j) v (at_most (l * up j * down e) (m * up e * down j) p))
over_more {a} {c} (fin true m e) A (over l j v) f p =
    let none : l * up j ≡ 0 = no_product (l * up j) (down e) (down_pos e) (both_zero (l * up j * down e) (m * up e * down j) p).0 in
    absurd (lt_irrefl 0 (lt_of_lt_of_le (mul-pos A (down_pos j)) (le_trans v (le_of_eq (rw none (zero-mul c))))))
over_more nan A (over l j v) f p = elim f [ ]
over_more (inf _) A (over l j v) f p = elim f [ ]

-- ---- the operations
-- the one rounding of an operation whose exact result, ±a / c, is from 0 to a b / d that rounding keeps
pub rounded_under : {b d : ℕ} (s : Bool) (a c : ℕ) → HasValue (round binary64 false b d) false b d → 0 < c → 0 < d → (T s → a ≡ 0) → a * d ≤ b * c
    → Under b d (round binary64 s a c)
rounded_under {b} {d} false a c v C D z h =
    let above = round_mono binary64 0 1 a c (lit< tt) C (rw zero-mul zero-le) in
    capped 0 1 (whole 0) (round binary64 false b d) (round binary64 false a c) (exact_whole 0 zero-le) v D above (round_mono binary64 a c b d C D h)
rounded_under true a c v C D z h =
    zero_value true (round binary64 true a c) c C
    (subst (λ (x : ℕ). HasValue (round binary64 true x c) true 0 c) (sym (z tt)) (round_exact binary64 true 0 c 0 0 C (lit< tt) (lit< tt) (sym (zero-mul c))))

-- and from 0 to 2 ^ n
pub rounded : {n : ℕ} (s : Bool) (a c : ℕ) → n ≤ 1023 → 0 < c → (T s → a ≡ 0) → a ≤ 2 ^ n * c → Within n (round binary64 s a c)
rounded {n} s a c r C z h = within_under (le_refl (2 ^ n)) (rounded_under s a c (exact_power n r) C (lit< tt) z (le_trans (le_of_eq (mul-one a)) h))

-- a product with a minus sign has a factor -0
pub mul_sign : (s t : Bool) (x y : ℕ) → (T s → x ≡ 0) → (T t → y ≡ 0) → T (unlike s t) → x * y ≡ 0
mul_sign true false x y f g h = ap (λ (z : ℕ). z * y) (f tt) ∙ zero-mul y
mul_sign false true x y f g h = ap (λ (z : ℕ). x * z) (g tt) ∙ mul-zero x
mul_sign false false x y f g h = elim h [ ]
mul_sign true true x y f g h = elim h [ ]

-- a product is at most the product of the bounds
pub mul_within : {i j : ℕ} {x y : Float} → Within i x → Within j y → i + j ≤ 1023 → Within (i + j) (x ⊗ y)
unfolding mul
mul_within {i} {j} (within s m e y h) (within t n d z k) r =
    rounded (unlike s t) (m * up e * (n * up d)) (down e * down d) r (mul-pos (down_pos e) (down_pos d)) (mul_sign s t (m * up e) (n * up d) y z)
    (le_trans (mul-le-mul h k) (le_of_eq (mul-mul-mul_comm (2 ^ i) (down e) (2 ^ j) (down d) ∙ ap (λ (z : ℕ). z * (down e * down d)) (sym (pow-add 2 i j)))))

-- a divisor of 1 or more keeps the bound
pub div_within : {i : ℕ} {x y : Float} → Within i x → Over 1 1 y → i ≤ 1023 → Within i (x ⊘ y)
unfolding div
div_within (within s m e y h) (over zero d k) r = absurd (omega (arith, down_pos d))
div_within {i} (within s m e y h) (over (suc n) d k) r =
    let c = suc n * up d * down e in
    let one : down d ≤ suc n * up d = le_trans (le_of_eq (sym (one-mul (down d)))) (le_trans k (le_of_eq (mul-one (suc n * up d)))) in
    rw (eqb-suc-zero n)
    (rounded (unlike s false) (m * up e * down d) c r (mul-pos (mul-pos (zero-lt-suc n) (up_pos d)) (down_pos e)) (mul_sign s false (m * up e) (down d) y (λ t. absurd t))
    (le_trans (mul-le-mul h one) (le_of_eq (mul_assoc (2 ^ i) (down e) (suc n * up d) ∙ ap (λ (z : ℕ). 2 ^ i * z) (mul_comm (down e) (suc n * up d))))))

-- for the cases of `sum`
either : {n : ℕ} (b : Bool) (x y : Float) → (T b → Within n x) → Within n y → Within n (cond b x y)
either true x y f g = f tt
either false x y f g = g

alike : (s t : Bool) → T (beq s t) → T s → T t
alike true true p q = tt
alike false t p q = elim q [ ]
alike true false p q = elim p [ ]

-- what `add` does with ±a / c and ±b / c
sum_within : {i : ℕ} (s t : Bool) (a b c : ℕ) → suc i ≤ 1023 → 0 < c → (T s → a ≡ 0) → (T t → b ≡ 0) → a ≤ 2 ^ i * c → b ≤ 2 ^ i * c
    → Within (suc i) (sum binary64 s a t b c)
unfolding sum
sum_within {i} s t a b c r C y z h k =
    let top : 2 ^ suc i * c ≡ 2 * (2 ^ i * c) = ap (λ (x : ℕ). x * c) (pow-succ' 2 i) ∙ mul_assoc 2 (2 ^ i) c in
    either (beq s t) _ _ (λ p. rounded s (a + b) c r C (λ q. zeros (y q) (z (alike s t p q))) (omega arith))
    (either (ltb a b) _ _ (λ p. rounded t (b - a) c r C (λ q. less b a (z q)) (omega arith))
    (rounded (s && ltb b a) (a - b) c r C (λ q. less a b (y (and_l s (ltb b a) q))) (omega arith)))
  where
    zeros : a ≡ 0 → b ≡ 0 → a + b ≡ 0
    zeros p q = omega arith

    less : (p q : ℕ) → p ≡ 0 → p - q ≡ 0
    less p q e = omega arith

-- a sum is at most twice the bound
pub add_within : {i : ℕ} {x y : Float} → Within i x → Within i y → suc i ≤ 1023 → Within (suc i) (x ⊕ y)
unfolding add
add_within {i} (within s m e y h) (within t n d z k) r =
    sum_within s t (m * up e * down d) (n * up d * down e) (down e * down d) r (mul-pos (down_pos e) (down_pos d))
    (λ p. ap (λ (x : ℕ). x * down d) (y p) ∙ zero-mul (down d)) (λ p. ap (λ (x : ℕ). x * down e) (z p) ∙ zero-mul (down e))
    (le_trans (mul-le-mul_right (down d) h) (le_of_eq (mul_assoc (2 ^ i) (down e) (down d))))
    (le_trans (mul-le-mul_right (down e) k) (le_of_eq (mul_assoc (2 ^ i) (down d) (down e) ∙ ap (λ (x : ℕ). 2 ^ i * x) (mul_comm (down d) (down e)))))

-- what the bounds are for: neither a NaN nor an infinity, and not below 0
pub within_finite : {n : ℕ} {x : Float} → Within n x → (finite x ≡ true) × (le (whole 0) x ≡ true)
unfolding le round
within_finite (within false m e y h) =
    (refl, of_T (le (whole 0) (fin false m e)) (le_of_values (whole 0) (fin false m e) 0 1 (m * up e) (down e) (lit< tt) (down_pos e) (refl, refl) (refl, refl) (rw zero-mul zero-le)))
within_finite (within true m e y h) = (refl, rw (zero-mul (down e), mul-one (m * up e), y tt))

-- ---- ranges
-- in a range of whole numbers up to 2 ^ n at most
pub in_range_lem : (lo hi n : ℕ) → T (leb lo (2 ^ 53) && (leb hi (2 ^ 53) && leb hi (2 ^ n))) → {x : Float} → in_range (lo to hi) x ≡ true → Within n x
unfolding in_range
in_range_lem lo hi n t {x} e =
    let g = and_parts (le (whole lo) x) (le x (whole hi)) (and_parts (finite x) (le (whole lo) x && le x (whole hi)) e).1 in
    let s = and_r (leb lo (2 ^ 53)) (leb hi (2 ^ 53) && leb hi (2 ^ n)) t in
    within_under (leb→le hi (2 ^ n) (and_r (leb hi (2 ^ 53)) (leb hi (2 ^ n)) s))
    (capped lo 1 (whole lo) (whole hi) x (exact_whole lo (leb→le lo (2 ^ 53) (and_l (leb lo (2 ^ 53)) (leb hi (2 ^ 53) && leb hi (2 ^ n)) t)))
    (exact_whole hi (leb→le hi (2 ^ 53) (and_l (leb hi (2 ^ 53)) (leb hi (2 ^ n)) s))) (lit< tt) (T_of g.0) (T_of g.1))

one_over : Over 1 1 (whole 1)
unfolding round
one_over = over 1 (pos 0) (lit≤ tt)

-- in a range from 1 up
pub in_range_one : (hi : ℕ) {x : Float} → in_range (1 to hi) x ≡ true → Over 1 1 x
unfolding in_range
in_range_one hi {x} e =
    let f = and_parts (finite x) (le (whole 1) x && le x (whole hi)) e in
    over_more x (lit< tt) one_over (T_of f.0) (T_of (and_parts (le (whole 1) x) (le x (whole hi)) f.1).0)
