-- A partial pressure that is answered is finite, not negative and at most 2 ^ 30: a part's quotient is at most the sum, and times 2 ^ 30 rounding keeps it. Assumes nothing.
use Rattle.std.proofs.Common.{◌≡◌, ℕ, zero, suc, ◌+◌, ◌-◌, ◌*◌, ◌^◌, ◌%◌, ◌<◌, ◌≤◌, Bool, true, false, not, ◌&&◌, T, eqb, ltb, leb, List, [], ◌∷◌}
use Rattle.std.proofs.Common.{length, map, min, ℤ, pos, negsuc, sym, refl, ap, ◌∙◌, subst, true≢false, zero-le, le_trans, le_of_eq, le_refl, lt_of_not-le, add-zero, mul-le-mul_right}
use Rattle.std.proofs.Common.{mul-le-mul, zero-lt-suc, mul_assoc, mul_comm, mul-pos, one-mul, mul-one, zero-mul, mul_right_comm, lt_of_mul-lt-mul_right, mul-lt-mul_of_pos_right, le-add_right}
use Rattle.std.proofs.Common.{le-add_left, lt_irrefl, lt_of_le_of_lt, lt_of_lt_of_le, pow_mono, pow_pos, arith, lit<, lit≤, leb→le, eqb→eq, ltb→lt, pow-add}
use native.Mathlib.Nat.{mul-mul-mul_comm}
use mathlib.Core.Bool.{false≢true}
use lib.Dec.{eqb-suc-zero}
use lib.Pow.{pow-lt}
use lib.Ieee.{Float, nan, inf, fin, binary64, up, down, unlike, round, sum, add, mul, div, le, fits, is_nan}
use lib.Ieee.Fits.{up_pos, down_pos, and_l, and_r, add-fits, div-fits}
use lib.Ieee.Exact.{HasValue, round_exact}
use lib.Ieee.Order.{round_mono, le_of_values}
use Rattle.std.proofs.lemmas.Float.{le_trans as float_le_trans}
use Rattle.std.proofs.lemmas.Bool.{and_parts}
use Rattle.std.specs.List.{list_all, zip, All}
use Rattle.std.proofs.lemmas.List.{length-map}
use Rattle.std.proofs.lemmas.Slice.Zip.{length-zip}
use Rattle.std.proofs.lemmas.List.Elements.{All-nil, All-cons, All-head, All-tail, All-get_or}
use Rattle.std.specs.Prelude.{Ok, nat_le, nat_lt}
use Rattle.amounts.specs.declared.decline.Decline.TheVariants.{Mixture}
use Rattle.amounts.proofs.decline.Laws.{one_taken}
use Rattle.forms.specs.Binary64.{decimal, whole, ◌⊗◌, ◌⊘◌, ◌⊕◌, finite}
use Rattle.forms.specs.Pattern.{in_range}
use Rattle.forms.proofs.Within.{Under, Within, Over, under, within, over, both_zero, T_of, of_T, at_most, capped, over_more, chain, within_under, exact_whole, exact_power, rounded, rounded_under}
use Rattle.forms.proofs.Within.{mul_sign, div_within, add_within, within_finite, in_range_lem, in_range_one}
use Rattle.mixture.specs.Pressure.{content_range, weight_range, pressure_range, Part, part_fits, quotient_of, sum_from, sum_of, pressure_of, may_mix, partial_of, Bounded}

-- ---- values that f64 holds

-- above 0, held by f64, and at most 2 ^ n
data Held (n : ℕ) : Float → Type 0 where
  held : (m : ℕ) (e : ℤ) → T (fits binary64 (fin false (suc m) e)) → suc m * up e ≤ 2 ^ n * down e → Held n (fin false (suc m) e)

held_within : {n : ℕ} {x : Float} → Held n x → Within n x
held_within (held m e f h) = within false (suc m) e (λ t. absurd t) h

raised : {i j : ℕ} {x : Float} → i ≤ j → Held i x → Held j x
raised {i} {j} r (held m e f h) = held m e f (le_trans h (mul-le-mul_right (down e) (pow_mono r)))

size_pos : (m : ℕ) (e t : ℤ) → 0 < suc m * up e * down t
size_pos m e t = mul-pos (mul-pos (zero-lt-suc m) (up_pos e)) (down_pos t)

-- what is above such a value and in bounds is one too
held_of : {i j : ℕ} {x : Float} (z : Float) → Held i x → T (le x z) → Within j z → T (fits binary64 z) → Held j z
unfolding le
held_of (fin false zero t) (held m e f h) l (within s n d y k) g =
    let none : 0 * up t * down e ≡ 0 = ap (λ (x : ℕ). x * down e) (zero-mul (up t)) ∙ zero-mul (down e) in
    absurd (lt_irrefl 0 (lt_of_lt_of_le (size_pos m e t) (le_trans (at_most (suc m * up e * down t) (0 * up t * down e) l) (le_of_eq none))))
held_of (fin false (suc n) t) (held m e f h) l (within s k d y w) g = held n t g w
held_of nan (held m e f h) l w g = elim w [ ]
held_of (inf _) (held m e f h) l w g = elim w [ ]
held_of (fin true n t) (held m e f h) l (within s k d y w) g =
    absurd (lt_irrefl 0 (lt_of_lt_of_le (size_pos m e t) (le_of_eq (both_zero (suc m * up e * down t) (n * up t * down e) l).0)))

-- ---- what rounding keeps

digits_few : (m : ℕ) (e : ℤ) → T (fits binary64 (fin false (suc m) e)) → (suc m < 2 ^ 53) × (down e ≤ 2 ^ 1074) × (suc m * up e < 2 ^ 1024 * down e)
unfolding fits
digits_few m e f =
    let odd : Bool = eqb (suc m % 2) 1 in
    let few : Bool = ltb (suc m) (2 ^ 53) in
    let deep : Bool = leb (down e) (2 ^ 1074) in
    let low : Bool = ltb (suc m * up e) (2 ^ 1024 * down e) in
    let three = and_l (odd && few && deep) low f in
    let digits = and_r odd few (and_l (odd && few) deep three) in
    let places = and_r (odd && few) deep three in
    (ltb→lt (suc m) (2 ^ 53) digits, leb→le (down e) (2 ^ 1074) places, ltb→lt (suc m * up e) (2 ^ 1024 * down e) (and_r (odd && few && deep) low f))

-- the places of a power of two times 2 ^ k, in units of the smallest value
places : (k : ℕ) (e : ℤ) → down e ≤ 2 ^ 1074 → (j : ℕ) × (2 ^ j * down e ≡ up e * 2 ^ k * 2 ^ 1074)
places k (pos a) h = (a + k + 1074, mul-one (2 ^ (a + k + 1074)) ∙ pow-add 2 (a + k) 1074 ∙ ap (λ (x : ℕ). x * 2 ^ 1074) (pow-add 2 a k))
places k (negsuc a) h = (
  k + (1074 - suc a),
  sym (pow-add 2 (k + (1074 - suc a)) (suc a)) ∙ ap (λ (x : ℕ). 2 ^ x) (back k a (few (suc a) h)) ∙ pow-add 2 k 1074 ∙ ap (λ (x : ℕ). x * 2 ^ 1074) (sym (one-mul (2 ^ k))),
)
  where
    few : (n : ℕ) → 2 ^ n ≤ 2 ^ 1074 → n < 1075
    few n h = lt_of_not-le (λ (l : suc 1074 ≤ n). lt_irrefl (2 ^ 1074) (lt_of_lt_of_le (pow-lt l) h))

    back : (k a : ℕ) → suc a < 1075 → k + (1074 - suc a) + suc a ≡ k + 1074
    back k a h = omega arith

-- a held value times 2 ^ k, where it stays below 2 ^ 1024
scaled : (k m : ℕ) (e : ℤ) → T (fits binary64 (fin false (suc m) e)) → suc m * up e * 2 ^ k < 2 ^ 1024 * down e
    → HasValue (round binary64 false (suc m * up e * 2 ^ k) (down e)) false (suc m * up e * 2 ^ k) (down e)
scaled k m e f h =
    let d = digits_few m e f in
    let p = places k e d.1 in
    let j = p.0 in
    let same : suc m * up e * 2 ^ k * 2 ^ 1074 ≡ suc m * 2 ^ j * down e =
    ap (λ (x : ℕ). x * 2 ^ 1074) (mul_assoc (suc m) (up e) (2 ^ k)) ∙ mul_assoc (suc m) (up e * 2 ^ k) (2 ^ 1074)
    ∙ ap (λ (x : ℕ). suc m * x) (sym p.1) ∙ sym (mul_assoc (suc m) (2 ^ j) (down e)) in
    let wide : 2 ^ 1024 * down e * 2 ^ 1074 ≡ 2 ^ 2098 * down e = mul_right_comm (2 ^ 1024) (down e) (2 ^ 1074) ∙ ap (λ (x : ℕ). x * down e) (sym (pow-add 2 1024 1074)) in
    let fine : suc m * 2 ^ j < 2 ^ 2098 =
    lt_of_mul-lt-mul_right (down e) (subst (λ (x : ℕ). suc m * 2 ^ j * down e < x) wide (subst (λ (x : ℕ). x < 2 ^ 1024 * down e * 2 ^ 1074) same (mul-lt-mul_of_pos_right h (pow_pos 1074)))) in
    round_exact binary64 false (suc m * up e * 2 ^ k) (down e) (suc m) j (down_pos e) d.0 fine same

-- so what rounds a fraction that isn't below a held value isn't below it either
kept : (m : ℕ) (e : ℤ) (a c : ℕ) → T (fits binary64 (fin false (suc m) e)) → 0 < c → suc m * up e * c ≤ a * down e → T (le (fin false (suc m) e) (round binary64 false a c))
kept m e a c f C h =
    let one : suc m * up e * 2 ^ 0 ≡ suc m * up e = mul-one (suc m * up e) in
    let top = (digits_few m e f).2 in
    let v = scaled 0 m e f (subst (λ (x : ℕ). x < 2 ^ 1024 * down e) (sym one) top) in
    let x = fin false (suc m) e in
    let kept_at = round binary64 false (suc m * up e * 2 ^ 0) (down e) in
    let same : suc m * up e * down e ≤ suc m * up e * 2 ^ 0 * down e = le_of_eq (ap (λ (x : ℕ). x * down e) (sym one)) in
    float_le_trans x kept_at (round binary64 false a c)
    (le_of_values x kept_at (suc m * up e) (down e) (suc m * up e * 2 ^ 0) (down e) (down_pos e) (down_pos e) (refl, refl) v same)
    (round_mono binary64 (suc m * up e * 2 ^ 0) (down e) a c (down_pos e) C (subst (λ (x : ℕ). x * c ≤ a * down e) (sym one) h))

itself : {n : ℕ} {x : Float} → Held n x → T (le x x)
itself (held m e f h) =
    let x = fin false (suc m) e in
    let size = suc m * up e in
    le_of_values x x size (down e) size (down e) (down_pos e) (down_pos e) (refl, refl) (refl, refl) (le_refl (size * down e))

-- ---- the sum

-- a sum is neither below the one nor below the other
sum_above : {i j : ℕ} {x y : Float} → Held i x → Held j y → T (le x (x ⊕ y)) × T (le y (x ⊕ y))
unfolding add sum
sum_above (held m e f h) (held n d g k) =
    let a = suc m * up e * down d in
    let b = suc n * up d * down e in
    let left : suc m * up e * (down e * down d) ≡ a * down e = sym (mul_assoc (suc m * up e) (down e) (down d)) ∙ mul_right_comm (suc m * up e) (down e) (down d) in
    let right : suc n * up d * (down e * down d) ≡ b * down d = sym (mul_assoc (suc n * up d) (down e) (down d)) in
    let base : 0 < down e * down d = mul-pos (down_pos e) (down_pos d) in (
      kept m e (a + b) (down e * down d) f base (le_trans (le_of_eq left) (mul-le-mul_right (down e) (le-add_right a b))),
      kept n d (a + b) (down e * down d) g base (le_trans (le_of_eq right) (mul-le-mul_right (down d) (le-add_left b a))),
    )

-- so the whole sum isn't below any of its parts
sum_held : (i : ℕ) (x : Float) (qs : List Float) → 7 ≤ i → i + length qs ≤ 1023 → Held i x → All (Held 7) qs
    → Held (i + length qs) (sum_from x qs) × T (le x (sum_from x qs)) × All (λ q. Held 7 q × T (le q (sum_from x qs))) qs
sum_held i x [] r t h a = (raised (le_of_eq (sym (add-zero i))) h, itself h, All-nil _)
sum_held i x (q ∷ qs) r t h a =
    let first = All-head (Held 7) q qs a in
    let above = sum_above h first in
    let next = held_of (x ⊕ q) h above.0 (add_within (held_within h) (held_within (raised r first)) (omega (arith, t))) (add-fits binary64 x q) in
    let rest = sum_held (suc i) (x ⊕ q) qs (omega (arith, r)) (omega (arith, t)) next (All-tail (Held 7) q qs a) in
    let total = sum_from (x ⊕ q) qs in (
      raised (omega arith) rest.0,
      float_le_trans x (x ⊕ q) total above.0 rest.1,
      All-cons (λ q. Held 7 q × T (le q total)) q qs (first, float_le_trans q (x ⊕ q) total above.1 rest.1) rest.2,
    )

-- ---- a part's quotient

least_over : Over 1 (2 ^ 14) (decimal 1 10000)
unfolding round
least_over = over 7378697629483821 (negsuc 65) (lit≤ tt)

least_value : HasValue (decimal 1 10000) false 7378697629483821 (2 ^ 66)
unfolding round
least_value = (refl, refl)

-- a content is 2 ^ -14 at least, and 2 ^ 7 at most
content_bounds : (x : Float) → in_range content_range x ≡ true → Over 1 (2 ^ 14) x × Within 7 x
unfolding in_range
content_bounds x e =
    let f = and_parts (finite x) (le (decimal 1 10000) x && le x (whole 100)) e in
    let g = and_parts (le (decimal 1 10000) x) (le x (whole 100)) f.1 in
    let capped_at = capped 7378697629483821 (2 ^ 66) (decimal 1 10000) (whole 100) x least_value (exact_whole 100 (lit≤ tt)) (lit< tt) (T_of g.0) (T_of g.1) in
    (over_more x (lit< tt) least_over (T_of f.0) (T_of g.0), within_under (lit≤ tt) capped_at)

tidy : (a b x y p q : ℕ) → a ≤ p * x → b ≤ y * q → a * b ≤ y * x * (p * q)
tidy a b x y p q h k =
    le_trans (mul-le-mul h k)
    (le_of_eq (mul-mul-mul_comm p x y q ∙ ap (λ (z : ℕ). z * (x * q)) (mul_comm p y) ∙ mul-mul-mul_comm y p x q))

-- a quotient is 2 ^ -24 at least
quotient_above : {x y : Float} → Over 1 (2 ^ 14) x → Over 1 1 y → Within 10 y → T (le (fin false 1 (negsuc 23)) (x ⊘ y))
unfolding div fits
quotient_above (over m e h) (over zero d k) (within s n c z w) = absurd (omega (arith, down_pos d, k))
quotient_above (over m e h) (over (suc n) d k) (within s n' c z w) =
    rw (eqb-suc-zero n)
    (kept 0 (negsuc 23) (m * up e * down d) (suc n * up d * down e) tt (mul-pos (mul-pos (zero-lt-suc n) (up_pos d)) (down_pos e))
    (le_trans (le_of_eq (ap (λ (x : ℕ). x * (suc n * up d * down e)) (one-mul 1) ∙ one-mul (suc n * up d * down e)))
    (tidy (suc n * up d) (down e) (down d) (m * up e) (2 ^ 10) (2 ^ 14) w (le_trans (le_of_eq (sym (one-mul (down e)))) h))))

quotient_held : (p : Part) → part_fits p ≡ true → Held 7 (quotient_of p)
unfolding fits
quotient_held p e =
    let f = and_parts (in_range content_range p.0) (in_range weight_range p.1) e in
    let content = content_bounds p.0 f.0 in
    let weight = in_range_one 1000 f.1 in
    let above = quotient_above content.0 weight (in_range_lem 1 1000 10 tt f.1) in
    held_of {i = 0} (quotient_of p) (held 0 (negsuc 23) tt (lit≤ tt)) above (div_within content.1 weight (lit≤ tt)) (div-fits binary64 p.0 p.1)

quotients_held : (ps : List Part) → list_all part_fits ps ≡ true → All (Held 7) (map quotient_of ps)
quotients_held [] e = All-nil (Held 7)
quotients_held (p ∷ ps) e =
    let f = and_parts (part_fits p) (list_all part_fits ps) e in
    All-cons (Held 7) (quotient_of p) (map quotient_of ps) (quotient_held p f.0) (quotients_held ps f.1)

-- no quotient of up to eight is above their sum
sum_bounds : (qs : List Float) (named : ℕ) → All (Held 7) qs → length qs ≤ 8 → named < length qs
    → All (λ q. Held 7 q × T (le q (sum_of qs))) qs × Held 14 (sum_of qs)
sum_bounds [] named a h l = absurd (lt_irrefl 0 (lt_of_le_of_lt zero-le l))
sum_bounds (q ∷ qs) named a h l =
    let total = sum_of (q ∷ qs) in
    let z = sum_held 7 q qs (lit≤ tt) (omega (arith, h)) (All-head (Held 7) q qs a) (All-tail (Held 7) q qs a) in
    (All-cons (λ x. Held 7 x × T (le x total)) q qs (All-head (Held 7) q qs a, z.1) z.2, raised (omega (arith, h)) z.0)

-- ---- the pressure

rearrange : (a e n d : ℕ) → a * e * n * d ≡ n * a * (e * d)
rearrange a e n d = ap (λ (x : ℕ). x * d) (mul_right_comm a e n ∙ ap (λ (x : ℕ). x * e) (mul_comm a n)) ∙ mul_assoc (n * a) e d

-- a product with a pressure is at most 2 ^ 30 times the value
times : {p : Float} (n : ℕ) (d : ℤ) → T (fits binary64 (fin false (suc n) d)) → suc n * up d ≤ 2 ^ 7 * down d → Within 30 p
    → Under (suc n * up d * 2 ^ 30) (down d) (p ⊗ fin false (suc n) d)
unfolding mul
times n d f k (within s m e z h) =
    let top = suc n * up d in
    let below : top * 2 ^ 30 < 2 ^ 1024 * down d =
    lt_of_le_of_lt (mul-le-mul_right (2 ^ 30) k) (lt_of_le_of_lt (le_of_eq (mul_right_comm (2 ^ 7) (down d) (2 ^ 30))) (mul-lt-mul_of_pos_right (lit< tt) (down_pos d))) in
    rounded_under (unlike s false) (m * up e * top) (down e * down d) (scaled 30 n d f below) (mul-pos (down_pos e) (down_pos d)) (down_pos d) (mul_sign s false (m * up e) top z (λ t. absurd t))
    (le_trans (mul-le-mul_right (down d) (mul-le-mul_right top h)) (le_of_eq (rearrange (2 ^ 30) (down e) top (down d))))

-- what is at most b / d, divided by a value that isn't below that over 2 ^ 30
divided : {b d : ℕ} {x : Float} (g : ℕ) (t : ℤ) → Under b d x → 0 < d → b * down t ≤ 2 ^ 30 * (suc g * up t) * d → Within 30 (x ⊘ fin false (suc g) t)
unfolding div
divided {b} {d} g t (under s m e z h) D low =
    rw (eqb-suc-zero g)
    (rounded (unlike s false) (m * up e * down t) (suc g * up t * down e) (lit≤ tt) (mul-pos (mul-pos (zero-lt-suc g) (up_pos t)) (down_pos e))
    (mul_sign s false (m * up e) (down t) z (λ u. absurd u))
    (le_trans (chain (m * up e) (down e) b d (2 ^ 30 * (suc g * up t)) (down t) D h low) (le_of_eq (mul_assoc (2 ^ 30) (suc g * up t) (down e)))))

-- so the pressure of a share of a sum is at most 2 ^ 30
share : {n : ℕ} {p q s : Float} → Within 30 p → Held 7 q → Held n s → T (le q s) → Within 30 ((p ⊗ q) ⊘ s)
unfolding le
share w (held n d f k) (held g t y u) l =
    let low = at_most (suc n * up d * down t) (suc g * up t * down d) l in
    divided g t (times n d f k w) (down_pos d)
    (le_trans (le_of_eq (mul_right_comm (suc n * up d) (2 ^ 30) (down t)))
    (le_trans (mul-le-mul_right (2 ^ 30) low) (le_of_eq (mul_comm (suc g * up t * down d) (2 ^ 30) ∙ sym (mul_assoc (2 ^ 30) (suc g * up t) (down d))))))

below_value : {n : ℕ} {x : Float} (hi : Float) → HasValue hi false (2 ^ n) 1 → Within n x → T (le x hi)
unfolding le
below_value nan v w = absurd v
below_value (inf s) v w = absurd v
below_value (fin true h k) v w = absurd (true≢false v.0)
below_value {n} (fin false h k) v (within false m e z b) =
    le_of_values (fin false m e) (fin false h k) (m * up e) (down e) (2 ^ n) 1 (down_pos e) (lit< tt) (refl, refl) v (le_trans (le_of_eq (mul-one (m * up e))) b)
below_value {n} (fin false h k) v (within true m e z b) = grind (arith, z)

-- what is within 2 ^ n isn't above it
within_top : {n : ℕ} {x : Float} → n ≤ 1023 → Within n x → T (le x (whole (2 ^ n)))
within_top {n} r w = below_value (whole (2 ^ n)) (exact_power n r) w

pub pressure_bounded : (cs ms : List Float) (named : ℕ) (pressure x : Float) → partial_of cs ms named pressure ≡ Ok x → Bounded x
unfolding partial_of
pressure_bounded cs ms named pressure x e =
    let z = one_taken (may_mix cs ms named pressure) Mixture (pressure_of pressure named (map quotient_of (zip cs ms))) x (sym e) in
    let qs = map quotient_of (zip cs ms) in
    let size = length cs in
    let a = and_parts (nat_le 1 size && nat_le size 8) (eqb (length ms) size && (nat_lt named size && (in_range pressure_range pressure && list_all part_fits (zip cs ms)))) z.0 in
    let b = and_parts (eqb (length ms) size) (nat_lt named size && (in_range pressure_range pressure && list_all part_fits (zip cs ms))) a.1 in
    let c = and_parts (nat_lt named size) (in_range pressure_range pressure && list_all part_fits (zip cs ms)) b.1 in
    let d = and_parts (in_range pressure_range pressure) (list_all part_fits (zip cs ms)) c.1 in
    let few : size ≤ 8 = leb→le size 8 (T_of (and_parts (nat_le 1 size) (nat_le size 8) a.0).1) in
    let there : named < size = ltb→lt named size (T_of c.0) in
    let many : length qs ≡ size = length-map (zip cs ms) quotient_of ∙ length-zip cs ms ∙ shorter size (length ms) (eqb→eq (length ms) size (T_of b.0)) in
    let sums = sum_bounds qs named (quotients_held (zip cs ms) d.1) (subst (λ (n : ℕ). n ≤ 8) (sym many) few) (subst (λ (n : ℕ). named < n) (sym many) there) in
    let own = All-get_or (λ q. Held 7 q × T (le q (sum_of qs))) qs named (whole 0) (subst (λ (n : ℕ). named < n) (sym many) there) sums.0 in
    let w = share (in_range_lem 0 (10 ^ 9) 30 tt d.0) own.0 sums.1 own.1 in
    let f = within_finite w in
    subst Bounded (sym z.1) (record { is_finite = f.0; not_negative = f.1; at_most = of_T _ (within_top (lit≤ tt) w) })
  where
    shorter : (a b : ℕ) → b ≡ a → min a b ≡ a
    shorter a b e = omega arith

-- what is bounded is a number
pub is_number : (x : Float) → Bounded x → T (not (is_nan x))
unfolding is_nan
is_number nan b = absurd (false≢true b.is_finite)
is_number (inf s) b = tt
is_number (fin s m e) b = tt
