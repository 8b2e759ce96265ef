-- The digits of a number and of a figure, and how many there are. Assumes nothing.
use Rattle.std.proofs.Common.{◌≡◌, ◌∙◌, [], ◌∷◌, ◌++◌, ◌%◌, ℕ, zero, suc, ◌/◌, ◌^◌, ◌≤◌, ◌<◌, length, length-append, rules, arith}
use native.Mathlib.Nat.{pow-suc}
use borrow.Author.Tests.{lt-ltb, le-ltb}
use Rattle.std.specs.Fmt as std
use Rattle.std.proofs.lemmas.Bool.Decides.{nat_tests}
use Rattle.std.proofs.lemmas.Fmt.{AppendsLastDigit, decimal_from_appends, length-decimal-le}
use Rattle.text.specs.Number.{digit, digits_to, decimal, figure_text}

-- ---- decimal digits

-- a number that n + 1 digits write
digits_more : (n x : ℕ) → x < 10 ^ suc n → digits_to n x ≡ digits_to (suc n) x
unfolding digits_to
digits_more zero x h = grind (arith, nat_tests)
digits_more (suc n) x h = grind (arith, nat_tests, pow-suc, digits_more n (x / 10))

appends : AppendsLastDigit digits_to
unfolding digits_to
appends = search rules

pub decimal_is : (x : ℕ) → x < 2 ^ 64 → decimal x ≡ std.decimal x
decimal_is x h = digits_more 19 x (omega arith) ∙ decimal_from_appends digits_to appends 20 x h (length-decimal-le 20 x (omega arith) (omega arith) h)

pub decimal_small : (x : ℕ) → x < 10 → decimal x ≡ digit x ∷ []
unfolding digits_to
decimal_small x h = grind (arith, nat_tests)

digits_few : (n x : ℕ) → length (digits_to n x) ≤ suc n
unfolding digits_to
digits_few zero x = omega arith
digits_few (suc n) x = grind (arith, nat_tests, length-append {A = ℕ}, digits_few n (x / 10))

-- of any number
pub decimal_few : (x : ℕ) → length (decimal x) ≤ 20
decimal_few x = digits_few 19 x

pub decimal_short : (x : ℕ) → x < 10 ^ 11 → length (decimal x) ≤ 11
decimal_short x h = rw (decimal_is x (omega arith)) (length-decimal-le 11 x (omega arith) h (omega arith))

-- ---- figures

-- under 10 kg: the tenths are a digit
pub figure_small : (f : ℕ) → f < 10 ^ 10 → figure_text f ≡ decimal (f / 10 ^ 9) ++ (46 ∷ decimal (f / 10 ^ 8 % 10))
unfolding figure_text
figure_small f h = rw (lt-ltb f (10 ^ 10) h, decimal_small (f / 10 ^ 8 % 10) (omega arith))

pub figure_whole : (f : ℕ) → 10 ^ 10 ≤ f → figure_text f ≡ decimal (f / 10 ^ 9)
unfolding figure_text
figure_whole f h = rw (le-ltb f (10 ^ 10) h)
