-- Numbers and figures in text (document 01, "`filing`" and "Treatment and report"), as bytes of ASCII.
use Rattle.std.specs.Prelude.{ℕ, zero, suc, ◌+◌, ◌/◌, ◌%◌, ◌^◌, cond, List, [], ◌∷◌, ◌++◌, ltb}

-- "one space between fields"
abbrev pub space : ℕ
space = 32

abbrev pub digit : ℕ → ℕ
digit x = 48 + x

-- the decimal digits of a number of at most n + 1 digits, with no leading zero
unfoldable pub digits_to : ℕ → ℕ → List ℕ
digits_to zero x = digit (x % 10) ∷ []
digits_to (suc n) x = cond (ltb x 10) (digit x ∷ []) (digits_to n (x / 10) ++ (digit (x % 10) ∷ []))

-- a number of 64 bits has at most 20 digits
abbrev pub decimal : ℕ → List ℕ
decimal x = digits_to 19 x

-- "Figures under 10 kg print with one decimal, others whole": a figure is in micrograms
unfoldable pub figure_text : ℕ → List ℕ
figure_text f = cond (ltb f (10 ^ 10)) (decimal (f / 10 ^ 9) ++ (46 ∷ digit (f / 10 ^ 8 % 10) ∷ [])) (decimal (f / 10 ^ 9))
