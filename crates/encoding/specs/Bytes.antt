-- Stored numbers and zero places (document 01, "Amounts": "Stored numbers are little-endian").
use Rattle.std.specs.Prelude.{ℕ, zero, suc, ◌+◌, ◌-◌, ◌*◌, ◌/◌, ◌%◌, Bool, ◌&&◌, cond, List, [], ◌∷◌, ◌++◌, eqb, leb, length, get_or, take, drop, replicate}
use Rattle.std.specs.List.{list_all}
use Rattle.encoding.specs.Each.{list_to}

-- the number that the first n bytes are, the lowest first; a byte that is missing counts as 0
unfoldable pub le : ℕ → List ℕ → ℕ
le zero s = 0
le (suc n) [] = 0
le (suc n) (b ∷ s) = b + 256 * le n s

-- the first n bytes
abbrev pub first_bytes : ℕ → List ℕ → List ℕ
first_bytes n s = list_to n (λ i. get_or s i 0)

-- n numbers of w bytes each, one after the other
abbrev pub les : ℕ → ℕ → List ℕ → List ℕ
les w n s = list_to n (λ i. le w (drop (i * w) s))

-- the bytes from one place up to another
abbrev pub part : ℕ → ℕ → List ℕ → List ℕ
part from to s = take (to - from) (drop from s)

-- each byte is zero
abbrev pub all_zero : List ℕ → Bool
all_zero s = list_all (λ b. eqb b 0) s

-- n bytes that store a number, the lowest first
unfoldable pub little_endian : ℕ → ℕ → List ℕ
little_endian zero x = []
little_endian (suc n) x = x % 256 ∷ little_endian n (x / 256)

-- bytes with zeros behind them, n in all
abbrev pub padded : ℕ → List ℕ → List ℕ
padded n s = s ++ replicate (n - length s) 0

abbrev pub within : ℕ → ℕ → ℕ → Bool
within low high n = leb low n && leb n high

-- bytes written at a place of a buffer, and all else as it was
unfoldable pub written : List ℕ → ℕ → List ℕ → List ℕ
written l at s = take at l ++ s ++ drop (at + length s) l

-- the same where they fit, and else the buffer as it was throughout
unfoldable pub placed : List ℕ → ℕ → List ℕ → List ℕ
unfolding written
placed l at s = cond (leb (at + length s) (length l)) (written l at s) l
