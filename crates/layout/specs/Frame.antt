-- A block's frame (document 01, "Journal blocks" and "Why a call is declined, in checking order"): its tag, check sums, kind and number.
use Rattle.std.specs.Prelude.{ℕ, ◌+◌, ◌*◌, ◌%◌, Bool, codes, List, [], ◌∷◌, ◌++◌, eqb, length, get_or, take, drop}
use Rattle.std.specs.List.{starts_with}
use Rattle.amounts.specs.Decline.{Answer, Check, check, checked, on_taken, is_taken}
use Rattle.amounts.specs.declared.decline.Decline.TheVariants.{NotABlock, CheckSum, NotNext}
use Rattle.encoding.specs.Bytes.{le, part, little_endian}
use Rattle.encoding.specs.Each.{sum_to}
use Rattle.layout.specs.Holds.{holds_of}
use Rattle.layout.specs.declared.frame.CheckSums.{CheckSums}
use Rattle.layout.specs.declared.holds.Holds.{Holds}

-- "0–3 "PRTR" in ASCII; 4 kind; 5 count; 6–7 blocks accepted so far; 8–507 body"
abbrev pub has_tag : List ℕ → Bool
has_tag s = starts_with eqb s (codes "PRTR")

abbrev pub block_kind : List ℕ → ℕ
block_kind s = get_or s 4 0

abbrev pub count_of : List ℕ → ℕ
count_of s = get_or s 5 0

abbrev pub body_of : List ℕ → List ℕ
body_of s = part 8 508 s

-- "508–509 the sum of bytes 0–507 modulo 65,521; 510–511 the sum, over the same bytes, of each byte times (its offset + 1), modulo 65,521"
unfoldable pub plain_sum : List ℕ → ℕ
unfolding sum_to
plain_sum s = sum_to (length s) (λ i. get_or s i 0) % 65521

unfoldable pub weighted_sum : List ℕ → ℕ
unfolding sum_to
weighted_sum s = sum_to (length s) (λ i. get_or s i 0 * (i + 1)) % 65521

abbrev pub sums_of : List ℕ → CheckSums
sums_of s = record { plain = plain_sum (take 508 s); weighted = weighted_sum (take 508 s) }

-- 1: the length and the tag
abbrev pub block_checks : List ℕ → List Check
block_checks s = check (eqb (length s) 512) NotABlock ∷ check (has_tag s) NotABlock ∷ []

-- 2: the sums
abbrev pub sum_checks : List ℕ → List Check
sum_checks s =
    check (eqb (le 2 (drop 508 s)) (sums_of s).plain) CheckSum
    ∷ check (eqb (le 2 (drop 510 s)) (sums_of s).weighted) CheckSum
    ∷ []

-- 3: the kind and the number
abbrev pub next_checks : ℕ → List ℕ → List Check
next_checks blocks s = check (is_taken (holds_of (block_kind s))) NotNext ∷ check (eqb (le 2 (drop 6 s)) blocks) NotNext ∷ []

-- 1 to 3
abbrev pub frame_checks : ℕ → List ℕ → List Check
frame_checks blocks s = block_checks s ++ (sum_checks s ++ next_checks blocks s)

-- what a block that passes them holds
unfoldable pub held_at : ℕ → List ℕ → Answer Holds
unfolding checked holds_of
held_at blocks s = on_taken (checked (frame_checks blocks s) s) (λ s. holds_of (block_kind s))

-- ---- a block made

-- "0–3 "PRTR" in ASCII; 4 kind; 5 count; 6–7 blocks accepted so far"
abbrev pub head_of : ℕ → ℕ → ℕ → List ℕ
head_of kind count number = 80 ∷ 82 ∷ 84 ∷ 82 ∷ kind ∷ count ∷ little_endian 2 number

-- bytes with their check sums behind them
unfoldable pub summed : List ℕ → List ℕ
unfolding little_endian plain_sum weighted_sum
summed s = s ++ (little_endian 2 (plain_sum s) ++ little_endian 2 (weighted_sum s))

-- the block of a kind, a count, a number and a body of 500 bytes
unfoldable pub block_of : ℕ → ℕ → ℕ → List ℕ → List ℕ
unfolding little_endian summed
block_of kind count number body = summed (head_of kind count number ++ body)
