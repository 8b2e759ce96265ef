-- Document 01, "Figures to be established": F1 to F13, one table, each figure as it prints.
use Rattle.std.specs.Prelude.{Bool, true, false, List, [], ◌∷◌, ℕ, ◌*◌, ◌^◌, ◌≡◌, map, Ok}
use Rattle.amounts.specs.Content.{counted_of}
use Rattle.amounts.specs.Decline.{Answer}
use Rattle.amounts.specs.Filed.{filed_of}
use Rattle.amounts.specs.Threshold.{due_of}
use Rattle.amounts.specs.Treatment.{parts_of, split_of}
use Rattle.amounts.specs.declared.treatment.Parts.{Parts}
use Rattle.text.specs.Number.{digit, figure_text}

-- what is asked of the definitions
pub data Asked : Type 0 where
  filing : ℕ → Asked
  threshold : ℕ → ℕ → Asked
  counting : ℕ → ℕ → Asked
  splitting : ℕ → ℕ → ℕ → Asked
  releasing : ℕ → ℕ → Asked

-- and what they answer; what is released, whatever the destruction
pub data Figure : Type 0 where
  printed : List ℕ → Figure
  due : Answer Bool → Figure
  counted : Answer ℕ → Figure
  split : Answer Parts → Figure
  released : (ℕ → ℕ) → Figure

abbrev pub answered : Asked → Figure
answered (filing micrograms) = printed (figure_text (filed_of micrograms))
answered (threshold class handled) = due (due_of class handled)
answered (counting class ppm) = counted (counted_of class ppm)
answered (splitting a r d) = split (split_of a r d)
answered (releasing a r) = released (λ d. (parts_of a r d).released)

-- a text of one, two or three digits, and of a digit with a decimal behind its point
abbrev pub tenths : ℕ → ℕ → Figure
tenths a b = printed (digit a ∷ 46 ∷ digit b ∷ [])

abbrev pub tens : ℕ → ℕ → Figure
tens a b = printed (digit a ∷ digit b ∷ [])

abbrev pub hundreds : ℕ → ℕ → ℕ → Figure
hundreds a b c = printed (digit a ∷ digit b ∷ digit c ∷ [])

abbrev pub parts : ℕ → ℕ → ℕ → Figure
parts a b c = split (Ok (record { released = a; destroyed = b; residue = c }))

pub record Row : Type 0 where
  pub asked : Asked
  pub figure : Figure

infix 20 ◌gives◌
abbrev pub ◌gives◌ : Asked → Figure → Row
a gives f = record { asked = a; figure = f }

abbrev pub table : List Row
table =
    -- F1 to F9: "49,999,999 → 0.0; 50,000,000 → 0.1; 8,840,302,000 → 8.8; 9,949,999,999 → 9.9; 9,950,000,000 → 10; 99,500,000,000 → 100; 102×10^9 → 100;
    -- 225×10^9 → 230; 588×10^9 → 590"
    (filing 49999999 gives tenths 0 0)
    ∷ (filing 50000000 gives tenths 0 1)
    ∷ (filing 8840302000 gives tenths 8 8)
    ∷ (filing 9949999999 gives tenths 9 9)
    ∷ (filing 9950000000 gives tens 1 0)
    ∷ (filing 99500000000 gives hundreds 1 0 0)
    ∷ (filing (102 * 10 ^ 9) gives hundreds 1 0 0)
    ∷ (filing (225 * 10 ^ 9) gives hundreds 2 3 0)
    ∷ (filing (588 * 10 ^ 9) gives hundreds 5 9 0)
    -- F10: "10^12 − 1 in class 1 isn't due, 10^12 is"
    ∷ (threshold 1 999999999999 gives due (Ok false))
    ∷ (threshold 1 (10 ^ 12) gives due (Ok true))
    -- F11: "9,999 ppm in class 1 counts as 0, 10,000 counts"
    ∷ (counting 1 9999 gives counted (Ok 0))
    ∷ (counting 1 10000 gives counted (Ok 10000))
    -- F12: "7 at r = d = 500,000: released 4, destroyed 1, residue 2"
    ∷ (splitting 7 500000 500000 gives parts 4 1 2)
    -- F13: "1 at r = 999,999: released 1"
    ∷ (releasing 1 999999 gives released (λ d. 1))
    ∷ []

-- each row is answered as it says
abbrev pub Established : Type 0
Established = map (λ (row : Row). answered row.asked) table ≡ map (λ (row : Row). row.figure) table
