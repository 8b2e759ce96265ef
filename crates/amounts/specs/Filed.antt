-- The step and the filed figure (document 01, "Treatment and report"; document 02, (c)), in micrograms.
use Rattle.std.specs.Prelude.{ℕ, suc, ◌+◌, ◌*◌, ◌/◌, ◌^◌, ◌≤◌, ◌<◌, cond, List, [], ◌∷◌, ◌≡◌, leb}
use Rattle.amounts.specs.declared.filed.Case.{Case}

-- ---- the step

-- a row of the steps: the amount from which it holds, up to that of the next row, and its step
pub record Row : Type 0 where
  pub from : ℕ
  pub step : ℕ

infix 70 ◌steps◌
abbrev pub ◌steps◌ : ℕ → ℕ → Row
from steps step = record { from = from; step = step }

-- "eleven cases: below 10^10 micrograms, then one per decade, the last from 10^19, each with its step"
unfoldable pub rows : List Row
rows =
    0 steps 10 ^ 8
    ∷ 10 ^ 10 steps 10 ^ 9
    ∷ 10 ^ 11 steps 10 ^ 10
    ∷ 10 ^ 12 steps 10 ^ 11
    ∷ 10 ^ 13 steps 10 ^ 12
    ∷ 10 ^ 14 steps 10 ^ 13
    ∷ 10 ^ 15 steps 10 ^ 14
    ∷ 10 ^ 16 steps 10 ^ 15
    ∷ 10 ^ 17 steps 10 ^ 16
    ∷ 10 ^ 18 steps 10 ^ 17
    ∷ 10 ^ 19 steps 10 ^ 18
    ∷ []

-- the last row that an amount reaches: the rows are numbered on from n, and `last` is the one that it reached before them
unfoldable pub case_in : ℕ → Case → List Row → ℕ → Case
case_in n last [] a = last
case_in n last (row ∷ rows) a =
    cond (leb row.from a) (case_in (suc n) (record { number = n; step = row.step }) rows a) last

-- "any 64-bit amount's case, numbered from 0, and step"; the first row holds from 0, so that every amount reaches it
unfoldable pub case_of : ℕ → Case
unfolding case_in rows
case_of a = case_in 0 (record { number = 0; step = 0 }) rows a

unfoldable pub step_of : ℕ → ℕ
unfolding case_of
step_of a = (case_of a).step

-- ---- the step as document 01 says it

-- "the largest power of ten not above the amount"
pub record LargestPower (p a : ℕ) : Type 0 where
  pub exponent : ℕ
  pub power : p ≡ 10 ^ exponent
  pub reached : p ≤ a
  pub largest : (k : ℕ) → 10 ^ k ≤ a → 10 ^ k ≤ p

-- "10^8 micrograms (0.1 kg) below 10^10, else a tenth of the largest power of ten not above the amount"
pub record TenthOfPower (a s : ℕ) : Type 0 where
  pub low : a < 10 ^ 10 → s ≡ 10 ^ 8
  pub high : 10 ^ 10 ≤ a → (p : ℕ) × LargestPower p a × (s ≡ p / 10)

-- "Every figure is as before": the table gives document 01's step for every amount below 10^20, and so for every one of 64 bits
abbrev pub StepIsTenthOfPower : Type 0
StepIsTenthOfPower = (a : ℕ) → a < 10 ^ 20 → TenthOfPower a (step_of a)

-- ---- the filed figure

-- the multiple of a step that is nearest to the amount, and of two as near the upper
abbrev pub half_up : ℕ → ℕ → ℕ
half_up step a = (a + step / 2) / step * step

-- "the heading's amount rounded half up to a step"
unfoldable pub filed_of : ℕ → ℕ
unfolding step_of
filed_of a = half_up (step_of a) a
