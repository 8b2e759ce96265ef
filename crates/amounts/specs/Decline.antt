-- Why a call is declined (document 01, "Why a call is declined, in checking order"), and the table of checks that finds it.
use Rattle.std.specs.Prelude.{ℕ, Bool, true, false, ◌&&◌, List, [], ◌∷◌, Result, Ok, Err, is_ok}
use Rattle.amounts.specs.declared.decline.Decline.{Decline}
use Rattle.amounts.specs.declared.decline.Decline.TheVariants.{NotABlock, CheckSum, NotNext, OutOfTurn, Closed, Layout, OutOfRange, NoRow}
use Rattle.amounts.specs.declared.decline.Decline.TheVariants.{Excess, Full, Short, NoSubstance, NoRoom, StockCount, Mixture}

-- what a call answers: the value asked for, or its decline
abbrev pub Answer : Type 0 → Type 0
Answer A = Result A Decline

-- "Why a call is declined", by its number
abbrev pub number : Decline → ℕ
-- the block isn't 512 bytes or lacks "PRTR"
number NotABlock = 1
-- a check sum differs
number CheckSum = 2
-- the kind isn't 1–3 or the block number isn't the next
number NotNext = 3
-- a set-up block comes out of its turn, or a post or a block of posts before the last stage is described
number OutOfTurn = 4
-- the book is closed
number Closed = 5
-- a length, kind, form, index, count, limit, order or zero place breaks the layout, floats aside
number Layout = 6
-- a float is not finite or outside its range
number OutOfRange = 7
-- form 1 or 2 names a substance without a coefficient row
number NoRow = 8
-- the loss exceeds 2,000,000 kg
number Excess = 9
-- 4,000 posts are accepted and this isn't the close
number Full = 10
-- a store or holding is less than what leaves it
number Short = 11
-- a report names a substance that the book hasn't
number NoSubstance = 12
-- a set-up block or a post that begins a block finds fewer than 512 bytes left or 65,536 blocks written
number NoRoom = 13
-- the counted grams exceed 8×10^12 or the material isn't in the book
number StockCount = 14
-- no part, over eight parts, the named part isn't among them or a value is outside its range
number Mixture = 18

-- a test, and the decline where it fails
pub data Check : Type 0 where
  check : Bool → Decline → Check

-- the first check that fails declines; where none fails, the value is taken
unfoldable pub checked : {A : Type 0} → List Check → A → Answer A
checked [] a = Ok a
checked (check true d ∷ rows) a = checked rows a
checked (check false d ∷ rows) a = Err d

-- whether each check of a table passes
abbrev pub passes : List Check → Bool
passes [] = true
passes (check t d ∷ rows) = t && passes rows

-- what follows where an answer is taken; a decline stands
abbrev pub on_taken : {A B : Type 0} → Answer A → (A → Answer B) → Answer B
on_taken (Ok a) next = next a
on_taken (Err d) next = Err d

abbrev pub is_taken : {A : Type 0} → Answer A → Bool
is_taken = is_ok

-- the value of an answer that is taken, and else the one given
abbrev pub value_or : {A E : Type 0} → A → Result A E → A
value_or other (Ok a) = a
value_or other (Err e) = other

-- an answer without its value
abbrev pub verdict_of : {A E : Type 0} → Result A E → Result Unit E
verdict_of (Ok a) = Ok tt
verdict_of (Err e) = Err e
