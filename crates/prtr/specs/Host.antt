-- What a program in another language gets of an answer: document 01's number, and values in the places that it lends.
use Rattle.std.specs.Prelude.{ℕ, Bool, cond, List, leb, length, Ok, Err}
use Rattle.amounts.specs.Decline.{Answer, number}
use Rattle.text.specs.Writing.{most_bytes}

-- the number of the decline, or 0
abbrev pub number_of : {A : Type 0} → Answer A → ℕ
number_of (Ok a) = 0
number_of (Err n) = number n

-- what stands in a lent place: a part of the value that is taken, and at a decline what stood there before
abbrev pub lent : {A B : Type 0} → (A → B) → B → Answer A → B
lent part before (Ok a) = part a
lent part before (Err n) = before

-- 1 for yes and 0 for no
abbrev pub one_or_zero : Bool → ℕ
one_or_zero t = cond t 1 0

-- the length of a text where a buffer with room for the longest is lent, and 0 where it is shorter
unfoldable pub length_in : List ℕ → List ℕ → ℕ
length_in out text = cond (leb most_bytes (length out)) (length text) 0
