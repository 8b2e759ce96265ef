-- A whole journal, block by block (document 01, "`filing`").
use Rattle.std.specs.Prelude.{ℕ, zero, suc, cond, List, [], ◌∷◌, eqb, length, take, drop, Result, Ok, Err}
use Rattle.amounts.specs.Decline.{Answer}
use Rattle.amounts.specs.declared.decline.Decline.{Decline}
use Rattle.book.specs.Block.{block_on}
use Rattle.book.specs.Site.{Book}
use Rattle.book.specs.declared.blocks.Refused.{Refused}

-- parts of 512 bytes, the last one perhaps shorter: "A last part shorter than 512 bytes is a block that decline 1 meets"; at most n parts
unfoldable pub parts_to : ℕ → List ℕ → List (List ℕ)
parts_to zero s = []
parts_to (suc n) s = cond (eqb (length s) 0) [] (take 512 s ∷ parts_to n (drop 512 s))

abbrev pub parts_in : List ℕ → List (List ℕ)
parts_in s = parts_to (length s) s

-- a journal's book, or the first decline: the block's place from 0, and why
abbrev pub refused : ℕ → Decline → Refused
refused place d = record { place = place; decline = d }

abbrev pub onward : Answer Book → ℕ → (Book → Result Book Refused) → Result Book Refused
onward (Ok c) place next = next c
onward (Err d) place next = Err (refused place d)

-- "At the first decline it stops"
unfoldable pub read_all : Book → ℕ → List (List ℕ) → Result Book Refused
read_all b place [] = Ok b
read_all b place (s ∷ rest) = onward (block_on b s) place (λ c. read_all c (suc place) rest)
