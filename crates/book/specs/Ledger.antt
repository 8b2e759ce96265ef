-- The ledger: one sum in micrograms for each account, stage and substance.
use Rattle.std.specs.Prelude.{ℕ, zero, suc, ◌+◌, ◌-◌, ◌*◌, List, get_or, set}
use Rattle.encoding.specs.Each.{sum_to, put_to}
use Rattle.kinds.specs.Account.{place, closes_to}
use Rattle.kinds.specs.declared.account.Account.{Account}
use Rattle.kinds.specs.declared.account.Account.TheVariants.{Held}
use Rattle.plant.specs.Setup.{no_pair}
use Rattle.plant.specs.declared.setup.Pair.{Pair}

-- the place of a sum: by its account's place and its pair, and by account, stage and substance
abbrev pub at : ℕ → ℕ → ℕ
at account pair = account * 64 + pair

abbrev pub cell_of : Account → ℕ → ℕ → ℕ
cell_of account stage substance = at (place account) (stage * 8 + substance)

abbrev pub cell : List ℕ → Account → ℕ → ℕ → ℕ
cell sums account stage substance = get_or sums (cell_of account stage substance) 0

-- what all nine accounts and all stages hold of a substance
unfoldable pub total : List ℕ → ℕ → ℕ
unfolding sum_to
total sums s = sum_to 8 (λ stage. sum_to 9 (λ account. get_or sums (at account (stage * 8 + s)) 0))

-- an amount comes to a sum
abbrev pub added : List ℕ → ℕ → ℕ → List ℕ
added sums to n = set sums to (get_or sums to 0 + n)

-- an amount goes from one sum to another
abbrev pub moved : List ℕ → ℕ → ℕ → ℕ → List ℕ
moved sums from to n = added (set sums from (get_or sums from 0 - n)) to n

-- the numbers at the places of 0 .. n - 1 grow, each by its own amount
abbrev pub raised : (ℕ → ℕ) → (ℕ → ℕ) → List ℕ → ℕ → List ℕ
raised place amount l n = put_to place (λ k. get_or l (place k) 0 + amount k) l n

-- "g times counted content", of the material m and the substance s
abbrev pub brings : List ℕ → ℕ → ℕ → ℕ → ℕ
brings counted m g s = g * get_or counted (m * 8 + s) 0

-- the holdings of the pairs 0 .. k - 1 closed
unfoldable pub settled : List ℕ → List Pair → ℕ → List ℕ
unfolding closes_to
settled sums pairs zero = sums
settled sums pairs (suc k) =
    let before = settled sums pairs k in
    moved before (at (place Held) k) (at (place (closes_to (get_or pairs k no_pair).to_water)) k) (get_or before (at (place Held) k) 0)
