use Rattle.std.proofs.Common.{◌≡◌}
use Rattle.kinds.specs.declared.account.Account.TheVariants.{Held}
use Rattle.book.specs.Ledger.{cell_of, raised, brings}
use Rattle.book.proofs.ledger.issue.Given as goal

-- what the grams bring of the substances passed has come to the holdings and to what was handled
abbrev pub invariant-loop-s : goal.invariant-loop-s
invariant-loop-s l =
    record {
      sums : l.sums ≡ raised (cell_of Held l.stage) (brings l.counted l.material l.grams) l.initial.sums l.s;
      handled : l.handled ≡ raised (λ s. s) (brings l.counted l.material l.grams) l.initial.handled l.s;
    }
