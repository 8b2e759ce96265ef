use Rattle.std.proofs.Common.{◌≡◌}
use Rattle.book.specs.Ledger.{settled}
use Rattle.book.proofs.ledger.settle.Given as goal

-- the pairs passed are closed
abbrev pub invariant-loop-pair : goal.invariant-loop-pair
invariant-loop-pair l = l.sums ≡ settled l.initial.sums l.pairs l.pair
