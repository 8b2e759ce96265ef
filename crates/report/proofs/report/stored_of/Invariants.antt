use Rattle.std.proofs.Common.{◌≡◌}
use Rattle.book.specs.Site.{stored_to}
use Rattle.report.proofs.report.stored_of.Given as goal

abbrev pub invariant-loop-m : goal.invariant-loop-m
invariant-loop-m l = l.sum ≡ stored_to l.store l.counted l.s l.m
