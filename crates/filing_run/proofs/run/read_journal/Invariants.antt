-- The parts that are left print what the journal does, and a reading takes fewer with each.
use Rattle.streams.specs.Input.{bytes_left}
use Rattle.journal.specs.Reading.{parts_left}
use Rattle.filing_run.proofs.run.Laws.{Prints}
use Rattle.filing_run.proofs.run.read_journal.Given as goal

abbrev pub invariant-loop-space : goal.invariant-loop-space
invariant-loop-space g l =
    Prints (bytes_left g.R.Read.remaining l.initial.input) (bytes_left g.R.Read.remaining l.input) l.reading

abbrev pub decreases-loop-space : goal.decreases-loop-space
decreases-loop-space g l = parts_left l.reading
