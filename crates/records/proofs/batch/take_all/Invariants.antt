use Rattle.std.specs.Iterator.Adapters.{enumerate_source, enumerate_count}
use Rattle.records.proofs.batch.Laws.{Upto}
use Rattle.records.proofs.batch.take_all.Given as goal

abbrev pub invariant-loop-place : goal.invariant-loop-place
invariant-loop-place g l =
    Upto g.R.Recorder.lent g.R.Recorder.is_at l.fn.records l.initial.recorder l.recorder (enumerate_source l.place-iterator).rest.now (enumerate_count l.place-iterator)
