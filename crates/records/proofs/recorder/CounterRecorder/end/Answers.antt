use Rattle.std.proofs.Common.{refl, sym, ◌∙◌}
use Rattle.records.specs.Recorder.{StandsFor}
use Rattle.records.proofs.recorder.Laws.{counter_follows, end_alike}
use Rattle.records.proofs.recorder.CounterRecorder.end.Goals as goal

pub returns-clause-follows : goal.returns-clause-follows
returns-clause-follows c =
    let e = c.end.ensures in
    counter_follows _ _ _ _ e.room_stays (λ p r. record { verdict = refl; after = end_alike _ _ p r _ e.ends })

pub returns-clause-filled : goal.returns-clause-filled
unfolding StandsFor
returns-clause-filled c = λ p r. c.end.ensures.filled ∙ sym r.filled
