use Rattle.records.proofs.recorder.Laws.{counter_follows, set_up_alike}
use Rattle.records.proofs.recorder.CounterRecorder.set_up.Goals as goal

pub returns : goal.returns
returns c =
    let e = c.set_up.ensures in
    counter_follows _ _ _ _ e.room_stays (λ p r. set_up_alike _ _ p r _ _ _ _ _ e.counts)
