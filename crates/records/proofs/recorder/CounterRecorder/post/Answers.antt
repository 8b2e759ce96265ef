use Rattle.records.proofs.recorder.Laws.{counter_follows, post_alike}
use Rattle.records.proofs.recorder.CounterRecorder.post.Goals as goal

pub returns : goal.returns
returns c =
    let e = c.post.ensures in
    counter_follows _ _ _ _ e.room_stays (λ p r. post_alike _ _ p r _ _ _ e.counts)
