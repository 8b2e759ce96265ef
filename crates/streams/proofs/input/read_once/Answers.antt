use Rattle.std.proofs.Common.{rules}
use Rattle.streams.proofs.input.Laws.{left_by_calls, read_behind}
use Rattle.streams.proofs.input.read_once.Goals as goal

pub returns : goal.returns
returns g c =
    let left = left_by_calls _ g.R.Read.remaining (λ f e h k. record { kept = search rules; reader = search rules; part = search rules }) _ _ _ c.retry.ensures.calls in
    record { bound = search (rules, c.retry.ensures.answers.met); took = read_behind _ _ _ c.retry.result _ left.kept (search (rules, c.retry.ensures.answers.met)) }
