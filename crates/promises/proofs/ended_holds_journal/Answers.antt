use Rattle.claims.proofs.written.Claims.{ended_holds_journal}
use Rattle.promises.proofs.ended_holds_journal.Goals as goal

pub returns : goal.returns
returns c = ended_holds_journal
