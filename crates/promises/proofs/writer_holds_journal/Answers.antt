use Rattle.claims.proofs.written.Claims.{writer_holds_journal}
use Rattle.promises.proofs.writer_holds_journal.Goals as goal

pub returns : goal.returns
returns c = writer_holds_journal
