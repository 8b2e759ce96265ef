-- The records that are left make the page that all of them make, in the buffer that was lent.
use Rattle.std.proofs.Common.{◌≡◌, length}
use Rattle.streams.specs.Input.{bytes_left}
use Rattle.writer.specs.Writer.{page}
use Rattle.write_run.proofs.run.Laws.{Makes}
use Rattle.write_run.proofs.run.take_records.Given as goal

abbrev pub invariant-loop-place : goal.invariant-loop-place
invariant-loop-place g l =
    record {
      room : length l.space ≡ 65536;
      lent : l.writer.buffer.ghost_name ≡ l.initial.writer.buffer.ghost_name;
      makes : Makes (bytes_left g.R.Read.remaining l.initial.input) (bytes_left g.R.Read.remaining l.input) (page l.initial.writer) (page l.writer);
    }
