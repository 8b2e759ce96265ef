-- Each record leaves fewer parts of the input to ask for.
use Rattle.streams.specs.Input.{parts_left}
use Rattle.replay.proofs.run.Given as goal

abbrev pub decreases-loop-record : goal.decreases-loop-record
decreases-loop-record g l = parts_left l.input
