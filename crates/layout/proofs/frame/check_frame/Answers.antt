use Rattle.std.proofs.Common.{arith}
use Rattle.layout.proofs.frame.Laws.{frame_asked}
use Rattle.layout.proofs.frame.check_frame.Goals as goal

pub returns-in_err-check_block : goal.returns-in_err-check_block
returns-in_err-check_block c = let e = frame_asked c.args.number c.args.s.now in grind arith

pub returns-in_err-check_stored_sums : goal.returns-in_err-check_stored_sums
returns-in_err-check_stored_sums c = let e = frame_asked c.args.number c.args.s.now in grind arith

pub returns : goal.returns
returns c = let e = frame_asked c.args.number c.args.s.now in grind arith
