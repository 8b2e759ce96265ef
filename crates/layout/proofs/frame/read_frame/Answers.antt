use Rattle.std.proofs.Common.{arith}
use Rattle.layout.proofs.frame.Laws.{held_is}
use Rattle.layout.proofs.frame.read_frame.Goals as goal

pub returns-in_err-check_frame : goal.returns-in_err-check_frame
returns-in_err-check_frame c = let e = held_is c.args.number c.args.s.now in grind arith

pub returns : goal.returns
returns c = let e = held_is c.args.number c.args.s.now in grind arith
