use Rattle.std.proofs.Common.{arith}
use Rattle.post.proofs.moves.Laws.{formed_read}
use Rattle.post.proofs.moves.check_post.Goals as goal

pub returns-in_err-laid : goal.returns-in_err-laid
returns-in_err-laid c = let e = formed_read c.args.o c.args.s.now in grind arith

pub returns : goal.returns
returns c = let e = formed_read c.args.o c.args.s.now in grind arith
