use Rattle.std.proofs.Common.{arith}
use Rattle.std.proofs.lemmas.Grind.{common_steps}
use Rattle.post.proofs.moves.Laws.{laid_read}
use Rattle.post.proofs.moves.read_post.Goals as goal

pub returns-in_err-check : goal.returns-in_err-check
returns-in_err-check c = let e = laid_read c.args.o c.args.s.now in grind (arith, common_steps)

pub returns-in_err-kind : goal.returns-in_err-kind
returns-in_err-kind c = let e = laid_read c.args.o c.args.s.now in grind (arith, common_steps)

pub returns-in_err-check-2 : goal.returns-in_err-check-2
returns-in_err-check-2 c = let e = laid_read c.args.o c.args.s.now in grind (arith, common_steps)

pub returns : goal.returns
returns c = let e = laid_read c.args.o c.args.s.now in grind (arith, common_steps)
