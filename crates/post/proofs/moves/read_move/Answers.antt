use Rattle.std.proofs.Common.{arith}
use Rattle.post.proofs.moves.Laws.{move_read, product_fits}
use Rattle.post.proofs.moves.read_move.Goals as goal

pub returns-in_err-laid : goal.returns-in_err-laid
returns-in_err-laid c = let e = move_read c.args.o c.args.numbers.now c.args.s.now in grind arith

pub amount-requires : goal.amount-requires
amount-requires c = product_fits c.args.o c.args.s.now c.in_ok-laid.laid c.in_ok-laid.ensures

pub returns-in_err-amount : goal.returns-in_err-amount
returns-in_err-amount c = let e = move_read c.args.o c.args.numbers.now c.args.s.now in grind arith

pub returns : goal.returns
returns c = let e = move_read c.args.o c.args.numbers.now c.args.s.now in grind arith
