use Rattle.std.proofs.Common.{◌∙◌, ℕ, length, refl, rules, arith}
use Rattle.write_run.proofs.run.Laws.{makes_at_start, makes_more, made_all}
use lib.ListN.{length-replicate}
use Rattle.write_run.proofs.run.take_records.Goals as goal

pub loop-place-init : goal.loop-place-init
loop-place-init g c = record { room = length-replicate {0} {A = ℕ} 65536 0; lent = refl; makes = makes_at_start _ _ }

pub returns-in-Break-clause-taken : goal.returns-in-Break-clause-taken
returns-in-Break-clause-taken g c =
    let loop = c.loop-place in
    let read = c.read_record-read in
    let answer = c.answer in
    made_all _ _ _ _ _ _ (length loop.space) read.result answer.result loop.invariant.makes read.ensures.took answer.ensures.made answer.ensures.follows
    c.in-Break.end (omega arith) c.in-Break.is

pub loop-place-preserved : goal.loop-place-preserved
loop-place-preserved g c =
    let loop = c.loop-place in
    let read = c.read_record-read in
    let answer = c.answer in
    record {
      room = search rules;
      lent = answer.ensures.lent ∙ loop.invariant.lent;
      makes = makes_more _ _ _ _ _ _ (length loop.space) read.result answer.result loop.invariant.makes read.ensures.took answer.ensures.made answer.ensures.follows
          c.in_default.field-0 c.in_default.is;
    }
