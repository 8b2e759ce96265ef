use Rattle.std.proofs.Common.{length, rules}
use Rattle.streams.proofs.record.Laws.{took_none, took_record}
use Rattle.streams.proofs.input.Input.read_record.Goals as goal

pub returns-in-Break-clause-took : goal.returns-in-Break-clause-took
returns-in-Break-clause-took g c =
    let read = c.read_part-part in
    let head = c.head_of in
    took_none _ _ _ read.new.part (search rules) read.result head.result c.in-Break.answer read.ensures.bound head.ensures.value head.ensures.upper_bound read.ensures.took
    (search rules)

pub returns-clause-took : goal.returns-clause-took
returns-clause-took g c =
    let first = c.read_part-part in
    let read = c.read_part-part-2 in
    took_record _ _ _ (length c.args.space.now) first.new.part first.result read.result c.in-Continue.head (record { ref_ptr = c.args.space.ref_ptr; now = read.new.part }) _
    (search rules) first.ensures.took c.head_of.result c.head_of.ensures.value (search rules) (search rules) read.ensures.bound read.ensures.took c.record_of.ensures
