use Rattle.std.proofs.Common.{rules, sym}
use Rattle.std.proofs.lemmas.List.Sorted.{answers_always}
use Rattle.losses.proofs.coefficient.Rows.{found, missed}
use Rattle.losses.specs.declared.coefficient.Entry.{Entry}
use Rattle.losses.proofs.coefficient.row_of.Goals as goal

pub returns-in-Ok : goal.returns-in-Ok
returns-in-Ok c =
    let searched = c.in-Ok.ensures.position (λ (e : Entry). e.number) (answers_always _ _ _ (λ f a r g called. search rules)) in
    sym (found c.args.number c.in-Ok.place _ c.in-Ok.ensures.bound searched)

pub returns-in-Err : goal.returns-in-Err
returns-in-Err c =
    let searched = c.in-Err.ensures.position (λ (e : Entry). e.number) (answers_always _ _ _ (λ f a r g called. search rules)) in
    sym (missed c.args.number c.in-Err.field-0 searched)
