use Rattle.std.proofs.Common.{◌≡◌, ◌+◌, ◌++◌, [], ◌∷◌, length, refl, arith, rules, of_calls, length-append}
use denote.Param.Always.{mut_next}
use Rattle.std.proofs.lemmas.Fn.{FoldsTo-push}
use Rattle.std.proofs.lemmas.List.Elements.{All-push}
use Rattle.streams.specs.Input.{IsInterrupted}
use Rattle.streams.proofs.input.retry.Goals as goal

pub loop-made-preserved : goal.loop-made-preserved
loop-made-preserved g c =
    let (always, run) = c.loop-made.invariant in
    let (failed, calls, all, count) = run in
    let e = c.in-Err.e in
    let interrupted : IsInterrupted e = search rules in
    let more : length (failed ++ e ∷ []) + 1 ≡ c.loop-made._made + 1 = omega (arith, length-append failed (e ∷ [])) in
    let calls = FoldsTo-push _ _ _ _ _ _ calls (search of_calls) in
    (mut_next _ _ _ _ _ _ c.in-Err.ensures refl always, (failed ++ e ∷ [], calls, All-push IsInterrupted failed e all interrupted, more))

pub returns-in_default : goal.returns-in_default
returns-in_default g c =
    let (failed, calls, all, count) = c.loop-made.invariant.1 in
    record {
      failed = failed;
      last = c.loop-made.call;
      calls = calls;
      answers = search of_calls;
      interrupted = all;
      fewer = omega arith;
      gives_up = λ i. search rules;
    }

pub returns : goal.returns
returns g c =
    let (failed, calls, all, count) = c.loop-made.invariant.1 in
    record {
      failed = failed;
      last = c.loop-made.call;
      calls = calls;
      answers = search of_calls;
      interrupted = all;
      fewer = omega arith;
      gives_up = search rules;
    }
