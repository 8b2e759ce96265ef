-- Records that are written whole are calls that are accepted throughout. Assumes nothing.
use mathlib.Core.Path.{◌≡◌, refl, sym, ap, ◌∙◌}
use mathlib.Core.Bool.{true}
use mathlib.Core.List.{List, [], ◌∷◌, map}
use Prim.Native.Nat.{ℕ, suc}
use Rattle.std.specs.Prelude.{Result, Ok, Err}
use Rattle.amounts.specs.Decline.{Answer, is_taken, value_or}
use Rattle.pages.specs.Calls.{Call, answer_to, after, keep, run, accepted}
use Rattle.pages.specs.Page.{Page, fresh_page, ended}
use Rattle.records.specs.Records.{Recorded, call, malformed, records_in}
use Rattle.records.specs.declared.batch.Stopped.{Stopped}
use Rattle.records.specs.Batch.{onward, refused, write_all, calls_of, BatchIsItsCalls}

-- what the page after records is, and that each of their calls is accepted
abbrev Theirs : Page → Page → List Call → Type 0
Theirs p q calls = (accepted p calls ≡ calls) × (q ≡ ended (run p calls))

-- a call that is taken, before calls that are theirs
one_more : (p q r : Page) (c : Call) (calls : List Call) → answer_to p c ≡ Ok r → Theirs r q calls → Theirs p q (c ∷ calls)
unfolding accepted run
one_more p q r c calls e h =
    let next : after p c ≡ r = ap (value_or p) e in
    let kept : is_taken (answer_to p c) ≡ true = ap is_taken e in (
      ap (λ b. keep b c (accepted (after p c) calls)) kept ∙ ap (λ (x : Page). c ∷ accepted x calls) next ∙ ap (λ (l : List Call). c ∷ l) h.0,
      h.1 ∙ ap (λ (x : Page). ended (run x calls)) (sym next),
    )

-- an answer that leads on to a page was taken
led_on : (a : Answer Page) (place : ℕ) (next : Page → Result Page Stopped) (q : Page) → onward (refused a) place next ≡ Ok q → (r : Page) × (a ≡ Ok r) × (next r ≡ Ok q)
led_on (Ok r) place next q e = (r, refl, e)
led_on (Err n) place next q e = cc

calls_are : (p q : Page) (place : ℕ) (records : List Recorded) → write_all p place records ≡ Ok q → Theirs p q (calls_of records)
unfolding write_all calls_of accepted run
calls_are p q place [] e = let is : q ≡ ended p = cc in (refl, is)
calls_are p q place (call c ∷ rest) e =
    let h = led_on (answer_to p c) place (λ r. write_all r (suc place) rest) q e in
    one_more p q h.0 c (calls_of rest) h.1 (calls_are h.0 q (suc place) rest h.2)
calls_are p q place (malformed ∷ rest) e = cc

-- none of them is malformed
all_calls : (p q : Page) (place : ℕ) (records : List Recorded) → write_all p place records ≡ Ok q → records ≡ map call (calls_of records)
unfolding write_all calls_of
all_calls p q place [] e = refl
all_calls p q place (call c ∷ rest) e =
    let h = led_on (answer_to p c) place (λ r. write_all r (suc place) rest) q e in
    ap (λ (l : List Recorded). call c ∷ l) (all_calls h.0 q (suc place) rest h.2)
all_calls p q place (malformed ∷ rest) e = cc

pub batch_is_its_calls : BatchIsItsCalls
batch_is_its_calls lent s p e =
    let h = calls_are (fresh_page lent) p 0 (records_in s) e in (all_calls (fresh_page lent) p 0 (records_in s) e, h.0, h.1)
