-- A journal that is read part by part from an input of known bytes. Assumes nothing.
use Rattle.std.proofs.Common.{◌≡◌, ◌≢◌, ℕ, ◌+◌, ◌≤◌, ◌<◌, min, true, List, [], ◌∷◌, ◌++◌, length, take, Option, Result, Ok}
use Rattle.std.proofs.Common.{None, Some, IfSome, inl, inr, sym, ap, ◌∙◌, arith, length-append, length-take-le}
use Rattle.std.specs.Bool.{⊤}
use Rattle.std.specs.Option.{is_some}
use Rattle.std.proofs.lemmas.Bool.{cases_lt}
use Rattle.std.specs.Io.{ReadsAtMost}
use Rattle.streams.specs.Input.{PartTook}
use Rattle.amounts.specs.declared.decline.Decline.{Decline}
use Rattle.book.specs.Blocks.{parts_to, parts_in}
use Rattle.book.proofs.blocks.Laws.{parts_cut}
use Rattle.journal.specs.Reading.{started, fed, has_stopped, text_while, text_of, printed_of}
use Rattle.journal.specs.declared.reading.Reading.{Reading}
use Rattle.journal.proofs.reading.Laws.{fed_all, stays_all, filing_is}

-- a part that is read is the first of what was left
first_read : (rest part left : List ℕ) → rest ≡ part ++ left → 0 < length part → length part ≤ 512 → (length part < 512 → left ≡ []) → parts_in rest ≡ part ∷ parts_in left
first_read rest part left took some most last =
    let long : length rest ≡ length part + length left = ap length took ∙ length-append part left in
    let size : length part ≡ min 512 (length rest) = elim (cases_lt (length part) 512) [ inl l ↦ omega (arith, ap length (last l)) | inr l ↦ omega arith ] in
    parts_cut rest part left took size (omega arith)

-- the parts that are left, fed, print what the journal does
abbrev pub Prints : Option (List ℕ) → Option (List ℕ) → Reading → Type 0
Prints None left r = ⊤
Prints (Some s) None r = ⊥
Prints (Some s) (Some rest) r = text_of (fed_all r (parts_in rest)) ≡ printed_of s

pub prints_at_start : (input : Option (List ℕ)) → Prints input input started
prints_at_start None = tt
prints_at_start (Some s) = filing_is s

pub prints_on : {E : Type 0} (input before after : Option (List ℕ)) (r : Reading) (part : List ℕ) (n : ℕ) (read : Result ℕ E) → length part ≡ 512 → n ≢ 0 → read ≡ Ok n
    → ReadsAtMost read part → PartTook before after part read → Prints input before r → Prints input after (fed r (take n part))
unfolding fed_all
prints_on None before after r part n read room some is most took h = tt
prints_on (Some s) None after r part n read room some is most took h = absurd h
prints_on (Some s) (Some rest) None r part n read room some is most took h = absurd (rw is at took).0
prints_on (Some s) (Some rest) (Some left) r part n read room some is most took h =
    let took = rw is at took in
    let within = (rw is at most).0 in
    let count = length-take-le n part within in
    let first = first_read rest (take n part) left took.0 (omega arith) (omega arith) (λ l. took.1 (omega arith)) in
    sym (ap (λ parts. text_of (fed_all r parts)) first) ∙ h

pub prints_at_end : {E : Type 0} (input before after : Option (List ℕ)) (r : Reading) (part : List ℕ) (read : Result ℕ E) → length part ≡ 512 → read ≡ Ok 0
    → PartTook before after part read → Prints input before r → IfSome input (λ s. text_of r ≡ printed_of s)
unfolding fed_all parts_to
prints_at_end None before after r part read room is took h = tt
prints_at_end (Some s) None after r part read room is took h = absurd h
prints_at_end (Some s) (Some rest) None r part read room is took h = absurd (rw is at took).0
prints_at_end (Some s) (Some rest) (Some left) r part read room is took h =
    let took = rw is at took in
    let over : rest ≡ [] = took.0 ∙ took.1 (omega arith) in
    sym (ap (λ bytes. text_of (fed_all r (parts_in bytes))) over) ∙ h

pub prints_stopped : (input left : Option (List ℕ)) (r : Reading) → has_stopped r ≡ true → Prints input left r → IfSome input (λ s. text_of r ≡ printed_of s)
prints_stopped None left r stopped h = tt
prints_stopped (Some s) None r stopped h = absurd h
prints_stopped (Some s) (Some rest) r stopped h = go r.stopped stopped h
  where
    go : (o : Option Decline) → is_some o ≡ true → text_of (fed_all (record { book = r.book; stopped = o }) (parts_in rest)) ≡ printed_of s → text_while o r.book ≡ printed_of s
    go None t h = absurd cc
    go (Some d) t h = sym (ap text_of (stays_all r.book d (parts_in rest))) ∙ h
