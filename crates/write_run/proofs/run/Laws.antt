-- The page that the records of an input of known bytes make, record by record. Assumes nothing.
use Rattle.std.proofs.Common.{◌≡◌, ℕ, ◌+◌, ◌≤◌, ◌<◌, List, [], ◌∷◌, ◌++◌, length, take, drop, slice_index, Option, None, Some, IfSome, IfOk, Result, Ok, Err}
use Rattle.std.proofs.Common.{Continue, Break, refl, sym, ap, ◌∙◌, subst, arith, inl, inr, length-append, append-nil}
use Rattle.std.specs.Bool.{⊤}
use Rattle.std.specs.Io.KnownBytes.{Consumes, IsAtEnd}
use Rattle.std.specs.declared.io.Error.{Error}
use Rattle.std.proofs.lemmas.List.{take_at, drop_at}
use Rattle.encoding.specs.Bytes.{le}
use Rattle.pages.specs.Page.{Page}
use Rattle.pages.specs.Calls.{answer_to}
use Rattle.amounts.specs.Decline.{Answer, value_or, verdict_of}
use Rattle.streams.specs.Record.{RecordTook, IsCut, size_of}
use Rattle.streams.specs.declared.record.Record.{Record}
use Rattle.streams.specs.declared.record.RecordError.{RecordError}
use Rattle.streams.specs.declared.record.RecordError.TheVariants as read
use Rattle.records.specs.Records.{Recorded, call, malformed, record_of, span_of, bytes_of, first_of, rest_of, behind, records_in}
use Rattle.records.specs.Batch.{refused, record_on}
use Rattle.records.specs.declared.refusal.Refusal.{Refusal}
use Rattle.records.specs.declared.refusal.Refusal.TheVariants.{Declined, Malformed}
use Rattle.records.proofs.record.Laws.{first_short, first_complete, records_first, records_end}
use Rattle.write_run.specs.Run.{Next, answer_at, behind_answer, made_by, what_follows, page_after}

-- ---- the first record of bytes

-- a record's length is read from its head, and a byte of it that is missing counts as 0
size_is : (s : List ℕ) → le 2 (drop 1 s) ≡ size_of s
unfolding le
size_is [] = refl
size_is (a ∷ []) = refl
size_is (a ∷ b ∷ []) = omega arith
size_is (a ∷ b ∷ c ∷ s) = omega arith

-- one that is cut short is malformed, and the last
cut_is_last : (s : List ℕ) → IsCut s → records_in s ≡ malformed ∷ []
cut_is_last s cut =
    let short : length s < span_of s = omega (arith, size_is s) in
    records_first s cut.0 ∙ ap (λ r. r ∷ behind r (records_in (rest_of s))) (first_short s short)

-- one that is whole comes before those behind it
whole_is_first : (tag : ℕ) (head body rest : List ℕ) → length head ≡ 3 → slice_index head 0 ≡ tag → size_of head ≡ length body
    → records_in (head ++ body ++ rest) ≡ record_of tag body ∷ behind (record_of tag body) (records_in rest)
whole_is_first tag [] body rest three is size = absurd (omega arith)
whole_is_first tag (a ∷ []) body rest three is size = absurd (omega arith)
whole_is_first tag (a ∷ b ∷ []) body rest three is size = absurd (omega arith)
whole_is_first tag (a ∷ b ∷ c ∷ d ∷ s) body rest three is size = absurd (omega arith)
whole_is_first tag (a ∷ b ∷ c ∷ []) body rest three is size =
    let s = a ∷ b ∷ c ∷ (body ++ rest) in
    let long : le 2 (drop 1 s) ≡ length body = size_is s ∙ size in
    let fits : span_of s ≤ length s = omega (arith, length-append body rest) in
    let bytes : bytes_of s ≡ body = ap (λ n. take n (body ++ rest)) long ∙ take_at body rest (length body) refl in
    let left : rest_of s ≡ rest = ap (λ n. drop (3 + n) s) long ∙ drop_at (a ∷ b ∷ c ∷ body) rest (3 + length body) (omega arith) in
    let first : first_of s ≡ record_of tag body = first_complete s fits ∙ ap (λ t. record_of t (bytes_of s)) is ∙ ap (record_of tag) bytes in
    records_first s (omega arith) ∙ ap (λ r. r ∷ behind r (records_in (rest_of s))) first ∙ ap (λ l. record_of tag body ∷ behind (record_of tag body) (records_in l)) left

-- ---- a record's answer

-- only a malformed record is told as one
told_malformed : (p : Page) (r : Recorded) → Err Malformed ≡ verdict_of (record_on p r) → r ≡ malformed
told_malformed p malformed told = refl
told_malformed p (call c) told = go (answer_to p c) told
  where
    go : (a : Answer Page) → Err Malformed ≡ verdict_of (refused a) → call c ≡ malformed
    go (Ok q) e = cc
    go (Err d) e = cc

-- and any other leaves those behind it
others_behind : (p : Page) (r : Recorded) (v : Result Unit Refusal) → v ≡ verdict_of (record_on p r) → (v ≡ Err Malformed → ⊥) → (rest : List Recorded) → behind r rest ≡ rest
others_behind p (call c) v told other rest = refl
others_behind p malformed v told other rest = absurd (other told)

-- ---- the records that are left

-- those that are left, taken from this page, make the page that all of them make
abbrev pub Makes : Option (List ℕ) → Option (List ℕ) → Page → Page → Type 0
Makes None left p q = ⊤
Makes (Some s) None p q = ⊥
Makes (Some s) (Some rest) p q = page_after q (records_in rest) ≡ page_after p (records_in s)

-- none is left
abbrev pub Made : Option (List ℕ) → Page → Page → Type 0
Made input p q = IfSome input (λ s. q ≡ page_after p (records_in s))

pub makes_at_start : (input : Option (List ℕ)) (p : Page) → Makes input input p p
makes_at_start None p = tt
makes_at_start (Some s) p = refl

first_read : (before rest : List ℕ) (room : ℕ) (r : Record) → RecordTook (Some before) (Some rest) room (Ok (Some r))
    → records_in before ≡ record_of r.tag r.body.now ∷ behind (record_of r.tag r.body.now) (records_in rest)
first_read before rest room r (_, (head, is, took)) = ap records_in took ∙ whole_is_first r.tag head r.body.now rest is.three is.tag is.size

step : (p : Page) (r : Recorded) (rest : List Recorded) → page_after p (r ∷ rest) ≡ page_after (value_or p (record_on p r)) rest
unfolding page_after
step p r rest = refl

none_left : (p : Page) → page_after p [] ≡ p
unfolding page_after
none_left p = refl

makes_on : (input before after : Option (List ℕ)) (p q q' : Page) (room : ℕ) (r : Record) (v : Result Unit Refusal) → Makes input before p q
    → RecordTook before after room (Ok (Some r)) → v ≡ verdict_of (answer_at q r) → (v ≡ Err Malformed → ⊥) → q' ≡ value_or q (answer_at q r) → Makes input after p q'
makes_on None before after p q q' room r v h took told other is = tt
makes_on (Some s) None after p q q' room r v h took told other is = absurd h
makes_on (Some s) (Some rest) None p q q' room r v h (_, (head, _, took)) told other is = absurd took
makes_on (Some s) (Some rest) (Some left) p q q' room r v h took told other is =
    let first = record_of r.tag r.body.now in
    let next : records_in rest ≡ first ∷ records_in left = first_read rest left room r took ∙ ap (λ l. first ∷ l) (others_behind q first v told other (records_in left)) in
    ap (λ x. page_after x (records_in left)) is ∙ sym (step q first (records_in left)) ∙ sym (ap (page_after q) next) ∙ h

-- a record that is told as malformed is the last, and leaves the page
made_malformed : (input before after : Option (List ℕ)) (p q q' : Page) (room : ℕ) (r : Record) → Makes input before p q → RecordTook before after room (Ok (Some r))
    → Err Malformed ≡ verdict_of (answer_at q r) → q' ≡ value_or q (answer_at q r) → Made input p q'
made_malformed None before after p q q' room r h took told is = tt
made_malformed (Some s) None after p q q' room r h took told is = absurd h
made_malformed (Some s) (Some rest) None p q q' room r h (_, (head, _, took)) told is = absurd took
made_malformed (Some s) (Some rest) (Some left) p q q' room r h took told is =
    let first = told_malformed q (record_of r.tag r.body.now) told in
    let only : records_in rest ≡ malformed ∷ [] = first_read rest left room r took ∙ ap (λ x. x ∷ behind x (records_in left)) first in
    is ∙ ap (λ x. value_or q (record_on q x)) first ∙ sym (none_left q) ∙ sym (step q malformed []) ∙ sym (ap (page_after q) only) ∙ h

-- so is one that is cut short; none has a length that there is no room for
made_cut : (input before after : Option (List ℕ)) (p q : Page) (room : ℕ) → 65536 ≤ room → Makes input before p q → RecordTook before after room (Err read.Malformed)
    → Made input p q
made_cut None before after p q room wide h took = tt
made_cut (Some s) None after p q room wide h took = absurd h
made_cut (Some s) (Some rest) None p q room wide h (_, took, _) = absurd took
made_cut (Some s) (Some rest) (Some left) p q room wide h (bytes, took, why) = elim why [ inl cut ↦ go cut.0 cut.1 | inr long ↦ absurd (omega arith) ]
  where
    go : IsCut bytes → left ≡ [] → q ≡ page_after p (records_in s)
    go cut end =
        let all : rest ≡ bytes = took ∙ ap (λ l. bytes ++ l) end ∙ append-nil bytes in
        let only : records_in rest ≡ malformed ∷ [] = ap records_in all ∙ cut_is_last bytes cut in
        sym (none_left q) ∙ sym (step q malformed []) ∙ sym (ap (page_after q) only) ∙ h

-- nothing is left at the end
made_at_end : (input before after : Option (List ℕ)) (p q : Page) → Makes input before p q → Consumes before after [] → IsAtEnd after → Made input p q
made_at_end None before after p q h took end = tt
made_at_end (Some s) None after p q h took end = absurd h
made_at_end (Some s) (Some rest) None p q h took end = absurd took
made_at_end (Some s) (Some rest) (Some left) p q h took end =
    let none : rest ≡ [] = took ∙ end in
    sym (none_left q) ∙ sym (ap (λ l. page_after q (records_in l)) none ∙ ap (page_after q) (records_end [] refl)) ∙ h

-- ---- what follows a record that was read, or what there was in its place

leaves_others : (a : Result Page Refusal) (u : Unit) → ◌≡◌ {A = Next} (behind_answer a) (Continue u) → verdict_of a ≡ Err Malformed → ⊥
leaves_others (Ok p) u on e = cc
leaves_others (Err (Declined d)) u on e = cc
leaves_others (Err Malformed) u on e = cc

ends_others : (a : Result Page Refusal) (end : Result Unit Error) → ◌≡◌ {A = Next} (behind_answer a) (Break end) → Err Malformed ≡ verdict_of a
ends_others (Ok p) end over = cc
ends_others (Err (Declined d)) end over = cc
ends_others (Err Malformed) end over = refl

makes_behind : (input before after : Option (List ℕ)) (p q : Page) (room : ℕ) (r : Result (Option Record) RecordError) (u : Unit) → Makes input before p q
    → RecordTook before after room r → ◌≡◌ {A = Next} (what_follows q r) (Continue u) → Makes input after p (made_by q r)
makes_behind input before after p q room (Ok (Some r)) u h took on =
    let a = answer_at q r in
    makes_on input before after p q _ room r (verdict_of a) h took refl (leaves_others a u on) refl
makes_behind input before after p q room (Ok None) u h took on = cc
makes_behind input before after p q room (Err read.Malformed) u h took on = cc
makes_behind input before after p q room (Err (read.Unread e)) u h took on = cc

made_behind : (input before after : Option (List ℕ)) (p q : Page) (room : ℕ) (r : Result (Option Record) RecordError) (end : Result Unit Error) → 65536 ≤ room
    → Makes input before p q → RecordTook before after room r → ◌≡◌ {A = Next} (what_follows q r) (Break end) → IfOk end (λ _. Made input p (made_by q r))
made_behind input before after p q room r (Err e) wide h took over = tt
made_behind input before after p q room (Ok (Some r)) (Ok u) wide h took over =
    let a = answer_at q r in
    made_malformed input before after p q _ room r h took (ends_others a (Ok u) over) refl
made_behind input before after p q room (Ok None) (Ok u) wide h took over = made_at_end input before after p q h took.0 took.1
made_behind input before after p q room (Err read.Malformed) (Ok u) wide h took over = made_cut input before after p q room wide h took
made_behind input before after p q room (Err (read.Unread e)) (Ok u) wide h took over = cc

module _ (input before after : Option (List ℕ)) (p q q' : Page) (room : ℕ) (r : Result (Option Record) RecordError) (next : Next) (h : Makes input before p q)
    (took : RecordTook before after room r) (made : q' ≡ made_by q r) (follows : next ≡ what_follows q r) where
  pub makes_more : (u : Unit) → ◌≡◌ {A = Next} next (Continue u) → Makes input after p q'
  makes_more u on = subst (Makes input after p) (sym made) (makes_behind input before after p q room r u h took (sym follows ∙ on))

  pub made_all : (end : Result Unit Error) → 65536 ≤ room → ◌≡◌ {A = Next} next (Break end) → IfOk end (λ _. Made input p q')
  made_all end wide over =
      subst (λ (x : Page). IfOk end (λ _. Made input p x)) (sym made) (made_behind input before after p q room r end wide h took (sym follows ∙ over))
