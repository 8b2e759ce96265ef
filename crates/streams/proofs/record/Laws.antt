-- A record's head, and the bytes behind it. Assumes nothing.
use Rattle.std.proofs.Common.{◌≡◌, ℕ, ◌+◌, ◌≤◌, ◌<◌, Bool, true, false, cond, eqb, ltb, List, ◌++◌, length, take, slice_index, Option, None, Some, Result, Ok, Err}
use Rattle.std.proofs.Common.{Continue, Break, Bor, refl, sym, ap, ◌∙◌, subst, arith, inl, inr, length-append, length-take-le, take_all}
use Rattle.std.proofs.KnownBytes.{Consumes-trans}
use Rattle.std.proofs.Math.ListN.{get_or-append}
use Rattle.std.specs.Io.{ReadsAtMost}
use Rattle.std.specs.Io.KnownBytes.{Consumes}
use Rattle.std.specs.declared.io.Error.{Error}
use borrow.Author.Tests.{eqb-true, eqb-false, ltb-true, ltb-false}
use Rattle.streams.specs.Input.{PartTook}
use Rattle.streams.specs.Record.{Start, RecordTook, head_of, size_of, start_of, record_of}
use Rattle.streams.specs.declared.record.Head.{Head}
use Rattle.streams.specs.declared.record.Record.{Record}
use Rattle.streams.specs.declared.record.RecordError.{RecordError}
use Rattle.streams.specs.declared.record.RecordError.TheVariants.{Malformed, Unread}

-- ---- the head

module _ (a b : Option (List ℕ)) (room : ℕ) (bytes : List ℕ) (three : length bytes ≡ 3) where
  -- what there is in a record's place, by how many bytes of a head were read
  none_by : (n : ℕ) (t u v : Bool) → eqb n 0 ≡ t → ltb n 3 ≡ u → ltb room (size_of bytes) ≡ v → n ≤ length bytes → size_of bytes < 65536
      → PartTook {E = Error} a b bytes (Ok n) → (answer : Result (Option Record) RecordError)
      → ◌≡◌ {A = Start} (cond t (Break (Ok None)) (cond u (Break (Err Malformed)) (cond v (Break (Err Malformed)) (Continue (head_of bytes))))) (Break answer)
      → RecordTook a b room answer
  none_by n true u v p q r m small took answer is =
      let is : Ok None ≡ answer = cc in
      let none = eqb-true n 0 p in
      subst (RecordTook a b room) is (subst (λ (i : ℕ). Consumes a b (take i bytes)) none took.0, took.1 (omega arith))
  none_by n false true v p q r m small took answer is =
      let is : Err Malformed ≡ answer = cc in
      let some = eqb-false n 0 p in
      let fewer = ltb-true n 3 q in
      let count = length-take-le n bytes m in
      subst (RecordTook a b room) is (take n bytes, took.0, inl ((omega arith, omega arith), took.1 (omega arith)))
  none_by n false false true p q r m small took answer is =
      let is : Err Malformed ≡ answer = cc in
      let all = ltb-false n 3 q in
      let whole = take_all n bytes (omega arith) in
      let long = ltb-true room (size_of bytes) r in
      subst (RecordTook a b room) is (bytes, subst (Consumes a b) whole took.0, inr (three, long, small))
  none_by n false false false p q r m small took answer is = cc

  none_of : (part : Result ℕ Error) → ReadsAtMost part bytes → size_of bytes < 65536 → PartTook a b bytes part → (answer : Result (Option Record) RecordError)
      → ◌≡◌ {A = Start} (start_of room (head_of bytes) part) (Break answer) → RecordTook a b room answer
  none_of (Ok n) m small took answer is = none_by n (eqb n 0) (ltb n 3) (ltb room (size_of bytes)) refl refl refl m.0 small took answer is
  none_of (Err e) m small (n, _, took) answer is =
      let is : Err (Unread e) ≡ answer = cc in
      subst (RecordTook a b room) is (take n bytes, took)

  pub took_none : (part : Result ℕ Error) (h : Head) (answer : Result (Option Record) RecordError) → ReadsAtMost part bytes → h ≡ head_of bytes → h.size < 65536
      → PartTook a b bytes part → ◌≡◌ {A = Start} (start_of room h part) (Break answer) → RecordTook a b room answer
  took_none part h answer m is small took over =
      let size : size_of bytes < 65536 = omega (arith, ap (λ (x : Head). x.size) is) in
      none_of part m size took answer (subst (λ (x : Head). ◌≡◌ {A = Start} (start_of room x part) (Break answer)) is over)

  -- a record that begins has its whole head, and room
  begun_by : (n : ℕ) (t u v : Bool) → ltb n 3 ≡ u → ltb room (size_of bytes) ≡ v → PartTook {E = Error} a b bytes (Ok n) → (head : Head)
      → ◌≡◌ {A = Start} (cond t (Break (Ok None)) (cond u (Break (Err Malformed)) (cond v (Break (Err Malformed)) (Continue (head_of bytes))))) (Continue head)
      → (head_of bytes ≡ head) × (size_of bytes ≤ room) × Consumes a b bytes
  begun_by n true u v q r took head is = cc
  begun_by n false true v q r took head is = cc
  begun_by n false false true q r took head is = cc
  begun_by n false false false q r took head is =
      let all = ltb-false n 3 q in
      (cc, ltb-false room (size_of bytes) r, subst (Consumes a b) (take_all n bytes (omega arith)) took.0)

  begun : (part : Result ℕ Error) → PartTook a b bytes part → (head : Head) → ◌≡◌ {A = Start} (start_of room (head_of bytes) part) (Continue head)
      → (head_of bytes ≡ head) × (size_of bytes ≤ room) × Consumes a b bytes
  begun (Ok n) took head is = begun_by n (eqb n 0) (ltb n 3) (ltb room (size_of bytes)) refl refl took head is
  begun (Err e) took head is = cc

-- ---- the body

-- the input ends behind the head
same_size : (head rest : List ℕ) → length head ≡ 3 → size_of (head ++ rest) ≡ size_of head
same_size head rest three =
    let low : slice_index (head ++ rest) 1 ≡ slice_index head 1 = get_or-append head rest 0 1 (omega arith) in
    let high : slice_index (head ++ rest) 2 ≡ slice_index head 2 = get_or-append head rest 0 2 (omega arith) in
    omega arith

module _ (a b c : Option (List ℕ)) (room : ℕ) (bytes : List ℕ) (three : length bytes ≡ 3) (body : Bor (List ℕ)) (long : length body.now ≡ size_of bytes) where
  record_by : (n : ℕ) (t : Bool) → ltb n (length body.now) ≡ t → n ≤ length body.now → size_of bytes ≤ room → Consumes a b bytes → PartTook {E = Error} b c body.now (Ok n)
      → RecordTook a c room (cond t (Err Malformed) (Ok (Some (record { tag = slice_index bytes 0; body = body }))))
  record_by n true p m fits h took =
      let rest = take n body.now in
      let fewer = ltb-true n (length body.now) p in
      let count = length-take-le n body.now m in
      let size = same_size bytes rest three in
      let all : length (bytes ++ rest) ≡ 3 + length rest = omega (arith, length-append bytes rest) in
      (bytes ++ rest, Consumes-trans a b c _ _ h took.0, inl ((omega arith, omega arith), took.1 fewer))
  record_by n false p m fits h took =
      let whole = take_all n body.now (ltb-false n (length body.now) p) in
      (omega arith, (bytes, record { three = three; tag = refl; size = sym long }, Consumes-trans a b c _ _ h (subst (Consumes b c) whole took.0)))

  made_by : (part : Result ℕ Error) → ReadsAtMost part body.now → size_of bytes ≤ room → Consumes a b bytes → PartTook b c body.now part
      → RecordTook a c room (record_of (slice_index bytes 0) body part)
  made_by (Ok n) m fits h took = record_by n (ltb n (length body.now)) refl m.0 fits h took
  made_by (Err e) m fits h (n, _, took) = (bytes ++ take n body.now, Consumes-trans a b c _ _ h took)

-- a record that began, with what became of its body
pub took_record : (a b c : Option (List ℕ)) (room : ℕ) (bytes : List ℕ) (head part : Result ℕ Error) (h : Head) (body : Bor (List ℕ)) (r : Result (Option Record) RecordError)
    → length bytes ≡ 3 → PartTook a b bytes head → (h' : Head) → h' ≡ head_of bytes → ◌≡◌ {A = Start} (start_of room h' head) (Continue h)
    → length body.now ≡ h.size → ReadsAtMost part body.now → PartTook b c body.now part → r ≡ record_of h.tag body part → RecordTook a c room r
took_record a b c room bytes head part h body r three took h' head_is on size most took' made =
    let (is, fits, first) = begun a b room bytes three head took h (subst (λ (x : Head). ◌≡◌ {A = Start} (start_of room x head) (Continue h)) head_is on) in
    let tag : slice_index bytes 0 ≡ h.tag = ap (λ (x : Head). x.tag) is in
    let long : length body.now ≡ size_of bytes = size ∙ sym (ap (λ (x : Head). x.size) is) in
    subst (RecordTook a c room) (ap (λ t. record_of t body part) tag ∙ sym made) (made_by a b c room bytes three body long part most fits first took')
