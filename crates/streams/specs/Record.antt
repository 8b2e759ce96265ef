-- The records of an input.
use Rattle.std.specs.Prelude.{ℕ, ◌+◌, ◌*◌, ◌<◌, ◌≤◌, ◌≡◌, ◌⊎◌, cond, eqb, ltb, Option, None, Some, Result, Ok, Err, List, [], ◌++◌, length, slice_index}
use Rattle.std.specs.Io.KnownBytes.{Consumes, IsAtEnd}
use Rattle.std.specs.declared.io.Error.{Error}
use Rattle.std.specs.declared.ops.ControlFlow.{ControlFlow}
use Rattle.std.specs.declared.ops.ControlFlow.TheVariants.{Continue, Break}
use denote.Ref.{Bor}
use Rattle.streams.specs.declared.record.Head.{Head}
use Rattle.streams.specs.declared.record.Record.{Record}
use Rattle.streams.specs.declared.record.RecordError.{RecordError}
use Rattle.streams.specs.declared.record.RecordError.TheVariants.{Malformed, Unread}

-- the length of a record's body, by its head
abbrev pub size_of : List ℕ → ℕ
size_of head = slice_index head 1 + slice_index head 2 * 256

-- ---- what the reads of a record's head and body make of it

-- a record's head: a tag byte and a length in 16 bits, the low byte first
abbrev pub head_of : List ℕ → Head
head_of bytes = record { tag = slice_index bytes 0; size = size_of bytes }

-- a record that begins, or what there is in its place
abbrev pub Start : Type 0
Start = ControlFlow (Result (Option Record) RecordError) Head

-- a record longer than the space is malformed
abbrev pub begun_in : ℕ → Head → Start
begun_in room head = cond (ltb room head.size) (Break (Err Malformed)) (Continue head)

-- by the part that is its head: no byte is the input's end, fewer than 3 are cut short, and only a read that fails is a failure
abbrev pub start_of : ℕ → Head → Result ℕ Error → Start
start_of room head (Ok n) = cond (eqb n 0) (Break (Ok None)) (cond (ltb n 3) (Break (Err Malformed)) (begun_in room head))
start_of room head (Err e) = Break (Err (Unread e))

-- by the part that is its body: fewer bytes than the head says are cut short
abbrev pub record_of : ℕ → Bor (List ℕ) → Result ℕ Error → Result (Option Record) RecordError
record_of tag body (Ok n) = cond (ltb n (length body.now)) (Err Malformed) (Ok (Some (record { tag = tag; body = body })))
record_of tag body (Err e) = Err (Unread e)

-- ---- what a record takes of an input of known bytes

-- a record's head: its tag, and the length of its body
pub record IsHeadOf (head : List ℕ) (r : Record) : Type 0 where
  pub three : length head ≡ 3
  pub tag : slice_index head 0 ≡ r.tag
  pub size : size_of head ≡ length r.body.now

-- the input ends within a record's head or body
abbrev pub IsCut : List ℕ → Type 0
IsCut bytes = (0 < length bytes) × (length bytes < 3 + size_of bytes)

-- a head whose record has no room, though 16 bits hold its length
abbrev pub IsTooLong : ℕ → List ℕ → Type 0
IsTooLong room head = (length head ≡ 3) × (room < size_of head) × (size_of head < 65536)

-- what a record takes of an input of known bytes: its head and body, which has room; nothing at the end; where it is malformed or a read failed, some
abbrev pub RecordTook : Option (List ℕ) → Option (List ℕ) → ℕ → Result (Option Record) RecordError → Type 0
RecordTook before after room (Ok (Some r)) = (length r.body.now ≤ room) × ((head : List ℕ) × IsHeadOf head r × Consumes before after (head ++ r.body.now))
RecordTook before after room (Ok None) = Consumes before after [] × IsAtEnd after
RecordTook before after room (Err Malformed) = (bytes : List ℕ) × Consumes before after bytes × ((IsCut bytes × IsAtEnd after) ⊎ IsTooLong room bytes)
RecordTook before after room (Err (Unread e)) = (bytes : List ℕ) × Consumes before after bytes
