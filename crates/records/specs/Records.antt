-- A writer's calls as records in bytes, "a tag byte, a length in 16 bits, and that many bytes" (docs/FORMAT.md, "The program `write`").
use Rattle.std.specs.Prelude.{ℕ, zero, suc, ◌+◌, ◌<◌, ◌≡◌, Bool, cond, List, [], ◌∷◌, eqb, leb, length, get_or, take, drop, Option, MatchOption, Result, Ok, Err}
use Rattle.encoding.specs.Bytes.{le}
use Rattle.pages.specs.Calls.{Call, set_up, post, end}
use Rattle.records.specs.declared.record.Record.{Record}
use Rattle.records.specs.declared.record.Records.{Records}
use Rattle.records.specs.declared.refusal.Refusal.{Refusal}
use Rattle.records.specs.declared.refusal.Refusal.TheVariants.{Malformed}

-- a call, or bytes that are none
pub data Recorded : Type 0 where
  call : Call → Recorded
  malformed : Recorded

-- ---- what a tag makes of a record's bytes

-- `S`: byte 0 the kind, byte 1 the count, the rest the body; a missing kind or count is 0
abbrev pub set_up_of : List ℕ → Call
set_up_of s = set_up (get_or s 0 0) (get_or s 1 0) (drop 2 s)

-- `S` a set-up block, `P` a post, `E` an end; the bytes of an end are passed over, and another tag is malformed
abbrev pub record_of : ℕ → List ℕ → Recorded
record_of tag s = cond (eqb tag 83) (call (set_up_of s)) (cond (eqb tag 80) (call (post s)) (cond (eqb tag 69) (call end) malformed))

-- ---- the first record of bytes, and the rest

abbrev pub tag_of : List ℕ → ℕ
tag_of s = get_or s 0 0

-- how many bytes it takes, those of its tag and length with it
abbrev pub span_of : List ℕ → ℕ
span_of s = 3 + le 2 (drop 1 s)

-- not cut short: neither fewer than 3 bytes are left nor fewer than its length
abbrev pub is_complete : List ℕ → Bool
is_complete s = leb (span_of s) (length s)

abbrev pub bytes_of : List ℕ → List ℕ
bytes_of s = take (le 2 (drop 1 s)) (drop 3 s)

unfoldable pub first_of : List ℕ → Recorded
first_of s = cond (is_complete s) (record_of (tag_of s) (bytes_of s)) malformed

abbrev pub rest_of : List ℕ → List ℕ
rest_of s = drop (span_of s) s

-- ---- the records of bytes

-- what follows a record: nothing where it is malformed
abbrev pub behind : Recorded → List Recorded → List Recorded
behind (call c) rest = rest
behind malformed rest = []

-- at most n records
unfoldable pub records_to : ℕ → List ℕ → List Recorded
records_to zero s = []
records_to (suc n) s = cond (eqb (length s) 0) [] (first_of s ∷ behind (first_of s) (records_to n (rest_of s)))

abbrev pub records_in : List ℕ → List Recorded
records_in s = records_to (length s) s

-- ---- the records of bytes, as they are read one by one

-- the first record where it is there as a whole, or why it isn't
abbrev pub IsFirst : List ℕ → Result Record Refusal → Type 0
IsFirst s (Ok r) = first_of s ≡ record_of r.tag r.body.now
IsFirst s (Err why) = (first_of s ≡ malformed) × (why ≡ Malformed)

-- a step gives the first record of the bytes that are left, and leaves those behind it; where none are left it gives none
abbrev pub GivesRecord : Records → Option (Result Record Refusal) → Records → Type 0
GivesRecord a next b =
    MatchOption next (length a.rest.now ≡ 0) (λ r. (0 < length a.rest.now) × IsFirst a.rest.now r × (b.rest.now ≡ rest_of a.rest.now))
