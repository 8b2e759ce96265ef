-- What a new writer over a lent buffer makes of a list of records.
use Rattle.std.specs.Prelude.{ℕ, suc, ◌≡◌, List, [], ◌∷◌, map, Result, Ok, Err}
use Rattle.amounts.specs.Decline.{Answer}
use Rattle.pages.specs.Page.{Page, fresh_page, ended}
use Rattle.pages.specs.Calls.{Call, answer_to, run, accepted}
use Rattle.records.specs.Records.{Recorded, call, malformed, record_of, records_in}
use Rattle.records.specs.declared.batch.Stopped.{Stopped}
use Rattle.records.specs.declared.record.Record.{Record}
use Rattle.records.specs.declared.refusal.Refusal.{Refusal}
use Rattle.records.specs.declared.refusal.Refusal.TheVariants.{Declined, Malformed}

-- a decline refuses the record
abbrev pub refused : {A : Type 0} → Answer A → Result A Refusal
refused (Ok a) = Ok a
refused (Err d) = Err (Declined d)

abbrev pub record_on : Page → Recorded → Result Page Refusal
record_on p (call c) = refused (answer_to p c)
record_on p malformed = Err Malformed

-- the next record of a list, where it is there as a whole, or why it isn't
abbrev pub next_on : Page → Result Record Refusal → Result Page Refusal
next_on p (Ok r) = record_on p (record_of r.tag r.body.now)
next_on p (Err why) = Err why

-- the page after the last record and an end, or the first record that is declined or malformed: its place from 0, and why
abbrev pub onward : Result Page Refusal → ℕ → (Page → Result Page Stopped) → Result Page Stopped
onward (Ok q) place next = next q
onward (Err why) place next = Err (record { refusal = why; place = place })

unfoldable pub write_all : Page → ℕ → List Recorded → Result Page Stopped
unfolding ended
write_all p place [] = Ok (ended p)
write_all p place (r ∷ rest) = onward (record_on p r) place (λ q. write_all q (suc place) rest)

-- the records of bytes, written into a lent buffer
abbrev pub written_in : List ℕ → List ℕ → Result Page Stopped
written_in lent s = write_all (fresh_page lent) 0 (records_in s)

-- ---- records as calls

-- the calls of records, up to a malformed one
unfoldable pub calls_of : List Recorded → List Call
calls_of [] = []
calls_of (call c ∷ rest) = c ∷ calls_of rest
calls_of (malformed ∷ rest) = []

-- where records are written whole, none is malformed, each of their calls is accepted, and the page is theirs, once ended: what is claimed of a writer's calls
-- holds of it
abbrev pub BatchIsItsCalls : Type 0
BatchIsItsCalls =
    (lent s : List ℕ) (p : Page) → written_in lent s ≡ Ok p
    → let calls = calls_of (records_in s) in
    (records_in s ≡ map call calls) × (accepted (fresh_page lent) calls ≡ calls) × (p ≡ ended (run (fresh_page lent) calls))

-- ---- what the code returns, and what it leaves in the buffer

abbrev pub end_of : Result Page Stopped → Result ℕ Stopped
end_of (Ok p) = Ok p.filled
end_of (Err stop) = Err stop

-- a stop leaves the buffer as it was lent
abbrev pub left_in : List ℕ → Result Page Stopped → List ℕ
left_in lent (Ok p) = p.bytes
left_in lent (Err stop) = lent
