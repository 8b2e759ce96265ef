-- The journal that is written of an input, and what tells of a record that isn't taken (docs/FORMAT.md, "The program `write`").
use Rattle.std.specs.Prelude.{ℕ, List, [], ◌∷◌, ◌++◌, take, codes, Option, None, Some, Result, Ok, Err}
use Rattle.std.specs.Fmt.{decimal}
use Rattle.std.specs.declared.io.Error.{Error}
use Rattle.std.specs.declared.ops.ControlFlow.{ControlFlow}
use Rattle.std.specs.declared.ops.ControlFlow.TheVariants.{Continue, Break}
use Rattle.amounts.specs.Decline.{value_or}
use Rattle.pages.specs.Page.{Page, fresh_page, ended}
use Rattle.streams.specs.declared.record.Record.{Record}
use Rattle.streams.specs.declared.record.RecordError.{RecordError}
use Rattle.streams.specs.declared.record.RecordError.TheVariants as read
use Rattle.records.specs.Records.{Recorded, record_of, records_in}
use Rattle.records.specs.Batch.{record_on}
use Rattle.records.specs.Refusal.{text_of}
use Rattle.records.specs.declared.refusal.Refusal.{Refusal}
use Rattle.records.specs.declared.refusal.Refusal.TheVariants.{Declined}
use Rattle.records.specs.declared.refusal.Refusal.TheVariants as refusal

-- the page after records, one after the other: "A record that is refused isn't written", and "the writer goes on with the next one". The last of an input's
-- records is the first that "is cut short or has another tag", which "ends the reading", and it leaves the page as well
unfoldable pub page_after : Page → List Recorded → Page
page_after p [] = p
page_after p (r ∷ rest) = page_after (value_or p (record_on p r)) rest

-- the page of an input's records: "the last block is ended where the input ends"; behind a malformed record "the journal of the records before it is still written"
abbrev pub page_of : List ℕ → List ℕ → Page
page_of lent s = ended (page_after (fresh_page lent) (records_in s))

-- what is written: the bytes of that page that are filled
abbrev pub filled_of : Page → List ℕ
filled_of p = take p.filled p.bytes

abbrev pub journal_of : List ℕ → List ℕ → List ℕ
journal_of lent s = filled_of (page_of lent s)

-- what tells of a record that isn't taken: "a line `record I N`, where I is its place from 0 among all records and N the decline"; one "that is cut short or has
-- another tag is told as `record I malformed`"
abbrev pub line_of : ℕ → Refusal → List ℕ
line_of place refusal = codes "record " ++ decimal place ++ codes " " ++ text_of refusal ++ codes "\n"

-- ---- what a record that was read makes of a page, or what there was in its place

-- its answer on a page
abbrev pub answer_at : Page → Record → Result Page Refusal
answer_at p r = record_on p (record_of r.tag r.body.now)

-- the page after it, which nothing but a whole record that is taken changes
abbrev pub made_by : Page → Result (Option Record) RecordError → Page
made_by p (Ok (Some r)) = value_or p (answer_at p r)
made_by p (Ok None) = p
made_by p (Err why) = p

-- whether another record may follow, and else how the reading ended
abbrev pub Next : Type 0
Next = ControlFlow (Result Unit Error) Unit

-- "a record that is refused isn't written", and "the writer goes on with the next one"; a malformed one "ends the reading"
abbrev pub behind_refusal : Refusal → Next
behind_refusal (Declined d) = Continue tt
behind_refusal refusal.Malformed = Break (Ok tt)

abbrev pub behind_answer : Result Page Refusal → Next
behind_answer (Ok p) = Continue tt
behind_answer (Err why) = behind_refusal why

-- the end of the input ends the reading well; only a read that fails is a failure
abbrev pub what_follows : Page → Result (Option Record) RecordError → Next
what_follows p (Ok (Some r)) = behind_answer (answer_at p r)
what_follows p (Ok None) = Break (Ok tt)
what_follows p (Err read.Malformed) = Break (Ok tt)
what_follows p (Err (read.Unread e)) = Break (Err e)
