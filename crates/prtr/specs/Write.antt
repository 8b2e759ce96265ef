-- What a program in another language gets of a list of records that is written: a status, and values in the places that it lends.
use Rattle.std.specs.Prelude.{ℕ, Result, Ok, Err}
use Rattle.pages.specs.Page.{Page}
use Rattle.records.specs.declared.batch.Stopped.{Stopped}
use Rattle.records.specs.Refusal.{number}

-- 0, or the number of the record that isn't taken
abbrev pub status_of : Result Page Stopped → ℕ
status_of (Ok p) = 0
status_of (Err stop) = number stop.refusal

-- the length of the journal, and at a stop what stood there before
abbrev pub length_or : ℕ → Result Page Stopped → ℕ
length_or before (Ok p) = p.filled
length_or before (Err stop) = before

-- the place of the record that isn't taken, and else what stood there before
abbrev pub place_or : ℕ → Result Page Stopped → ℕ
place_or before (Ok p) = before
place_or before (Err stop) = stop.place
