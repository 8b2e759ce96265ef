-- What takes a writer's calls, whatever it is, by the pages that it may stand for.
use Rattle.std.specs.Prelude.{ℕ, ◌*◌, ◌≡◌, List, length, Result, Ok}
use Rattle.amounts.specs.Decline.{value_or, verdict_of, Answer}
use Rattle.pages.specs.Page.{Page, ended}
use Rattle.pages.specs.declared.tally.Tally.{Tally}
use Rattle.pages.specs.declared.counter.Counter.{Counter}
use Rattle.records.specs.Records.{records_in}
use Rattle.records.specs.Batch.{write_all, end_of}
use Rattle.records.specs.declared.batch.Stopped.{Stopped}

-- a page over a buffer of so many bytes that has come so far
pub record Reached (room : ℕ) (t : Tally) (p : Page) : Type 0 where
  pub long : length p.bytes ≡ room
  pub tally : p.draft.tally ≡ t
  pub filled : p.filled ≡ t.blocks * 512

-- the pages that a counter stands for
unfoldable pub StandsFor : Counter → Page → Type 0
StandsFor counter p = Reached counter.room counter.tally p

-- an end is always taken
abbrev pub ends : Page → Answer Page
ends p = Ok (ended p)

-- a call answers as on each page that it may be made on, and the page after it is that page's
module _ {A : Type 0} (lent : A → ℕ) (at : A → Page → Type 0) where
  pub record Follows {E : Type 0} (answer : Page → Result Page E) (a b : A) (v : Result Unit E) : Type 0 where
    pub lent_stays : lent b ≡ lent a
    pub verdict : (p : Page) → at a p → v ≡ verdict_of (answer p)
    pub after : (p : Page) → at a p → at b (value_or p (answer p))

  pub record TakesAll (s : List ℕ) (a b : A) (r : Result ℕ Stopped) : Type 0 where
    pub lent_stays : lent b ≡ lent a
    pub value : (p : Page) → at a p → r ≡ end_of (write_all p 0 (records_in s))
    pub after : (p q : Page) → at a p → write_all p 0 (records_in s) ≡ Ok q → at b q
