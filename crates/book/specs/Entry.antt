-- What a move does to a year (document 01, "Posts", "Treatment and report", and decline 11; document 02, (b)), by its cases.
use Rattle.std.specs.Prelude.{ℕ, ◌+◌, ◌-◌, Bool, true, cond, List, eqb, leb, get_or, set}
use Rattle.plant.specs.declared.setup.Pair.{Pair}
use Rattle.plant.specs.declared.setup.Setup.{Setup}
use Rattle.kinds.specs.declared.account.Account.TheVariants.{Held}
use Rattle.post.specs.Moves.{closes}
use Rattle.post.specs.declared.moves.Move.{Move}
use Rattle.post.specs.declared.moves.Move.TheVariants.{Received, Issued, Brought, Gone, Close}
use Rattle.book.specs.Ledger.{cell_of, cell, added, moved, raised, brings, settled}
use Rattle.book.specs.declared.site.Year.{Year}

-- 11: what leaves a store or a holding is there
abbrev pub is_there : List ℕ → List ℕ → Move → Bool
is_there store sums (Received m g) = true
is_there store sums (Issued m stage g) = leb g (get_or store m 0)
is_there store sums (Brought account stage s n) = true
is_there store sums (Gone account stage s n) = leb n (cell sums Held stage s)
is_there store sums Close = true

-- "The store of that material grows"; "The store falls"
abbrev pub store_after : List ℕ → Move → List ℕ
store_after store (Received m g) = added store m g
store_after store (Issued m stage g) = set store m (get_or store m 0 - g)
store_after store (Brought account stage s n) = store
store_after store (Gone account stage s n) = store
store_after store Close = store

-- "the stage's holding of each substance grows by g times counted content"; "The holding grows"; "The holding falls by g times content, which is added under that
-- name", "by the loss, which goes to air untreated"; found "goes to off site in the same step"; "Each holding moves to gas or waste water, by that pair's side"
abbrev pub sums_after : List ℕ → List Pair → List ℕ → Move → List ℕ
sums_after counted pairs sums (Received m g) = sums
sums_after counted pairs sums (Issued m stage g) = raised (cell_of Held stage) (brings counted m g) sums 8
sums_after counted pairs sums (Brought account stage s n) = added sums (cell_of account stage s) n
sums_after counted pairs sums (Gone account stage s n) = moved sums (cell_of Held stage s) (cell_of account stage s) n
sums_after counted pairs sums Close = settled sums pairs 64

-- "Handled is issued plus formed", and found "counts as handled"
abbrev pub handled_after : List ℕ → List ℕ → Move → List ℕ
handled_after counted handled (Received m g) = handled
handled_after counted handled (Issued m stage g) = raised (λ s. s) (brings counted m g) handled 8
handled_after counted handled (Brought account stage s n) = added handled s n
handled_after counted handled (Gone account stage s n) = handled
handled_after counted handled Close = handled

-- a year after a move: only an open one has any
abbrev pub year_after : Setup → Year → Move → Year
year_after u y m =
    record {
      store = store_after y.store m;
      sums = sums_after u.counted u.pairs y.sums m;
      handled = handled_after u.counted y.handled m;
      posts = y.posts + 1;
      closed = closes m;
    }

-- "Entered is g times counted content for each opening and bought post, and the quantity of each formed post of the substance"; "The entering side of the sum gains the found
-- amounts": what comes from outside
abbrev pub enters : List ℕ → ℕ → Move → ℕ
enters counted s (Received m g) = brings counted m g s
enters counted s (Issued m stage g) = 0
enters counted s (Brought account stage t n) = cond (eqb t s) n 0
enters counted s (Gone account stage t n) = 0
enters counted s Close = 0

-- "Handled is g times counted content for each issued post, and the same formed quantities", and the same found amounts
abbrev pub handles : List ℕ → ℕ → Move → ℕ
handles counted s (Received m g) = 0
handles counted s (Issued m stage g) = brings counted m g s
handles counted s (Brought account stage t n) = cond (eqb t s) n 0
handles counted s (Gone account stage t n) = 0
handles counted s Close = 0
