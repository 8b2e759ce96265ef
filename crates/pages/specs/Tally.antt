-- How far a writer has come, and what its calls answer (document 02, (a)). None of it asks for the bytes that are written.
use Rattle.std.specs.Prelude.{ℕ, ◌+◌, ◌*◌, ◌≤◌, ◌<◌, ◌≡◌, Bool, true, ◌&&◌, cond, List, [], ◌∷◌, ◌++◌, eqb, leb, ltb, Ok, Err}
use Rattle.amounts.specs.Decline.{Answer, Check, check, checked, on_taken, value_or, verdict_of}
use Rattle.amounts.specs.declared.decline.Decline.TheVariants.{OutOfTurn, Layout, NoRoom}
use Rattle.layout.specs.Holds.{holds_of}
use Rattle.layout.specs.Outline.{fresh_outline, with_described, may_post}
use Rattle.bodies.specs.Part.{part_checks}
use Rattle.bodies.specs.Setup.{outline_of}
use Rattle.layout.specs.declared.holds.Holds.{Holds}
use Rattle.layout.specs.declared.holds.Holds.TheVariants.{SetUp, Posts}
use Rattle.layout.specs.declared.holds.SetupPart.{SetupPart}
use Rattle.layout.specs.declared.holds.SetupPart.TheVariants.{Materials, Stage}
use Rattle.layout.specs.declared.outline.Outline.{Outline}
use Rattle.kinds.specs.Kind.{Row}
use Rattle.post.specs.Moves.{well_formed}
use Rattle.pages.specs.declared.tally.Tally.{Tally}

abbrev pub tally_of : Outline → ℕ → ℕ → Tally
tally_of outline waiting blocks = record { outline = outline; waiting = waiting; blocks = blocks }

-- "A new writer has .. written no block and has no post waiting"
abbrev pub fresh_tally : Tally
fresh_tally = tally_of fresh_outline 0 0

-- ---- what a call answers, in a buffer of so many bytes

-- 13: "fewer than 512 bytes left or 65,536 blocks written"
abbrev pub is_free : ℕ → Tally → Bool
is_free room t = ltb t.blocks 65536 && leb (t.blocks * 512 + 512) room

-- "A set-up kind other than 1 or 2 is a 6 in any turn": what holds posts, or nothing that is known, is no part of the set-up
abbrev pub as_part : Answer Holds → Answer SetupPart
as_part (Ok (SetUp part)) = Ok part
as_part (Ok Posts) = Err Layout
as_part (Err n) = Err Layout

unfoldable pub part_of_kind : ℕ → Answer SetupPart
unfolding holds_of
part_of_kind kind = as_part (holds_of kind)

-- 4 and 6 of a part of the set-up, and 13 "after all others"
abbrev pub set_up_checks : ℕ → Tally → SetupPart → ℕ → List ℕ → List Check
set_up_checks room t part count body = part_checks t.outline part count body ++ (check (is_free room t) NoRoom ∷ [])

-- 13 is asked of "a post that begins a block"
abbrev pub may_begin : ℕ → Tally → Bool
may_begin room t = cond (eqb t.waiting 0) (is_free room t) true

-- "A .. post out of turn (4), or that the layout (6) or the float ranges (7) decline, is not written", and 13 "after all others"
unfoldable pub post_answer : ℕ → Tally → List ℕ → Answer Row
unfolding checked well_formed
post_answer room t s =
    on_taken (checked (check (may_post t.outline) OutOfTurn ∷ []) s) (λ s.
    on_taken (well_formed t.outline s) (λ k. checked (check (may_begin room t) NoRoom ∷ []) k))

-- ---- how far the writer has come then

-- a block is written, and no post waits
abbrev pub finished : Tally → Tally
finished t = tally_of t.outline 0 (t.blocks + 1)

-- "A tenth post writes its block"
unfoldable pub posted : Tally → Tally
posted t = cond (eqb t.waiting 9) (finished t) (tally_of t.outline (t.waiting + 1) t.blocks)

-- "ending with no post waiting writes nothing"
unfoldable pub ended : Tally → Tally
ended t = cond (eqb t.waiting 0) t (finished t)

-- the outline after a part of the set-up
abbrev pub outline_after : Outline → SetupPart → ℕ → List ℕ → Outline
outline_after o Materials count body = outline_of count body
outline_after o Stage count body = with_described o count

unfoldable pub set_up : Tally → SetupPart → ℕ → List ℕ → Tally
set_up t part count body = tally_of (outline_after t.outline part count body) t.waiting (t.blocks + 1)

-- ---- each call on a tally

unfoldable pub part_on : ℕ → Tally → SetupPart → ℕ → List ℕ → Answer Tally
unfolding checked set_up
part_on room t part count body = checked (set_up_checks room t part count body) (set_up t part count body)

unfoldable pub set_up_on : ℕ → Tally → ℕ → ℕ → List ℕ → Answer Tally
unfolding part_of_kind part_on
set_up_on room t kind count body = on_taken (part_of_kind kind) (λ part. part_on room t part count body)

unfoldable pub post_on : ℕ → Tally → List ℕ → Answer Tally
unfolding post_answer posted
post_on room t s = on_taken (post_answer room t s) (λ _. Ok (posted t))

-- ---- what is true of every writer's tally

-- a block that is begun has its room, and its posts are in their turn
pub record Begun (room : ℕ) (t : Tally) : Type 0 where
  pub number : t.blocks < 65536
  pub room_left : t.blocks * 512 + 512 ≤ room
  pub in_turn : may_post t.outline ≡ true

pub record Sound (room : ℕ) (t : Tally) : Type 0 where
  pub few : t.waiting < 10
  pub blocks_few : t.blocks ≤ 65536
  pub within : t.blocks * 512 ≤ room
  pub begun : 0 < t.waiting → Begun room t

-- what a call answers, and the tally after it: as it was where the call is declined
pub record Counts (t : Tally) (a : Answer Tally) (v : Answer Unit) (q : Tally) : Type 0 where
  pub verdict : v ≡ verdict_of a
  pub after : q ≡ value_or t a
