-- Whether a post is admitted, before what leaves is looked for (document 01, "Why a call is declined, in checking order", 4 to 10).
use Rattle.std.specs.Prelude.{ℕ, Bool, not, ◌||◌, List, [], ◌∷◌, ltb}
use Rattle.amounts.specs.Decline.{Answer, Check, check, checked, on_taken}
use Rattle.amounts.specs.declared.decline.Decline.TheVariants.{OutOfTurn, Closed, Full}
use Rattle.layout.specs.Outline.{may_post}
use Rattle.layout.specs.declared.outline.Outline.{Outline}
use Rattle.post.specs.Moves.{move_at, closes}
use Rattle.post.specs.declared.moves.Move.{Move}

-- 4 and 5, of a site's outline and whether its year is closed
abbrev pub turn_checks : Outline → Bool → List Check
turn_checks o closed = check (may_post o) OutOfTurn ∷ check (not closed) Closed ∷ []

-- 10: "4,000 posts are accepted and this isn't the close"
abbrev pub has_room : ℕ → Move → Bool
has_room posts m = closes m || ltb posts 4000

-- 4 and 5, then 6 to 9 of its bytes, then 10: the move of a post that only 11 can still decline
unfoldable pub admitted : Outline → List ℕ → Bool → ℕ → List ℕ → Answer Move
unfolding checked move_at
admitted o numbers closed posts s =
    on_taken (checked (turn_checks o closed) s) (λ s.
    on_taken (move_at o numbers s) (λ m. checked (check (has_room posts m) Full ∷ []) m))
