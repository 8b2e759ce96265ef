-- What only follows the code's steps. No promise rests on these definitions.
use Rattle.std.specs.Prelude.{ℕ, ◌*◌, ◌^◌, ◌≤◌, ◌<◌, ◌≡◌, length, get_or}
use Rattle.layout.specs.declared.outline.Outline.{Outline}
use Rattle.plant.specs.declared.setup.Setup.{Setup}
use Rattle.post.specs.Steps.{Fits}
use Rattle.post.specs.declared.moves.Move.{Move}
use Rattle.book.specs.Ledger.{total}
use Rattle.book.specs.declared.site.Year.{Year}

-- the outline that no other exceeds
abbrev pub widest : Outline
widest = record { substances = 8; materials = 12; stages = 8; described = 8 }

-- what keeps each sum of a move within 64 bits, and its year's posts within their count
pub record Room (u : Setup) (y : Year) (m : Move) : Type 0 where
  pub fits : Fits widest m
  pub counted_small : (i : ℕ) → get_or u.counted i 0 ≤ 1000000
  pub stores : (i : ℕ) → i < 12 → get_or y.store i 0 ≤ 2 * 10 ^ 9 * 4000
  pub sums_long : length y.sums ≡ 576
  pub totals : (s : ℕ) → s < 8 → total y.sums s ≤ 2 * 10 ^ 15 * 4000
  pub handled_few : (s : ℕ) → s < 8 → get_or y.handled s 0 ≤ 2 * 10 ^ 15 * 4000
  pub posts_few : y.posts ≤ 4000
