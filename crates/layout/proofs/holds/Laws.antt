-- What the table of what blocks hold tells. Assumes nothing.
use mathlib.Core.Path.{◌≡◌, refl}
use Rattle.std.specs.Prelude.{Ok}
use Rattle.layout.specs.Holds.{holds_of}
use Rattle.layout.specs.declared.holds.Holds.TheVariants.{Posts}

-- the kind that a block of posts is written with
pub of_posts_lem : holds_of 3 ≡ Ok Posts
unfolding holds_of
of_posts_lem = refl
