-- The places of the accounts. Assumes nothing.
use Rattle.std.proofs.Common.{◌<◌, arith}
use Rattle.kinds.specs.Account.{place}
use Rattle.kinds.specs.declared.account.Account.{Account}
use Rattle.kinds.specs.declared.account.Account.TheVariants.{Held, Shipped, OffSite, Landfill, Soil, Consumed, Gas, Water, Vapour}

-- there are nine
pub place_few : (a : Account) → place a < 9
place_few Held = omega arith
place_few Shipped = omega arith
place_few OffSite = omega arith
place_few Landfill = omega arith
place_few Soil = omega arith
place_few Consumed = omega arith
place_few Gas = omega arith
place_few Water = omega arith
place_few Vapour = omega arith
