-- The accounts of the ledger: a holding, and where an amount goes from it or comes to from outside (document 01, "Posts").
use Rattle.std.specs.Prelude.{ℕ, Bool, true, false}
use Rattle.kinds.specs.declared.account.Account.{Account}
use Rattle.kinds.specs.declared.account.Account.TheVariants.{Held, Shipped, OffSite, Landfill, Soil, Consumed, Gas, Water, Vapour}

-- the place of an account among the ledger's nine, from 0; "5 shipped, 6 waste off site, 7 landfill on site, 8 soil, 9 consumed, 10 to gas, 11 to waste water", "12 vapour"
abbrev pub place : Account → ℕ
place Held = 0
place Shipped = 1
place OffSite = 2
place Landfill = 3
place Soil = 4
place Consumed = 5
place Gas = 6
place Water = 7
place Vapour = 8

-- "Each holding moves to gas or waste water, by that pair's side", which is water or is not
unfoldable pub closes_to : Bool → Account
closes_to true = Water
closes_to false = Gas
