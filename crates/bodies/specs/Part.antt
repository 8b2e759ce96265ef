-- What is asked of a set-up block's body, by what the block holds (document 01, "Why a call is declined", 4 and 6).
use Rattle.std.specs.Prelude.{ℕ, List}
use Rattle.amounts.specs.Decline.{Check}
use Rattle.layout.specs.declared.holds.SetupPart.{SetupPart}
use Rattle.layout.specs.declared.holds.SetupPart.TheVariants.{Materials, Stage}
use Rattle.layout.specs.declared.outline.Outline.{Outline}
use Rattle.bodies.specs.Setup.{setup_checks}
use Rattle.bodies.specs.Stage.{stage_checks}

-- 4 and 6 of a part of the set-up; "a body of another length is a 6 after 4"
abbrev pub part_checks : Outline → SetupPart → ℕ → List ℕ → List Check
part_checks o Materials count body = setup_checks o count body
part_checks o Stage count body = stage_checks o count body
