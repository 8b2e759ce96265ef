-- Demand 3: each substance of the accepted kind 1 block has a report, and it is in balance. Assumes nothing.
use mathlib.Core.Path.{◌≡◌}
use Prim.Native.Nat.{ℕ, ◌<◌}
use native.Mathlib.Omega.{arith}
use Rattle.std.proofs.lemmas.Bool.Decides.{nat_tests}
use Rattle.std.specs.Prelude.{Ok}
use Rattle.amounts.specs.Decline.{checked}
use Rattle.book.specs.Site.{Book, fresh_book}
use Rattle.report.specs.Report.{report_at, report_of}
use Rattle.claims.specs.Demand.{Demand3}
use Rattle.claims.specs.Standing.{run, standing}
use Rattle.claims.proofs.Report.{balanced}
use Rattle.claims.proofs.Tells.{tells_run, substances_are}

-- a report of a substance that the book has
report_had : (b : Book) (s : ℕ) → s < b.setup.outline.substances → report_of b s ≡ Ok (report_at b s)
unfolding report_of checked
report_had b s l = grind (arith, nat_tests)

-- the claim about every list of calls
pub demand_3 : Demand3
demand_3 calls s l =
    let b = run fresh_book calls in
    let h = tells_run calls in
    let had : s < b.setup.outline.substances = omega (arith, substances_are (standing calls) b h) in
    (report_at b s, report_had b s had, balanced (standing calls) b s h (omega (arith, had, h.sound.setup.substances_few)))
