-- The report is what the accepted posts say. Assumes nothing.
use mathlib.Core.Path.{◌≡◌}
use mathlib.Core.List.{List}
use Prim.Native.Nat.{ℕ, ◌<◌}
use native.Mathlib.Omega.{arith}
use Rattle.std.proofs.lemmas.Bool.Decides.{nat_tests}
use Rattle.amounts.specs.Decline.{checked}
use Rattle.book.specs.Site.{fresh_book}
use Rattle.report.specs.Report.{report_of}
use Rattle.claims.specs.Standing.{Call, run, standing, substances_of}
use Rattle.claims.specs.Weighing.{answer_by, Weighed, ReportByPosts}
use Rattle.claims.proofs.Report.{as_told}
use Rattle.claims.proofs.Tells.{tells_run, substances_are}

reported : (calls : List Call) (s : ℕ) → report_of (run fresh_book calls) s ≡ answer_by (standing calls) s
unfolding report_of checked
reported calls s =
    let b = run fresh_book calls in
    let h = tells_run calls in
    grind (arith, nat_tests, as_told (standing calls) b s h, substances_are (standing calls) b h)

is_weighed : (calls : List Call) (s : ℕ) → s < substances_of (standing calls) → Weighed (standing calls) s
is_weighed calls s l =
    let b = run fresh_book calls in
    let h = tells_run calls in
    (as_told (standing calls) b s h (omega (arith, substances_are (standing calls) b h))).1

-- the claim about every list of calls
pub report_by_posts : ReportByPosts
report_by_posts = record { report = reported; weighed = is_weighed }
