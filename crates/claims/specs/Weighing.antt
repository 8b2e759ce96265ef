-- The report as the posts say it (document 01, "Posts" and "Treatment and report"; document 02, (b); document 003): each amount is a sum over the accepted posts of the list, by
-- what the accepted set-up blocks say. All is read from bytes, and nothing from a book.
use Rattle.std.specs.Prelude.{ℕ, ◌+◌, ◌-◌, ◌≤◌, ◌<◌, ◌≡◌, Bool, false, ◌&&◌, ◌||◌, cond, List, [], ◌∷◌, eqb, ltb, length, get_or, drop}
use Rattle.amounts.specs.Decline.{Answer, check, checked, value_or}
use Rattle.amounts.specs.declared.decline.Decline.TheVariants.{NoSubstance}
use Rattle.amounts.specs.Threshold.{due_of}
use Rattle.amounts.specs.Treatment.{parts_of}
use Rattle.amounts.specs.declared.treatment.Parts.{Parts}
use Rattle.encoding.specs.Each.{sum_to}
use Rattle.layout.specs.Frame.{count_of, body_of}
use Rattle.bodies.specs.Stage.{sewered, landfilled, water_row, rate_row}
use Rattle.bodies.specs.declared.stage.Rates.{Rates}
use Rattle.kinds.specs.Account.{place}
use Rattle.kinds.specs.declared.account.Account.{Account}
use Rattle.kinds.specs.declared.account.Account.TheVariants.{Held, Shipped, OffSite, Landfill, Soil, Consumed, Gas, Water, Vapour}
use Rattle.post.specs.declared.moves.Move.{Move}
use Rattle.post.specs.declared.moves.Move.TheVariants.{Received, Issued, Brought, Gone, Close}
use Rattle.post.specs.Moves.{closes}
use Rattle.book.specs.Ledger.{brings}
use Rattle.book.specs.Site.{fresh_book}
use Rattle.report.specs.Fate.{to_sewer, to_public_water, to_landfill, to_off_site}
use Rattle.report.specs.Report.{filing_of, report_of}
use Rattle.report.specs.declared.fate.Fate.{Fate}
use Rattle.report.specs.declared.report.Report.{Report}
use Rattle.claims.specs.Standing.{Call, run, Standing, standing, substances_of, numbers_of, classes_of, counted_in, moves_of, sum_over}

-- ---- the stages, by their bytes

-- "Kind 2, once per stage in order. Count: the stage."
unfoldable pub stage_in : ℕ → List (List ℕ) → List ℕ
stage_in stage [] = []
stage_in stage (s ∷ blocks) = cond (eqb (count_of s) stage) (body_of s) (stage_in stage blocks)

abbrev pub stage_of : Standing → ℕ → List ℕ
stage_of w stage = stage_in stage w.stages

-- "8: 1 public water, 2 sewer. 9: residues 1 off site, 2 landfill. From 10, 17 bytes per substance"
abbrev pub sewered_at : Standing → ℕ → Bool
sewered_at w stage = sewered (stage_of w stage)

abbrev pub landfilled_at : Standing → ℕ → Bool
landfilled_at w stage = landfilled (stage_of w stage)

abbrev pub water_for : Standing → ℕ → ℕ → Bool
water_for w stage s = water_row (drop 2 (stage_of w stage)) s

abbrev pub rates_for : Standing → ℕ → ℕ → Rates
rates_for w stage s = rate_row (drop 2 (stage_of w stage)) s

-- ---- what one move says

-- "1 opening, 2 bought: material, g": g times counted content
abbrev pub receives : List ℕ → ℕ → Move → ℕ
receives counted s (Received m g) = brings counted m g s
receives counted s (Issued m k g) = 0
receives counted s (Brought a k t n) = 0
receives counted s (Gone a k t n) = 0
receives counted s Close = 0

-- "3 issued: material, stage, g": g times counted content, to any stage and to one
abbrev pub issues : List ℕ → ℕ → Move → ℕ
issues counted s (Received m g) = 0
issues counted s (Issued m k g) = brings counted m g s
issues counted s (Brought a k t n) = 0
issues counted s (Gone a k t n) = 0
issues counted s Close = 0

abbrev pub issues_to : List ℕ → ℕ → ℕ → Move → ℕ
issues_to counted stage s (Received m g) = 0
issues_to counted stage s (Issued m k g) = cond (eqb k stage) (brings counted m g s) 0
issues_to counted stage s (Brought a k t n) = 0
issues_to counted stage s (Gone a k t n) = 0
issues_to counted stage s Close = 0

-- what comes from outside to an account, at any stage
abbrev pub brought : Account → ℕ → Move → ℕ
brought account s (Received m g) = 0
brought account s (Issued m k g) = 0
brought account s (Brought a k t n) = cond (eqb (place a) (place account) && eqb t s) n 0
brought account s (Gone a k t n) = 0
brought account s Close = 0

-- an amount at an account by its place, a stage and a substance, where those are the ones named
abbrev pub only_at : ℕ → ℕ → ℕ → ℕ → ℕ → ℕ → ℕ → ℕ
only_at a k t account stage s n = cond (eqb a account && (eqb k stage && eqb t s)) n 0

abbrev pub brings_to : Account → ℕ → ℕ → Move → ℕ
brings_to account stage s (Received m g) = 0
brings_to account stage s (Issued m k g) = 0
brings_to account stage s (Brought a k t n) = only_at (place a) k t (place account) stage s n
brings_to account stage s (Gone a k t n) = 0
brings_to account stage s Close = 0

-- 5 to 12: what leaves a holding, under the name of its account, which is given by its place
abbrev pub goes_to : ℕ → ℕ → ℕ → Move → ℕ
goes_to account stage s (Received m g) = 0
goes_to account stage s (Issued m k g) = 0
goes_to account stage s (Brought a k t n) = 0
goes_to account stage s (Gone a k t n) = only_at (place a) k t account stage s n
goes_to account stage s Close = 0

-- ---- the year's sums

-- "opening + bought"
abbrev pub received : Standing → ℕ → ℕ
received w s = sum_over (receives (counted_in w) s) (moves_of w)

abbrev pub issued : Standing → ℕ → ℕ
issued w s = sum_over (issues (counted_in w) s) (moves_of w)

-- "store grams times counted content": what came less what was issued
abbrev pub store : Standing → ℕ → ℕ
store w s = received w s - issued w s

-- "4 formed: stage, substance, micrograms in quantity. The holding grows"
abbrev pub formed : Standing → ℕ → ℕ
formed w s = sum_over (brought Held s) (moves_of w)

-- "Post kind 14, found ..; its amount goes to off site in the same step" (document 02, (b))
abbrev pub found : Standing → ℕ → ℕ
found w s = sum_over (brought OffSite s) (moves_of w)

-- "Handled is issued plus formed", and what was found "counts as handled"
abbrev pub handled_by : Standing → ℕ → ℕ
handled_by w s = issued w s + formed w s + found w s

-- ---- a stage's sums

-- what came to its holding, and what left it
abbrev pub came : Standing → ℕ → ℕ → ℕ
came w s stage = sum_over (λ m. issues_to (counted_in w) stage s m + brings_to Held stage s m) (moves_of w)

abbrev pub left : Standing → ℕ → ℕ → ℕ
left w s stage = sum_over (λ m. sum_to 8 (λ i. goes_to (1 + i) stage s m)) (moves_of w)

abbrev pub remains : Standing → ℕ → ℕ → ℕ
remains w s stage = came w s stage - left w s stage

-- under an account's name: what left the holding for it, and what was brought to it
abbrev pub under : Account → Standing → ℕ → ℕ → ℕ
under account w s stage = sum_over (λ m. goes_to (place account) stage s m + brings_to account stage s m) (moves_of w)

-- "13 close"
unfoldable pub any_closes : List Move → Bool
any_closes [] = false
any_closes (m ∷ ms) = closes m || any_closes ms

abbrev pub is_closed : Standing → Bool
is_closed w = any_closes (moves_of w)

-- an amount that the close moves, and one that it takes away
abbrev pub at_close : Standing → ℕ → ℕ
at_close w n = cond (is_closed w) n 0

abbrev pub before_close : Standing → ℕ → ℕ
before_close w n = cond (is_closed w) 0 n

abbrev pub held_at : Standing → ℕ → ℕ → ℕ
held_at w s stage = before_close w (remains w s stage)

-- "Each holding moves to gas or waste water, by that pair's side", which is water or is not
abbrev pub to_water : Bool → ℕ → ℕ
to_water water n = cond water n 0

abbrev pub to_gas : Bool → ℕ → ℕ
to_gas water n = cond water 0 n

abbrev pub gas_total : Standing → ℕ → ℕ → ℕ
gas_total w s stage = under Gas w s stage + at_close w (to_gas (water_for w stage s) (remains w s stage))

abbrev pub water_total : Standing → ℕ → ℕ → ℕ
water_total w s stage = under Water w s stage + at_close w (to_water (water_for w stage s) (remains w s stage))

-- ---- treatment: "With a the gas total, r removal and d destruction", and "Waste water alike, with its own rates"

abbrev pub gas_split : Standing → ℕ → ℕ → Parts
gas_split w s stage =
    let r = rates_for w stage s in
    parts_of (gas_total w s stage) r.gas.removal r.gas.destruction

abbrev pub water_split : Standing → ℕ → ℕ → Parts
water_split w s stage =
    let r = rates_for w stage s in
    parts_of (water_total w s stage) r.water.removal r.water.destruction

abbrev pub residue : Standing → ℕ → ℕ → ℕ
residue w s stage = (gas_split w s stage).residue + (water_split w s stage).residue

-- ---- the report: "Per substance, over all stages", which are at most eight

unfoldable pub fate_of : Standing → ℕ → Fate
fate_of w s =
    record {
      held = sum_to 8 (λ k. held_at w s k);
      shipped = sum_to 8 (λ k. under Shipped w s k);
      consumed = sum_to 8 (λ k. under Consumed w s k);
      destroyed = sum_to 8 (λ k. (gas_split w s k).destroyed + (water_split w s k).destroyed);
      -- "air (gas released and vapour), public water, soil, landfill, sewer, off site. Treated water goes to public water or sewer, residues to off site or
      -- landfill, as the stage says."
      headings =
          record {
            air = sum_to 8 (λ k. (gas_split w s k).released + under Vapour w s k);
            water = sum_to 8 (λ k. to_public_water (sewered_at w k) (water_split w s k).released);
            soil = sum_to 8 (λ k. under Soil w s k);
            land = sum_to 8 (λ k. under Landfill w s k + to_landfill (landfilled_at w k) (residue w s k));
            sewer = sum_to 8 (λ k. to_sewer (sewered_at w k) (water_split w s k).released);
            offsite = sum_to 8 (λ k. under OffSite w s k + to_off_site (landfilled_at w k) (residue w s k));
          };
    }

abbrev pub due_on : Standing → ℕ → Bool
due_on w s = value_or false (due_of (get_or (classes_of w) s 0) (handled_by w s))

-- due and the filed figures follow from the exact amounts
abbrev pub report_by : Standing → ℕ → Report
report_by w s =
    let fate = fate_of w s in
    record {
      posts = length w.posts;
      number = get_or (numbers_of w) s 0;
      handled = handled_by w s;
      due = due_on w s;
      store = store w s;
      fate = fate;
      filed = filing_of (due_on w s) fate.headings;
    }

-- "declined by 12 alone, never for a substance that the book has"
abbrev pub answer_by : Standing → ℕ → Answer Report
answer_by w s = checked (check (ltb s (substances_of w)) NoSubstance ∷ []) (report_by w s)

-- each "less" is the difference of two sums of which the first is never the smaller
pub record Weighed (w : Standing) (s : ℕ) : Type 0 where
  pub in_store : issued w s ≤ received w s
  pub in_holding : (stage : ℕ) → stage < 8 → left w s stage ≤ came w s stage
  -- "which is opening + bought − closing + formed (document 003)", the closing stock being what is in store; "The entering side of the sum gains the found amounts"
  pub handled_is : handled_by w s + store w s ≡ received w s + formed w s + found w s

-- for every list of calls given in turn to a fresh book, the report is what the accepted calls say
pub record ReportByPosts : Type 0 where
  pub report : (calls : List Call) (s : ℕ) → report_of (run fresh_book calls) s ≡ answer_by (standing calls) s
  pub weighed : (calls : List Call) (s : ℕ) → s < substances_of (standing calls) → Weighed (standing calls) s
