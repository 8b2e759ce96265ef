-- What a book's report shows is what stands. Assumes nothing.
use mathlib.Core.Path.{◌≡◌, refl, sym, ap, ◌∙◌}
use mathlib.Core.Bool.{Bool, true, cond, ◌&&◌, ◌||◌, not}
use mathlib.Core.List.{List}
use Prim.Native.Nat.{ℕ, zero, suc, ◌+◌, ◌-◌, ◌*◌, ◌≤◌, ◌<◌}
use native.Mathlib.Omega.{arith}
use lib.Dec.{eqb, ltb}
use Rattle.std.proofs.lemmas.Bool.Decides.{nat_tests}
use lib.ListN.{get_or, drop}
use Rattle.std.specs.List.{All}
use Rattle.amounts.specs.Filed.{filed_of}
use Rattle.encoding.specs.Each.{sum_to}
use Rattle.plant.specs.Setup.{no_pair, no_stage}
use Rattle.plant.specs.Stage.{pair_row}
use Rattle.plant.specs.declared.setup.Pair.{Pair}
use Rattle.plant.specs.declared.setup.Setup.{Setup}
use Rattle.kinds.specs.Account.{place, closes_to}
use Rattle.kinds.specs.declared.account.Account.{Account}
use Rattle.kinds.specs.declared.account.Account.TheVariants.{Held, Shipped, OffSite, Landfill, Soil, Consumed, Gas, Water, Vapour}
use Rattle.post.specs.declared.moves.Move.{Move}
use Rattle.post.proofs.moves.Named.{Named}
use Rattle.book.specs.Entry.{enters, handles}
use Rattle.book.specs.Ledger.{cell}
use Rattle.book.proofs.ledger.Laws.{closing}
use Rattle.book.specs.Site.{Book, Sound, book_with}
use Rattle.report.specs.Fate.{cells_of, fate_for, stage_fate, fate_to, map_headings}
use Rattle.report.specs.Report.{filing_of, report_at}
use Rattle.report.specs.Steps.{no_fate, add_fates}
use Rattle.report.specs.declared.fate.Fate.{Fate}
use Rattle.report.proofs.report.Laws.{report_handled, report_entered, headings_fit, figures_within}
use Rattle.claims.specs.Demand as demand
use Rattle.claims.specs.Demand.{Balanced}
use Rattle.claims.specs.Standing.{Standing, counted_in, moves_of}
use Rattle.claims.specs.Weighing.{sewered_at, landfilled_at, water_for, rates_for, receives, issues, brought, received, issued, store, formed, found, handled_by}
use Rattle.claims.specs.Weighing.{remains, under, any_closes, is_closed, held_at, to_gas, to_water, gas_total, water_total, fate_of, report_by, Weighed}
use Rattle.claims.specs.Weighing.{stage_in}
use Rattle.claims.proofs.Setting.{SetBy}
use Rattle.claims.proofs.State.{came_sum, left_sum, under_sum, State, still_open, shut}
use Rattle.claims.proofs.Sums.{over_three}
use Rattle.claims.proofs.Tells.{Setting, unset, is_set, Tells}

-- ---- in balance

-- the report does not ask for the blocks
plain_sound : (w : Standing) (b : Book) → Tells w b → Sound (book_with b.setup b.year 0)
plain_sound w b h = record { setup = h.sound.setup; year = h.sound.year; blocks_few = omega arith }

pub balanced : (w : Standing) (b : Book) (s : ℕ) → Tells w b → s < 8 → Balanced w s (report_at b s)
balanced w b s h few =
    let c = book_with b.setup b.year 0 in
    let g = plain_sound w b h in
    let out = sym (h.handled s few) ∙ sym (report_handled c g s few) in
    record {
      weighed_in = sym (h.entered s few) ∙ sym (report_entered c g s few);
      weighed_out = out;
      shown = h.handled s few;
      figures = λ e.
          let x = (report_at c s).fate.headings in
          (map_headings filed_of x, ap (λ (t : Bool). filing_of t x) e, figures_within x (headings_fit c g s few));
      counted = h.count;
    }

-- ---- what came in

-- a move is received, issued, formed or found, or neither enters nor is handled: what is brought comes to a holding or to off site
enters_is : (counted : List ℕ) (s : ℕ) (m : Move) → Named m → enters counted s m ≡ receives counted s m + brought Held s m + brought OffSite s m
enters_is counted s m e = grind (arith, nat_tests)

handles_is : (counted : List ℕ) (s : ℕ) (m : Move) → Named m → handles counted s m ≡ issues counted s m + brought Held s m + brought OffSite s m
handles_is counted s m e = grind (arith, nat_tests)

module _ (w : Standing) (named : All Named (moves_of w)) (s : ℕ) where
  handled_posts : demand.handled w s ≡ handled_by w s
  handled_posts =
      over_three Named (handles (counted_in w) s) (issues (counted_in w) s) (brought Held s) (brought OffSite s) (moves_of w) named (handles_is (counted_in w) s)

  entered_posts : demand.entered w s ≡ received w s + formed w s + found w s
  entered_posts =
      over_three Named (enters (counted_in w) s) (receives (counted_in w) s) (brought Held s) (brought OffSite s) (moves_of w) named (enters_is (counted_in w) s)

-- ---- a stage's sums

-- the close moves to gas, or to waste water
gas_side : (side : Bool) (n : ℕ) → cond (eqb (place Gas) (closing side)) n 0 ≡ to_gas side n
unfolding closes_to
gas_side side n = grind (arith, nat_tests)

water_side : (side : Bool) (n : ℕ) → cond (eqb (place Water) (closing side)) n 0 ≡ to_water side n
unfolding closes_to
water_side side n = grind (arith, nat_tests)

-- and to no other account
abbrev is_aside : Account → Bool
is_aside a = ltb 0 (place a) && not (eqb (place a) (place Gas) || eqb (place a) (place Water))

no_side : (a : Account) (side : Bool) (n : ℕ) → is_aside a ≡ true → cond (eqb (place a) (closing side)) n 0 ≡ 0
unfolding closes_to
no_side a side n e = grind (arith, nat_tests)

abbrev rest : List ℕ → List Move → ℕ → ℕ → ℕ
rest counted ms k s = came_sum counted ms k s - left_sum counted ms k s

module _ {counted : List ℕ} {pairs : List Pair} {ms : List Move} {sums : List ℕ} {closed : Bool} (k s : ℕ) (hk : k < 8) (hs : s < 8) where
  enough : State counted pairs ms sums closed → left_sum counted ms k s ≤ came_sum counted ms k s
  enough (still_open e q o) = omega (arith, o.kept k s hk hs)
  enough (shut e q o) = o.enough k s hk hs

  held_by : State counted pairs ms sums closed → cell sums Held k s ≡ cond (any_closes ms) 0 (rest counted ms k s)
  held_by (still_open e q o) = rw q (omega (arith, o.kept k s hk hs))
  held_by (shut e q o) = rw q (o.none_held k s hk hs)

  -- any other account: what went to it by name, and at the close what was left, where its pair's side is that account
  named_by : State counted pairs ms sums closed → (a : Account) → 1 ≤ place a
      → cell sums a k s ≡ under_sum counted ms a k s + cond (any_closes ms) (cond (eqb (place a) (closing (get_or pairs (k * 8 + s) no_pair).to_water)) (rest counted ms k s) 0) 0
  named_by (still_open e q o) a low = rw q (omega (arith, o.gone a k s low hk hs))
  named_by (shut e q o) a low = rw q (o.gone a k s low hk hs)

-- ---- the report, part by part

-- a stage's fate, by its sums
abbrev stage_by : Standing → ℕ → ℕ → Fate
stage_by w s k =
    fate_for
    (record {
      held = held_at w s k;
      shipped = under Shipped w s k;
      off_site = under OffSite w s k;
      landfill = under Landfill w s k;
      soil = under Soil w s k;
      consumed = under Consumed w s k;
      gas = gas_total w s k;
      water = water_total w s k;
      vapour = under Vapour w s k;
    })
    (rates_for w k s) (sewered_at w k) (landfilled_at w k)

-- fates of so many stages, added
fates : (ℕ → Fate) → ℕ → Fate
fates f zero = no_fate
fates f (suc n) = add_fates (fates f n) (f n)

fates_same : (f g : ℕ → Fate) (n : ℕ) → ((k : ℕ) → k < n → f k ≡ g k) → fates f n ≡ fates g n
unfolding fates
fates_same f g zero e = refl
fates_same f g (suc n) e = rw (fates_same f g n (λ k h. e k (omega arith)), e n (omega arith)) refl

module _ (w : Standing) (b : Book) (h : Tells w b) (up : SetBy w.first w.stages b.setup) (s : ℕ) (l : s < b.setup.outline.substances) where
  few : s < 8
  few = omega (arith, h.sound.setup.substances_few)

  abbrev sums : List ℕ
  sums = b.year.sums

  abbrev u : Setup
  u = b.setup

  module _ (k : ℕ) (hk : k < 8) where
    pair_is : get_or u.pairs (k * 8 + s) no_pair ≡ pair_row (drop 2 (stage_in k w.stages)) s
    pair_is = up.pairs k s hk l

    held_is : cell sums Held k s ≡ held_at w s k
    held_is = held_by k s hk few h.state

    -- an account by its name, and what the close moves to it
    account_is : (a : Account) (to : ℕ) → 1 ≤ place a → cond (eqb (place a) (closing (water_for w k s))) (remains w s k) 0 ≡ to
        → cell sums a k s ≡ under a w s k + cond (is_closed w) to 0
    account_is a to low e = rw (pair_is, e) at (named_by k s hk few h.state a low)

    named_is : (a : Account) → is_aside a ≡ true → cell sums a k s ≡ under a w s k
    named_is a e =
        let low : 1 ≤ place a = grind (arith, nat_tests) in
        grind (arith, nat_tests, account_is a 0 low (no_side a (water_for w k s) (remains w s k) e))

    stage_is : stage_fate sums u s k ≡ stage_by w s k
    stage_is =
        ap (λ (p : Pair). fate_for (cells_of sums k s) p.rates (get_or u.stages k no_stage).to_sewer (get_or u.stages k no_stage).to_landfill) pair_is
        ∙ rw (
          held_is,
          named_is Shipped refl,
          named_is OffSite refl,
          named_is Landfill refl,
          named_is Soil refl,
          named_is Consumed refl,
          account_is Gas _ (omega arith) (gas_side (water_for w k s) (remains w s k)),
          account_is Water _ (omega arith) (water_side (water_for w k s) (remains w s k)),
          named_is Vapour refl,
          up.goes k hk,
        )

  fate_is : fate_to sums u s 8 ≡ fate_of w s
  unfolding fate_to fate_of sum_to fates
  fate_is = fates_same (stage_fate sums u s) (stage_by w s) 8 stage_is

  out_is : (report_at b s).handled ≡ handled_by w s
  out_is = (balanced w b s h few).shown ∙ handled_posts w h.named s

  stock_is : (report_at b s).store + issued w s ≡ received w s
  stock_is =
      let z = balanced w b s h few in
      omega (arith, z.weighed_in, z.weighed_out, handled_posts w h.named s, entered_posts w h.named s)

  report_told : report_at b s ≡ report_by w s
  report_told =
      let in_store : (report_at b s).store ≡ store w s = omega (arith, stock_is) in
      rw (fate_is, h.count, up.numbers, up.classes, out_is, in_store)

  weighs : Weighed w s
  weighs =
      record {
        in_store = omega (arith, stock_is);
        in_holding = λ k hk. enough k s hk few h.state;
        handled_is = omega (arith, stock_is);
      }

-- from the relation alone
pub as_told : (w : Standing) (b : Book) (s : ℕ) → Tells w b → s < b.setup.outline.substances → (report_at b s ≡ report_by w s) × Weighed w s
as_told w b s h l = go h.setting
  where
    go : Setting w b.setup → (report_at b s ≡ report_by w s) × Weighed w s
    go (unset e f z _) = absurd (omega arith)
    go (is_set up) = (report_told w b h up s l, weighs w b h up s l)
