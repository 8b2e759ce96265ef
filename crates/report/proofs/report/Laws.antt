-- What a report of a sound book says: it shows what was handled, and with the store what entered. Assumes nothing.
use Rattle.std.proofs.Common.{◌≡◌, sym, ◌∙◌, List, ℕ, ◌+◌, ◌*◌, ◌^◌, ◌≤◌, ◌<◌, get_or, arith}
use Rattle.amounts.specs.Filed.{step_of, filed_of}
use Rattle.amounts.proofs.filed.Laws.{filed_within}
use Rattle.encoding.proofs.Each.{sum_again, sum_mono}
use Rattle.book.specs.Ledger.{brings, total}
use Rattle.book.specs.Site.{Book, stored, stored_to, in_year, Sound, SoundYear}
use Rattle.book.specs.declared.site.Year.{Year}
use Rattle.plant.specs.declared.setup.Setup.{Setup}
use Rattle.report.specs.Fate.{six_of, weigh, map_headings}
use Rattle.report.specs.Report.{report_at}
use Rattle.report.specs.declared.fate.Headings.{Headings}
use Rattle.report.proofs.fate.Laws.{fate_total, total_fits}

-- ---- what fits 64 bits

-- a material's part of a store is within the whole, with the parts before it
pub stored_le : (store counted : List ℕ) (s m : ℕ) → m < 12
    → stored_to store counted s m + get_or store m 0 * get_or counted (m * 8 + s) 0 ≤ stored_to store counted s 12
stored_le store counted s m h =
    let each : ℕ → ℕ = λ m. brings counted m (get_or store m 0) s in
    omega (arith, sum_again m each, sum_mono (m + 1) 12 each (omega arith))

-- what a sound year has in store of a substance, and a sound book
pub year_stored_fits : (u : Setup) (y : Year) → SoundYear u y → (s : ℕ) → s < 8 → stored u y s < 2 ^ 64
year_stored_fits u y h s hs = omega (arith, h.posts_few, h.bounded s hs)

pub stored_fits : (b : Book) (s : ℕ) → Sound b → s < 8 → stored b.setup b.year s < 2 ^ 64
stored_fits b s h hs = year_stored_fits b.setup b.year h.year s hs

-- ---- what a report says, over a sound book

module _ (b : Book) (h : Sound b) (s : ℕ) (hs : s < 8) where
  shown : weigh (report_at b s).fate ≡ total b.year.sums s
  shown = fate_total b.year.sums b.setup s h.setup

  -- what a report shows without the store is what was handled
  pub report_handled : weigh (report_at b s).fate ≡ (report_at b s).handled
  report_handled = shown ∙ sym (h.year.weighed s hs)

  -- and with it what entered
  pub report_entered : (report_at b s).store + weigh (report_at b s).fate ≡ in_year b.setup b.year s
  report_entered = omega (arith, shown)

  -- so each heading is an amount of 64 bits
  pub headings_fit : six_of (report_at b s).fate.headings < 2 ^ 64
  headings_fit = omega (arith, shown, total_fits b s h hs)

-- ---- filed figures

-- the six steps added
abbrev pub six_steps : Headings → ℕ
six_steps x = six_of (map_headings step_of x)

-- six filed figures and their six amounts differ, either way, by at most half of the six steps added
pub figures_within : (x : Headings) → six_of x < 2 ^ 64
    → (2 * six_of (map_headings filed_of x) ≤ 2 * six_of x + six_steps x) × (2 * six_of x ≤ 2 * six_of (map_headings filed_of x) + six_steps x)
figures_within x h =
    let air = filed_within x.air (omega arith) in
    let water = filed_within x.water (omega arith) in
    let soil = filed_within x.soil (omega arith) in
    let land = filed_within x.land (omega arith) in
    let sewer = filed_within x.sewer (omega arith) in
    let offsite = filed_within x.offsite (omega arith) in
    (omega arith, omega arith)
