-- A stage's fate weighs what its accounts hold, and the fates of all stages what the ledger does: so no heading passes 64 bits. Assumes nothing.
use Rattle.std.proofs.Common.{◌≡◌, refl, sym, ◌∙◌, Bool, true, false, List, ℕ, zero, suc, ◌+◌, ◌*◌, ◌^◌, ◌<◌, add-one, get_or, arith}
use Rattle.amounts.specs.declared.treatment.Parts.{Parts}
use Rattle.amounts.proofs.treatment.Laws.{conserved}
use Rattle.encoding.specs.Each.{sum_to}
use Rattle.encoding.proofs.Each.{sum_again, sum_mono}
use Rattle.plant.specs.Setup.{no_stage, Rated, SoundSetup}
use Rattle.plant.specs.declared.setup.Setup.{Setup}
use Rattle.book.specs.Ledger.{total}
use Rattle.book.specs.Site.{Book, Sound, SoundYear}
use Rattle.book.specs.declared.site.Year.{Year}
use Rattle.book.proofs.ledger.Laws.{column, total_is}
use Rattle.report.specs.Fate.{to_sewer, to_public_water, to_landfill, to_off_site, rates_of, cells_of, fate_from, stage_fate, fate_to, weigh}
use Rattle.report.specs.Steps.{no_fate, add_fates}
use Rattle.report.specs.declared.fate.Cells.{Cells}

-- ---- a stage

-- an amount goes to one of its two destinations
pub water_goes : (sewer : Bool) (n : ℕ) → to_public_water sewer n + to_sewer sewer n ≡ n
water_goes true n = omega arith
water_goes false n = omega arith

pub residue_goes : (landfill : Bool) (n : ℕ) → to_off_site landfill n + to_landfill landfill n ≡ n
residue_goes = water_goes

-- all that a stage's accounts hold of a substance
abbrev weigh_cells : Cells → ℕ
weigh_cells c = c.held + c.shipped + c.off_site + c.landfill + c.soil + c.consumed + c.gas + c.water + c.vapour

weigh_from : (c : Cells) (g w : Parts) (sewer landfill : Bool) → g.released + g.destroyed + g.residue ≡ c.gas → w.released + w.destroyed + w.residue ≡ c.water
    → weigh (fate_from c g w sewer landfill) ≡ weigh_cells c
weigh_from c g w sewer landfill p q = omega (arith, water_goes sewer w.released, residue_goes landfill (g.residue + w.residue))

-- ---- all stages

module _ (sums : List ℕ) (u : Setup) (s : ℕ) where
  pub fate_none : no_fate ≡ fate_to sums u s 0
  unfolding fate_to sum_to
  fate_none = refl

  pub fate_more : (k : ℕ) → add_fates (fate_to sums u s k) (stage_fate sums u s k) ≡ fate_to sums u s (k + 1)
  unfolding fate_to sum_to
  fate_more k = rw add-one

  module _ (h : SoundSetup u) where
    stage_weighs : (k : ℕ) → weigh (stage_fate sums u s k) ≡ column sums s k
    unfolding sum_to
    stage_weighs k =
        let c = cells_of sums k s in
        let r = rates_of u k s in
        let rated = h.rated (k * 8 + s) in
        weigh_from c _ _ (get_or u.stages k no_stage).to_sewer (get_or u.stages k no_stage).to_landfill
        (conserved c.gas r.gas.removal r.gas.destruction rated.gas.0 rated.gas.1)
        (conserved c.water r.water.removal r.water.destruction rated.water.0 rated.water.1)
        ∙ omega arith

    fates_weigh : (n : ℕ) → weigh (fate_to sums u s n) ≡ sum_to n (column sums s)
    unfolding fate_to sum_to
    fates_weigh zero = refl
    fates_weigh (suc n) = omega (arith, fates_weigh n, stage_weighs n)

    -- all that a report shows without the store is what the ledger holds
    pub fate_total : weigh (fate_to sums u s 8) ≡ total sums s
    fate_total = fates_weigh 8 ∙ sym (total_is sums s)

-- ---- of a sound book

-- what a sound year holds of a substance, and a sound book
pub year_total_fits : (u : Setup) (y : Year) → SoundYear u y → (s : ℕ) → s < 8 → total y.sums s < 2 ^ 64
year_total_fits u y h s hs = omega (arith, h.posts_few, h.bounded s hs)

pub total_fits : (b : Book) (s : ℕ) → Sound b → s < 8 → total b.year.sums s < 2 ^ 64
total_fits b s h hs = year_total_fits b.setup b.year h.year s hs

pub rates_fit : (b : Book) (s k : ℕ) → Sound b → Rated (rates_of b.setup k s)
rates_fit b s k h = h.setup.rated (k * 8 + s)

-- the fates so far and one stage's more
pub fates_fit : (b : Book) (s k : ℕ) → Sound b → s < 8 → k < 8 → weigh (fate_to b.year.sums b.setup s k) + weigh (stage_fate b.year.sums b.setup s k) < 2 ^ 64
fates_fit b s k h hs hk =
    let sums = b.year.sums in
    omega (
      arith,
      total_fits b s h hs,
      fates_weigh sums b.setup s h.setup k,
      stage_weighs sums b.setup s h.setup k,
      total_is sums s,
      sum_again k (column sums s),
      sum_mono (k + 1) 8 (column sums s) (omega arith),
    )

pub stage_fits : (b : Book) (s k : ℕ) → Sound b → s < 8 → k < 8 → weigh (stage_fate b.year.sums b.setup s k) < 2 ^ 64
stage_fits b s k h hs hk = omega (arith, fates_fit b s k h hs hk)
