-- The fate of a substance: what a report shows of it but the store (document 01, "Treatment and report").
use Rattle.std.specs.Prelude.{ℕ, ◌+◌, ◌*◌, Bool, cond, List, ◌++◌, get_or, codes}
use Rattle.std.specs.Fmt.{decimal}
use Rattle.amounts.specs.Treatment.{parts_of}
use Rattle.amounts.specs.declared.treatment.Parts.{Parts}
use Rattle.encoding.specs.Each.{sum_to}
use Rattle.plant.specs.Setup.{no_pair, no_stage}
use Rattle.bodies.specs.declared.stage.Rates.{Rates}
use Rattle.plant.specs.declared.setup.Setup.{Setup}
use Rattle.kinds.specs.declared.account.Account.TheVariants.{Held, Shipped, OffSite, Landfill, Soil, Consumed, Gas, Water, Vapour}
use Rattle.book.specs.Ledger.{cell}
use Rattle.report.specs.declared.fate.Cells.{Cells}
use Rattle.report.specs.declared.fate.Headings.{Headings}
use Rattle.report.specs.declared.fate.Fate.{Fate}

-- "Treated water goes to public water or sewer": an amount of it, by whether the stage's goes to the sewer
abbrev pub to_sewer : Bool → ℕ → ℕ
to_sewer sewer n = cond sewer n 0

abbrev pub to_public_water : Bool → ℕ → ℕ
to_public_water sewer n = cond sewer 0 n

-- "residues to off site or landfill": by whether the stage's go to landfill
abbrev pub to_landfill : Bool → ℕ → ℕ
to_landfill landfill n = cond landfill n 0

abbrev pub to_off_site : Bool → ℕ → ℕ
to_off_site landfill n = cond landfill 0 n

-- the rates of a stage and a substance
abbrev pub rates_of : Setup → ℕ → ℕ → Rates
rates_of u stage s = (get_or u.pairs (stage * 8 + s) no_pair).rates

-- the year's totals of a stage and a substance, by account
abbrev pub cells_of : List ℕ → ℕ → ℕ → Cells
cells_of sums stage s =
    record {
      held = cell sums Held stage s;
      shipped = cell sums Shipped stage s;
      off_site = cell sums OffSite stage s;
      landfill = cell sums Landfill stage s;
      soil = cell sums Soil stage s;
      consumed = cell sums Consumed stage s;
      gas = cell sums Gas stage s;
      water = cell sums Water stage s;
      vapour = cell sums Vapour stage s;
    }

-- Of a stage, with its gas and its waste water as split: "air (gas released and vapour), public water, soil, landfill, sewer, off site. Treated water goes to
-- public water or sewer, residues to off site or landfill, as the stage says."
abbrev pub fate_from : Cells → Parts → Parts → Bool → Bool → Fate
fate_from c g w sewer landfill =
    record {
      held = c.held;
      shipped = c.shipped;
      consumed = c.consumed;
      destroyed = g.destroyed + w.destroyed;
      headings =
          record {
            air = g.released + c.vapour;
            water = to_public_water sewer w.released;
            soil = c.soil;
            land = c.landfill + to_landfill landfill (g.residue + w.residue);
            sewer = to_sewer sewer w.released;
            offsite = c.off_site + to_off_site landfill (g.residue + w.residue);
          };
    }

-- the split of the gas and of the waste water, each by its own rates: "made on the year's totals, at the report"
abbrev pub fate_for : Cells → Rates → Bool → Bool → Fate
fate_for c r sewer landfill =
    fate_from c (parts_of c.gas r.gas.removal r.gas.destruction) (parts_of c.water r.water.removal r.water.destruction) sewer landfill

abbrev pub stage_fate : List ℕ → Setup → ℕ → ℕ → Fate
stage_fate sums u s stage =
    let goes = get_or u.stages stage no_stage in
    fate_for (cells_of sums stage s) (rates_of u stage s) goes.to_sewer goes.to_landfill

-- "Per substance, over all stages": here over the first n
unfoldable pub fate_to : List ℕ → Setup → ℕ → ℕ → Fate
fate_to sums u s n =
    record {
      held = sum_to n (λ k. (stage_fate sums u s k).held);
      shipped = sum_to n (λ k. (stage_fate sums u s k).shipped);
      consumed = sum_to n (λ k. (stage_fate sums u s k).consumed);
      destroyed = sum_to n (λ k. (stage_fate sums u s k).destroyed);
      headings =
          record {
            air = sum_to n (λ k. (stage_fate sums u s k).headings.air);
            water = sum_to n (λ k. (stage_fate sums u s k).headings.water);
            soil = sum_to n (λ k. (stage_fate sums u s k).headings.soil);
            land = sum_to n (λ k. (stage_fate sums u s k).headings.land);
            sewer = sum_to n (λ k. (stage_fate sums u s k).headings.sewer);
            offsite = sum_to n (λ k. (stage_fate sums u s k).headings.offsite);
          };
    }

-- all six headings, and all that a report shows without the store
abbrev pub six_of : Headings → ℕ
six_of h = h.air + h.water + h.soil + h.land + h.sewer + h.offsite

abbrev pub weigh : Fate → ℕ
weigh x = x.held + x.shipped + x.consumed + x.destroyed + six_of x.headings

-- each heading through a function
abbrev pub map_headings : (ℕ → ℕ) → Headings → Headings
map_headings f h =
    record { air = f h.air; water = f h.water; soil = f h.soil; land = f h.land; sewer = f h.sewer; offsite = f h.offsite }

-- behind a space
abbrev field : ℕ → List ℕ
field n = codes " " ++ decimal n

-- six headings as a line of `replay` has them, in micrograms
abbrev pub text_of : Headings → List ℕ
text_of h = decimal h.air ++ (field h.water ++ (field h.soil ++ (field h.land ++ (field h.sewer ++ field h.offsite))))
