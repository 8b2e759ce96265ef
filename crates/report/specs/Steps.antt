-- What only follows the code's steps, which add up the stages' fates one by one. No promise rests on it.
use Rattle.std.specs.Prelude.{◌+◌}
use Rattle.report.specs.declared.fate.Headings.{Headings}
use Rattle.report.specs.declared.fate.Fate.{Fate}

-- of no stage
abbrev pub no_fate : Fate
no_fate =
    record {
      held = 0;
      shipped = 0;
      consumed = 0;
      destroyed = 0;
      headings = record { air = 0; water = 0; soil = 0; land = 0; sewer = 0; offsite = 0 };
    }

-- heading by heading
abbrev pub add_headings : Headings → Headings → Headings
add_headings x y =
    record {
      air = x.air + y.air;
      water = x.water + y.water;
      soil = x.soil + y.soil;
      land = x.land + y.land;
      sewer = x.sewer + y.sewer;
      offsite = x.offsite + y.offsite;
    }

abbrev pub add_fates : Fate → Fate → Fate
add_fates x y =
    record {
      held = x.held + y.held;
      shipped = x.shipped + y.shipped;
      consumed = x.consumed + y.consumed;
      destroyed = x.destroyed + y.destroyed;
      headings = add_headings x.headings y.headings;
    }
