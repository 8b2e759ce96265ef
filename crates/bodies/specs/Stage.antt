-- Kind 2: a stage (document 01, "Journal blocks"). The body is the block's bytes 8 to 507.
use Rattle.std.specs.Prelude.{ℕ, ◌+◌, ◌*◌, Bool, true, false, cond, ◌&&◌, List, [], ◌∷◌, eqb, leb, length, get_or, drop, Ok, Err}
use Rattle.amounts.specs.Treatment.{is_rate}
use Rattle.amounts.specs.Decline.{Answer, is_taken, value_or, Check, check}
use Rattle.amounts.specs.declared.decline.Decline.TheVariants.{OutOfTurn, Layout}
use Rattle.encoding.specs.Bytes.{le, all_zero}
use Rattle.encoding.specs.Each.{all_to}
use Rattle.layout.specs.Outline.{may_describe}
use Rattle.layout.specs.declared.outline.Outline.{Outline}
use Rattle.bodies.specs.declared.stage.Rates.{Rates}

-- a byte that names one of two cases, 1 or 2: whether it is the second; any other byte breaks the layout
unfoldable pub second_of : ℕ → Answer Bool
second_of byte = cond (eqb byte 1) (Ok false) (cond (eqb byte 2) (Ok true) (Err Layout))

-- "8: 1 public water, 2 sewer": where the stage's treated water goes
abbrev pub water_in : List ℕ → Answer Bool
water_in body = second_of (get_or body 0 0)

-- "9: residues 1 off site, 2 landfill": where its residues go
abbrev pub residue_in : List ℕ → Answer Bool
residue_in body = second_of (get_or body 1 0)

-- "17 bytes per substance: side (1 gas, 2 water)": where the close moves the holding
abbrev pub side_row : List ℕ → ℕ → Answer Bool
side_row s i = second_of (get_or s (i * 17) 0)

-- whether it is the second of each: sewer, landfill, water; a stage that is not described has the first
abbrev pub sewered : List ℕ → Bool
sewered body = value_or false (water_in body)

abbrev pub landfilled : List ℕ → Bool
landfilled body = value_or false (residue_in body)

abbrev pub water_row : List ℕ → ℕ → Bool
water_row s i = value_or false (side_row s i)

-- ".. then gas removal, gas destruction, water removal, water destruction, 32 bits"
unfoldable pub rates_at : List ℕ → Rates
unfolding le
rates_at s =
    record {
      gas = record { removal = le 4 (drop 1 s); destruction = le 4 (drop 5 s) };
      water = record { removal = le 4 (drop 9 s); destruction = le 4 (drop 13 s) };
    }

abbrev pub rate_row : List ℕ → ℕ → Rates
rate_row s i = rates_at (drop (i * 17) s)

-- "side (1 gas, 2 water)", and rates "to 1,000,000"
abbrev pub pair_fits : Answer Bool → Rates → Bool
pair_fits side r = is_taken side && (is_rate r.gas && is_rate r.water)

abbrev pub all_pairs_fit : ℕ → List ℕ → Bool
all_pairs_fit n s = all_to n (λ i. pair_fits (side_row s i) (rate_row s i))

-- 6: "8: 1 public water, 2 sewer. 9: residues 1 off site, 2 landfill. From 10, 17 bytes per substance"; all other bytes are zero
abbrev pub stage_body_checks : ℕ → List ℕ → List Check
stage_body_checks substances body =
    check (is_taken (water_in body)) Layout
    ∷ check (is_taken (residue_in body)) Layout
    ∷ check (all_pairs_fit substances (drop 2 body)) Layout
    ∷ check (all_zero (drop (2 + substances * 17) body)) Layout
    ∷ []

-- 6; no outline of a book has more than eight substances or stages
abbrev pub stage_limits : Outline → List ℕ → List Check
stage_limits o body =
    check (eqb (length body) 500) Layout ∷ check (leb o.substances 8) Layout ∷ check (leb o.stages 8) Layout ∷ stage_body_checks o.substances body

-- 4, and then 6
abbrev pub stage_checks : Outline → ℕ → List ℕ → List Check
stage_checks o stage body = check (may_describe o stage) OutOfTurn ∷ stage_limits o body
