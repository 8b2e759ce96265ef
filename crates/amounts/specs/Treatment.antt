-- The treatment split (document 01, "Treatment and report").
use Rattle.std.specs.Prelude.{ℕ, Bool, ◌&&◌, ◌-◌, ◌*◌, ◌/◌, ◌^◌, [], ◌∷◌}
use Rattle.amounts.specs.Content.{is_ppm}
use Rattle.amounts.specs.Decline.{Answer, check, checked}
use Rattle.amounts.specs.declared.decline.Decline.TheVariants.{Layout}
use Rattle.amounts.specs.declared.treatment.Parts.{Parts}
use Rattle.amounts.specs.declared.treatment.Rate.{Rate}

-- rates are "to 1,000,000"
abbrev pub is_rate : Rate → Bool
is_rate r = is_ppm r.removal && is_ppm r.destruction

-- "a × r / 10^6 rounded down"
abbrev pub share_of : ℕ → ℕ → ℕ
share_of a r = a * r / 10 ^ 6

-- "released = a − removed; destroyed = removed × d / 10^6 rounded down; residue = removed − destroyed"
abbrev pub parts_of : ℕ → ℕ → ℕ → Parts
parts_of a r d =
    let removed = share_of a r in
    let gone = share_of removed d in
    record { released = a - removed; destroyed = gone; residue = removed - gone }

unfoldable pub split_of : ℕ → ℕ → ℕ → Answer Parts
unfolding checked
split_of a r d = checked (check (is_ppm r) Layout ∷ check (is_ppm d) Layout ∷ []) (parts_of a r d)
