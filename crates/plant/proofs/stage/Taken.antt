-- What a stage block that is taken leaves. Assumes nothing.
use mathlib.Core.Path.{◌≡◌, sym, ◌∙◌}
use mathlib.Core.Bool.{Bool, true, ◌&&◌}
use mathlib.Core.List.{List}
use Prim.Native.Nat.{ℕ, ◌+◌, ◌*◌, ◌≤◌, ◌<◌}
use native.Mathlib.Omega.{arith}
use lib.ListN.{length, drop, length-set}
use borrow.Author.Tests.{leb-true}
use Rattle.amounts.specs.Content.{is_ppm}
use Rattle.amounts.specs.Treatment.{is_rate}
use Rattle.amounts.specs.declared.treatment.Rate.{Rate}
use Rattle.std.specs.Prelude.{Ok, Err}
use Rattle.amounts.specs.Decline.{Answer, is_taken, checked}
use Rattle.amounts.specs.declared.decline.Decline.{Decline}
use Rattle.plant.specs.Setup.{no_pair, IsRated, Rated, SoundSetup}
use Rattle.bodies.specs.Stage.{side_row, rate_row, pair_fits, stage_checks}
use Rattle.plant.specs.Stage.{stage_of, pair_row, with_stage, described_on}
use Rattle.bodies.specs.declared.stage.Rates.{Rates}
use Rattle.plant.specs.declared.setup.Setup.{Setup}
use Rattle.amounts.proofs.decline.Laws.{accepts, declines}
use Rattle.std.proofs.lemmas.Bool.{and_parts}
use Rattle.encoding.proofs.Each.{all_at, length-put, put_keeps}
use Rattle.bodies.proofs.stage.Taken.{Accepts, accepted}

fit_rate : (r : Rate) → is_rate r ≡ true → IsRated r
fit_rate r e = let z = and_parts (is_ppm r.removal) (is_ppm r.destruction) e in (leb-true r.removal 1000000 z.0, leb-true r.destruction 1000000 z.1)

fit_rated : (side : Answer Bool) (r : Rates) → pair_fits side r ≡ true → Rated r
fit_rated side r e =
    let z = and_parts (is_rate r.gas) (is_rate r.water) (and_parts (is_taken side) (is_rate r.gas && is_rate r.water) e).1 in
    record { gas = fit_rate r.gas z.0; water = fit_rate r.water z.1 }

-- a kind 2 block by the verdict of its checks
module _ (u : Setup) (stage : ℕ) (body : List ℕ) where
  pub described_declined : (d : Decline) → Err d ≡ checked (stage_checks u.outline stage body) (tt {0}) → described_on u stage body ≡ Err d
  unfolding described_on
  described_declined d e = declines (tt {0}) (with_stage u stage body) (stage_checks u.outline stage body) d e

  pub described_taken : {t : Unit} → Ok t ≡ checked (stage_checks u.outline stage body) (tt {0}) → described_on u stage body ≡ Ok (with_stage u stage body)
  unfolding described_on
  described_taken e = accepts (tt {0}) (with_stage u stage body) (stage_checks u.outline stage body) e

  -- the stage, the pairs and the rows are there
  pub may_add : {t : Unit} → Ok t ≡ checked (stage_checks u.outline stage body) (tt {0}) → (stage < 8) × (u.outline.substances ≤ 8) × (length body ≡ 500)
  may_add {t} e =
      let a : Accepts u.outline stage body = (accepted u.outline stage body (tt {0}) t (sym e)).0 in
      (omega (arith, a.next, a.left, a.stages), a.substances, a.long)

pub sound_stage : (u : Setup) (stage : ℕ) (body : List ℕ) → SoundSetup u → Accepts u.outline stage body → SoundSetup (with_stage u stage body)
sound_stage u stage body h a =
    let n = u.outline.substances in
    let fit = all_at n (λ k. pair_fits (side_row (drop 2 body) k) (rate_row (drop 2 body) k)) in
    record {
      substances_few = h.substances_few;
      materials_few = h.materials_few;
      stages_few = h.stages_few;
      described_few = omega (arith, a.next, a.left);
      stages_later = h.stages_later;
      counted_small = h.counted_small;
      rated =
          put_keeps (λ i. stage * 8 + i) (pair_row (drop 2 body)) u.pairs (λ p. Rated p.rates) no_pair h.rated n
          (λ i l. fit_rated (side_row (drop 2 body) i) (rate_row (drop 2 body) i) (fit i a.pairs l));
      pairs_long = length-put (λ i. stage * 8 + i) (pair_row (drop 2 body)) u.pairs n ∙ h.pairs_long;
      stages_long = length-set u.stages stage (stage_of body) ∙ h.stages_long;
    }
