-- What a kind 1 block that is taken tells. Assumes nothing.
use mathlib.Core.Path.{◌≡◌}
use mathlib.Core.Bool.{false}
use mathlib.Core.List.{List}
use Prim.Native.Nat.{ℕ, ◌≤◌}
use lib.ListN.{length}
use borrow.Author.Tests.{eqb-true, eq-eqb}
use Rattle.std.specs.Prelude.{Ok}
use Rattle.amounts.specs.Decline.{checked}
use Rattle.amounts.proofs.decline.Laws.{passed}
use Rattle.encoding.proofs.bytes.Laws.{within_true}
use Rattle.layout.specs.Outline.{may_post}
use Rattle.layout.specs.declared.outline.Outline.{Outline}
use Rattle.bodies.specs.Setup.{materials_in, stages_in, setup_checks}

-- what an accepted block's checks tell
pub record Accepts (o : Outline) (count : ℕ) (body : List ℕ) : Type 0 where
  pub none : o.substances ≡ 0
  pub long : length body ≡ 500
  pub substances : (1 ≤ count) × (count ≤ 8)
  pub materials : materials_in body ≤ 12
  pub stages : stages_in body ≤ 8

pub accepted : {A : Type 0} (o : Outline) (count : ℕ) (body : List ℕ) (x y : A) → checked (setup_checks o count body) x ≡ Ok y → Accepts o count body × (y ≡ x)
accepted o count body x y e =
    let h = passed (setup_checks o count body) x y e in (
      record {
        none = eqb-true o.substances 0 h.0.0;
        long = eqb-true (length body) 500 h.0.1.0;
        substances = within_true 1 8 count h.0.1.1.0;
        materials = (within_true 1 12 (materials_in body) h.0.1.1.1.0).1;
        stages = (within_true 1 8 (stages_in body) h.0.1.1.1.1.0).1;
      },
      h.1,
    )

-- no post may come while a kind 1 block may
pub not_yet : (o : Outline) → o.substances ≡ 0 → may_post o ≡ false
not_yet o e = rw (eq-eqb o.substances 0 e)
