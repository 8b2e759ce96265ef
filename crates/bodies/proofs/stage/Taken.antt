-- What a stage block that is taken tells. Assumes nothing.
use mathlib.Core.Path.{◌≡◌, refl, ap, ◌∙◌}
use mathlib.Core.Bool.{Bool, true, false, not, ◌&&◌}
use mathlib.Core.List.{List}
use Prim.Native.Nat.{ℕ, ◌≤◌, ◌<◌}
use native.Mathlib.Omega.{arith}
use lib.Dec.{eqb, ltb}
use lib.ListN.{length, drop}
use borrow.Author.Tests.{eqb-true, ne_eqb, leb-true, ltb-true}
use Rattle.std.specs.Prelude.{Ok}
use Rattle.std.proofs.lemmas.Bool.{and_parts}
use Rattle.amounts.specs.Decline.{checked}
use Rattle.amounts.proofs.decline.Laws.{passed}
use Rattle.layout.specs.Outline.{may_post}
use Rattle.layout.specs.declared.outline.Outline.{Outline}
use Rattle.bodies.specs.Stage.{all_pairs_fit, stage_checks}

-- what an accepted block's checks tell
pub record Accepts (o : Outline) (stage : ℕ) (body : List ℕ) : Type 0 where
  pub next : stage ≡ o.described
  pub left : o.described < o.stages
  pub long : length body ≡ 500
  pub substances : o.substances ≤ 8
  pub stages : o.stages ≤ 8
  pub pairs : all_pairs_fit o.substances (drop 2 body) ≡ true

pub accepted : {A : Type 0} (o : Outline) (stage : ℕ) (body : List ℕ) (x y : A) → checked (stage_checks o stage body) x ≡ Ok y → Accepts o stage body × (y ≡ x)
accepted o stage body x y e =
    let h = passed (stage_checks o stage body) x y e in
    let named = and_parts (ltb o.described o.stages) (eqb stage o.described) h.0.0 in (
      record {
        next = eqb-true stage o.described named.1;
        left = ltb-true o.described o.stages named.0;
        long = eqb-true (length body) 500 h.0.1.0;
        substances = leb-true o.substances 8 h.0.1.1.0;
        stages = leb-true o.stages 8 h.0.1.1.1.0;
        pairs = h.0.1.1.1.1.1.1.0;
      },
      h.1,
    )

-- no post may come while a stage is left to describe
pub not_yet : (o : Outline) → o.described < o.stages → may_post o ≡ false
not_yet o l = ap (λ (t : Bool). not (eqb o.substances 0) && t) (ne_eqb o.described o.stages (λ e. omega arith)) ∙ nothing (not (eqb o.substances 0))
  where
    nothing : (t : Bool) → (t && false) ≡ false
    nothing true = refl
    nothing false = refl
