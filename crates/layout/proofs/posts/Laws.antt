-- What the own bytes of a block of posts tell where they are taken. Assumes nothing.
use mathlib.Core.Path.{◌≡◌}
use mathlib.Core.Bool.{Bool, true, false}
use mathlib.Core.List.{List}
use Prim.Native.Nat.{ℕ, ◌≤◌}
use borrow.Author.Tests.{eqb-true, not-true}
use lib.ListN.{length}
use Rattle.std.specs.Prelude.{Ok}
use Rattle.amounts.specs.Decline.{checked}
use Rattle.layout.specs.Outline.{may_post}
use Rattle.layout.specs.Posts.{own_checks}
use Rattle.layout.specs.declared.outline.Outline.{Outline}
use Rattle.amounts.proofs.decline.Laws.{passed}
use Rattle.encoding.proofs.bytes.Laws.{within_true}

pub record Owned (o : Outline) (closed : Bool) (count : ℕ) (body : List ℕ) : Type 0 where
  pub in_turn : may_post o ≡ true
  pub is_open : closed ≡ false
  pub long : length body ≡ 500
  pub some_posts : 1 ≤ count
  pub few_posts : count ≤ 10

pub owned : {A : Type 0} (o : Outline) (closed : Bool) (count : ℕ) (body : List ℕ) (x y : A) → checked (own_checks o closed count body) x ≡ Ok y → Owned o closed count body × (y ≡ x)
owned o closed count body x y e =
    let h = passed (own_checks o closed count body) x y e in
    let posts = within_true 1 10 count h.0.1.1.1.0 in (
      record {
        in_turn = h.0.0;
        is_open = not-true closed h.0.1.0;
        long = eqb-true (length body) 500 h.0.1.1.0;
        some_posts = posts.0;
        few_posts = posts.1;
      },
      h.1,
    )
