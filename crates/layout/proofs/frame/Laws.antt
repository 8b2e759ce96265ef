-- What a block's frame tells where it is taken. Assumes nothing.
use mathlib.Core.Path.{◌≡◌, sym, ap, ◌∙◌}
use mathlib.Core.List.{List, ◌++◌}
use Prim.Native.Nat.{ℕ, ◌+◌, ◌<◌}
use native.Mathlib.Omega.{arith}
use borrow.Author.Tests.{eqb-true}
use lib.ListN.{length, get_or, drop}
use lib.Seq.{get_or-drop}
use Rattle.std.specs.Prelude.{Ok}
use Rattle.amounts.specs.Decline.{Answer, checked, on_taken}
use Rattle.encoding.specs.Bytes.{le}
use Rattle.layout.specs.Frame.{block_kind, block_checks, sum_checks, next_checks, frame_checks, held_at}
use Rattle.layout.specs.Holds.{holds_of}
use Rattle.layout.specs.declared.holds.Holds.{Holds}
use Rattle.amounts.proofs.decline.Laws.{was_taken, passed, guards, checked_both}
use Rattle.encoding.proofs.bytes.Laws.{le_small}

-- a frame is asked for 1, then for 2, then for 3
pub frame_asked : (number : ℕ) (s : List ℕ)
    → checked (frame_checks number s) (tt {0}) ≡ on_taken (checked (block_checks s) (tt {0})) (λ u. on_taken (checked (sum_checks s) (tt {0})) (λ v. checked (next_checks number s) (tt {0})))
frame_asked number s =
    checked_both (block_checks s) (sum_checks s ++ next_checks number s) (tt {0})
    ∙ ap (λ (x : Answer Unit). on_taken (checked (block_checks s) (tt {0})) (λ u. x)) (checked_both (sum_checks s) (next_checks number s) (tt {0}))

pub record Framed (number : ℕ) (s : List ℕ) : Type 0 where
  pub long : length s ≡ 512
  pub own_number : le 2 (drop 6 s) ≡ number

pub framed : {A : Type 0} (number : ℕ) (s : List ℕ) (x y : A) → checked (frame_checks number s) x ≡ Ok y → Framed number s × (y ≡ x)
framed number s x y e =
    let h = passed (frame_checks number s) x y e in
    let late = h.0.1.1.1.1 in (
      record {
        long = eqb-true (length s) 512 h.0.0;
        own_number = eqb-true (le 2 (drop 6 s)) number late.1.0;
      },
      h.1,
    )

-- two bytes hold the number
pub number_small : (number : ℕ) (s : List ℕ) → ((i : ℕ) → get_or s i 0 < 256) → Framed number s → number < 65536
number_small number s fits f = omega (arith, le_small 2 (drop 6 s) (λ i. rw get_or-drop (fits (6 + i))), f.own_number)

-- ---- what a block holds

module _ (number : ℕ) (s : List ℕ) where
  pub is_held : checked (frame_checks number s) s ≡ Ok s → held_at number s ≡ holds_of (block_kind s)
  unfolding held_at
  is_held e = rw e

  -- a table of checks goes before what the kind tells
  pub held_is : held_at number s ≡ on_taken (checked (frame_checks number s) (tt {0})) (λ u. holds_of (block_kind s))
  unfolding held_at
  held_is = guards (frame_checks number s) s (tt {0}) (λ s. holds_of (block_kind s))

  -- a frame that is read passes, and its kind tells what the block holds
  pub held_framed : (h : Holds) → held_at number s ≡ Ok h → Framed number s × (holds_of (block_kind s) ≡ Ok h)
  unfolding held_at
  held_framed h e =
      let a = was_taken (checked (frame_checks number s) s) (λ s. holds_of (block_kind s)) h e in
      let f = framed number s s a.0 a.1 in
      (f.0, ap (λ (x : List ℕ). holds_of (block_kind x)) (sym f.1) ∙ a.2)
