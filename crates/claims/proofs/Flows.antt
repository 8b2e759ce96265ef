-- What a move before the close does to the sums of each stage and substance: a holding grows by what comes to it and falls by what leaves it. Assumes nothing.
use mathlib.Core.Path.{◌≡◌, refl, ap}
use mathlib.Core.Bool.{true, false, true≢false, cond}
use mathlib.Core.List.{List}
use Prim.Native.Nat.{ℕ, ◌+◌, ◌-◌, ◌≤◌, ◌<◌}
use native.Mathlib.Omega.{arith}
use borrow.Author.Tests.{leb-true}
use lib.Dec.{eqb}
use lib.ListN.{length}
use Rattle.std.proofs.lemmas.Bool.Decides.{nat_tests}
use Rattle.std.proofs.lemmas.Grind.{common_steps}
use Rattle.plant.specs.declared.setup.Pair.{Pair}
use Rattle.encoding.specs.Each.{sum_to}
use Rattle.encoding.proofs.Each.{sum_none, sum_point}
use Rattle.kinds.specs.Account.{place}
use Rattle.kinds.specs.declared.account.Account.{Account}
use Rattle.kinds.specs.declared.account.Account.TheVariants.{Held}
use Rattle.kinds.proofs.account.Laws.{place_few}
use Rattle.post.specs.Steps.{Fits}
use Rattle.post.specs.declared.moves.Move.{Move}
use Rattle.post.specs.declared.moves.Move.TheVariants.{Received, Issued, Brought, Gone, Close}
use Rattle.post.proofs.moves.Named.{Named}
use Rattle.post.specs.Moves.{closes}
use Rattle.book.specs.Entry.{is_there, sums_after}
use Rattle.book.specs.Ledger.{cell, added, moved, raised, brings}
use Rattle.book.specs.Steps.{widest}
use Rattle.book.proofs.ledger.Laws.{held, spot, sum_at}
use Rattle.book.proofs.ledger.Cells.{raised_held, raised_other}
use Rattle.claims.specs.Weighing.{issues_to, only_at, brings_to, goes_to}

-- over all accounts but the holding an amount at one of them is there once
sum_only : (a j t k s n : ℕ) → 1 ≤ a → a < 9 → sum_to 8 (λ i. only_at a j t (1 + i) k s n) ≡ only_at a j t a k s n
sum_only a j t k s n low high =
    let own : 1 + (a - 1) ≡ a = omega arith in
    omega (
      arith,
      sum_point 8 (a - 1) (λ i. only_at a j t (1 + i) k s n) (λ i. 0) (omega arith) (λ i hi ne. grind (arith, nat_tests)),
      sum_none 8 (λ i. 0) (λ i hi. refl),
      ap (λ (x : ℕ). only_at a j t x k s n) own,
    )

-- ---- what a move does

pub record Flows (counted sums : List ℕ) (m : Move) (next : List ℕ) : Type 0 where
  -- the holding grows by what is issued and brought, and falls by what leaves it
  pub kept : (k s : ℕ) → k < 8 → s < 8
      → cell next Held k s + sum_to 8 (λ i. goes_to (1 + i) k s m) ≡ cell sums Held k s + (issues_to counted k s m + brings_to Held k s m)
  -- an account grows by what goes and is brought to it
  pub gone : (a : Account) (k s : ℕ) → 1 ≤ place a → k < 8 → s < 8 → cell next a k s ≡ cell sums a k s + (goes_to (place a) k s m + brings_to a k s m)

none_leaves : sum_to 8 (λ i. 0) ≡ 0
none_leaves = sum_none 8 (λ i. 0) (λ i h. refl)

module _ (counted : List ℕ) (pairs : List Pair) (store sums : List ℕ) (long : length sums ≡ 576) where
  issued_at : (m j g k s : ℕ) → j < 8 → k < 8 → s < 8 → sum_at (raised (spot held j) (brings counted m g) sums 8) held k s ≡ sum_at sums held k s + cond (eqb j k) (brings counted m g s) 0
  issued_at m j g k s hj hk hs = grind (arith, nat_tests, raised_held (brings counted m g) sums j hj s hs long, raised_other (brings counted m g) sums j hj held k s hk hs)

  added_at : (a j t n x k s : ℕ) → a < 9 → j < 8 → t < 8 → k < 8 → s < 8 → sum_at (added sums (spot a j t) n) x k s ≡ sum_at sums x k s + only_at a j t x k s n
  added_at a j t n x k s ha hj ht hk hs = grind (arith, nat_tests, common_steps)

  moved_kept : (a j t n k s : ℕ) → 1 ≤ a → a < 9 → j < 8 → t < 8 → n ≤ sum_at sums held j t → k < 8 → s < 8
      → sum_at (moved sums (spot held j t) (spot a j t) n) held k s + only_at a j t a k s n ≡ sum_at sums held k s
  moved_kept a j t n k s low high hj ht have hk hs = grind (arith, nat_tests, common_steps)

  moved_to : (a j t n x k s : ℕ) → 1 ≤ a → a < 9 → j < 8 → t < 8 → 1 ≤ x → k < 8 → s < 8
      → sum_at (moved sums (spot held j t) (spot a j t) n) x k s ≡ sum_at sums x k s + only_at a j t x k s n
  moved_to a j t n x k s low high hj ht hx hk hs = grind (arith, nat_tests, common_steps)

  pub flows : (m : Move) → closes m ≡ false → Fits widest m → Named m → is_there store sums m ≡ true → Flows counted sums m (sums_after counted pairs sums m)
  flows (Received m g) c f d t = record { kept = λ k s hk hs. omega (arith, none_leaves); gone = λ a k s low hk hs. omega arith }
  flows (Issued m j g) c f d t =
      record {
        kept = λ k s hk hs. omega (arith, none_leaves, issued_at m j g k s f.1.0 hk hs);
        gone = λ a k s low hk hs. omega (arith, raised_other (brings counted m g) sums j f.1.0 (place a) k s hk hs (λ e g. omega arith));
      }
  flows (Brought a j t n) c f d q =
      record {
        kept = λ k s hk hs. omega (arith, none_leaves, added_at (place a) j t n held k s (place_few a) f.0 f.1.0 hk hs);
        gone = λ x k s low hk hs. omega (arith, added_at (place a) j t n (place x) k s (place_few a) f.0 f.1.0 hk hs);
      }
  flows (Gone a j t n) c f d q =
      record {
        kept = λ k s hk hs.
            omega (
              arith,
              sum_only (place a) j t k s n d (place_few a),
              moved_kept (place a) j t n k s d (place_few a) f.0 f.1.0 (leb-true n (cell sums Held j t) q) hk hs,
            );
        gone = λ x k s low hk hs. omega (arith, moved_to (place a) j t n (place x) k s d (place_few a) f.0 f.1.0 low hk hs);
      }
  flows Close c f d t = absurd (true≢false c)
