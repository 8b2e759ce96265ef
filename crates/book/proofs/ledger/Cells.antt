-- What each change of the ledger does to the sum of an account, a stage and a substance. Assumes nothing.
use mathlib.Core.Path.{◌≡◌, refl, ◌∙◌}
use mathlib.Core.Bool.{Bool, cond}
use mathlib.Core.List.{List}
use Prim.Native.Nat.{ℕ, zero, suc, ◌+◌, ◌*◌, ◌≤◌, ◌<◌}
use native.Mathlib.Omega.{arith}
use lib.Dec.{eqb}
use lib.ListN.{length, get_or}
use Rattle.std.proofs.lemmas.Bool.Decides.{nat_tests}
use Rattle.std.proofs.lemmas.Grind.{common_steps}
use Rattle.encoding.proofs.Each.{put_other}
use Rattle.kinds.specs.Account.{closes_to}
use Rattle.plant.specs.Setup.{no_pair}
use Rattle.plant.specs.declared.setup.Pair.{Pair}
use Rattle.book.specs.Ledger.{at, moved, raised, settled}
use Rattle.book.proofs.ledger.Laws.{held, spot, sum_at, closing, closes_below, length-settled, raised_at, own_place}

-- two places are one only where account, stage and substance are
pub same_place : (x k s y j t : ℕ) → k < 8 → s < 8 → j < 8 → t < 8 → spot x k s ≡ spot y j t → (x ≡ y) × ((k ≡ j) × (s ≡ t))
same_place x k s y j t hk hs hj ht e =
    let same-account : x ≡ y = omega arith in
    let same-stage : k ≡ j = omega arith in
    (same-account, (same-stage, omega arith))

-- ---- an issue

module _ (amount : ℕ → ℕ) (l : List ℕ) (stage : ℕ) (hst : stage < 8) where
  -- the stage's holding of each substance grows by its amount
  pub raised_held : (s : ℕ) → s < 8 → length l ≡ 576 → sum_at (raised (spot held stage) amount l 8) held stage s ≡ sum_at l held stage s + amount s
  raised_held s hs long = raised_at (spot held stage) amount l 8 s (own_place stage) hs (omega arith)

  -- and every other cell stands
  pub raised_other : (x k s : ℕ) → k < 8 → s < 8 → (x ≡ held → k ≡ stage → ⊥) → sum_at (raised (spot held stage) amount l 8) x k s ≡ sum_at l x k s
  raised_other x k s hk hs ne =
      put_other (spot held stage) (λ i. sum_at l held stage i + amount i) l 8 (spot x k s) 0
      (λ i hi e. let w = same_place x k s held stage i hk hs hst hi e in ne w.0 w.1.0)

-- ---- the close

-- no pair closes to its holding
closes_above : (to_water : Bool) → 1 ≤ closing to_water
unfolding closes_to
closes_above to_water = grind arith

module _ (m : List ℕ) (to k : ℕ) (hk : k < 64) (some : 1 ≤ to) (few : to < 9) (long : length m ≡ 576) where
  abbrev n : ℕ
  n = get_or m (at held k) 0

  -- another pair stands
  moved_elsewhere : (account j : ℕ) → j < 64 → (j ≡ k → ⊥) → get_or (moved m (at held k) (at to k) n) (at account j) 0 ≡ get_or m (at account j) 0
  moved_elsewhere account j hj ne = grind (arith, common_steps)

  -- the account that it goes to grows by it, and the others stand
  moved_at : (account : ℕ) → 1 ≤ account → get_or (moved m (at held k) (at to k) n) (at account k) 0 ≡ get_or m (at account k) 0 + cond (eqb account to) n 0
  moved_at account ha = grind (arith, nat_tests, common_steps)

module _ (l : List ℕ) (pairs : List Pair) (long : length l ≡ 576) where
  stays : (i : ℕ) → length (settled l pairs i) ≡ 576
  stays i = length-settled l pairs i ∙ long

  -- a pair that isn't closed yet stands
  settled_later : (i j account : ℕ) → i ≤ j → j < 64 → account < 9 → get_or (settled l pairs i) (at account j) 0 ≡ get_or l (at account j) 0
  unfolding settled
  settled_later zero j account h hj ha = refl
  settled_later (suc k) j account h hj ha = grind (arith, common_steps, closes_above, closes_below, stays k, settled_later k j account)

  -- a closed pair holds nothing
  settled_held : (i j : ℕ) → i ≤ 64 → j < i → get_or (settled l pairs i) (at held j) 0 ≡ 0
  unfolding settled
  settled_held zero j hi h = absurd (omega arith)
  settled_held (suc k) j hi h = grind (arith, common_steps, closes_above, closes_below, stays k, settled_held k j)

  -- and its holding is in gas or waste water, by its side
  settled_at : (i j account : ℕ) → i ≤ 64 → j < i → 1 ≤ account → account < 9
      → get_or (settled l pairs i) (at account j) 0 ≡ get_or l (at account j) 0 + cond (eqb account (closing (get_or pairs j no_pair).to_water)) (get_or l (at held j) 0) 0
  unfolding settled
  settled_at zero j account hi h some few = absurd (omega arith)
  settled_at (suc k) j account hi h some few =
      let to = closing (get_or pairs k no_pair).to_water in
      let m = settled l pairs k in
      grind (
        arith,
        nat_tests,
        closes_above,
        closes_below,
        stays k,
        settled_at k j account,
        settled_later k k account,
        settled_later k k held,
        moved_at m to k,
        moved_elsewhere m to k (omega arith),
      )

  pub emptied : (k s : ℕ) → k < 8 → s < 8 → sum_at (settled l pairs 64) held k s ≡ 0
  emptied k s hk hs = settled_held 64 (k * 8 + s) (omega arith) (omega arith)

  pub closed_to : (account k s : ℕ) → 1 ≤ account → account < 9 → k < 8 → s < 8
      → sum_at (settled l pairs 64) account k s ≡ sum_at l account k s + cond (eqb account (closing (get_or pairs (k * 8 + s) no_pair).to_water)) (sum_at l held k s) 0
  closed_to account k s low high hk hs = settled_at 64 (k * 8 + s) account (omega arith) (omega arith) low high
