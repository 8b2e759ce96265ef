-- The ledger of a year is what the moves of its posts say. Assumes nothing.
use mathlib.Core.Path.{◌≡◌, refl, sym, ap, ◌∙◌}
use mathlib.Core.Bool.{Bool, true, false, true≢false, cond}
use mathlib.Core.List.{List, [], ◌∷◌, ◌++◌}
use Prim.Native.Nat.{ℕ, ◌+◌, ◌-◌, ◌*◌, ◌≤◌, ◌<◌}
use native.Mathlib.Omega.{arith}
use lib.Dec.{eqb}
use lib.ListN.{length, get_or}
use Rattle.std.proofs.lemmas.List.Sums.{sum_by_push}
use Rattle.plant.specs.declared.setup.Pair.{Pair}
use Rattle.plant.specs.Setup.{no_pair}
use Rattle.encoding.specs.Each.{sum_to}
use Rattle.encoding.proofs.Each.{sum_none}
use Rattle.kinds.specs.Account.{place}
use Rattle.kinds.specs.declared.account.Account.{Account}
use Rattle.kinds.specs.declared.account.Account.TheVariants.{Held}
use Rattle.kinds.proofs.account.Laws.{place_few}
use Rattle.post.specs.Steps.{Fits}
use Rattle.post.specs.declared.moves.Move.{Move}
use Rattle.post.specs.declared.moves.Move.TheVariants.{Received, Issued, Brought, Gone, Close}
use Rattle.post.proofs.moves.Named.{Named}
use Rattle.post.specs.Moves.{closes}
use Rattle.book.specs.Entry.{is_there, sums_after}
use Rattle.book.specs.Ledger.{cell}
use Rattle.book.specs.Steps.{widest}
use Rattle.book.proofs.ledger.Laws.{closing}
use Rattle.book.proofs.ledger.Cells.{emptied, closed_to}
use Rattle.claims.specs.Standing.{sum_over}
use Rattle.claims.specs.Weighing.{issues_to, brings_to, goes_to, any_closes}
use Rattle.claims.proofs.Flows.{Flows, flows}

-- ---- what moves say of a stage and a substance

module _ (counted : List ℕ) (ms : List Move) where
  abbrev pub came_sum : ℕ → ℕ → ℕ
  came_sum k s = sum_over (λ m. issues_to counted k s m + brings_to Held k s m) ms

  abbrev pub left_sum : ℕ → ℕ → ℕ
  left_sum k s = sum_over (λ m. sum_to 8 (λ i. goes_to (1 + i) k s m)) ms

  abbrev pub under_sum : Account → ℕ → ℕ → ℕ
  under_sum a k s = sum_over (λ m. goes_to (place a) k s m + brings_to a k s m) ms

-- before the close a holding is what came less what left, and each account what went or was brought to it
pub record Open (counted : List ℕ) (ms : List Move) (sums : List ℕ) : Type 0 where
  pub kept : (k s : ℕ) → k < 8 → s < 8 → cell sums Held k s + left_sum counted ms k s ≡ came_sum counted ms k s
  pub gone : (a : Account) (k s : ℕ) → 1 ≤ place a → k < 8 → s < 8 → cell sums a k s ≡ under_sum counted ms a k s

-- after it the holding has gone to the account of the pair's side
pub record Shut (counted : List ℕ) (pairs : List Pair) (ms : List Move) (sums : List ℕ) : Type 0 where
  pub enough : (k s : ℕ) → k < 8 → s < 8 → left_sum counted ms k s ≤ came_sum counted ms k s
  pub none_held : (k s : ℕ) → k < 8 → s < 8 → cell sums Held k s ≡ 0
  pub gone : (a : Account) (k s : ℕ) → 1 ≤ place a → k < 8 → s < 8
      → cell sums a k s ≡ under_sum counted ms a k s + cond (eqb (place a) (closing (get_or pairs (k * 8 + s) no_pair).to_water)) (came_sum counted ms k s - left_sum counted ms k s) 0

pub data State (counted : List ℕ) (pairs : List Pair) (ms : List Move) (sums : List ℕ) (closed : Bool) : Type 0 where
  still_open : closed ≡ false → any_closes ms ≡ false → Open counted ms sums → State counted pairs ms sums closed
  shut : closed ≡ true → any_closes ms ≡ true → Shut counted pairs ms sums → State counted pairs ms sums closed

-- ---- no move yet

pub state_none : (counted : List ℕ) (pairs : List Pair) (sums : List ℕ) (closed : Bool) → closed ≡ false
    → ((a : Account) (k s : ℕ) → k < 8 → s < 8 → cell sums a k s ≡ 0) → State counted pairs [] sums closed
unfolding any_closes
state_none counted pairs sums closed o none =
    still_open o refl
    (record { kept = λ k s hk hs. omega (arith, none Held k s hk hs); gone = λ a k s low hk hs. none a k s hk hs })

pub none_open : (counted : List ℕ) (pairs : List Pair) (sums : List ℕ) (ms : List Move) (closed : Bool) → ms ≡ [] → State counted pairs ms sums closed → closed ≡ false
unfolding any_closes
none_open counted pairs sums ms closed e t = grind arith

-- ---- one move more

-- whether one of them closes
closes_last : (ms : List Move) (m : Move) → any_closes ms ≡ false → any_closes (ms ++ (m ∷ [])) ≡ closes m
unfolding any_closes
closes_last [] m h = grind arith
closes_last (x ∷ ms) m h = grind (arith, closes_last ms m)

-- a move before the close
open_next : (counted sums next : List ℕ) (ms : List Move) (m : Move) → Open counted ms sums → Flows counted sums m next → Open counted (ms ++ (m ∷ [])) next
open_next counted sums next ms m o f =
    record {
      kept = λ k s hk hs. omega (arith, o.kept k s hk hs, f.kept k s hk hs, sum_by_push {X = Move});
      gone = λ a k s low hk hs. omega (arith, o.gone a k s low hk hs, f.gone a k s low hk hs, sum_by_push {X = Move});
    }

-- the close brings and takes nothing under a name
shut_next : (counted : List ℕ) (pairs : List Pair) (sums : List ℕ) (ms : List Move) → length sums ≡ 576 → Open counted ms sums
    → Shut counted pairs (ms ++ (Close ∷ [])) (sums_after counted pairs sums Close)
shut_next counted pairs sums ms long o =
    record {
      enough = λ k s hk hs. omega (arith, came_same k s, left_same k s, o.kept k s hk hs);
      none_held = emptied sums pairs long;
      gone = λ a k s low hk hs.
          let to : Bool = eqb (place a) (closing (get_or pairs (k * 8 + s) no_pair).to_water) in
          let was : cell sums Held k s ≡ came_sum counted (ms ++ (Close ∷ [])) k s - left_sum counted (ms ++ (Close ∷ [])) k s =
          omega (arith, came_same k s, left_same k s, o.kept k s hk hs) in
          omega (arith, closed_to sums pairs long (place a) k s low (place_few a) hk hs, o.gone a k s low hk hs, sum_by_push {X = Move}, ap (λ (n : ℕ). cond to n 0) was);
    }
  where
    came_same : (k s : ℕ) → came_sum counted (ms ++ (Close ∷ [])) k s ≡ came_sum counted ms k s
    came_same k s = omega (arith, sum_by_push {X = Move})

    left_same : (k s : ℕ) → left_sum counted (ms ++ (Close ∷ [])) k s ≡ left_sum counted ms k s
    left_same k s = omega (arith, sum_by_push {X = Move}, sum_none 8 (λ i. goes_to (1 + i) k s Close) (λ i h. refl))

module _ (counted : List ℕ) (pairs : List Pair) (store sums : List ℕ) (ms : List Move) (long : length sums ≡ 576) (o : Open counted ms sums) (q : any_closes ms ≡ false) where
  abbrev next : Move → List ℕ
  next m = sums_after counted pairs sums m

  before_close_lem : (m : Move) → closes m ≡ false → Fits widest m → Named m → is_there store sums m ≡ true → State counted pairs (ms ++ (m ∷ [])) (next m) (closes m)
  before_close_lem m c f d t = still_open c (closes_last ms m q ∙ c) (open_next counted sums (next m) ms m o (flows counted pairs store sums long m c f d t))

  by_move : (m : Move) → Fits widest m → Named m → is_there store sums m ≡ true → State counted pairs (ms ++ (m ∷ [])) (next m) (closes m)
  by_move (Received m g) f d t = before_close_lem (Received m g) refl f d t
  by_move (Issued m k g) f d t = before_close_lem (Issued m k g) refl f d t
  by_move (Brought a k s n) f d t = before_close_lem (Brought a k s n) refl f d t
  by_move (Gone a k s n) f d t = before_close_lem (Gone a k s n) refl f d t
  by_move Close f d t = shut refl (closes_last ms Close q) (shut_next counted pairs sums ms long o)

pub state_next : (counted : List ℕ) (pairs : List Pair) (store sums : List ℕ) (ms : List Move) (closed : Bool) (m : Move) → length sums ≡ 576 → closed ≡ false
    → Fits widest m → Named m → is_there store sums m ≡ true
    → State counted pairs ms sums closed → State counted pairs (ms ++ (m ∷ [])) (sums_after counted pairs sums m) (closes m)
state_next counted pairs store sums ms closed m long is_open f d t (still_open e q o) = by_move counted pairs store sums ms long o q m f d t
state_next counted pairs store sums ms closed m long is_open f d t (shut e q o) = absurd (true≢false (sym e ∙ is_open))
