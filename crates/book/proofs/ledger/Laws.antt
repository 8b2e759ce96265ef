-- Laws of the ledger: what each change of its sums does to the total of each substance. Assumes nothing.
use mathlib.Core.Path.{◌≡◌, refl, sym, ap, ◌∙◌}
use mathlib.Core.Bool.{Bool}
use mathlib.Core.List.{List}
use Prim.Native.Nat.{ℕ, zero, suc, ◌+◌, ◌-◌, ◌*◌, ◌/◌, ◌%◌, ◌≤◌, ◌<◌}
use native.Mathlib.Numerals.{add-one}
use native.Mathlib.Omega.{arith}
use lib.ListN.{length, get_or, set, length-set}
use lib.Seq.{get_or-set_same, get_or-set_other}
use Rattle.encoding.specs.Each.{sum_to, put_to}
use Rattle.encoding.proofs.Each.{put_again, length-put, put_other, put_at, sum_same, sum_point, term_le}
use Rattle.kinds.specs.Account.{place, closes_to}
use Rattle.kinds.specs.declared.account.Account.TheVariants.{Held}
use Rattle.plant.specs.Setup.{no_pair}
use Rattle.plant.specs.declared.setup.Pair.{Pair}
use Rattle.book.specs.Ledger.{at, total, moved, raised, settled}

-- An account is its place here, from 0 to 8.

abbrev pub held : ℕ
held = place Held

abbrev pub spot : ℕ → ℕ → ℕ → ℕ
spot account stage s = at account (stage * 8 + s)

abbrev pub sum_at : List ℕ → ℕ → ℕ → ℕ → ℕ
sum_at l account stage s = get_or l (spot account stage s) 0

-- where the close moves a holding
abbrev pub closing : Bool → ℕ
closing water = place (closes_to water)

-- ---- one write

-- what the accounts of a stage hold of a substance
abbrev pub column : List ℕ → ℕ → ℕ → ℕ
column sums s stage = sum_to 9 (λ account. sum_at sums account stage s)

pub total_is : (sums : List ℕ) (s : ℕ) → total sums s ≡ sum_to 8 (column sums s)
unfolding total
total_is sums s = refl

-- the last digit in base eight is told by the number
same_digit : (x y k j : ℕ) → k < 8 → j < 8 → x * 8 + k ≡ y * 8 + j → k ≡ j
same_digit x y k j hk hj e = grind arith

-- a write to a cell changes its substance's total as it does the cell
pub total_set : (l : List ℕ) (account stage s v : ℕ) → account < 9 → stage < 8 → s < 8 → length l ≡ 576
    → total (set l (spot account stage s) v) s + sum_at l account stage s ≡ total l s + v
total_set l account stage s v ha hst hs long =
    let m = set l (spot account stage s) v in
    let elsewhere : (x k : ℕ) → (spot x k s ≡ spot account stage s → ⊥) → sum_at m x k s ≡ sum_at l x k s = λ x k ne. get_or-set_other l (spot account stage s) (spot x k s) v 0 ne in
    let stages = sum_point 8 stage (column m s) (column l s) hst
    (λ k hk ne. sum_same 9 (λ x. sum_at m x k s) (λ x. sum_at l x k s) (λ x hx. elsewhere x k (λ e. ne (same_digit x account k stage hk hst (omega arith))))) in
    let accounts = sum_point 9 account (λ x. sum_at m x stage s) (λ x. sum_at l x stage s) ha (λ x hx ne. elsewhere x stage (λ e. ne (omega arith))) in
    omega (arith, total_is m s, total_is l s, stages, accounts, get_or-set_same l (spot account stage s) v 0 (omega arith))

-- and another's not at all
pub total_other : (l : List ℕ) (account stage s v t : ℕ) → s < 8 → t < 8 → (t ≡ s → ⊥) → total (set l (spot account stage s) v) t ≡ total l t
total_other l account stage s v t hs ht ne =
    let m = set l (spot account stage s) v in
    total_is m t
    ∙ sum_same 8 (column m t) (column l t)
    (λ k hk. sum_same 9 (λ x. sum_at m x k t) (λ x. sum_at l x k t) (λ x hx. get_or-set_other l (spot account stage s) (spot x k t) v 0 (λ e. ne (omega arith))))
    ∙ sym (total_is l t)

-- a cell is at most its substance's total
pub cell_le : (l : List ℕ) (account stage s : ℕ) → account < 9 → stage < 8 → sum_at l account stage s ≤ total l s
cell_le l account stage s ha hst =
    omega (arith, total_is l s, term_le 8 stage (column l s) hst, term_le 9 account (λ x. sum_at l x stage s) ha)

-- ---- a transfer

pub length_moved : (l : List ℕ) (from to n : ℕ) → length (moved l from to n) ≡ length l
length_moved l from to n = simp length-set

module _ (l : List ℕ) (account stage s n : ℕ) (ha : account < 9) (hst : stage < 8) (hs : s < 8) (long : length l ≡ 576) (have : n ≤ sum_at l held stage s) where
  total_moved_same : total (moved l (spot held stage s) (spot account stage s) n) s ≡ total l s
  total_moved_same =
      let m = set l (spot held stage s) (sum_at l held stage s - n) in
      omega (
        arith,
        total_set l held stage s (sum_at l held stage s - n) (omega arith) hst hs long,
        total_set m account stage s (sum_at m account stage s + n) ha hst hs (length-set l (spot held stage s) (sum_at l held stage s - n) ∙ long),
      )

  -- a transfer keeps every total
  pub total_moved : (t : ℕ) → t < 8 → total (moved l (spot held stage s) (spot account stage s) n) t ≡ total l t
  total_moved t ht =
      let m = set l (spot held stage s) (sum_at l held stage s - n) in
      grind (arith, total_moved_same, total_other m account stage s (sum_at m account stage s + n) t hs ht, total_other l held stage s (sum_at l held stage s - n) t hs ht)

  -- what the account then holds is at most the total
  pub grown_le : sum_at (set l (spot held stage s) (sum_at l held stage s - n)) account stage s + n ≤ total l s
  grown_le =
      let m = set l (spot held stage s) (sum_at l held stage s - n) in
      let v = sum_at m account stage s + n in
      let stays : length m ≡ 576 = length-set l (spot held stage s) (sum_at l held stage s - n) ∙ long in
      omega (arith, cell_le (set m (spot account stage s) v) account stage s ha hst, get_or-set_same m (spot account stage s) v 0 (omega arith), total_moved_same)

-- the same by the pair's place
module _ (l : List ℕ) (account pair n : ℕ) (ha : account < 9) (hp : pair < 64) (long : length l ≡ 576) (have : n ≤ get_or l (at held pair) 0) where
  digits : pair / 8 * 8 + pair % 8 ≡ pair
  digits = omega arith

  pub total_moved_at : (t : ℕ) → t < 8 → total (moved l (at held pair) (at account pair) n) t ≡ total l t
  total_moved_at t ht = rw digits at (total_moved l account (pair / 8) (pair % 8) n ha (omega arith) (omega arith) long (rw digits have) t ht)

  pub grown_le_at : get_or (set l (at held pair) (get_or l (at held pair) 0 - n)) (at account pair) 0 + n ≤ total l (pair % 8)
  grown_le_at = rw digits at (grown_le l account (pair / 8) (pair % 8) n ha (omega arith) (omega arith) long (rw digits have))

-- ---- the close

pub closes_below : (to_water : Bool) → closing to_water < 9
unfolding closes_to
closes_below to_water = grind arith

module _ (l : List ℕ) (pairs : List Pair) where
  settled_again : (k : ℕ) → settled l pairs (k + 1) ≡ moved (settled l pairs k) (at held k) (at (closing (get_or pairs k no_pair).to_water) k) (get_or (settled l pairs k) (at held k) 0)
  unfolding settled
  settled_again k = rw add-one

  -- one pair more
  pub settled_more : (k : ℕ) (out : List ℕ) (to : ℕ) → out ≡ settled l pairs k → to ≡ closing (get_or pairs k no_pair).to_water
      → moved out (at held k) (at to k) (get_or out (at held k) 0) ≡ settled l pairs (k + 1)
  settled_more k out to e w = rw (e, w, settled_again k) refl

  pub length-settled : (k : ℕ) → length (settled l pairs k) ≡ length l
  unfolding settled
  length-settled zero = refl
  length-settled (suc k) = length_moved (settled l pairs k) (at held k) (at (closing (get_or pairs k no_pair).to_water) k) (get_or (settled l pairs k) (at held k) 0) ∙ length-settled k

  -- closing keeps every total
  pub total_settled : (k t : ℕ) → k ≤ 64 → t < 8 → length l ≡ 576 → total (settled l pairs k) t ≡ total l t
  unfolding settled
  total_settled zero t hk ht long = refl
  total_settled (suc k) t hk ht long =
      total_moved_at (settled l pairs k) (closing (get_or pairs k no_pair).to_water) k (get_or (settled l pairs k) (at held k) 0)
      (closes_below (get_or pairs k no_pair).to_water) (omega arith) (length-settled k ∙ long) (omega arith) t ht
      ∙ total_settled k t (omega arith) ht long

  -- what a pair's account then holds is within what bounds the totals
  pub settled_room : (k : ℕ) (out : List ℕ) (to most : ℕ) → out ≡ settled l pairs k → k < 64 → to < 9 → length l ≡ 576 → ((s : ℕ) → s < 8 → total l s < most)
      → get_or (set out (at held k) (get_or out (at held k) 0 - get_or out (at held k) 0)) (at to k) 0 + get_or out (at held k) 0 < most
  settled_room k out to most e hk ht long few =
      let stays : length out ≡ 576 = ap length e ∙ length-settled k ∙ long in
      omega (
        arith,
        grown_le_at out to k (get_or out (at held k) 0) ht hk stays (omega arith),
        ap (λ (x : List ℕ). total x (k % 8)) e,
        total_settled k (k % 8) (omega arith) (omega arith) long,
        few (k % 8) (omega arith),
      )

-- ---- an issue

module _ (place amount : ℕ → ℕ) (l : List ℕ) where
  pub length-raised : (n : ℕ) → length (raised place amount l n) ≡ length l
  length-raised n = length-put place (λ k. get_or l (place k) 0 + amount k) l n

  -- each number has its own place
  abbrev pub Own : Type 0
  Own = (i k : ℕ) → place i ≡ place k → i ≡ k

  -- a place that is not among those raised yet stands
  pub raised_later : (n j : ℕ) → Own → n ≤ j → get_or (raised place amount l n) (place j) 0 ≡ get_or l (place j) 0
  raised_later n j own h = put_other place (λ k. get_or l (place k) 0 + amount k) l n (place j) 0 (λ i g e. let d : j ≡ i = own j i e in omega arith)

  pub raised_at : (n j : ℕ) → Own → j < n → place j < length l → get_or (raised place amount l n) (place j) 0 ≡ get_or l (place j) 0 + amount j
  raised_at n j own h g = put_at place (λ k. get_or l (place k) 0 + amount k) l n j 0 own h g

-- one place more
module _ (place amount : ℕ → ℕ) (l : List ℕ) (own : (i k : ℕ) → place i ≡ place k → i ≡ k) (n : ℕ)
    (out : List ℕ) (v : ℕ) (e : out ≡ raised place amount l n) (w : v ≡ amount n) where
  grows : get_or out (place n) 0 + v ≡ get_or l (place n) 0 + amount n
  grows = omega (arith, ap (λ (x : List ℕ). get_or x (place n) 0) e, raised_later place amount l n n own (omega arith))

  pub raised_room : (most : ℕ) → get_or l (place n) 0 + amount n < most → get_or out (place n) 0 + v < most
  raised_room most h = omega (arith, grows)

  pub raised_again : set out (place n) (get_or out (place n) 0 + v) ≡ raised place amount l (n + 1)
  raised_again = put_again place (λ k. get_or l (place k) 0 + amount k) l n out (get_or out (place n) 0 + v) e grows

-- what was handled of a substance grows by its amount
pub handled_raised : (amount : ℕ → ℕ) (l : List ℕ) (s : ℕ) → length l ≡ 8 → s < 8 → get_or (raised (λ k. k) amount l 8) s 0 ≡ get_or l s 0 + amount s
handled_raised amount l s long hs = raised_at (λ k. k) amount l 8 s (λ i k e. e) hs (omega arith)

pub own_place : (stage i k : ℕ) → spot held stage i ≡ spot held stage k → i ≡ k
own_place stage i k e = omega arith

module _ (amount : ℕ → ℕ) (l : List ℕ) (stage : ℕ) (hst : stage < 8) (long : length l ≡ 576) where
  raised_before : (n s : ℕ) → n ≤ s → s < 8 → total (raised (spot held stage) amount l n) s ≡ total l s
  unfolding put_to
  raised_before zero s h hs = refl
  raised_before (suc n) s h hs =
      total_other (raised (spot held stage) amount l n) held stage n (sum_at l held stage n + amount n) s (omega arith) hs (λ e. omega arith)
      ∙ raised_before n s (omega arith) hs

  raised_total_to : (n s : ℕ) → s < n → n ≤ 8 → total (raised (spot held stage) amount l n) s ≡ total l s + amount s
  unfolding put_to
  raised_total_to zero s h hn = absurd (omega arith)
  raised_total_to (suc n) s h hn =
      let m = raised (spot held stage) amount l n in
      let v = sum_at l held stage n + amount n in
      grind (
        arith,
        raised_total_to n s,
        total_set m held stage n v (omega arith) hst (omega arith) (length-raised (spot held stage) amount l n ∙ long),
        total_other m held stage n v s (omega arith) (omega arith),
        raised_later (spot held stage) amount l n n (own_place stage) (omega arith),
        raised_before n n (omega arith) (omega arith),
      )

  -- the total of each substance grows by its amount
  pub total_raised : (s : ℕ) → s < 8 → total (raised (spot held stage) amount l 8) s ≡ total l s + amount s
  total_raised s hs = raised_total_to 8 s hs (omega arith)
