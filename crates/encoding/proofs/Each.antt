-- Laws of what is added, asked, listed or written for each of the numbers 0 .. n - 1. Assumes nothing.
use Rattle.std.proofs.lemmas.Bool.{and_parts}
use mathlib.Core.Path.{◌≡◌, refl, sym, ap, subst, ◌∙◌}
use mathlib.Core.Bool.{Bool, true, false}
use mathlib.Core.List.{List, [], ◌∷◌, ◌++◌}
use Prim.Native.Nat.{ℕ, zero, suc, ◌+◌, ◌≤◌, ◌<◌}
use native.Mathlib.Decide.{ℕ_discrete, dec_lt}
use native.Mathlib.Numerals.{add-one}
use native.Mathlib.Omega.{arith}
use lib.ListN.{length, get_or, set, length-append, length-set, get_or-append, get_or-eq_default}
use lib.Seq.{ext_get_or, get_or_at, get_or-set_same, get_or-set_other}
use Rattle.std.specs.Array.{IsFromFnResultFrom, IsFromFnResult}
use Rattle.std.specs.Fn.{Called}
use denote.Param.Members.{Mut}
use Rattle.std.proofs.lemmas.List.{nil_from_length}
use Rattle.encoding.specs.Each.{sum_to, all_to, list_to, put_to}

-- ---- sums

pub sum_again : (n : ℕ) (f : ℕ → ℕ) → sum_to (n + 1) f ≡ sum_to n f + f n
unfolding sum_to
sum_again n f = rw add-one

pub sum_none : (n : ℕ) (f : ℕ → ℕ) → ((i : ℕ) → i < n → f i ≡ 0) → sum_to n f ≡ 0
unfolding sum_to
sum_none zero f h = refl
sum_none (suc n) f h = omega (arith, sum_none n f (λ i l. h i (omega arith)), h n (omega arith))

-- sums of terms that agree are equal
pub sum_same : (n : ℕ) (f g : ℕ → ℕ) → ((k : ℕ) → k < n → f k ≡ g k) → sum_to n f ≡ sum_to n g
unfolding sum_to
sum_same zero f g h = refl
sum_same (suc n) f g h = omega (arith, sum_same n f g (λ k l. h k (omega arith)), h n (omega arith))

-- sums of terms that agree but at one place differ as the terms at that place do
pub sum_point : (n j : ℕ) (f g : ℕ → ℕ) → j < n → ((k : ℕ) → k < n → (k ≡ j → ⊥) → f k ≡ g k) → sum_to n f + g j ≡ sum_to n g + f j
unfolding sum_to
sum_point zero j f g l h = absurd (omega arith)
sum_point (suc n) j f g l h = go (ℕ_discrete j n) (sum_point n j f g)
  where
    go : Dec (j ≡ n) → (j < n → ((k : ℕ) → k < n → (k ≡ j → ⊥) → f k ≡ g k) → sum_to n f + g j ≡ sum_to n g + f j) → sum_to n f + f n + g j ≡ sum_to n g + g n + f j
    go (yes e) before = omega (arith, sum_same n f g (λ k m. h k (omega arith) (λ q. omega arith)), ap f e, ap g e)
    go (no d) before = omega (arith, before (omega arith) (λ k m q. h k (omega arith) q), h n (omega arith) (λ q. d (sym q)))

-- a term is at most the sum
pub term_le : (n j : ℕ) (f : ℕ → ℕ) → j < n → f j ≤ sum_to n f
unfolding sum_to
term_le zero j f l = absurd (omega arith)
term_le (suc n) j f l = go (ℕ_discrete j n) (term_le n j f)
  where
    go : Dec (j ≡ n) → (j < n → f j ≤ sum_to n f) → f j ≤ sum_to n f + f n
    go (yes e) before = omega (arith, ap f e)
    go (no d) before = omega (arith, before (omega arith))

-- a sum of fewer terms is at most that of more
pub sum_mono : (k n : ℕ) (f : ℕ → ℕ) → k ≤ n → sum_to k f ≤ sum_to n f
unfolding sum_to
sum_mono k zero f h = let e : k ≡ 0 = omega arith in rw e (omega arith)
sum_mono k (suc n) f h = go (ℕ_discrete k (suc n)) (sum_mono k n f)
  where
    go : Dec (k ≡ suc n) → (k ≤ n → sum_to k f ≤ sum_to n f) → sum_to k f ≤ sum_to n f + f n
    go (yes e) before = rw e (omega arith)
    go (no d) before = omega (arith, before (omega arith))

-- ---- what holds of each

pub all_at : (n : ℕ) (f : ℕ → Bool) (i : ℕ) → all_to n f ≡ true → i < n → f i ≡ true
unfolding all_to
all_at zero f i h l = absurd (omega arith)
all_at (suc n) f i h l = let w = and_parts (all_to n f) (f n) h in go (ℕ_discrete i n) w.1 (all_at n f i w.0)
  where
    go : Dec (i ≡ n) → f n ≡ true → (i < n → f i ≡ true) → f i ≡ true
    go (yes e) last before = ap f e ∙ last
    go (no d) last before = before (omega arith)

-- one that fails is enough
pub all_fails : (n : ℕ) (f : ℕ → Bool) (i : ℕ) → i < n → f i ≡ false → false ≡ all_to n f
all_fails n f i l e = go (all_to n f) refl
  where
    go : (t : Bool) → all_to n f ≡ t → false ≡ t
    go false h = refl
    go true h = sym e ∙ all_at n f i h l

module _ {A : Type 0} where
  -- ---- lists

  pub length_list : (n : ℕ) (f : ℕ → A) → length (list_to n f) ≡ n
  unfolding list_to
  length_list zero f = refl
  length_list (suc n) f = omega (arith, length-append (list_to n f) (f n ∷ []), length_list n f)

  pub list_at : (n : ℕ) (f : ℕ → A) (i : ℕ) (d : A) → i < n → get_or (list_to n f) i d ≡ f i
  unfolding list_to
  list_at zero f i d l = absurd (omega arith)
  list_at (suc n) f i d l = go (ℕ_discrete i n) (list_at n f i d)
    where
      go : Dec (i ≡ n) → (i < n → get_or (list_to n f) i d ≡ f i) → get_or (list_to n f ++ (f n ∷ [])) i d ≡ f i
      go (yes e) before = rw e (get_or_at (list_to n f) (f n) [] d n (length_list n f))
      go (no u) before = get_or-append (list_to n f) (f n ∷ []) d i (omega (arith, length_list n f)) ∙ before (omega arith)

  -- what holds of each value, and past the end of the default, holds of each element
  pub list_keeps : (P : A → Type 0) (n : ℕ) (f : ℕ → A) (d : A) → P d → ((i : ℕ) → i < n → P (f i)) → (i : ℕ) → P (get_or (list_to n f) i d)
  list_keeps P n f d z h i = go (dec_lt i n)
    where
      go : Dec (i < n) → P (get_or (list_to n f) i d)
      go (yes l) = rw (list_at n f i d l) (h i l)
      go (no u) =
          let past : length (list_to n f) ≤ i = omega (arith, length_list n f) in
          rw (get_or-eq_default (list_to n f) d past) z

  -- what `array::from_fn` of a closure without a state of its own makes
  module _ {F : Type 0} (g : Mut F (ℕ × Unit {0}) A) (p : F) (f : ℕ → A) (pure : (i : ℕ) (y : A) (q : F) → Called g p (i, tt) y q → (q ≡ p) × (y ≡ f i)) where
    made_at : (xs : List A) (q : F) (i n k : ℕ) (d : A) → q ≡ p → IsFromFnResultFrom g q xs i n → i ≤ k → k < i + n → get_or xs k d ≡ f k
    made_at xs q i zero k d e h l m = absurd (omega arith)
    made_at xs q i (suc n) k d e (r, y, w, called, rest) l m = go (ℕ_discrete k i) (λ z l. made_at xs r (i + 1) n k d z rest l (omega arith))
      where
        step : (r ≡ p) × (y ≡ f i)
        step = pure i y r (subst (λ (x : F). Called g x (i, tt) y r) e called)

        go : Dec (k ≡ i) → (r ≡ p → i + 1 ≤ k → get_or xs k d ≡ f k) → get_or xs k d ≡ f k
        go (yes z) later = rw z (w.1 d ∙ step.1)
        go (no z) later = later step.0 (omega arith)

    pub list_made : (xs : List A) (n : ℕ) → IsFromFnResult g p xs n → xs ≡ list_to n f
    unfolding list_to
    list_made xs zero h = nil_from_length xs h.long
    list_made xs (suc n) h =
        ext_get_or (f 0) xs (list_to (suc n) f) (h.long ∙ sym (length_list (suc n) f))
        (λ i l. made_at xs p 0 (suc n) i (f 0) refl h.each (omega arith) (omega arith) ∙ sym (list_at (suc n) f i (f 0) (omega arith)))

  -- ---- writing at places

  -- what holds of each element before, and of what is written, holds of each after
  pub set_keeps : (P : A → Type 0) (d : A) (l : List A) (i : ℕ) (v : A) → ((j : ℕ) → P (get_or l j d)) → P v → (j : ℕ) → P (get_or (set l i v) j d)
  set_keeps P d [] i v h w j = h j
  set_keeps P d (x ∷ l) zero v h w zero = w
  set_keeps P d (x ∷ l) zero v h w (suc j) = h (suc j)
  set_keeps P d (x ∷ l) (suc i) v h w zero = h zero
  set_keeps P d (x ∷ l) (suc i) v h w (suc j) = set_keeps P d l i v (λ k. h (suc k)) w j

  module _ (place : ℕ → ℕ) (f : ℕ → A) (l : List A) where
    pub put_again : (n : ℕ) (out : List A) (v : A) → out ≡ put_to place f l n → v ≡ f n → set out (place n) v ≡ put_to place f l (n + 1)
    unfolding put_to
    put_again n out v e w = rw (add-one, e, w)

    pub length-put : (n : ℕ) → length (put_to place f l n) ≡ length l
    unfolding put_to
    length-put zero = refl
    length-put (suc n) = length-set (put_to place f l n) (place n) (f n) ∙ length-put n

    -- a place that is none of those written stands
    pub put_other : (n j : ℕ) (d : A) → ((i : ℕ) → i < n → j ≡ place i → ⊥) → get_or (put_to place f l n) j d ≡ get_or l j d
    unfolding put_to
    put_other zero j d h = refl
    put_other (suc n) j d h =
        get_or-set_other (put_to place f l n) (place n) j (f n) d (h n (omega arith)) ∙ put_other n j d (λ i g. h i (omega arith))

    -- what is written at a place of its own is there
    pub put_at : (n i : ℕ) (d : A) → ((j k : ℕ) → place j ≡ place k → j ≡ k) → i < n → place i < length l → get_or (put_to place f l n) (place i) d ≡ f i
    unfolding put_to
    put_at zero i d own h g = absurd (omega arith)
    put_at (suc n) i d own h g = go (ℕ_discrete i n) (λ k. put_at n i d own k g)
      where
        go : Dec (i ≡ n) → (i < n → get_or (put_to place f l n) (place i) d ≡ f i) → get_or (set (put_to place f l n) (place n) (f n)) (place i) d ≡ f i
        go (yes e) before = rw e (get_or-set_same (put_to place f l n) (place n) (f n) d (omega (arith, length-put n, ap place e)))
        go (no u) before = get_or-set_other (put_to place f l n) (place n) (place i) (f n) d (λ e. u (own i n e)) ∙ before (omega arith)

    -- the same of what is written at several places
    pub put_keeps : (P : A → Type 0) (d : A) → ((j : ℕ) → P (get_or l j d)) → (n : ℕ) → ((i : ℕ) → i < n → P (f i)) → (j : ℕ) → P (get_or (put_to place f l n) j d)
    unfolding put_to
    put_keeps P d h zero w j = h j
    put_keeps P d h (suc n) w j =
        set_keeps P d (put_to place f l n) (place n) (f n) (put_keeps P d h n (λ i g. w i (omega arith))) (w n (omega arith)) j
