-- What is added, asked, listed or written for each of the numbers 0 .. n - 1.
use Rattle.std.specs.Prelude.{ℕ, zero, suc, ◌+◌, Bool, true, ◌&&◌, List, [], ◌∷◌, ◌++◌, set}

-- f 0 + f 1 + .. + f (n - 1)
unfoldable pub sum_to : ℕ → (ℕ → ℕ) → ℕ
sum_to zero f = 0
sum_to (suc n) f = sum_to n f + f n

-- f 0 and f 1 and .. and f (n - 1)
unfoldable pub all_to : ℕ → (ℕ → Bool) → Bool
all_to zero f = true
all_to (suc n) f = all_to n f && f n

-- f 0, f 1, .., f (n - 1)
unfoldable pub list_to : {A : Type 0} → ℕ → (ℕ → A) → List A
list_to zero f = []
list_to (suc n) f = list_to n f ++ (f n ∷ [])

-- a list with f 0, f 1, .., f (n - 1) written at their places
unfoldable pub put_to : {A : Type 0} → (ℕ → ℕ) → (ℕ → A) → List A → ℕ → List A
put_to place f l zero = l
put_to place f l (suc n) = set (put_to place f l n) (place n) (f n)
