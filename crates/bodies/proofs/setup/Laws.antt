-- A row's sum fits in 64 bits. Assumes nothing.
use Prim.Native.Nat.{ℕ, zero, suc, ◌+◌, ◌*◌, ◌^◌, ◌≤◌, ◌<◌}
use native.Mathlib.Omega.{arith}
use mathlib.Core.List.{List}
use lib.ListN.{drop, get_or}
use lib.Seq.{get_or-drop}
use Rattle.encoding.specs.Bytes.{le}
use Rattle.encoding.specs.Each.{sum_to}
use Rattle.encoding.proofs.bytes.Laws.{le_small}
use Rattle.bodies.specs.Setup.{row_sum}

words_small : (n : ℕ) (f : ℕ → ℕ) → ((i : ℕ) → f i < 4294967296) → sum_to n f ≤ 4294967295 * n
unfolding sum_to
words_small zero f h = omega arith
words_small (suc n) f h = omega (arith, words_small n f h, h n)

pub row_small : (s : List ℕ) → ((i : ℕ) → get_or s i 0 < 256) → row_sum s < 2 ^ 64
row_small s h =
    let each : (i : ℕ) → le 4 (drop (i * 4) s) < 4294967296 = λ i. le_small 4 (drop (i * 4) s) (λ k. rw (get_or-drop (i * 4) s k 0) (h (i * 4 + k))) in
    omega (arith, words_small 8 (λ i. le 4 (drop (i * 4) s)) each)
