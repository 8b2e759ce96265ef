-- Shares in parts per million, and that a split loses nothing. Assumes nothing.
use mathlib.Core.Path.{◌≡◌, sym, ap, ◌∙◌}
use Prim.Native.Nat.{ℕ, ◌+◌, ◌*◌, ◌/◌, ◌%◌, ◌≤◌}
use native.Mathlib.Nat.{div-le_of_le-mul, mul_comm, mul-le-mul_left, add-mul, mul_right_comm, mul-add-div_right, div-add-mod'}
use native.Mathlib.Omega.{arith}
use lib.Dec.{lit<}
use Rattle.amounts.specs.Treatment.{share_of, parts_of}

-- neither product of the code passes what it is a share of
pub scaled : (k r : ℕ) → r ≤ 1000000 → k * r ≤ k * 1000000
scaled k r h = mul-le-mul_left k h

-- the share of the millions and the share of what is left are the whole share
pub apart : (a r : ℕ) → a / 1000000 * r + a % 1000000 * r / 1000000 ≡ share_of a r
apart a r =
    let e : a / 1000000 * r * 1000000 + a % 1000000 * r ≡ a * r =
    ap (λ (k : ℕ). k + a % 1000000 * r) (mul_right_comm (a / 1000000) r 1000000)
    ∙ sym (add-mul (a / 1000000 * 1000000) (a % 1000000) r)
    ∙ ap (λ (k : ℕ). k * r) (div-add-mod' a 1000000) in
    sym (mul-add-div_right (lit< tt) (a / 1000000 * r) (a % 1000000 * r)) ∙ ap (λ (k : ℕ). k / 1000000) e

pub share_le : (a r : ℕ) → r ≤ 1000000 → share_of a r ≤ a
share_le a r h = div-le_of_le-mul 1000000 (rw (mul_comm 1000000 a) (mul-le-mul_left a h))

-- released, destroyed and residue are the total
pub conserved : (a r d : ℕ) → r ≤ 1000000 → d ≤ 1000000 → (parts_of a r d).released + (parts_of a r d).destroyed + (parts_of a r d).residue ≡ a
conserved a r d h k = omega (arith, share_le a r h, share_le (share_of a r) d k)
