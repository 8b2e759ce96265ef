-- Sums of bytes in signed numbers that stay below half of their range, where a number is its bits. Assumes nothing.
use mathlib.Core.Path.{◌≡◌, ap, ap₂, ◌∙◌}
use mathlib.Core.List.{List}
use Prim.Native.Nat.{ℕ, ◌+◌, ◌*◌, ◌%◌, ◌≤◌, ◌<◌, min}
use native.Mathlib.Nat.{mul-le-mul}
use native.Mathlib.Omega.{arith}
use lib.IntN.{ℤ, pos, nat_abs, ◌*ℤ◌}
use lib.ListN.{length, get_or, take, length-take}
use lib.Seq.{get_or-take}
use mir.Syntax.{w8, w32}
use mir.Val.{Fits, to_z, of_z}
use Rattle.std.proofs.lemmas.Int.{ints}
use Rattle.std.proofs.lemmas.List.{take_min}
use Rattle.encoding.specs.Each.{sum_to}
use Rattle.layout.specs.Frame.{plain_sum, weighted_sum, sums_of}

abbrev pub bytes : List ℕ → ℕ → ℕ
bytes s i = get_or s i 0

abbrev pub weights : List ℕ → ℕ → ℕ
weights s i = get_or s i 0 * (i + 1)

pub record Weighed (byte i : ℕ) (x y : ℤ) : Type 0 where
  pub below : i < 508
  pub small : byte ≤ 255
  pub weight : byte * (i + 1) ≤ 130560
  pub product : to_z w32 (of_z w32 x) *ℤ to_z w32 (of_z w32 y) ≡ pos (byte * (i + 1))

module _ (s : List ℕ) (n i : ℕ) where
  -- a byte among the first 508, and its place
  pub weighed : (x y : ℤ) → ((k : ℕ) → Fits w8 (get_or s k 0)) → n ≤ 508 → i < length (take n s)
      → x ≡ pos (get_or (take n s) i 0) → y ≡ pos (i + 1) → Weighed (get_or (take n s) i 0) i x y
  weighed x y fits few below x= y= =
      let byte : ℕ = get_or (take n s) i 0 in
      let near : i < n = omega (arith, length-take n s) in
      let small : byte ≤ 255 = rw (get_or-take n s i 0 near) (omega (arith, (fits i).fits)) in
      let place : i + 1 ≤ 512 = omega arith in
      let a : to_z w32 (of_z w32 x) ≡ pos byte = omega (arith, ints) in
      let b : to_z w32 (of_z w32 y) ≡ pos (i + 1) = omega (arith, ints) in
      record {
        below = omega arith;
        small = small;
        weight = mul-le-mul small place;
        product = ap (λ (z : ℤ). z *ℤ to_z w32 (of_z w32 y)) a ∙ ap (λ (z : ℤ). pos byte *ℤ z) b;
      }

  -- the sums of all of them
  pub summed_up : (x y : ℤ) → n ≡ min (length s) 508 → i ≡ length (take n s) → x ≡ pos (sum_to i (bytes (take n s))) → y ≡ pos (sum_to i (weights (take n s)))
      → record { plain = nat_abs x % 65521; weighted = nat_abs y % 65521 } ≡ sums_of s
  unfolding plain_sum weighted_sum
  summed_up x y cut all x= y= =
      let same : take n s ≡ take 508 s = ap (λ (m : ℕ). take m s) (omega arith) ∙ take_min 508 s in
      ap₂ (λ (x y : ℤ). record { plain = nat_abs x % 65521; weighted = nat_abs y % 65521 }) x= y=
      ∙ ap (λ (m : ℕ). record { plain = sum_to m (bytes (take n s)) % 65521; weighted = sum_to m (weights (take n s)) % 65521 }) all
      ∙ ap (λ (t : List ℕ). record { plain = plain_sum t; weighted = weighted_sum t }) same
