-- A block that is made passes the checks of its frame, and tells what it was made of. Assumes nothing.
use mathlib.Core.Path.{◌≡◌, refl, sym, ap, ◌∙◌}
use mathlib.Core.Bool.{true}
use mathlib.Core.List.{List, [], ◌++◌, append-nil}
use Prim.Native.Nat.{ℕ, ◌+◌, ◌<◌}
use native.Mathlib.Omega.{arith}
use borrow.Author.Tests.{eq-eqb}
use lib.ListN.{length, take, drop, length-append}
use lib.Seq.{take_at, drop_at, drop-drop}
use Rattle.std.specs.Prelude.{Ok}
use Rattle.amounts.specs.Decline.{checked, is_taken}
use Rattle.encoding.specs.Bytes.{le, little_endian}
use Rattle.layout.specs.Frame.{has_tag, block_kind, count_of, body_of, plain_sum, weighted_sum, sums_of, frame_checks, head_of, summed, block_of}
use Rattle.layout.specs.Holds.{holds_of}
use Rattle.layout.specs.declared.holds.Holds.{Holds}

-- two bytes that store a number tell it again, whatever stands behind them
two_told : (n : ℕ) (s : List ℕ) → n < 65536 → le 2 (little_endian 2 n ++ s) ≡ n
unfolding le little_endian
two_told n s h = omega arith

plain_small : (s : List ℕ) → plain_sum s < 65536
unfolding plain_sum
plain_small s = omega arith

weighted_small : (s : List ℕ) → weighted_sum s < 65536
unfolding weighted_sum
weighted_small s = omega arith

module _ (s : List ℕ) (long : length s ≡ 508) where
  first_is : take 508 (summed s) ≡ s
  unfolding summed
  first_is = take_at s (little_endian 2 (plain_sum s) ++ little_endian 2 (weighted_sum s)) 508 long

  last_is : drop 508 (summed s) ≡ little_endian 2 (plain_sum s) ++ little_endian 2 (weighted_sum s)
  unfolding summed
  last_is = drop_at s (little_endian 2 (plain_sum s) ++ little_endian 2 (weighted_sum s)) 508 long

  plain_told : le 2 (drop 508 (summed s)) ≡ (sums_of (summed s)).plain
  plain_told = ap (le 2) last_is ∙ two_told (plain_sum s) (little_endian 2 (weighted_sum s)) (plain_small s) ∙ ap plain_sum (sym first_is)

  weighted_told : le 2 (drop 510 (summed s)) ≡ (sums_of (summed s)).weighted
  unfolding little_endian
  weighted_told =
      ap (le 2) (sym (drop-drop 2 508 (summed s)) ∙ ap (drop 2) last_is ∙ sym (append-nil (little_endian 2 (weighted_sum s))))
      ∙ two_told (weighted_sum s) [] (weighted_small s) ∙ ap weighted_sum (sym first_is)

  summed_long : length (summed s) ≡ 512
  unfolding summed little_endian
  summed_long = length-append s (little_endian 2 (plain_sum s) ++ little_endian 2 (weighted_sum s)) ∙ ap (λ (n : ℕ). n + 4) long

module _ (kind count number : ℕ) (body : List ℕ) where
  abbrev made : List ℕ
  made = block_of kind count number body

  pub kind_made : block_kind made ≡ kind
  unfolding block_of summed
  kind_made = refl

  -- it holds what its kind holds
  pub held_made : (h : Holds) → holds_of kind ≡ Ok h → holds_of (block_kind made) ≡ Ok h
  held_made h e = ap holds_of kind_made ∙ e

  pub count_made : count_of made ≡ count
  unfolding block_of summed
  count_made = refl

  module _ (long : length body ≡ 500) where
    before_long : length (head_of kind count number ++ body) ≡ 508
    unfolding little_endian
    before_long = omega (arith, length-append (head_of kind count number) body)

    pub made_long : length made ≡ 512
    unfolding block_of
    made_long = summed_long (head_of kind count number ++ body) before_long

    pub body_made : body_of made ≡ body
    unfolding block_of summed little_endian
    body_made = take_at body _ 500 long

    tag_made : has_tag made ≡ true
    unfolding block_of summed
    tag_made = refl

    number_made : number < 65536 → le 2 (drop 6 made) ≡ number
    unfolding block_of summed little_endian
    number_made n = two_told number _ n

    plain_made : le 2 (drop 508 made) ≡ (sums_of made).plain
    unfolding block_of
    plain_made = plain_told (head_of kind count number ++ body) before_long

    weighted_made : le 2 (drop 510 made) ≡ (sums_of made).weighted
    unfolding block_of
    weighted_made = weighted_told (head_of kind count number ++ body) before_long

    -- 1 to 3
    pub made_passes : {A : Type 0} (a : A) → is_taken (holds_of kind) ≡ true → number < 65536 → checked (frame_checks number made) a ≡ Ok a
    unfolding checked
    made_passes a k n =
        rw (eq-eqb _ _ made_long, tag_made, eq-eqb _ _ plain_made, eq-eqb _ _ weighted_made, ap (λ (n : ℕ). is_taken (holds_of n)) kind_made ∙ k, eq-eqb _ _ (number_made n))
