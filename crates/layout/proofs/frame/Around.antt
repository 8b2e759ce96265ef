-- The block that its frame makes of a body. Assumes nothing.
use mathlib.Core.Path.{◌≡◌, ap, ap₂, ◌∙◌}
use mathlib.Core.List.{List, [], ◌∷◌, ◌++◌, append-nil, append_assoc}
use Prim.Native.Nat.{ℕ}
use native.Mathlib.Omega.{arith}
use borrow.Rule.Slice.PartMut.{put_mid}
use lib.Chars.{codes}
use lib.ListN.{length, get_or, take, drop, set, length-append, length-drop, drop_of_length-le}
use lib.Seq.{drop-cons, take-append-add, length-take-le}
use mir.Syntax.{w16}
use Rattle.std.specs.Int.{to_le_bytes}
use Rattle.std.proofs.lemmas.Slice.{take-put_mid}
use Rattle.encoding.specs.Bytes.{little_endian}
use Rattle.layout.specs.declared.frame.CheckSums.{CheckSums}
use Rattle.layout.specs.Frame.{body_of, plain_sum, weighted_sum, sums_of, head_of, summed, block_of}

module _ (block : List ℕ) (long : length block ≡ 512) where
  four_more : drop 4 block ≡ get_or block 4 0 ∷ get_or block 5 0 ∷ get_or block 6 0 ∷ get_or block 7 0 ∷ drop 8 block
  four_more = rw (drop-cons block 4 0 (omega arith), drop-cons block 5 0 (omega arith), drop-cons block 6 0 (omega arith), drop-cons block 7 0 (omega arith))

  module _ (kind count number : ℕ) where
    -- the tag, the kind, the count and the number written one after the other
    headed : put_mid 6 2 (set (set (codes "PRTR" ++ drop 4 block) 4 kind) 5 count) (to_le_bytes w16 number) ≡ head_of kind count number ++ drop 8 block
    unfolding little_endian
    headed = rw four_more

    front_is : take 508 (head_of kind count number ++ drop 8 block) ≡ head_of kind count number ++ body_of block
    unfolding little_endian
    front_is = take-append-add (head_of kind count number) (drop 8 block) 500

-- the block that its check sums make of 508 bytes, by what the code has of each part: two bytes at 508, and then two at 510
module _ (block p : List ℕ) (long : length block ≡ 512) where
  middle_long : length p ≡ 2 → length (put_mid 508 2 block p) ≡ 512
  middle_long two_p =
      length-append (take 508 block) (p ++ drop 2 (drop 508 block))
      ∙ omega (arith, length-append p (drop 2 (drop 508 block)), length-take-le 508 block (omega arith), length-drop 2 (drop 508 block), length-drop 508 block)

  tailed : (w : List ℕ) → length p ≡ 2 → length w ≡ 2 → put_mid 510 2 (put_mid 508 2 block p) w ≡ take 508 block ++ (p ++ w)
  tailed w two_p two_w =
      let k : List ℕ = put_mid 508 2 block p in
      let none : drop 2 (drop 510 k) ≡ [] = drop_of_length-le (drop 510 k) {i = 2} (omega (arith, length-drop 510 k, middle_long two_p)) in
      ap₂ (λ (x y : List ℕ). x ++ (w ++ y)) (take-put_mid 508 2 block p 510 (omega (arith, two_p)) (omega (arith, long))) none
      ∙ ap (λ (x : List ℕ). (take 508 block ++ p) ++ x) (append-nil w) ∙ append_assoc (take 508 block) p w

  pub summed_is : (w : List ℕ) (sums : CheckSums) → sums ≡ sums_of block → p ≡ to_le_bytes w16 sums.plain → w ≡ to_le_bytes w16 sums.weighted
      → put_mid 510 2 (put_mid 508 2 block p) w ≡ summed (take 508 block)
  unfolding summed little_endian
  summed_is w sums sums= p= w= =
      let plain : p ≡ little_endian 2 (plain_sum (take 508 block)) = p= ∙ ap (λ (x : CheckSums). to_le_bytes w16 x.plain) sums= in
      let weighted : w ≡ little_endian 2 (weighted_sum (take 508 block)) = w= ∙ ap (λ (x : CheckSums). to_le_bytes w16 x.weighted) sums= in
      tailed w (ap length plain) (ap length weighted) ∙ ap₂ (λ (x y : List ℕ). take 508 block ++ (x ++ y)) plain weighted

-- and the one that the frame makes of a body
module _ (block tag own : List ℕ) (kind count number : ℕ) (long : length block ≡ 512) where
  pub framed_is : tag ≡ codes "PRTR" → own ≡ to_le_bytes w16 number
      → summed (take 508 (put_mid 6 2 (set (set (tag ++ drop 4 block) 4 kind) 5 count) own)) ≡ block_of kind count number (body_of block)
  unfolding block_of
  framed_is tag= own= =
      ap₂ (λ (t n : List ℕ). summed (take 508 (put_mid 6 2 (set (set (t ++ drop 4 block) 4 kind) 5 count) n))) tag= own=
      ∙ ap (λ (l : List ℕ). summed (take 508 l)) (headed block long kind count number)
      ∙ ap summed (front_is block long kind count number)
