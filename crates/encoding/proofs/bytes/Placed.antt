-- Bytes put at a place of a buffer. Assumes nothing.
use mathlib.Core.Path.{◌≡◌, sym, ap, ap₂, ◌∙◌}
use mathlib.Core.List.{List, ◌++◌, append_assoc}
use Prim.Native.Nat.{ℕ, ◌+◌, ◌-◌, ◌≤◌, ◌<◌}
use native.Mathlib.Omega.{arith}
use borrow.Author.Tests.{le-leb, lt-leb}
use borrow.Rule.Slice.PartMut.{put_mid}
use lib.ListN.{length, take, drop, length-append, length-drop}
use lib.Seq.{length-take-le, drop-drop}
use Rattle.encoding.specs.Bytes.{written, placed}

-- where the bytes fit, and where they don't
pub placed_fits : (l : List ℕ) (at : ℕ) (s : List ℕ) → at + length s ≤ length l → placed l at s ≡ written l at s
unfolding placed
placed_fits l at s h = rw (le-leb (at + length s) (length l) h)

pub placed_in : (l : List ℕ) (at : ℕ) (s : List ℕ) → at + length s ≤ length l → placed l at s ≡ take at l ++ (s ++ drop (at + length s) l)
unfolding written
placed_in l at s h = placed_fits l at s h ∙ append_assoc (take at l) s (drop (at + length s) l)

pub placed_out : (l : List ℕ) (at : ℕ) (s : List ℕ) → length l < at + length s → placed l at s ≡ l
unfolding placed
placed_out l at s h = rw (lt-leb (at + length s) (length l) h)

pub placed_long : (l : List ℕ) (at : ℕ) (s : List ℕ) → at + length s ≤ length l → length (placed l at s) ≡ length l
placed_long l at s h =
    ap length (placed_in l at s h)
    ∙ omega (arith, length-append (take at l) (s ++ drop (at + length s) l), length-append s (drop (at + length s) l), length-take-le at l (omega arith), length-drop (at + length s) l)

-- what a copy into the part `at..at + s.len()` leaves, where s fits
pub copied_in : (l : List ℕ) (at : ℕ) (s ys : List ℕ) → ys ≡ s → length s ≤ length l → at ≤ length l - length s → put_mid at (at + length s - at) l ys ≡ placed l at s
copied_in l at s ys e h k =
    let long : at + length s - at ≡ length s = omega arith in
    ap₂ (λ (n : ℕ) (x : List ℕ). put_mid at n l x) long e ∙ ap (λ (x : List ℕ). take at l ++ (s ++ x)) (drop-drop (length s) at l) ∙ sym (placed_in l at s (omega arith))
