-- A whole journal in memory, part by part. Assumes nothing.
use mathlib.Core.Path.{◌≡◌, refl, sym, ap, ◌∙◌}
use mathlib.Core.List.{List, [], ◌∷◌, ◌++◌}
use Prim.Native.Nat.{ℕ, zero, suc, ◌≤◌, ◌<◌, min}
use native.Mathlib.Numerals.{add-one}
use native.Mathlib.Omega.{arith}
use borrow.Author.Tests.{ne_eqb}
use lib.ListN.{length, take, drop, length-drop}
use Rattle.std.proofs.Math.Seq.{take-append_seam, drop-append_seam}
use Rattle.std.proofs.lemmas.Bool.Decides.{nat_tests}
use Rattle.std.proofs.lemmas.Grind.{common_steps}
use Rattle.std.specs.Prelude.{Ok, Err}
use Rattle.amounts.specs.Decline.{verdict_of}
use Rattle.amounts.specs.declared.decline.Decline.{Decline}
use Rattle.amounts.proofs.decline.Laws.{was_err}
use Rattle.book.specs.Block.{block_on}
use Rattle.book.specs.Site.{Book, fresh_book}
use Rattle.book.specs.Blocks.{parts_to, parts_in, refused, onward, read_all}
use Rattle.book.proofs.block.Laws.{block_more}

-- ---- parts

parts_none : (n : ℕ) (s : List ℕ) → length s ≡ 0 → parts_to n s ≡ []
unfolding parts_to
parts_none zero s e = refl
parts_none (suc n) s e = grind (arith, nat_tests)

parts_next : (n : ℕ) (s : List ℕ) → (length s ≡ 0 → ⊥) → parts_to (suc n) s ≡ take 512 s ∷ parts_to n (drop 512 s)
unfolding parts_to
parts_next n s d = rw (ne_eqb (length s) 0 d)

-- a bound that is no less than the length makes no difference
enough : (n m : ℕ) (s : List ℕ) → length s ≤ n → length s ≤ m → parts_to n s ≡ parts_to m s
unfolding parts_to
enough zero m s h g = parts_none zero s (omega arith) ∙ sym (parts_none m s (omega arith))
enough (suc n) zero s h g = parts_none (suc n) s (omega arith) ∙ sym (parts_none zero s (omega arith))
enough (suc n) (suc m) s h g = grind (arith, nat_tests, length-drop 512 s, enough n m (drop 512 s))

-- the first part, and those of the rest
parts_first : (s : List ℕ) → 0 < length s → parts_in s ≡ take 512 s ∷ parts_in (drop 512 s)
parts_first s h =
    enough (length s) (suc (length s)) s (omega arith) (omega arith)
    ∙ parts_next (length s) s (λ e. omega arith)
    ∙ ap (λ (ps : List (List ℕ)). take 512 s ∷ ps) (enough (length s) (length (drop 512 s)) (drop 512 s) (omega (arith, length-drop 512 s)) (omega arith))

-- a part that ends at the end of the bytes is cut off as one of 512
cut : (n k : ℕ) (s : List ℕ) → k ≡ min n (length s) → (take n s ≡ take k s) × (drop n s ≡ drop k s)
cut n k s e = (grind (arith, common_steps), grind (arith, common_steps))

pub parts_cut : (s x rest : List ℕ) → s ≡ x ++ rest → length x ≡ min 512 (length s) → 0 < length s → parts_in s ≡ x ∷ parts_in rest
parts_cut s x rest e long some =
    let c = cut 512 (length x) s long in
    parts_first s some
    ∙ ap (λ (y : List ℕ). y ∷ parts_in (drop 512 s)) (c.0 ∙ ap (take (length x)) e ∙ take-append_seam x rest)
    ∙ ap (λ (y : List ℕ). x ∷ parts_in y) (c.1 ∙ ap (drop (length x)) e ∙ drop-append_seam x rest)

-- ---- reading

-- the blocks before the rest of a journal are taken
module _ (journal rest : List ℕ) (b : Book) (so_far : read_all b b.blocks (parts_in rest) ≡ read_all fresh_book 0 (parts_in journal)) where
  pub all_read : length rest ≡ 0 → Ok b ≡ read_all fresh_book 0 (parts_in journal)
  unfolding read_all
  all_read h = rw (parts_none (length rest) rest h) at so_far

  -- the next part of it
  module _ (size : ℕ) (is : size ≡ 512) (x later : List ℕ) (step : (rest ≡ x ++ later) × (length x ≡ min size (length rest)) × (0 < length rest)) where
    next_is : onward (block_on b x) b.blocks (λ c. read_all c (suc b.blocks) (parts_in later)) ≡ read_all fresh_book 0 (parts_in journal)
    unfolding read_all
    next_is = rw (parts_cut rest x later step.0 (rw is at step.1) step.2) at so_far

    pub next_read : (c : Book) → block_on b x ≡ Ok c → read_all c c.blocks (parts_in later) ≡ read_all fresh_book 0 (parts_in journal)
    next_read c q =
        let more : c.blocks ≡ suc b.blocks = block_more b c x q ∙ add-one b.blocks in
        rw (q, ← more) at next_is

    pub next_refused : (n : Decline) → Err n ≡ verdict_of (block_on b x) → Err (refused b.blocks n) ≡ read_all fresh_book 0 (parts_in journal)
    next_refused n q = rw (was_err (block_on b x) n q) at next_is
