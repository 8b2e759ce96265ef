-- A block of posts is its posts. Assumes nothing.
use mathlib.Core.Path.{◌≡◌, refl}
use mathlib.Core.List.{List, [], ◌∷◌, ◌++◌}
use Prim.Native.Nat.{ℕ, zero, suc, ◌+◌}
use native.Mathlib.Omega.{arith}
use Rattle.std.specs.Prelude.{Ok}
use Rattle.amounts.specs.Decline.{Check, checked, on_taken}
use Rattle.encoding.specs.Each.{list_to}
use Rattle.layout.specs.Frame.{block_kind, count_of, body_of, frame_checks, held_at}
use Rattle.layout.specs.Holds.{holds_of}
use Rattle.layout.specs.Posts.{post_in, own_checks}
use Rattle.layout.specs.declared.holds.Holds.TheVariants.{Posts}
use Rattle.amounts.proofs.decline.Laws.{guards}
use Rattle.book.specs.Block.{by_holds, block_on}
use Rattle.book.specs.Posts.{taken_to, posts_on, single_on}
use Rattle.book.specs.Site.{Book, book_with}
use Rattle.claims.specs.Singles.{all_taken, singles, BlockIsItsPosts}
use Rattle.claims.specs.Standing.{Call, post, answer_to}

-- one call more
all_last : (b : Book) (calls : List Call) (call : Call) → all_taken b (calls ++ (call ∷ [])) ≡ on_taken (all_taken b calls) (λ c. answer_to c call)
unfolding all_taken
all_last b [] call = grind arith
all_last b (x ∷ calls) call = grind (arith, λ (c : Book). all_last c calls call)

-- posts alone in turn change a year as posts of a run do
alone : (b : Book) (f : ℕ → List ℕ) (n : ℕ)
    → all_taken b (list_to n (λ i. post (f i))) ≡ on_taken (taken_to b.setup b.year f n) (λ y. Ok (book_with b.setup y b.blocks))
unfolding list_to taken_to all_taken single_on
alone b f zero = refl
alone b f (suc n) = grind (arith, all_last b (list_to n (λ i. post (f i))) (post (f n)), alone b f n)

-- ---- the block

module _ (b : Book) (s : List ℕ) where
  abbrev own : List Check
  own = own_checks b.setup.outline b.year.closed (count_of s) (body_of s)

  -- its own bytes, and then its posts
  body_is : by_holds b s Posts ≡ on_taken (checked own s) (λ _. on_taken (all_taken b (singles s)) (λ c. Ok (book_with c.setup c.year (b.blocks + 1))))
  unfolding posts_on
  body_is = grind (arith, alone b (post_in (body_of s)) (count_of s), guards own (count_of s) s (taken_to b.setup b.year (post_in (body_of s))))

pub block_is_its_posts : BlockIsItsPosts
unfolding block_on held_at
block_is_its_posts b s k = grind (arith, k, body_is b s, guards (frame_checks b.blocks s) s s (λ s. holds_of (block_kind s)))
