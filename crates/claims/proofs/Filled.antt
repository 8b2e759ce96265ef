-- A block made of posts that a year takes in turn. Assumes nothing.
use mathlib.Core.Path.{◌≡◌, refl, ap, ◌∙◌}
use mathlib.Core.Bool.{true, false}
use mathlib.Core.List.{List, ◌++◌}
use Prim.Native.Nat.{ℕ, zero, suc, ◌+◌, ◌-◌, ◌*◌, ◌≤◌, ◌<◌}
use native.Mathlib.Omega.{arith}
use lib.ListN.{length, take, drop, replicate, length-drop}
use lib.Seq.{drop_at, take-append-le, drop-append-le, take_all}
use Rattle.std.specs.Prelude.{Ok}
use Rattle.amounts.specs.Decline.{checked}
use Rattle.encoding.specs.Bytes.{padded}
use Rattle.layout.specs.Frame.{frame_checks}
use Rattle.layout.specs.Outline.{may_post}
use Rattle.layout.specs.Posts.{post_in, own_checks}
use Rattle.layout.specs.declared.holds.Holds.TheVariants.{Posts}
use Rattle.plant.specs.declared.setup.Setup.{Setup}
use Rattle.amounts.proofs.decline.Laws.{was_taken, pass_taken}
use Rattle.layout.proofs.frame.Laws.{is_held}
use Rattle.post.proofs.moves.Laws.{move_laid}
use Rattle.book.specs.Block.{block_on}
use Rattle.book.specs.Posts.{post_on, taken_to, posts_on}
use Rattle.book.specs.Site.{book_with}
use Rattle.book.specs.declared.site.Year.{Year}
use Rattle.book.proofs.block.Laws.{is_framed}
use Rattle.book.proofs.posts.Laws.{posted, own_taken}
use Rattle.claims.proofs.written.Accepted.{laid_long}
use Rattle.claims.proofs.written.Blocks.{laid, laid_posts, laid_count, laid_body, own_pass}

-- ---- posts in bytes

-- so many posts end within their bytes
ends_within : (i n : ℕ) (l : List ℕ) → i < n → length l ≡ n * 48 → i * 48 + 48 ≤ length l
ends_within i n l h e = omega arith

-- a post that ends within the bytes is there whatever stands behind them
pub post_front : (i n : ℕ) (l t : List ℕ) → i < n → length l ≡ n * 48 → post_in (l ++ t) i ≡ post_in l i
post_front i n l t h e =
    let ends = ends_within i n l h e in
    ap (take 48) (drop-append-le (i * 48) l t (omega arith)) ∙ take-append-le 48 (drop (i * 48) l) t (omega (arith, length-drop (i * 48) l))

-- the post behind the bytes of those before it
pub post_behind : (n : ℕ) (l s : List ℕ) → length l ≡ n * 48 → length s ≡ 48 → post_in (l ++ s) n ≡ s
post_behind n l s e long = ap (take 48) (drop_at l s (n * 48) e) ∙ take_all 48 s (omega arith)

-- ---- posts that a year takes

-- runs of the same posts are the same
pub same_run : (u : Setup) (y : Year) (f g : ℕ → List ℕ) (n : ℕ) → ((i : ℕ) → i < n → f i ≡ g i) → taken_to u y f n ≡ taken_to u y g n
unfolding taken_to
same_run u y f g zero h = refl
same_run u y f g (suc n) h = rw (same_run u y f g n (λ i l. h i (omega arith)), h n (omega arith))

-- the first of a run that is taken
pub first_taken : (u : Setup) (y z : Year) (f : ℕ → List ℕ) (n : ℕ) → taken_to u y f (suc n) ≡ Ok z → (x : Year) × (post_on u y (f 0) ≡ Ok x)
unfolding taken_to
first_taken u y z f zero e = (z, e)
first_taken u y z f (suc n) e =
    let a = was_taken (taken_to u y f (suc n)) (λ z. post_on u z (f (suc n))) z e in
    first_taken u y a.0 f n a.1

-- a run that is taken comes in its turn, to a book that isn't closed
pub run_admits : (u : Setup) (y z : Year) (f : ℕ → List ℕ) (n : ℕ) → 1 ≤ n → taken_to u y f n ≡ Ok z → (may_post u.outline ≡ true) × (y.closed ≡ false)
run_admits u y z f n some run =
    let one : suc (n - 1) ≡ n = omega arith in
    let x = first_taken u y z f (n - 1) (ap (taken_to u y f) one ∙ run) in
    let a = (posted u y x.0 (f 0) x.1).admitted in (a.in_turn, a.is_open)

-- a post that is taken is 48 bytes
pub taken_long : (u : Setup) (y z : Year) (s : List ℕ) → post_on u y s ≡ Ok z → length s ≡ 48
taken_long u y z s e =
    let p = posted u y z s e in
    let a = move_laid u.outline u.numbers s p.move p.admitted.told in
    laid_long u.outline s a.0 a.1

-- one post more
pub one_more : (u : Setup) (y z x : Year) (l s : List ℕ) (n : ℕ) → length l ≡ n * 48 → taken_to u y (post_in l) n ≡ Ok z → post_on u z s ≡ Ok x
    → taken_to u y (post_in (l ++ s)) (suc n) ≡ Ok x
unfolding taken_to
one_more u y z x l s n e run p =
    rw (same_run u y (post_in (l ++ s)) (post_in l) n (λ i h. post_front i n l s h e), run, post_behind n l s e (taken_long u z x s p)) p

-- ---- a block of them

module _ (n : ℕ) (l : List ℕ) (long : length l ≡ n * 48) (some : 1 ≤ n) (few : n ≤ 10) (m : ℕ) (u : Setup) (y z : Year) (run : taken_to u y (post_in l) n ≡ Ok z) where
  -- the posts of the body are those of the bytes
  posts_of_body : posts_on u y n (padded 500 l) ≡ Ok z
  posts_of_body =
      let a = run_admits u y z (post_in l) n some run in
      own_taken u y n (padded 500 l) (pass_taken (own_checks u.outline y.closed n (padded 500 l)) n (own_pass n l long few u.outline y.closed a.0 a.1 some))
      ∙ rw (same_run u y (post_in (padded 500 l)) (post_in l) n (λ i h. post_front i n l (replicate (500 - length l) 0) h long)) run

  abbrev made : List ℕ
  made = laid n l m

  -- the block, framed as the next, and the book after it
  pub block_of_posts_lem : checked (frame_checks m made) made ≡ Ok made → block_on (book_with u y m) made ≡ Ok (book_with u z (m + 1))
  block_of_posts_lem frame =
      is_framed (book_with u y m) made Posts (is_held m made frame ∙ laid_posts n l m) ∙ rw (laid_count n l m, laid_body n l long few m, posts_of_body)
