-- Blocks in turn, and what a set-up block and a block of posts that are made tell and pass. Assumes nothing.
use mathlib.Core.Path.{◌≡◌, refl, ap, ◌∙◌}
use mathlib.Core.Bool.{Bool, true, false}
use mathlib.Core.List.{List, [], ◌∷◌, ◌++◌}
use Prim.Native.Nat.{ℕ, suc, ◌+◌, ◌-◌, ◌*◌, ◌≤◌, ◌<◌}
use native.Mathlib.Omega.{arith}
use borrow.Author.Tests.{eq-eqb, le-leb}
use lib.ListN.{length, get_or}
use lib.Seq.{drop_at}
use Rattle.std.proofs.lemmas.Grind.{common_steps}
use Rattle.std.proofs.lemmas.List.Concat.{flat_map-append}
use Rattle.std.specs.List.{All, fold}
use Rattle.std.specs.Prelude.{Ok}
use Rattle.amounts.specs.Decline.{is_taken}
use Rattle.encoding.specs.Bytes.{padded, all_zero, within}
use Rattle.layout.specs.Frame.{block_kind, count_of, body_of, block_of}
use Rattle.layout.specs.Holds.{holds_of}
use Rattle.layout.specs.Outline.{may_post}
use Rattle.layout.specs.Posts.{own_checks}
use Rattle.layout.specs.declared.holds.Holds.TheVariants.{SetUp, Posts}
use Rattle.layout.specs.declared.holds.SetupPart.{SetupPart}
use Rattle.layout.specs.declared.outline.Outline.{Outline}
use Rattle.amounts.proofs.decline.Laws as table
use Rattle.amounts.proofs.decline.Laws.{pass_taken}
use Rattle.layout.proofs.frame.Made.{held_made, count_made, body_made, made_passes}
use Rattle.layout.proofs.holds.Laws.{of_posts_lem}
use Rattle.post.specs.Moves.{well_formed}
use Rattle.bodies.specs.Part.{part_checks}
use Rattle.pages.specs.Tally.{outline_after}
use Rattle.claims.specs.Written.{joined, posts_by, posts_in, posts_in_all, body_rows, outline_by, outline_past, Passes, AllPass}
use Rattle.claims.proofs.written.Accepted.{not_posts, formed_long}
use Rattle.claims.proofs.written.Places.{zeros, zeros_zero, EachLong, joined_long, part_is, parts_are}

-- ---- one block more

-- the outline after blocks
abbrev pub outline_over : Outline → List (List ℕ) → Outline
outline_over o blocks = fold outline_past o blocks

-- it passes by its place and that outline
pub pass_last : (place : ℕ) (o : Outline) (blocks : List (List ℕ)) (s : List ℕ) → AllPass place o blocks → Passes (place + length blocks) (outline_over o blocks) s
    → AllPass place o (blocks ++ (s ∷ []))
pass_last place o [] s h p =
    let e : place + 0 ≡ place = omega arith in
    (rw e at p, tt)
pass_last place o (x ∷ blocks) s h p =
    let e : place + suc (length blocks) ≡ suc place + length blocks = omega arith in
    (h.0, pass_last (suc place) (outline_past o x) blocks s h.1 (rw e at p))

-- its posts come last
pub posts_last : (blocks : List (List ℕ)) (s : List ℕ) → posts_in_all (blocks ++ (s ∷ [])) ≡ posts_in_all blocks ++ posts_in s
posts_last blocks s = grind (arith, common_steps, flat_map-append posts_in blocks (s ∷ []))

-- ---- a set-up block

within_is : (low high n : ℕ) → low ≤ n → n ≤ high → within low high n ≡ true
within_is low high n l h = rw (le-leb low n l, le-leb n high h)

module _ (kind count number : ℕ) (body : List ℕ) (part : SetupPart) (holds : holds_of kind ≡ Ok (SetUp part)) where
  abbrev set : List ℕ
  set = block_of kind count number body

  of_part : holds_of (block_kind set) ≡ Ok (SetUp part)
  of_part = held_made kind count number body (SetUp part) holds

  pub set_up_holds : posts_in set ≡ []
  set_up_holds = ap (posts_by set) of_part

  module _ (o : Outline) (long : length body ≡ 500) where
    -- its count and body are those that it was made of
    told : {A : Type 0} (f : ℕ → List ℕ → A) → f (count_of set) (body_of set) ≡ f count body
    told f =
        ap (λ (n : ℕ). f n (body_of set)) (count_made kind count number body)
        ∙ ap (λ (s : List ℕ). f count s) (body_made kind count number body long)

    pub set_up_outline : outline_past o set ≡ outline_after o part count body
    set_up_outline = ap (outline_by o set) of_part ∙ told (outline_after o part)

    rows_are : body_rows o set (SetUp part) ≡ part_checks o part count body
    rows_are = told (part_checks o part)

    pub set_up_passes : number < 65536 → table.AllPass (part_checks o part count body) → Passes number o set
    set_up_passes small rows =
        record {
          frame = ap is_taken (made_passes kind count number body long set (ap is_taken holds) small);
          body = rw (of_part, rows_are, pass_taken (part_checks o part count body) set rows);
          posts = λ e. absurd (not_posts part of_part e);
        }

-- ---- a block made of so many posts

module _ (n : ℕ) (l : List ℕ) (number : ℕ) where
  abbrev pub laid : List ℕ
  laid = block_of 3 n number (padded 500 l)

  pub laid_posts : holds_of (block_kind laid) ≡ Ok Posts
  laid_posts = held_made 3 n number (padded 500 l) Posts of_posts_lem

  pub laid_count : count_of laid ≡ n
  laid_count = count_made 3 n number (padded 500 l)

module _ (n : ℕ) (l : List ℕ) (long : length l ≡ n * 48) (few : n ≤ 10) where
  pub body_long : length (padded 500 l) ≡ 500
  body_long = grind (arith, common_steps)

  pub laid_body : (number : ℕ) → body_of (laid n l number) ≡ padded 500 l
  laid_body number = body_made 3 n number (padded 500 l) body_long

  -- 4 to 6 of its own bytes
  pub own_pass : (o : Outline) (closed : Bool) → may_post o ≡ true → closed ≡ false → 1 ≤ n → table.AllPass (own_checks o closed n (padded 500 l))
  own_pass o closed turn is_open some =
      let rest_zero = ap all_zero (drop_at l (zeros (500 - length l)) (n * 48) long) ∙ zeros_zero (500 - length l) in
      (turn, (rw is_open refl, (eq-eqb (length (padded 500 l)) 500 body_long, (within_is 1 10 n some few, (rest_zero, tt)))))

-- ---- a block of posts

-- one that is well formed by the outline
abbrev pub Formed : Outline → List ℕ → Type 0
Formed o s = is_taken (well_formed o s) ≡ true

-- and so each is 48 bytes
pub each_long : (o : Outline) (posts : List (List ℕ)) → All (Formed o) posts → EachLong 48 posts
each_long o posts h i d l = formed_long o (get_or posts i d) (h i d l)

-- the body of a block of posts
abbrev pub posts_body : List (List ℕ) → List ℕ
posts_body posts = padded 500 (joined posts)

module _ (number : ℕ) (posts : List (List ℕ)) where
  abbrev n : ℕ
  n = length posts

  abbrev pub block_of_posts : List ℕ
  block_of_posts = laid n (joined posts) number

  is_posts : holds_of (block_kind block_of_posts) ≡ Ok Posts
  is_posts = laid_posts n (joined posts) number

  pub posts_outline : (o : Outline) → outline_past o block_of_posts ≡ o
  posts_outline o = ap (outline_by o block_of_posts) is_posts

  module _ (each : EachLong 48 posts) (few : n ≤ 10) where
    long : length (joined posts) ≡ n * 48
    long = joined_long 48 posts each

    count_is : count_of block_of_posts ≡ n
    count_is = laid_count n (joined posts) number

    body_is : body_of block_of_posts ≡ posts_body posts
    body_is = laid_body n (joined posts) long few number

    pub posts_held : posts_in block_of_posts ≡ posts
    posts_held = rw (is_posts, count_is, body_is) (parts_are 48 posts (zeros (500 - length (joined posts))) each)

    pub posts_pass : (o : Outline) → may_post o ≡ true → 1 ≤ n → number < 65536 → All (Formed o) posts → Passes number o block_of_posts
    posts_pass o turn some small formed =
        let own = own_pass n (joined posts) long few o false turn refl some in
        record {
          frame = ap is_taken (made_passes 3 n number (posts_body posts) (body_long n (joined posts) long few) block_of_posts (ap is_taken of_posts_lem) small);
          body = rw (is_posts, count_is, body_is, pass_taken (own_checks o false n (posts_body posts)) block_of_posts own);
          posts = λ e i l.
              let within : i < n = omega (arith, count_is) in
              rw (body_is, part_is 48 posts (zeros (500 - length (joined posts))) each i within) (formed i [] within);
        }
