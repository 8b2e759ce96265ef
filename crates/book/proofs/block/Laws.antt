-- A block on a book: its frame, what it holds, and that the book stays sound. Assumes nothing.
use mathlib.Core.Path.{◌≡◌, sym, ap, ◌∙◌}
use mathlib.Core.List.{List}
use Prim.Native.Nat.{ℕ, ◌+◌, ◌<◌}
use native.Mathlib.Omega.{arith}
use lib.ListN.{get_or}
use Rattle.std.specs.Prelude.{Ok, Err}
use Rattle.amounts.specs.Decline.{Answer, value_or, verdict_of}
use Rattle.amounts.specs.declared.decline.Decline.{Decline}
use Rattle.amounts.proofs.decline.Laws.{was_taken, was_err, was_ok}
use Rattle.layout.specs.Frame.{block_kind, count_of, body_of, held_at}
use Rattle.layout.specs.Holds.{holds_of}
use Rattle.layout.specs.Posts.{post_in}
use Rattle.layout.specs.declared.holds.Holds.{Holds}
use Rattle.layout.specs.declared.holds.Holds.TheVariants.{SetUp, Posts}
use Rattle.layout.specs.declared.holds.SetupPart.{SetupPart}
use Rattle.layout.specs.declared.holds.SetupPart.TheVariants.{Materials, Stage}
use Rattle.plant.specs.Setup.{setup_of, set_up_on, SoundSetup}
use Rattle.plant.specs.Stage.{with_stage, described_on}
use Rattle.plant.specs.declared.setup.Setup.{Setup}
use Rattle.layout.proofs.frame.Laws.{Framed, held_framed, number_small}
use Rattle.layout.proofs.posts.Laws.{Owned}
use Rattle.plant.specs.Part.{setup_by}
use Rattle.book.specs.Block.{on_setup, on_year, by_holds, block_on}
use Rattle.book.specs.Posts.{taken_to, posts_on}
use Rattle.book.specs.Site.{Book, Sound, SoundYear, book_with}
use Rattle.book.specs.declared.site.Year.{Year}
use Rattle.book.proofs.posts.Laws.{many_sound, posts_taken_lem}
use Rattle.bodies.proofs.setup.Taken as first
use Rattle.plant.proofs.setup.Taken.{sound_set_up}
use Rattle.book.proofs.site.Laws.{sound_before}
use Rattle.bodies.proofs.stage.Taken as stage
use Rattle.plant.proofs.stage.Taken.{sound_stage}

-- ---- through the frame

module _ (b : Book) (s : List ℕ) where
  pub not_framed : (n : Decline) → held_at b.blocks s ≡ Err n → block_on b s ≡ Err n
  unfolding block_on
  not_framed n e = rw e

  pub is_framed : (h : Holds) → held_at b.blocks s ≡ Ok h → block_on b s ≡ by_holds b s h
  unfolding block_on
  is_framed h e = rw e

  module _ (h : Holds) (held : Ok h ≡ held_at b.blocks s) where
    holds_is : (k : Holds) → h ≡ k → block_on b s ≡ by_holds b s k
    holds_is k is = is_framed h (sym held) ∙ ap (by_holds b s) is

    -- a part of the set-up
    module _ (part : SetupPart) (is : h ≡ SetUp part) where
      abbrev pub made : Answer Setup
      made = setup_by b.setup part (count_of s) (body_of s)

      pub setup_declined : (n : Decline) → Err n ≡ verdict_of made → block_on b s ≡ Err n
      setup_declined n e = holds_is (SetUp part) is ∙ ap (on_setup b) (was_err made n e)

      pub setup_taken : (t : Unit) (u : Setup) → Ok t ≡ verdict_of made → u ≡ value_or b.setup made → block_on b s ≡ Ok (book_with u b.year (b.blocks + 1))
      setup_taken t u e f = holds_is (SetUp part) is ∙ ap (on_setup b) (was_ok made b.setup t u e f)

    -- posts
    module _ (is : h ≡ Posts) where
      pub posts_declined : (n : Decline) → Err n ≡ verdict_of (posts_on b.setup b.year (count_of s) (body_of s)) → block_on b s ≡ Err n
      posts_declined n e = holds_is Posts is ∙ ap (on_year b) (was_err (posts_on b.setup b.year (count_of s) (body_of s)) n e)

      pub posts_taken : (y : Year) → posts_on b.setup b.year (count_of s) (body_of s) ≡ Ok y → block_on b s ≡ Ok (book_with b.setup y (b.blocks + 1))
      posts_taken y e = holds_is Posts is ∙ ap (on_year b) e

      -- the same of a book that has the year after them, and is counted on
      pub posts_counted : (c : Book) → posts_on b.setup b.year (count_of s) (body_of s) ≡ Ok c.year → (c.setup ≡ b.setup) × (c.blocks ≡ b.blocks)
          → block_on b s ≡ Ok (book_with c.setup c.year (c.blocks + 1))
      posts_counted c e kept = rw (kept.0, kept.1) (posts_taken c.year e)

-- ---- what a block that is taken tells, by what it holds

pub data Done (b : Book) (s : List ℕ) (c : Book) : Type 0 where
  set_up : holds_of (block_kind s) ≡ Ok (SetUp Materials) → first.Accepts b.setup.outline (count_of s) (body_of s)
      → c ≡ book_with (setup_of (count_of s) (body_of s)) b.year (b.blocks + 1) → Done b s c
  described : holds_of (block_kind s) ≡ Ok (SetUp Stage) → stage.Accepts b.setup.outline (count_of s) (body_of s)
      → c ≡ book_with (with_stage b.setup (count_of s) (body_of s)) b.year (b.blocks + 1) → Done b s c
  posted : (z : Year) → holds_of (block_kind s) ≡ Ok Posts → Owned b.setup.outline b.year.closed (count_of s) (body_of s)
      → taken_to b.setup b.year (post_in (body_of s)) (count_of s) ≡ Ok z → c ≡ book_with b.setup z (b.blocks + 1) → Done b s c

module _ (b c : Book) (s : List ℕ) where
  one : (u : Setup) → holds_of (block_kind s) ≡ Ok (SetUp Materials) → set_up_on b.setup (count_of s) (body_of s) ≡ Ok u
      → c ≡ book_with u b.year (b.blocks + 1) → Done b s c
  unfolding set_up_on
  one u k e is =
      let a = first.accepted b.setup.outline (count_of s) (body_of s) (setup_of (count_of s) (body_of s)) u e in
      set_up k a.0 (is ∙ ap (λ (v : Setup). book_with v b.year (b.blocks + 1)) a.1)

  two : (u : Setup) → holds_of (block_kind s) ≡ Ok (SetUp Stage) → described_on b.setup (count_of s) (body_of s) ≡ Ok u
      → c ≡ book_with u b.year (b.blocks + 1) → Done b s c
  unfolding described_on
  two u k e is =
      let a = stage.accepted b.setup.outline (count_of s) (body_of s) (with_stage b.setup (count_of s) (body_of s)) u e in
      described k a.0 (is ∙ ap (λ (v : Setup). book_with v b.year (b.blocks + 1)) a.1)

  three : (z : Year) → holds_of (block_kind s) ≡ Ok Posts → posts_on b.setup b.year (count_of s) (body_of s) ≡ Ok z
      → c ≡ book_with b.setup z (b.blocks + 1) → Done b s c
  three z k e is =
      let a = posts_taken_lem b.setup b.year (count_of s) (body_of s) z e in
      posted z k a.0 a.1 is

  done_by : (h : Holds) → holds_of (block_kind s) ≡ Ok h → by_holds b s h ≡ Ok c → Done b s c
  done_by (SetUp Materials) k e = let a = was_taken (set_up_on b.setup (count_of s) (body_of s)) _ c e in one a.0 k a.1 cc
  done_by (SetUp Stage) k e = let a = was_taken (described_on b.setup (count_of s) (body_of s)) _ c e in two a.0 k a.1 cc
  done_by Posts k e = let a = was_taken (posts_on b.setup b.year (count_of s) (body_of s)) _ c e in three a.0 k a.1 cc

  pub block_done : block_on b s ≡ Ok c → Framed b.blocks s × Done b s c
  unfolding block_on
  block_done e =
      let a = was_taken (held_at b.blocks s) (by_holds b s) c e in
      let f = held_framed b.blocks s a.0 a.1 in
      (f.0, done_by a.0 f.1 a.2)

-- ---- the book stays sound

-- all but the count of blocks, which only bytes bound
pub record SoundParts (u : Setup) (y : Year) : Type 0 where
  pub setup : SoundSetup u
  pub year : SoundYear u y

parts_of : (b : Book) → Sound b → SoundParts b.setup b.year
parts_of b h = record { setup = h.setup; year = h.year }

pub done_sound : (b c : Book) (s : List ℕ) → SoundParts b.setup b.year → Done b s c → SoundParts c.setup c.year
done_sound b c s h (set_up k a is) =
    let none = h.year.none_before (first.not_yet b.setup.outline a.none) in
    rw is
    (record { setup = sound_set_up b.setup.outline (count_of s) (body_of s) a; year = sound_before b.setup (setup_of (count_of s) (body_of s)) b.year h.year none })
done_sound b c s h (described k a is) =
    let none = h.year.none_before (stage.not_yet b.setup.outline a.left) in
    rw is
    (record { setup = sound_stage b.setup (count_of s) (body_of s) h.setup a; year = sound_before b.setup (with_stage b.setup (count_of s) (body_of s)) b.year h.year none })
done_sound b c s h (posted z k o e is) =
    rw is (record { setup = h.setup; year = many_sound b.setup b.year z (post_in (body_of s)) (count_of s) h.setup h.year e })

done_blocks : (b c : Book) (s : List ℕ) → Done b s c → c.blocks ≡ b.blocks + 1
done_blocks b c s d = grind arith

-- one block more, and a number of 16 bits
pub block_more : (b c : Book) (s : List ℕ) → block_on b s ≡ Ok c → c.blocks ≡ b.blocks + 1
block_more b c s e = done_blocks b c s (block_done b c s e).1

pub block_sound : (b c : Book) (s : List ℕ) → ((i : ℕ) → get_or s i 0 < 256) → Sound b → block_on b s ≡ Ok c → Sound c
block_sound b c s fits h e =
    let d = block_done b c s e in
    let p = done_sound b c s (parts_of b h) d.1 in
    record { setup = p.setup; year = p.year; blocks_few = omega (arith, number_small b.blocks s fits d.0, done_blocks b c s d.1) }

-- a part of the set-up more, before the block is counted
pub setup_sound : (b : Book) (s : List ℕ) (u : Setup) → Sound b → block_on b s ≡ Ok (book_with u b.year (b.blocks + 1)) → Sound (book_with u b.year b.blocks)
setup_sound b s u h e =
    let p = done_sound b (book_with u b.year (b.blocks + 1)) s (parts_of b h) (block_done b (book_with u b.year (b.blocks + 1)) s e).1 in
    record { setup = p.setup; year = p.year; blocks_few = h.blocks_few }
