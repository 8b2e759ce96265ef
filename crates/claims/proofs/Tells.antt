-- A book is what the accepted calls tell: one relation, which every accepted call keeps. Assumes nothing.
use mathlib.Core.Path.{◌≡◌, refl, sym, ap, subst, ◌∙◌}
use mathlib.Core.Bool.{true, false}
use mathlib.Core.List.{List, [], ◌∷◌, ◌++◌, append_assoc, append-nil, map}
use Prim.Native.Nat.{ℕ, zero, suc, ◌+◌, ◌≤◌, ◌<◌}
use native.Mathlib.Omega.{arith}
use lib.ListN.{length, get_or, length-append}
use Rattle.std.proofs.lemmas.Bool.Decides.{nat_tests}
use Rattle.std.proofs.lemmas.List.{nil_from_length, map_push}
use Rattle.std.proofs.lemmas.List.Elements.{All-nil, All-push}
use Rattle.std.proofs.lemmas.List.Sums.{sum_by_push}
use Rattle.std.specs.List.{All}
use Rattle.std.specs.Prelude.{Ok, Err}
use Rattle.amounts.specs.Decline.{is_taken, value_or}
use Rattle.amounts.proofs.decline.Laws.{was_taken}
use Rattle.encoding.specs.Each.{list_to}
use Rattle.layout.specs.Frame.{count_of, body_of}
use Rattle.layout.specs.Outline.{may_post}
use Rattle.layout.specs.Posts.{post_in}
use Rattle.plant.specs.Setup.{setup_of}
use Rattle.layout.specs.declared.outline.Outline.{Outline}
use Rattle.plant.specs.declared.setup.Setup.{Setup}
use Rattle.kinds.specs.Account.{place}
use Rattle.kinds.proofs.account.Laws.{place_few}
use Rattle.kinds.specs.Fields.{post_at}
use Rattle.kinds.specs.Kind.{Row, kind_of}
use Rattle.post.specs.Moves.{move_in, said}
use Rattle.post.specs.declared.moves.Move.{Move}
use Rattle.post.proofs.moves.Laws.{move_fits}
use Rattle.post.proofs.moves.Named.{Named, row_read, said_is, move_named}
use Rattle.book.specs.Entry.{enters, handles}
use Rattle.book.specs.Posts.{post_on, taken_to, single_on}
use Rattle.book.specs.Site.{Book, in_year, book_with, fresh_book}
use Rattle.book.specs.declared.site.Year.{Year}
use Rattle.book.proofs.block.Laws.{Done, set_up, described, posted, block_done, done_sound, SoundParts}
use Rattle.book.proofs.entry.Laws.{room_of}
use Rattle.book.proofs.ledger.Laws.{cell_le}
use Rattle.book.proofs.posts.Laws as posts
use Rattle.book.proofs.posts.Laws.{Posted, post_step}
use Rattle.bodies.proofs.setup.Taken as first
use Rattle.book.proofs.site.Laws.{sound_fresh, open_posts_le}
use Rattle.bodies.proofs.stage.Taken as stage
use Rattle.claims.specs.Demand as demand
use Rattle.claims.specs.Standing.{Call, post, block, answer_to, run, keep, accepted, Standing, nothing, with_posts, stand, stood, standing}
use Rattle.claims.specs.Standing.{substances_of, numbers_of, counted_in, moves_of, sum_over}
use Rattle.claims.proofs.Setting.{SetBy, set_by, set_next}
use Rattle.claims.specs.Stock.{materials_of}
use Rattle.claims.proofs.Stores.{comes, goes, store_next}
use Rattle.claims.proofs.State.{State, state_none, none_open, state_next}

-- ---- the relation

-- no set-up block yet, or one and then stages
pub data Setting (w : Standing) (u : Setup) : Type 0 where
  unset : w.first ≡ [] → w.stages ≡ [] → u.outline.substances ≡ 0 → u.outline.materials ≡ 0 → Setting w u
  is_set : SetBy w.first w.stages u → Setting w u

-- the bytes of a post say a move by the row of their kind
abbrev pub Read : List ℕ → List ℕ → Type 0
Read numbers s = (r : Row) × (kind_of (post_at s).kind ≡ Ok r) × (move_in r numbers (post_at s) ≡ Ok (said numbers s))

-- a set-up and a year are what such a record tells
pub record Says (w : Standing) (u : Setup) (y : Year) : Type 0 where
  pub sound : SoundParts u y
  pub setting : Setting w u
  pub count : y.posts ≡ length w.posts
  pub entered : (s : ℕ) → s < 8 → in_year u y s ≡ demand.entered w s
  pub handled : (s : ℕ) → s < 8 → get_or y.handled s 0 ≡ demand.handled w s
  pub store : (m : ℕ) → m < 12 → get_or y.store m 0 + sum_over (goes m) (moves_of w) ≡ sum_over (comes m) (moves_of w)
  pub named : All Named (moves_of w)
  pub read : All (Read (numbers_of w)) w.posts
  pub state : State (counted_in w) u.pairs (moves_of w) y.sums y.closed

-- and so is a book, however many blocks it counts
abbrev pub Tells : Standing → Book → Type 0
Tells w b = Says w b.setup b.year

-- the substances of the book are those that stand
pub substances_are : (w : Standing) (b : Book) → Tells w b → b.setup.outline.substances ≡ substances_of w
substances_are w b h = let t = h.setting in grind arith

-- and so are its materials
pub materials_are : (w : Standing) (b : Book) → Tells w b → b.setup.outline.materials ≡ materials_of w
materials_are w b h = let t = h.setting in grind arith

-- ---- a book without posts, as made and while it is set up

module _ (w : Standing) (u : Setup) (y : Year) (h : SoundParts u y) (none : y.posts ≡ 0) (no-posts : w.posts ≡ []) where
  no_moves : moves_of w ≡ []
  no_moves = ap (map (said (numbers_of w))) no-posts

  nothing_in : (f : Move → ℕ) → sum_over f (moves_of w) ≡ 0
  nothing_in f = rw no_moves refl

  in_none : (s : ℕ) → s < 8 → in_year u y s ≡ 0
  in_none s hs = omega (arith, h.year.bounded s hs, none, open_posts_le y.closed y.posts)

  no_grams : (m : ℕ) → m < 12 → get_or y.store m 0 ≡ 0
  no_grams m hm = omega (arith, none, open_posts_le y.closed y.posts, h.year.stores m hm)

  tells_empty : y.closed ≡ false → Setting w u → Says w u y
  tells_empty o setting =
      record {
        sound = h;
        setting = setting;
        count = rw no-posts none;
        entered = λ s hs. in_none s hs ∙ sym (nothing_in (enters (counted_in w) s));
        handled = λ s hs. omega (arith, h.year.weighed s hs, in_none s hs, nothing_in (handles (counted_in w) s));
        store = λ m hm. omega (arith, no_grams m hm, nothing_in (goes m), nothing_in (comes m));
        named = rw no_moves (All-nil Named);
        read = rw no-posts (All-nil (Read (numbers_of w)));
        state = rw no_moves (state_none (counted_in w) u.pairs y.sums y.closed o (λ a k s hk hs. omega (arith, cell_le y.sums (place a) k s (place_few a) hk, in_none s hs)));
      }

pub tells_fresh : Tells nothing fresh_book
tells_fresh =
    let h = sound_fresh in
    tells_empty nothing _ _ (record { setup = h.setup; year = h.year }) refl refl refl (unset refl refl refl refl)

-- ---- a post

-- a book in whose turn a post comes has substances
post_later : (o : Outline) → may_post o ≡ true → 1 ≤ o.substances
post_later o e = grind (arith, nat_tests)

-- it is set up by the bytes that stand
was_set : (w : Standing) (u : Setup) → 1 ≤ u.outline.substances → Setting w u → SetBy w.first w.stages u
was_set w u l (unset e f z _) = absurd (omega arith)
was_set w u l (is_set f) = f

module _ (w : Standing) (u : Setup) (y z : Year) (s : List ℕ) (h : Says w u y) (p : Posted u y s z) where
  by : SetBy w.first w.stages u
  by = was_set w u (post_later u.outline p.admitted.in_turn) h.setting

  -- the move that the bytes say
  says : said (numbers_of w) s ≡ p.move
  says = ap (λ (l : List ℕ). said l s) (sym by.numbers) ∙ said_is u.outline u.numbers s p.move p.admitted.told

  was_read : Read (numbers_of w) s
  was_read =
      let is = said_is u.outline u.numbers s p.move p.admitted.told in
      let z = row_read u.outline u.numbers s p.move p.admitted.told in
      rw (← by.numbers) (z.0, z.1, rw is z.2)

  moves_next : moves_of (with_posts w (s ∷ [])) ≡ moves_of w ++ (p.move ∷ [])
  moves_next = rw (map_push (said (numbers_of w)) w.posts s, says)

  sum_next : (f : Move → ℕ) → sum_over f (moves_of (with_posts w (s ∷ []))) ≡ sum_over f (moves_of w) + f p.move
  sum_next f = rw moves_next (sum_by_push f (moves_of w) p.move)

  counted_is : u.counted ≡ counted_in w
  counted_is = by.counted

  pub tells_post : Says (with_posts w (s ∷ [])) u z
  tells_post =
      let step = post_step u y z s h.sound.setup h.sound.year p in
      let m = p.move in
      let fit = move_fits u.outline u.numbers s m p.admitted.told in
      let room = room_of u y h.sound.setup h.sound.year m fit p.admitted.is_open in
      let is-named = move_named u.outline u.numbers s m p.admitted.told in
      record {
        sound = record { setup = h.sound.setup; year = step.sound };
        setting = is_set by;
        count = omega (arith, step.one_more, h.count, length-append w.posts (s ∷ []));
        entered = λ i hi. omega (arith, step.entered i hi, h.entered i hi, sum_next (enters (counted_in w) i), ap (λ (l : List ℕ). enters l i m) counted_is);
        handled = λ i hi. omega (arith, step.handled i hi, h.handled i hi, sum_next (handles (counted_in w) i), ap (λ (l : List ℕ). handles l i m) counted_is);
        store =
            λ i hi.
            omega (
              arith,
              h.store i hi,
              store_next y.store y.sums i m h.sound.year.store_long room.fits p.there,
              ap (λ (x : Year). get_or x.store i 0) p.year,
              sum_next (goes i),
              sum_next (comes i),
            );
        named = rw moves_next (All-push Named (moves_of w) m h.named is-named);
        read = All-push (Read (numbers_of w)) w.posts s h.read was_read;
        state =
            rw (moves_next, p.year, counted_is)
            (state_next (counted_in w) u.pairs y.store y.sums (moves_of w) y.closed m h.sound.year.sums_long p.admitted.is_open room.fits is-named p.there h.state);
      }

-- posts in turn
pub tells_many : (w : Standing) (u : Setup) (y z : Year) (f : ℕ → List ℕ) (n : ℕ) → Says w u y → taken_to u y f n ≡ Ok z → Says (with_posts w (list_to n f)) u z
unfolding taken_to list_to
tells_many w u y z f zero h e =
    let q : z ≡ y = cc in
    rw (q, append-nil w.posts) h
tells_many w u y z f (suc n) h e =
    let a = was_taken (taken_to u y f n) (λ d. post_on u d (f n)) z e in
    let before = tells_many w u y a.0 f n h a.1 in
    rw (← append_assoc w.posts (list_to n f) (f n ∷ []))
    (tells_post (with_posts w (list_to n f)) u a.0 z (f n) before (posts.posted u a.0 z (f n) a.2))

-- ---- a block

-- a book with a stage left to describe has substances
stage_later : (o : Outline) → (o.substances ≡ 0 → o.stages ≡ 0) → o.described < o.stages → 1 ≤ o.substances
stage_later o h l = grind arith

-- a set-up block comes before any post, and what it sets is told
module _ (w : Standing) (u : Setup) (y : Year) (h : Says w u y) (none : y.posts ≡ 0) where
  none_posted : w.posts ≡ []
  none_posted = nil_from_length w.posts (sym h.count ∙ none)

  is_open : y.closed ≡ false
  is_open = none_open (counted_in w) u.pairs y.sums (moves_of w) y.closed (ap (map (said (numbers_of w))) none_posted) h.state

  tells_set : (v : Standing) (t : Setup) → SoundParts t y → v.posts ≡ w.posts → SetBy v.first v.stages t → Says v t y
  tells_set v t g same by = tells_empty v t y g none (same ∙ none_posted) is_open (is_set by)

-- the stages that stood before a kind 1 block
no_stages : (w : Standing) (u : Setup) → u.outline.substances ≡ 0 → Setting w u → w.stages ≡ []
no_stages w u z t = grind arith

tells_done : (w : Standing) (b c : Book) (s : List ℕ) → Tells w b → Done b s c → Tells (stand w (block s)) c
tells_done w b c s h (set_up k a is) =
    let none = h.sound.year.none_before (first.not_yet b.setup.outline a.none) in
    let g = rw is at (done_sound b c s h.sound (set_up k a is)) in
    let u = setup_of (count_of s) (body_of s) in
    let by = subst (λ (bs : List (List ℕ)). SetBy s bs u) (sym (no_stages w b.setup a.none h.setting)) (set_by s a.substances.0) in
    rw (is, k) (tells_set w b.setup b.year h none _ u g refl by)
tells_done w b c s h (described k a is) =
    let none = h.sound.year.none_before (stage.not_yet b.setup.outline a.left) in
    let g = rw is at (done_sound b c s h.sound (described k a is)) in
    let had = was_set w b.setup (stage_later b.setup.outline h.sound.setup.stages_later a.left) h.setting in
    rw (is, k) (tells_set w b.setup b.year h none _ _ g refl (set_next w.first s w.stages b.setup had h.sound.setup a))
tells_done w b c s h (posted z k o e is) =
    rw (is, k) (tells_many w b.setup b.year z (post_in (body_of s)) (count_of s) h e)

-- ---- a call, and a list of calls

pub tells_call : (w : Standing) (b c : Book) (call : Call) → Tells w b → answer_to b call ≡ Ok c → Tells (stand w call) c
unfolding single_on
tells_call w b c (post s) h e =
    let a = was_taken (post_on b.setup b.year s) (λ y. Ok (book_with b.setup y b.blocks)) c e in
    let is : c ≡ book_with b.setup a.0 b.blocks = cc in
    rw is (tells_post w b.setup b.year a.0 s h (posts.posted b.setup b.year a.0 s a.1))
tells_call w b c (block s) h e = tells_done w b c s h (block_done b c s e).1

-- every list keeps it
tells_all : (calls : List Call) (w : Standing) (b : Book) → Tells w b → Tells (stood w (accepted b calls)) (run b calls)
unfolding run accepted stood
tells_all [] w b h = h
tells_all (call ∷ calls) w b h =
    (elim (answer_to b call) as (λ a. answer_to b call ≡ a → Tells (stood w (keep (is_taken a) call (accepted (value_or b a) calls))) (run (value_or b a) calls)) [
      | Ok c ↦ λ e. tells_all calls (stand w call) c (tells_call w b c call h e)
      | Err n ↦ λ e. tells_all calls w b h
    ]) refl

-- for every list of calls from a fresh book
pub tells_run : (calls : List Call) → Tells (standing calls) (run fresh_book calls)
tells_run calls = tells_all calls nothing fresh_book tells_fresh
