-- Posts on a year: check by check, what one that is taken tells, and posts in turn. Assumes nothing.
use mathlib.Core.Path.{◌≡◌, refl, sym, ap, subst, ◌∙◌}
use mathlib.Core.Bool.{true, false}
use mathlib.Core.List.{List, [], ◌∷◌}
use Prim.Native.Nat.{ℕ, zero, suc, ◌+◌, ◌-◌, ◌*◌, ◌≤◌, ◌<◌}
use native.Mathlib.Decide.{ℕ_discrete}
use native.Mathlib.Numerals.{add-one}
use native.Mathlib.Omega.{arith}
use borrow.Author.Tests.{not-true}
use lib.ListN.{take, drop}
use Rattle.std.specs.Prelude.{Ok, Err}
use Rattle.amounts.specs.Decline.{Answer, check, checked, on_taken, value_or, verdict_of}
use Rattle.amounts.specs.declared.decline.Decline.TheVariants.{Full, Short}
use Rattle.amounts.specs.declared.decline.Decline.{Decline}
use Rattle.layout.specs.Outline.{may_post}
use Rattle.layout.specs.Posts.{post_in, own_checks}
use Rattle.plant.specs.declared.setup.Setup.{Setup}
use Rattle.amounts.proofs.decline.Laws.{was_taken, was_err, was_ok, passed, passed_then, accepts, declines}
use Rattle.layout.proofs.posts.Laws.{Owned, owned}
use Rattle.post.specs.Moves.{move_at}
use Rattle.post.specs.declared.moves.Move.{Move}
use Rattle.post.proofs.moves.Laws.{move_fits}
use Rattle.post.specs.Admission.{turn_checks, has_room, admitted}
use Rattle.book.specs.Entry.{is_there, year_after}
use Rattle.book.specs.Posts.{entered, post_on, taken_to, posts_on, single_on}
use Rattle.book.specs.Site.{Book, Sound, SoundYear, book_with}
use Rattle.book.specs.Steps.{Room}
use Rattle.plant.specs.Setup.{SoundSetup}
use Rattle.book.specs.declared.site.Year.{Year}
use Rattle.book.proofs.entry.Laws.{Step, stepped, room_of}

-- ---- a post, 4 to 10 and then 11

module _ (u : Setup) (y : Year) (s : List ℕ) where
  abbrev asks : Answer Move
  asks = admitted u.outline u.numbers y.closed y.posts s

  -- a post that isn't admitted is declined
  pub not_admitted : (n : Decline) → asks ≡ Err n → post_on u y s ≡ Err n
  unfolding post_on
  not_admitted n e = ap (λ (x : Answer Move). on_taken x (entered u y)) e

  -- what is known of a move that is admitted
  pub record Admitted (m : Move) : Type 0 where
    pub in_turn : may_post u.outline ≡ true
    pub is_open : y.closed ≡ false
    pub told : move_at u.outline u.numbers s ≡ Ok m
    pub room : has_room y.posts m ≡ true

  pub admits : (m : Move) → asks ≡ Ok m → Admitted m
  unfolding admitted
  admits m e =
      let a = passed_then (turn_checks u.outline y.closed) s _ m e in
      let c = was_taken (move_at u.outline u.numbers s) _ m a.1 in
      let d = passed (check (has_room y.posts c.0) Full ∷ []) c.0 m c.2 in
      record {
        in_turn = a.0.0;
        is_open = not-true y.closed a.0.1.0;
        told = c.1 ∙ ap Ok (sym d.1);
        room = ap (has_room y.posts) d.1 ∙ d.0.0;
      }

-- ---- what a post that is taken tells

pub record Posted (u : Setup) (y : Year) (s : List ℕ) (z : Year) : Type 0 where
  pub move : Move
  pub admitted : Admitted u y s move
  pub there : is_there y.store y.sums move ≡ true
  pub year : z ≡ year_after u y move

pub posted : (u : Setup) (y z : Year) (s : List ℕ) → post_on u y s ≡ Ok z → Posted u y s z
unfolding post_on entered
posted u y z s e =
    let a = was_taken (admitted u.outline u.numbers y.closed y.posts s) (entered u y) z e in
    let d = passed (check (is_there y.store y.sums a.0) Short ∷ []) (year_after u y a.0) z a.2 in
    record { move = a.0; admitted = admits u y s a.0 a.1; there = d.0.0; year = d.1 }

-- the year after it
pub post_step : (u : Setup) (y z : Year) (s : List ℕ) → SoundSetup u → SoundYear u y → (p : Posted u y s z) → Step u y p.move z
post_step u y z s su h p =
    let a = p.admitted in
    subst (λ (x : Year). Step u y p.move x) (sym p.year)
    (stepped u y p.move su h a.in_turn a.is_open (move_fits u.outline u.numbers s p.move a.told) a.room p.there)

-- a move that is admitted has room
pub room_admitted : (u : Setup) (y : Year) (s : List ℕ) (m : Move) → SoundSetup u → SoundYear u y → Ok m ≡ admitted u.outline u.numbers y.closed y.posts s → Room u y m
room_admitted u y s m su h e =
    let a = admits u y s m (sym e) in
    room_of u y su h m (move_fits u.outline u.numbers s m a.told) a.is_open

-- a post of any bytes leaves a sound year
pub post_sound : (u : Setup) (y : Year) (s : List ℕ) → SoundSetup u → SoundYear u y → SoundYear u (value_or y (post_on u y s))
post_sound u y s su h = go (post_on u y s) refl
  where
    go : (x : Answer Year) → post_on u y s ≡ x → SoundYear u (value_or y x)
    go (Ok z) e = (post_step u y z s su h (posted u y z s e)).sound
    go (Err n) e = h

-- ---- posts in turn

module _ (u : Setup) (y : Year) (posts : ℕ → List ℕ) where
  pub none_yet : taken_to u y posts 0 ≡ Ok y
  unfolding taken_to
  none_yet = refl

  pub taken_suc : (i : ℕ) → taken_to u y posts (suc i) ≡ on_taken (taken_to u y posts i) (λ z. post_on u z (posts i))
  unfolding taken_to
  taken_suc i = refl

  -- one post more
  pub taken_next : (i : ℕ) (z : Year) → taken_to u y posts i ≡ Ok z → taken_to u y posts (i + 1) ≡ post_on u z (posts i)
  taken_next i z e = ap (taken_to u y posts) (add-one i) ∙ taken_suc i ∙ ap (λ (x : Answer Year). on_taken x (λ d. post_on u d (posts i))) e

  -- a decline stands, whatever posts follow
  pub stays_declined : (i m : ℕ) (n : Decline) → taken_to u y posts i ≡ Err n → i ≤ m → taken_to u y posts m ≡ Err n
  stays_declined i zero n e h = let q : 0 ≡ i = omega arith in ap (taken_to u y posts) q ∙ e
  stays_declined i (suc m) n e h = go (ℕ_discrete i (suc m)) (stays_declined i m n e)
    where
      go : Dec (i ≡ suc m) → (i ≤ m → taken_to u y posts m ≡ Err n) → taken_to u y posts (suc m) ≡ Err n
      go (yes q) before = ap (taken_to u y posts) (sym q) ∙ e
      go (no d) before = taken_suc m ∙ ap (λ (x : Answer Year). on_taken x (λ z. post_on u z (posts m))) (before (omega arith))

-- posts that are taken keep a year sound
pub many_sound : (u : Setup) (y z : Year) (posts : ℕ → List ℕ) (n : ℕ) → SoundSetup u → SoundYear u y → taken_to u y posts n ≡ Ok z → SoundYear u z
many_sound u y z posts zero su h e = let q : y ≡ z = cc (none_yet u y posts) in subst (SoundYear u) q h
many_sound u y z posts (suc n) su h e =
    let a = was_taken (taken_to u y posts n) (λ d. post_on u d (posts n)) z (sym (taken_suc u y posts n) ∙ e) in
    (post_step u a.0 z (posts n) su (many_sound u y a.0 posts n su h a.1) (posted u a.0 z (posts n) a.2)).sound

-- ---- single posts and blocks of them

-- a post of any bytes leaves a sound book
pub sound_posted : (u : Setup) (y z : Year) (n : ℕ) (s : List ℕ) → Sound (book_with u y n) → z ≡ value_or y (post_on u y s) → Sound (book_with u z n)
sound_posted u y z n s h e = record { setup = h.setup; year = rw e (post_sound u y s h.setup h.year); blocks_few = h.blocks_few }

-- a single post by its year
module _ (b : Book) (s : List ℕ) where
  pub single_verdict : verdict_of (single_on b s) ≡ verdict_of (post_on b.setup b.year s)
  unfolding single_on
  single_verdict = grind arith

  pub single_value : value_or b (single_on b s) ≡ book_with b.setup (value_or b.year (post_on b.setup b.year s)) b.blocks
  unfolding single_on
  single_value = grind arith

  -- a post that isn't admitted is declined, and a move that is admitted is entered
  pub single_declined : (n : Decline) → Err n ≡ asks b.setup b.year s → single_on b s ≡ Err n
  unfolding single_on
  single_declined n e = ap (λ (x : Answer Year). on_taken x (λ z. Ok (book_with b.setup z b.blocks))) (not_admitted b.setup b.year s n (sym e))

  module _ (m : Move) (admits : Ok m ≡ asks b.setup b.year s) where
    entered_is : post_on b.setup b.year s ≡ entered b.setup b.year m
    unfolding post_on
    entered_is = rw (← admits)

    pub entered_as : (r : Answer Unit) → r ≡ verdict_of (entered b.setup b.year m) → r ≡ verdict_of (single_on b s)
    entered_as r e = rw (single_verdict, entered_is) e

    pub entered_to : (y : Year) → y ≡ value_or b.year (entered b.setup b.year m) → y ≡ value_or b.year (post_on b.setup b.year s)
    entered_to y e = rw entered_is e

    pub entered_book : (y : Year) → y ≡ value_or b.year (entered b.setup b.year m) → book_with b.setup y b.blocks ≡ value_or b (single_on b s)
    entered_book y e = rw (single_value, entered_is, e) refl

-- a post on a book with the set-up of another
module _ (b c : Book) (same : c.setup ≡ b.setup) (s : List ℕ) where
  pub verdict_there : verdict_of (single_on c s) ≡ verdict_of (post_on b.setup c.year s)
  verdict_there = rw (single_verdict c s, same)

  pub book_there : (d : Book) → d ≡ value_or c (single_on c s) → d ≡ book_with b.setup (value_or c.year (post_on b.setup c.year s)) c.blocks
  book_there d e = rw (e, single_value c s, same)

module _ (u : Setup) (y : Year) (count : ℕ) (body : List ℕ) where
  abbrev pub own : Answer ℕ
  own = checked (own_checks u.outline y.closed count body) count

  pub own_taken : own ≡ Ok count → posts_on u y count body ≡ taken_to u y (post_in body) count
  unfolding posts_on
  own_taken e = rw e

  -- a block that its own bytes decline
  pub own_declined : (n : Decline) → Err n ≡ checked (own_checks u.outline y.closed count body) (tt {0}) → posts_on u y count body ≡ Err n
  unfolding posts_on
  own_declined n e = rw (declines (tt {0}) count (own_checks u.outline y.closed count body) n e)

  -- the same by the verdict of its own bytes
  module _ (t : Unit) (passes : Ok t ≡ checked (own_checks u.outline y.closed count body) (tt {0})) where
    told_taken : posts_on u y count body ≡ taken_to u y (post_in body) count
    told_taken = own_taken (accepts (tt {0}) count (own_checks u.outline y.closed count body) passes)

    pub own_within : Owned u.outline y.closed count body
    own_within = (owned u.outline y.closed count body (tt {0}) t (sym passes)).0

    -- all of them
    pub all_taken : (i : ℕ) (z : Year) → taken_to u y (post_in body) i ≡ Ok z → i ≤ count → count ≤ i → posts_on u y count body ≡ Ok z
    all_taken i z so_far h g = let q : count ≡ i = omega arith in told_taken ∙ ap (taken_to u y (post_in body)) q ∙ so_far

    -- the post at a place, of what the earlier ones left
    module _ (i : ℕ) (z : Year) (so_far : taken_to u y (post_in body) i ≡ Ok z) (more : i < count) where
      abbrev next : Answer Year
      next = post_on u z (take (i * 48 + 48 - i * 48) (drop (i * 48) body))

      next_is : taken_to u y (post_in body) (i + 1) ≡ next
      next_is =
          let e : i * 48 + 48 - i * 48 ≡ 48 = omega arith in
          taken_next u y (post_in body) i z so_far ∙ ap (λ (n : ℕ). post_on u z (take n (drop (i * 48) body))) (sym e)

      -- where it is declined, so is the block
      pub turn_declined : (n : Decline) → Err n ≡ verdict_of next → posts_on u y count body ≡ Err n
      turn_declined n e = told_taken ∙ stays_declined u y (post_in body) (i + 1) count n (next_is ∙ was_err next n e) (omega arith)

      -- where it is taken, the year after it follows
      pub turn_taken : (v : Unit) (w : Year) → Ok v ≡ verdict_of next → w ≡ value_or z next → taken_to u y (post_in body) (i + 1) ≡ Ok w
      turn_taken v w e f = next_is ∙ was_ok next z v w e f

  -- what a block of posts that is taken tells
  pub posts_taken_lem : (z : Year) → posts_on u y count body ≡ Ok z → Owned u.outline y.closed count body × (taken_to u y (post_in body) count ≡ Ok z)
  unfolding posts_on
  posts_taken_lem z e =
      let a = was_taken own (taken_to u y (post_in body)) z e in
      let o = owned u.outline y.closed count body count a.0 a.1 in
      (o.0, ap (taken_to u y (post_in body)) (sym o.1) ∙ a.2)
