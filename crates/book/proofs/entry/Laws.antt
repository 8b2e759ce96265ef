-- What a move has room for, and what it does to a year: the year stays sound, and what it holds and has handled grows by what the move brings. Assumes nothing.
use mathlib.Core.Path.{◌≡◌, refl, sym, ap, ◌∙◌}
use mathlib.Core.Bool.{Bool, true, false, true≢false, cond, ◌||◌}
use mathlib.Core.List.{List}
use Prim.Native.Nat.{ℕ, ◌+◌, ◌-◌, ◌*◌, ◌^◌, ◌≤◌, ◌<◌}
use native.Mathlib.Nat.{add-mul, mul-le-mul}
use native.Mathlib.Omega.{arith}
use borrow.Author.Tests.{leb-true}
use lib.Dec.{eqb, ltb}
use lib.ListN.{length, get_or, set}
use lib.Seq.{get_or-set_same, get_or-set_other}
use Rattle.std.proofs.lemmas.Bool.Decides.{nat_tests}
use Rattle.std.proofs.lemmas.Grind.{common_steps}
use Rattle.layout.specs.Outline.{may_post}
use Rattle.layout.specs.declared.outline.Outline.{Outline}
use Rattle.plant.specs.declared.setup.Setup.{Setup}
use Rattle.encoding.proofs.Each.{sum_point}
use Rattle.kinds.specs.Account.{place}
use Rattle.kinds.specs.declared.account.Account.{Account}
use Rattle.kinds.specs.declared.account.Account.TheVariants.{Held}
use Rattle.kinds.proofs.account.Laws.{place_few}
use Rattle.post.specs.Admission.{has_room}
use Rattle.post.specs.Moves.{closes}
use Rattle.post.specs.Steps.{Fits}
use Rattle.post.specs.declared.moves.Move.{Move}
use Rattle.post.specs.declared.moves.Move.TheVariants.{Received, Issued, Brought, Gone, Close}
use Rattle.book.specs.Entry.{is_there, store_after, sums_after, handled_after, year_after, enters, handles}
use Rattle.book.specs.Ledger.{cell_of, cell, total, added, brings}
use Rattle.book.specs.Site.{SoundYear, stored_to, in_year, open_posts}
use Rattle.plant.specs.Setup.{SoundSetup}
use Rattle.book.specs.Steps.{widest, Room}
use Rattle.book.specs.declared.site.Year.{Year}
use Rattle.book.proofs.site.Laws.{open_posts_le, open_few}
use Rattle.book.proofs.ledger.Laws.{total_set, total_other, cell_le, length_moved, total_moved, grown_le, length-settled, total_settled, length-raised, handled_raised, total_raised}

-- ---- what a move has room for

-- what grams of a material bring is at most 2×10^15 micrograms
pub brings_small : (counted : List ℕ) (m g s : ℕ) → ((i : ℕ) → get_or counted i 0 ≤ 1000000) → g ≤ 2000000000 → brings counted m g s ≤ 2 * 10 ^ 15
brings_small counted m g s few hg = mul-le-mul {m₂ = 1000000} hg (few (m * 8 + s))

module _ (u : Setup) (y : Year) where
  pub cell_few : (a : Account) (stage s : ℕ) {m : Move} → Room u y m → stage < 8 → s < 8 → cell y.sums a stage s ≤ 2 * 10 ^ 15 * 4000
  cell_few a stage s r hst hs = omega (arith, r.totals s hs, cell_le y.sums (place a) stage s (place_few a) hst)

  pub room_issued : (m stage g : ℕ) → Room u y (Issued m stage g)
      → ((m < 12) × (stage < 8))
      × (((s : ℕ) → s < 8 → cell y.sums Held stage s + brings u.counted m g s < 2 ^ 64)
      × ((s : ℕ) → s < 8 → get_or y.handled s 0 + brings u.counted m g s < 2 ^ 64))
  room_issued m stage g r =
      let f = r.fits in (
        (f.0, f.1.0),
        (
          λ s hs. omega (arith, cell_few Held stage s r f.1.0 hs, brings_small u.counted m g s r.counted_small f.1.1),
          λ s hs. omega (arith, r.handled_few s hs, brings_small u.counted m g s r.counted_small f.1.1),
        ),
      )

  pub room_brought : (a : Account) (stage s n : ℕ) → Room u y (Brought a stage s n) → (cell y.sums a stage s + n < 2 ^ 64) × (get_or y.handled s 0 + n < 2 ^ 64)
  room_brought a stage s n r =
      let f = r.fits in (
        omega (arith, cell_few a stage s r f.0 f.1.0, f.1.1),
        omega (arith, r.handled_few s f.1.0, f.1.1),
      )

  pub room_gone : (a : Account) (stage s n : ℕ) → Room u y (Gone a stage s n) → n ≤ cell y.sums Held stage s
      → get_or (set y.sums (cell_of Held stage s) (cell y.sums Held stage s - n)) (cell_of a stage s) 0 + n < 2 ^ 64
  room_gone a stage s n r have =
      let f = r.fits in
      omega (arith, grown_le y.sums (place a) stage s n (place_few a) f.0 f.1.0 r.sums_long have, r.totals s f.1.0)

-- ---- the room of a sound year

fits_widest : (o : Outline) (m : Move) → o.substances ≤ 8 → o.materials ≤ 12 → o.stages ≤ 8 → Fits o m → Fits widest m
fits_widest o (Received m g) hs hm hst f = (omega (arith, f.0), f.1)
fits_widest o (Issued m stage g) hs hm hst f = (omega (arith, f.0), (omega (arith, f.1.0), f.1.1))
fits_widest o (Brought a stage s n) hs hm hst f = (omega (arith, f.0), (omega (arith, f.1.0), f.1.1))
fits_widest o (Gone a stage s n) hs hm hst f = (omega (arith, f.0), (omega (arith, f.1.0), f.1.1))
fits_widest o Close hs hm hst f = tt

module _ (u : Setup) (y : Year) (su : SoundSetup u) (h : SoundYear u y) where
  pub total_few : (s : ℕ) → s < 8 → total y.sums s ≤ 2 * 10 ^ 15 * open_posts y.closed y.posts
  total_few s hs = omega (arith, h.bounded s hs)

  pub room_of : (m : Move) → Fits u.outline m → y.closed ≡ false → Room u y m
  room_of m f is_open =
      let few = h.posts_few in
      record {
        fits = fits_widest u.outline m su.substances_few su.materials_few su.stages_few f;
        counted_small = su.counted_small;
        stores = λ i hi. omega (arith, few, h.stores i hi);
        sums_long = h.sums_long;
        totals = λ s hs. omega (arith, few, total_few s hs);
        handled_few = λ s hs. omega (arith, few, total_few s hs, h.weighed s hs);
        posts_few = open_few u y h is_open;
      }

-- ---- the store

-- what grams of a material bring adds up
brings_add : (counted : List ℕ) (m g h s : ℕ) → brings counted m (g + h) s ≡ brings counted m g s + brings counted m h s
brings_add counted m g h s = add-mul g h (get_or counted (m * 8 + s) 0)

module _ (store counted : List ℕ) (m s : ℕ) (hm : m < 12) (long : length store ≡ 12) where
  stored_set : (v : ℕ) → stored_to (set store m v) counted s 12 + brings counted m (get_or store m 0) s ≡ stored_to store counted s 12 + brings counted m v s
  stored_set v =
      sum_point 12 m (λ i. brings counted i (get_or (set store m v) i 0) s) (λ i. brings counted i (get_or store i 0) s) hm
      (λ i hi ne. ap (λ (x : ℕ). brings counted i x s) (get_or-set_other store m i v 0 ne))
      ∙ ap (λ (x : ℕ). stored_to store counted s 12 + brings counted m x s) (get_or-set_same store m v 0 (omega arith))

  -- what is received comes to the store
  stored_more : (g : ℕ) → stored_to (set store m (get_or store m 0 + g)) counted s 12 ≡ stored_to store counted s 12 + brings counted m g s
  stored_more g = omega (arith, stored_set (get_or store m 0 + g), brings_add counted m (get_or store m 0) g s)

  -- and what is issued leaves it
  stored_less : (g : ℕ) → g ≤ get_or store m 0 → stored_to (set store m (get_or store m 0 - g)) counted s 12 + brings counted m g s ≡ stored_to store counted s 12
  stored_less g have =
      let e : get_or store m 0 - g + g ≡ get_or store m 0 = omega arith in
      omega (arith, stored_set (get_or store m 0 - g), brings_add counted m (get_or store m 0 - g) g s, ap (λ (x : ℕ). brings counted m x s) e)

-- each number of a list is within a bound
abbrev Within : ℕ → List ℕ → Type 0
Within most l = (j : ℕ) → j < length l → get_or l j 0 ≤ most

-- and with one place changed still
bounded_set : (l : List ℕ) (i v most : ℕ) → i < length l → Within most l → v ≤ most → (j : ℕ) → j < length l → get_or (set l i v) j 0 ≤ most
bounded_set l i v most hi h hv j hj = grind (arith, common_steps, h j hj)

-- ---- what comes to a sum

-- an amount added at a place of a list
added_at : (l : List ℕ) (t n s : ℕ) → t < length l → get_or (added l t n) s 0 ≡ get_or l s 0 + cond (eqb t s) n 0
added_at l t n s h = grind (arith, nat_tests, common_steps)

-- one added to a cell is added to its substance's total
total_added : (l : List ℕ) (a : Account) (stage t n s : ℕ) → stage < 8 → t < 8 → length l ≡ 576 → s < 8 → total (added l (cell_of a stage t) n) s ≡ total l s + cond (eqb t s) n 0
total_added l a stage t n s hst ht long hs =
    let v = cell l a stage t + n in
    grind (arith, nat_tests, total_set l (place a) stage t v (place_few a) hst ht long, total_other l (place a) stage t v s ht hs)

some_or_none : (t : Bool) (n most : ℕ) → n ≤ most → cond t n 0 ≤ most
some_or_none t n most h = grind arith

-- ---- the step

-- what a move does to a year
pub record Step (u : Setup) (y : Year) (m : Move) (z : Year) : Type 0 where
  pub sound : SoundYear u z
  pub one_more : z.posts ≡ y.posts + 1
  pub entered : (s : ℕ) → s < 8 → in_year u z s ≡ in_year u y s + enters u.counted s m
  pub handled : (s : ℕ) → s < 8 → get_or z.handled s 0 ≡ get_or y.handled s 0 + handles u.counted s m

-- the lists that a move leaves, by what it brings in and what it has handled
record Leaves (u : Setup) (y : Year) (m : Move) : Type 0 where
  store_long : length (store_after y.store m) ≡ 12
  sums_long : length (sums_after u.counted u.pairs y.sums m) ≡ 576
  handled_long : length (handled_after u.counted y.handled m) ≡ 8
  totals : (s : ℕ) → s < 8 → total (sums_after u.counted u.pairs y.sums m) s ≡ total y.sums s + handles u.counted s m
  counts : (s : ℕ) → s < 8 → get_or (handled_after u.counted y.handled m) s 0 ≡ get_or y.handled s 0 + handles u.counted s m
  stored : (s : ℕ) → s < 8 → stored_to (store_after y.store m) u.counted s 12 + handles u.counted s m ≡ stored_to y.store u.counted s 12 + enters u.counted s m
  few : (s : ℕ) → s < 8 → 2 * 10 ^ 15 * y.posts + enters u.counted s m ≤ 2 * 10 ^ 15 * open_posts (closes m) (y.posts + 1)
  stores : (i : ℕ) → i < 12 → get_or (store_after y.store m) i 0 ≤ 2 * 10 ^ 9 * open_posts (closes m) (y.posts + 1)

module _ (u : Setup) (y : Year) (h : SoundYear u y) where
  -- the store as it was is within the bound of one post more, and of a close
  stores_same : (i : ℕ) → i < 12 → get_or y.store i 0 ≤ 2 * 10 ^ 9 * y.posts
  stores_same i hi = omega (arith, h.stores i hi, open_posts_le y.closed y.posts)

  stores_set : (m v : ℕ) → m < 12 → v ≤ 2 * 10 ^ 9 * (y.posts + 1) → (j : ℕ) → j < 12 → get_or (set y.store m v) j 0 ≤ 2 * 10 ^ 9 * (y.posts + 1)
  stores_set m v hm hv j hj =
      let long = h.store_long in
      bounded_set y.store m v (2 * 10 ^ 9 * (y.posts + 1)) (omega arith) (λ i hi. omega (arith, stores_same i (omega arith))) hv j (omega arith)

  abbrev counted : List ℕ
  counted = u.counted

  totals_after : (m : Move) → Room u y m → is_there y.store y.sums m ≡ true → (s : ℕ) → s < 8 → total (sums_after counted u.pairs y.sums m) s ≡ total y.sums s + handles counted s m
  totals_after (Received m g) r t s hs = omega arith
  totals_after (Issued m stage g) r t s hs = total_raised (brings counted m g) y.sums stage r.fits.1.0 h.sums_long s hs
  totals_after (Brought a stage t n) r q s hs = total_added y.sums a stage t n s r.fits.0 r.fits.1.0 h.sums_long hs
  totals_after (Gone a stage t n) r q s hs =
      omega (arith, total_moved y.sums (place a) stage t n (place_few a) r.fits.0 r.fits.1.0 h.sums_long (leb-true n (cell y.sums Held stage t) q) s hs)
  totals_after Close r q s hs = omega (arith, total_settled y.sums u.pairs 64 s (omega arith) hs h.sums_long)

  leaves : (m : Move) → Room u y m → is_there y.store y.sums m ≡ true → Leaves u y m
  leaves m r t =
      record {
        store_long = grind (arith, common_steps, h.store_long);
        sums_long = grind (arith, common_steps, h.sums_long, length-raised, length_moved, length-settled);
        handled_long = grind (arith, common_steps, h.handled_long, length-raised);
        totals = totals_after m r t;
        counts = λ s hs. grind (arith, h.handled_long, handled_raised, added_at);
        stored = λ s hs. grind (arith, nat_tests, h.store_long, stored_more, stored_less);
        few = λ s hs. grind (arith, brings_small, some_or_none, r.counted_small);
        stores = λ i hi. grind (arith, stores_same, stores_set);
      }

-- a close and a post that finds room by the count leave at most 4,000 before the close
still_few : (close : Bool) (posts : ℕ) → close || ltb posts 4000 ≡ true → posts ≤ 4000 → open_posts close (posts + 1) ≤ 4000
still_few close posts h few = grind (arith, nat_tests)

pub stepped : (u : Setup) (y : Year) (m : Move) → SoundSetup u → SoundYear u y → may_post u.outline ≡ true → y.closed ≡ false → Fits u.outline m
    → has_room y.posts m ≡ true → is_there y.store y.sums m ≡ true → Step u y m (year_after u y m)
stepped u y m su h turn is_open fit room there =
    let w = leaves u y h m (room_of u y su h m fit is_open) there in
    record {
      sound =
          record {
            store_long = w.store_long;
            sums_long = w.sums_long;
            handled_long = w.handled_long;
            posts_few = still_few (closes m) y.posts room (open_few u y h is_open);
            none_before = λ e. absurd (true≢false (sym turn ∙ e));
            bounded = λ s hs. omega (arith, w.totals s hs, w.stored s hs, w.few s hs, h.bounded s hs, open_posts_le y.closed y.posts);
            stores = w.stores;
            weighed = λ s hs. omega (arith, w.totals s hs, w.counts s hs, h.weighed s hs);
          };
      one_more = refl;
      entered = λ s hs. omega (arith, w.totals s hs, w.stored s hs);
      handled = w.counts;
    }
