-- What keeps a book sound. Assumes nothing.
use mathlib.Core.Path.{◌≡◌, refl, sym, ◌∙◌}
use mathlib.Core.Bool.{Bool, false}
use mathlib.Core.List.{List}
use Prim.Native.Nat.{ℕ, ◌+◌, ◌*◌, ◌≤◌, ◌<◌}
use native.Mathlib.Nat.{zero-mul}
use native.Mathlib.Omega.{arith}
use lib.ListN.{get_or, replicate, length-replicate}
use Rattle.encoding.specs.Each.{sum_to}
use Rattle.plant.specs.declared.setup.Setup.{Setup}
use Rattle.encoding.proofs.Each.{sum_none}
use Rattle.plant.proofs.setup.Taken.{same_at, fresh_sound}
use Rattle.book.specs.Ledger.{total}
use Rattle.book.specs.Site.{Sound, SoundYear, fresh_book, stored_to, open_posts}
use Rattle.book.specs.declared.site.Year.{Year}
use Rattle.book.proofs.ledger.Laws.{spot, sum_at}

-- the close is one of a year's posts at most
pub open_posts_le : (closed : Bool) (posts : ℕ) → (open_posts closed posts ≤ posts) × (posts ≤ open_posts closed posts + 1)
open_posts_le closed posts = (grind arith, grind arith)

pub open_few : (u : Setup) (y : Year) → SoundYear u y → y.closed ≡ false → y.posts ≤ 4000
open_few u y h e = (rw e at h).posts_few

-- an empty store holds nothing, whatever the contents
pub stored_none : (store counted : List ℕ) (s : ℕ) → ((m : ℕ) → m < 12 → get_or store m 0 ≡ 0) → stored_to store counted s 12 ≡ 0
stored_none store counted s h =
    sum_none 12 (λ m. get_or store m 0 * get_or counted (m * 8 + s) 0) (λ m l. rw (h m l) (zero-mul (get_or counted (m * 8 + s) 0)))

pub total_none : (n s : ℕ) → total (replicate n 0) s ≡ 0
unfolding total
total_none n s =
    sum_none 8 (λ stage. sum_to 9 (λ account. sum_at (replicate n 0) account stage s))
    (λ stage h.
    sum_none 9 (λ account. sum_at (replicate n 0) account stage s) (λ account g. same_at {A = ℕ} n (spot account stage s) 0))

pub sound_fresh : Sound fresh_book
sound_fresh =
    record {
      setup = fresh_sound;
      year =
          record {
            store_long = length-replicate {A = ℕ} 12 0;
            sums_long = length-replicate {A = ℕ} 576 0;
            handled_long = length-replicate {A = ℕ} 8 0;
            posts_few = omega arith;
            none_before = λ e. refl;
            bounded = λ s h. omega (arith, total_none 576 s, stored_none (replicate 12 0) (replicate 96 0) s (λ m l. same_at {A = ℕ} 12 m 0));
            stores = λ m h. omega (arith, same_at {A = ℕ} 12 m 0);
            weighed = λ s h. same_at {A = ℕ} 8 s 0 ∙ sym (total_none 576 s);
          };
      blocks_few = omega arith;
    }

-- A set-up taken before any post: the bounds by the number of posts say that nothing is in store or in the ledger yet.
pub sound_before : (u v : Setup) (y : Year) → SoundYear u y → y.posts ≡ 0 → SoundYear v y
sound_before u v y h none =
    record {
      store_long = h.store_long;
      sums_long = h.sums_long;
      handled_long = h.handled_long;
      posts_few = h.posts_few;
      none_before = λ e. none;
      bounded = λ s l. omega (arith, h.bounded s l, nothing, stored_none y.store v.counted s empty);
      stores = h.stores;
      weighed = h.weighed;
    }
  where
    nothing : open_posts y.closed y.posts ≡ 0
    nothing = omega (arith, open_posts_le y.closed y.posts)

    empty : (m : ℕ) → m < 12 → get_or y.store m 0 ≡ 0
    empty m l = omega (arith, h.stores m l, nothing)
