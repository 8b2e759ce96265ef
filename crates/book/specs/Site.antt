-- The fresh book, what a book holds of a substance, and what is true of every book.
use Rattle.std.specs.Prelude.{ℕ, ◌+◌, ◌-◌, ◌*◌, ◌^◌, ◌≤◌, ◌<◌, ◌≡◌, Bool, true, false, List, length, get_or, replicate}
use Rattle.encoding.specs.Each.{sum_to}
use Rattle.layout.specs.Outline.{may_post}
use Rattle.plant.specs.Setup.{fresh_setup, SoundSetup}
use Rattle.plant.specs.declared.setup.Setup.{Setup}
use Rattle.book.specs.Ledger.{brings, total}
use Rattle.book.specs.declared.site.Year.{Year}

-- what a book is: its set-up, its year, which posts change, and its count of blocks
pub record Book : Type 0 where
  pub setup : Setup
  pub year : Year
  pub blocks : ℕ

abbrev pub fresh_year : Year
fresh_year = record { store = replicate 12 0; sums = replicate 576 0; handled = replicate 8 0; posts = 0; closed = false }

abbrev pub book_with : Setup → Year → ℕ → Book
book_with setup year blocks = record { setup = setup; year = year; blocks = blocks }

-- "a fresh book, which is as made: no set-up, no substance, no post, block number 0"
abbrev pub fresh_book : Book
fresh_book = book_with fresh_setup fresh_year 0

-- "store grams times counted content", over the first k materials
abbrev pub stored_to : List ℕ → List ℕ → ℕ → ℕ → ℕ
stored_to store counted s k = sum_to k (λ m. brings counted m (get_or store m 0) s)

abbrev pub stored : Setup → Year → ℕ → ℕ
stored u y s = stored_to y.store u.counted s 12

-- what a year holds of a substance, in store and out of it
abbrev pub in_year : Setup → Year → ℕ → ℕ
in_year u y s = total y.sums s + stored u y s

-- of a year's posts those before its close, which is the last and brings nothing in
abbrev pub open_posts : Bool → ℕ → ℕ
open_posts true posts = posts - 1
open_posts false posts = posts

-- A post before the close brings in at most 2×10^9 g of a material and 2×10^15 micrograms of a substance, and there are at most 4,000: no sum can pass 64 bits.
pub record SoundYear (u : Setup) (y : Year) : Type 0 where
  pub store_long : length y.store ≡ 12
  pub sums_long : length y.sums ≡ 576
  pub handled_long : length y.handled ≡ 8
  pub posts_few : open_posts y.closed y.posts ≤ 4000
  pub none_before : may_post u.outline ≡ false → y.posts ≡ 0
  pub bounded : (s : ℕ) → s < 8 → in_year u y s ≤ 2 * 10 ^ 15 * open_posts y.closed y.posts
  pub stores : (m : ℕ) → m < 12 → get_or y.store m 0 ≤ 2 * 10 ^ 9 * open_posts y.closed y.posts
  -- what was handled is what the ledger holds: the one is added up as it comes in, the other is where it went
  pub weighed : (s : ℕ) → s < 8 → get_or y.handled s 0 ≡ total y.sums s

-- a block number has 16 bits, so that after 65,536 blocks none is the next
pub record Sound (b : Book) : Type 0 where
  pub setup : SoundSetup b.setup
  pub year : SoundYear b.setup b.year
  pub blocks_few : b.blocks ≤ 65536
