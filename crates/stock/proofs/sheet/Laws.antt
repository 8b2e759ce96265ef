-- What the sheet's difference is: against the store, and how large it gets. Assumes nothing.
use Rattle.std.proofs.Common.{◌≡◌, ℕ, ◌≤◌, ◌<◌, arith}
use Rattle.std.proofs.lemmas.Bool.Decides.{nat_tests}
use Rattle.std.proofs.lemmas.Int.{ints}
use Rattle.amounts.specs.Decline.{checked}
use Rattle.book.specs.Site.{Book, Sound}
use Rattle.stock.specs.Sheet.{difference, most, stock_from, store_in, stock_of, StoreAndDifference, EitherWay, AnswersWithin}

-- ---- against the store

pub store_and_difference : StoreAndDifference
unfolding difference
store_and_difference grams store = grind (arith, nat_tests, ints)

-- ---- how large

-- what is between two numbers is at most as large as the larger
difference_small : (grams store : ℕ) → grams ≤ most → store ≤ most → EitherWay (difference grams store)
unfolding difference
difference_small grams store h k = record { lower = grind (arith, nat_tests, ints); upper = grind (arith, nat_tests, ints) }

-- ---- a book's answer

-- no store of a sound book is larger than a count may be
store_small : (b : Book) (material : ℕ) → Sound b → material < b.setup.outline.materials → store_in b material ≤ most
store_small b material h l = omega (arith, h.setup.materials_few, h.year.posts_few, h.year.stores material)

-- every answer is from −8×10^12 to 8×10^12
pub answers_within : AnswersWithin
unfolding stock_of stock_from checked
answers_within b material grams d h e =
    let within = difference_small grams (store_in b material) in
    let small = store_small b material h in
    grind (arith, nat_tests)

-- a book's answer by its number of materials and, where the material is one of them, its store
pub same_sheet : (b : Book) (materials : ℕ) (store_of : ℕ → ℕ) (material grams : ℕ) → b.setup.outline.materials ≡ materials
    → (material < materials → store_in b material ≡ store_of material) → stock_of b material grams ≡ stock_from materials store_of material grams
unfolding stock_of stock_from checked
same_sheet b materials store_of material grams e f = grind (arith, nat_tests)
