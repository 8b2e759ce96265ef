-- The stock takers' sheet (document 02, (d)): "They count a material and want the difference from the book's store in grams".
use Rattle.std.specs.Prelude.{ℕ, ◌-◌, ◌*◌, ◌^◌, ◌≡◌, Bool, cond, ◌&&◌, [], ◌∷◌, leb, ltb, ℤ, pos, neg_ℤ, ◌+ℤ◌, get_or, ◌≤ℤ◌, Ok}
use Rattle.amounts.specs.Decline.{Answer, check, checked}
use Rattle.amounts.specs.declared.decline.Decline.TheVariants.{StockCount}
use Rattle.book.specs.Site.{Book, Sound}

-- ---- the difference

abbrev pub plus : ℕ → ℤ
plus n = pos n

abbrev pub minus : ℕ → ℤ
minus n = neg_ℤ (pos n)

abbrev pub nought : ℤ
nought = pos 0

-- "plus where more was counted, minus where less, nought where equal", of the grams counted and a store
unfoldable pub difference : ℕ → ℕ → ℤ
difference grams store = cond (ltb store grams) (plus (grams - store)) (cond (ltb grams store) (minus (store - grams)) nought)

-- ---- the call

-- "8×10^12 g"
abbrev pub most : ℕ
most = 8 * 10 ^ 12

-- that it is not so: "the counted grams exceed 8×10^12 or the material isn't in the book". A book has its materials from the kind 1 block on.
abbrev pub may_count : ℕ → ℕ → ℕ → Bool
may_count materials material grams = leb grams most && ltb material materials

-- by how many materials a book has and its store of each: 14 is "the only one for this call"
unfoldable pub stock_from : ℕ → (ℕ → ℕ) → ℕ → ℕ → Answer ℤ
unfolding checked difference
stock_from materials store_of material grams =
    checked (check (may_count materials material grams) StockCount ∷ []) (difference grams (store_of material))

abbrev pub store_in : Book → ℕ → ℕ
store_in b material = get_or b.year.store material 0

unfoldable pub stock_of : Book → ℕ → ℕ → Answer ℤ
unfolding stock_from
stock_of b material grams = stock_from b.setup.outline.materials (store_in b) material grams

-- ---- laws

-- store plus difference is what was counted
abbrev pub StoreAndDifference : Type 0
StoreAndDifference = (grams store : ℕ) → pos store +ℤ difference grams store ≡ pos grams

-- "exact up to 8×10^12 g either way"
pub record EitherWay (d : ℤ) : Type 0 where
  pub lower : minus most ≤ℤ d
  pub upper : d ≤ℤ plus most

abbrev pub AnswersWithin : Type 0
AnswersWithin = (b : Book) (material grams : ℕ) (d : ℤ) → Sound b → stock_of b material grams ≡ Ok d → EitherWay d
