-- The sheet of a book is the one that the accepted posts give. Assumes nothing.
use mathlib.Core.Path.{◌≡◌}
use Prim.Native.Nat.{ℕ, ◌+◌, ◌<◌}
use native.Mathlib.Omega.{arith}
use lib.ListN.{get_or}
use Rattle.book.specs.Site.{Book, fresh_book}
use Rattle.stock.proofs.sheet.Laws.{same_sheet}
use Rattle.claims.specs.Stock.{materials_of, received_as, issued_as, grams_received, grams_issued, store_of, StockByPosts}
use Rattle.claims.specs.Standing.{Standing, standing, run, numbers_of}
use Rattle.claims.proofs.ByKind.{of_posts_lem}
use Rattle.claims.proofs.Stores.{comes, goes}
use Rattle.claims.proofs.Tells.{Tells, tells_run, materials_are}

module _ (w : Standing) (b : Book) (h : Tells w b) (m : ℕ) (known : m < materials_of w) where
  -- the store and what was issued are what came
  store_is : get_or b.year.store m 0 + grams_issued w m ≡ grams_received w m
  store_is =
      let few = h.sound.setup.materials_few in
      let row : m < 12 = omega (arith, materials_are w b h) in
      omega (
        arith,
        h.store m row,
        of_posts_lem (comes m) (received_as m) (search) (numbers_of w) w.posts h.read,
        of_posts_lem (goes m) (issued_as m) (search) (numbers_of w) w.posts h.read,
      )

-- the claim about every list of calls
pub stock_by_posts : StockByPosts
stock_by_posts calls m =
    let w : Standing = standing calls in
    let b = run fresh_book calls in
    let h = tells_run calls in
    record {
      covered = λ l. omega (arith, store_is w b h m l);
      answers = λ grams. same_sheet b (materials_of w) (store_of w) m grams (materials_are w b h) (λ l. omega (arith, store_is w b h m l));
    }
