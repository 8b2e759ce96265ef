-- The stock takers' sheet as the posts say it (document 02, (d)): "the book's store" of a material is what opening and bought posts brought of it, less what issued
-- posts took (document 01, "Posts"). All is read from bytes, and nothing from a book.
use Rattle.std.specs.Prelude.{ℕ, ◌-◌, ◌≤◌, ◌<◌, ◌≡◌, cond, List, eqb}
use Rattle.layout.specs.Frame.{body_of}
use Rattle.bodies.specs.Setup.{materials_in}
use Rattle.kinds.specs.declared.fields.Post.{Post}
use Rattle.book.specs.Site.{fresh_book}
use Rattle.stock.specs.Sheet.{stock_from, stock_of}
use Rattle.claims.specs.ByKind as kinds
use Rattle.claims.specs.ByKind.{Sort, sum_posts}
use Rattle.claims.specs.Standing.{Call, run, Standing, standing}

-- the book has the materials of the accepted kind 1 block, and none before it
abbrev pub materials_of : Standing → ℕ
materials_of w = materials_in (body_of w.first)

-- the grams of a post, where they are of the material
abbrev pub of_material : ℕ → Post → ℕ
of_material m p = cond (eqb p.material m) p.quantity 0

-- "1 opening, 2 bought: material, g. The store of that material grows."
abbrev pub received_as : ℕ → Sort → Post → ℕ
received_as m kinds.stock p = of_material m p
received_as m kinds.issued p = 0
received_as m kinds.formed p = 0
received_as m kinds.found p = 0
received_as m kinds.other p = 0

-- "3 issued: material, stage, g. The store falls"
abbrev pub issued_as : ℕ → Sort → Post → ℕ
issued_as m kinds.stock p = 0
issued_as m kinds.issued p = of_material m p
issued_as m kinds.formed p = 0
issued_as m kinds.found p = 0
issued_as m kinds.other p = 0

abbrev pub grams_received : Standing → ℕ → ℕ
grams_received w m = sum_posts (received_as m) w.posts

abbrev pub grams_issued : Standing → ℕ → ℕ
grams_issued w m = sum_posts (issued_as m) w.posts

abbrev pub store_of : Standing → ℕ → ℕ
store_of w m = grams_received w m - grams_issued w m

-- the sheet of a material: no more was issued than came, and each answer is the one that the posts give
pub record SheetSaid (calls : List Call) (m : ℕ) : Type 0 where
  pub covered : m < materials_of (standing calls) → grams_issued (standing calls) m ≤ grams_received (standing calls) m
  pub answers : (grams : ℕ) → stock_of (run fresh_book calls) m grams ≡ stock_from (materials_of (standing calls)) (store_of (standing calls)) m grams

-- for every list of calls given in turn to a fresh book, every material and every number of grams
abbrev pub StockByPosts : Type 0
StockByPosts = (calls : List Call) (m : ℕ) → SheetSaid calls m
