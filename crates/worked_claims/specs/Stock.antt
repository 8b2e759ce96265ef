-- Counts on the worked book, in which 1,000 g were bought and 100 g issued of its one material, and on a book that no call makes (document 02, (d)).
use Rattle.std.specs.Prelude.{◌+◌, ◌≡◌, false, ◌∷◌, replicate, Ok, Err}
use Rattle.amounts.specs.declared.decline.Decline.TheVariants.{StockCount}
use Rattle.plant.specs.Setup.{fresh_setup}
use Rattle.plant.specs.declared.setup.Setup.{Setup}
use Rattle.book.specs.Site.{Book, book_with}
use Rattle.stock.specs.Sheet.{plus, minus, nought, most, stock_of, EitherWay}
use Rattle.worked_claims.specs.Reread.{book_met}

-- 900 g are in store: as many, one more, one less, and none; a gram too many; and a second material
abbrev pub SheetOfMet : Type 0
SheetOfMet =
    (stock_of book_met 0 900 ≡ Ok nought)
    × (stock_of book_met 0 901 ≡ Ok (plus 1))
    × (stock_of book_met 0 899 ≡ Ok (minus 1))
    × (stock_of book_met 0 0 ≡ Ok (minus 900))
    × (stock_of book_met 0 most ≡ Ok (plus 7999999999100))
    × (stock_of book_met 0 (most + 1) ≡ Err StockCount)
    × (stock_of book_met 1 900 ≡ Err StockCount)

-- a set-up of one material, with its one stage described
abbrev pub one_material : Setup
one_material =
    record {
      outline = record { substances = 1; materials = 1; stages = 1; described = 1 };
      numbers = fresh_setup.numbers;
      classes = fresh_setup.classes;
      counted = fresh_setup.counted;
      stages = fresh_setup.stages;
      pairs = fresh_setup.pairs;
    }

-- a gram more in store than 4,000 posts bring
abbrev pub overfull : Book
overfull =
    book_with one_material (record { store = (most + 1) ∷ replicate 11 0; sums = replicate 576 0; handled = replicate 8 0; posts = 4000; closed = false }) 3

-- so that the bound of an answer needs a book that the library made
abbrev pub SoundNeeded : Type 0
SoundNeeded = (stock_of overfull 0 0 ≡ Ok (minus (most + 1))) × (EitherWay (minus (most + 1)) → ⊥)
