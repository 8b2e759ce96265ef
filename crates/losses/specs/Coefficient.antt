-- The coefficient rows (document 01, "Vapour losses"; document 000, tables 2.3 and 2.4; numbers from document 004).
use Rattle.std.specs.Prelude.{ℕ, Bool, true, false, List, [], ◌∷◌, ◌==◌, Float, Ok, Err}
use Rattle.forms.specs.Binary64.{decimal}
use Rattle.amounts.specs.Decline.{Answer}
use Rattle.amounts.specs.declared.decline.Decline.TheVariants.{NoRow}
use Rattle.losses.specs.declared.coefficient.CoefficientRow.{CoefficientRow}
use Rattle.losses.specs.declared.coefficient.Entry.{Entry}

abbrev pub entry : ℕ → Float → Float → Entry
entry n k m = record { number = n; row = record { k = k; m = m } }

-- "53: 0.000083, 106.2; 80: 0.000071, 106.2; 300: 0.00026, 92.1; 392: 0.00182, 86; 400: 0.00089, 78.1"
unfoldable pub rows : List Entry
rows =
    entry 53 (decimal 83 1000000) (decimal 1062 10)
    ∷ entry 80 (decimal 71 1000000) (decimal 1062 10)
    ∷ entry 300 (decimal 26 100000) (decimal 921 10)
    ∷ entry 392 (decimal 182 100000) (decimal 86 1)
    ∷ entry 400 (decimal 89 100000) (decimal 781 10)
    ∷ []

abbrev pub row_if : Bool → CoefficientRow → Answer CoefficientRow → Answer CoefficientRow
row_if true row other = Ok row
row_if false row other = other

-- the row of a number, or decline 8
unfoldable pub find : ℕ → List Entry → Answer CoefficientRow
find n [] = Err NoRow
find n (e ∷ es) = row_if (e.number == n) e.row (find n es)

unfoldable pub row_of : ℕ → Answer CoefficientRow
unfolding find rows
row_of n = find n rows
