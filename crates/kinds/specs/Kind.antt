-- The kinds of posts (document 01, "Posts"; document 02, (b)): one row for each.
use Rattle.std.specs.Prelude.{ℕ, ◌+◌, ◌*◌, ◌^◌, Bool, true, false, ◌&&◌, List, [], ◌∷◌, eqb, leb, ltb, Ok, Err}
use Rattle.amounts.specs.Decline.{Answer}
use Rattle.amounts.specs.declared.decline.Decline.TheVariants.{Layout}
use Rattle.layout.specs.declared.outline.Outline.{Outline}
use Rattle.kinds.specs.declared.account.Account.TheVariants.{Held, Shipped, OffSite, Landfill, Soil, Consumed, Gas, Water, Vapour}
use Rattle.kinds.specs.declared.fields.Post.{Post}
use Rattle.kinds.specs.declared.kind.Does.{Does}
use Rattle.kinds.specs.declared.kind.Does.TheVariants.{Receives, Issues, Brings, Leaves, Closes}
use Rattle.kinds.specs.declared.kind.Kind.{Kind}
use Rattle.kinds.specs.declared.kind.Limits.{Limits}
use Rattle.kinds.specs.declared.kind.Measure.{Measure}
use Rattle.kinds.specs.declared.kind.Measure.TheVariants.{Quantity, Content, Loss}
use Rattle.kinds.specs.declared.kind.Span.{Span}

-- ---- limits

-- the numbers from one up to another, which is not among them
infix 20 ◌up_to◌
abbrev pub ◌up_to◌ : ℕ → ℕ → Span
from up_to end = record { from = from; end = end }

abbrev pub in_span : Span → ℕ → Bool
in_span span n = leb span.from n && ltb n span.end

-- "A field that a kind doesn't use is zero"
abbrev pub unused : Span
unused = 0 up_to 1

-- "Materials, stages and substances are numbered from 0"
abbrev pub below : ℕ → Span
below count = 0 up_to count

abbrev pub form_numbers : Span
form_numbers = 1 up_to 4

-- "Content used is 1 to 1,000,000; quantity in g 1 to 2,000,000,000; in micrograms 1 to 2×10^15"
abbrev pub contents : Span
contents = 1 up_to 1000001

abbrev pub grams : Span
grams = 1 up_to 2000000001

abbrev pub micrograms : Span
micrograms = 1 up_to 2 * 10 ^ 15 + 1

-- material, stage, substance, content and quantity
abbrev pub fields : Span → Span → Span → Span → Span → Limits
fields a b c d e = record { material = a; stage = b; substance = c; content = d; quantity = e }

-- "material, g"
abbrev pub of_stock : Outline → Limits
of_stock o = fields (below o.materials) unused unused unused grams

-- "material, stage, g"
abbrev pub of_issue : Outline → Limits
of_issue o = fields (below o.materials) (below o.stages) unused unused grams

-- "stage, substance, micrograms in quantity"
abbrev pub of_micrograms : Outline → Limits
of_micrograms o = fields unused (below o.stages) (below o.substances) unused micrograms

-- "stage, substance, content, g"
abbrev pub of_content : Outline → Limits
of_content o = fields unused (below o.stages) (below o.substances) contents grams

-- "form, stage, substance, floats"
abbrev pub of_form : Outline → Limits
of_form o = fields form_numbers (below o.stages) (below o.substances) unused unused

abbrev pub of_nothing : Outline → Limits
of_nothing o = fields unused unused unused unused unused

abbrev pub fields_fit : Limits → Post → Bool
fields_fit l p =
    in_span l.material p.material
    && (in_span l.stage p.stage
    && (in_span l.substance p.substance && (in_span l.content p.content && in_span l.quantity p.quantity)))

-- ---- the table

-- a kind's number, the limits of its fields by an outline, how its amount is measured, and what it does
pub record Row : Type 0 where
  pub number : ℕ
  pub limits : Outline → Limits
  pub measure : Measure
  pub does : Does

abbrev row : ℕ → (Outline → Limits) → Measure → Does → Row
row n l m d = record { number = n; limits = l; measure = m; does = d }

-- "1 opening, 2 bought", "3 issued", "4 formed", "5 shipped, 6 waste off site, 7 landfill on site, 8 soil, 9 consumed, 10 to gas, 11 to waste water", "12 vapour", "13 close";
-- "Post kind 14, found, has stage, substance, content and grams; its amount goes to off site" (document 02, (b))
unfoldable pub rows : List Row
rows =
    row 1 of_stock Quantity Receives
    ∷ row 2 of_stock Quantity Receives
    ∷ row 3 of_issue Quantity Issues
    ∷ row 4 of_micrograms Quantity (Brings Held)
    ∷ row 5 of_content Content (Leaves Shipped)
    ∷ row 6 of_content Content (Leaves OffSite)
    ∷ row 7 of_content Content (Leaves Landfill)
    ∷ row 8 of_content Content (Leaves Soil)
    ∷ row 9 of_content Content (Leaves Consumed)
    ∷ row 10 of_content Content (Leaves Gas)
    ∷ row 11 of_content Content (Leaves Water)
    ∷ row 12 of_form Loss (Leaves Vapour)
    ∷ row 13 of_nothing Quantity Closes
    ∷ row 14 of_content Content (Brings OffSite)
    ∷ []

abbrev pub row_if : Bool → Row → Answer Row → Answer Row
row_if true r other = Ok r
row_if false r other = other

-- the row of a number; "A length, kind, .. breaks the layout": a kind that has no row is a 6
unfoldable pub find : ℕ → List Row → Answer Row
find n [] = Err Layout
find n (r ∷ rs) = row_if (eqb r.number n) r (find n rs)

unfoldable pub kind_of : ℕ → Answer Row
unfolding find rows
kind_of n = find n rows

-- ---- what the code has of a row

abbrev pub kind_at : Outline → Row → Kind
kind_at o r = record { limits = r.limits o; measure = r.measure; does = r.does }

abbrev pub limited : Outline → Answer Row → Answer Kind
limited o (Ok r) = Ok (kind_at o r)
limited o (Err n) = Err n
