-- What the table of kinds tells. Assumes nothing.
use Rattle.std.proofs.Common.{◌≡◌, ℕ, ◌*◌, ◌≤◌, ◌<◌, Bool, true, false, List, [], ◌∷◌, eqb, refl, subst, mul-le-mul, eqb-true, arith}
use Rattle.std.proofs.lemmas.Bool.Decides.{nat_tests}
use Rattle.std.specs.List.{AllByRecursion}
use Rattle.std.specs.Prelude.{Ok}
use Rattle.amounts.specs.Decline.{Answer}
use Rattle.layout.specs.declared.outline.Outline.{Outline}
use Rattle.kinds.specs.Kind.{Row, of_stock, of_issue, of_micrograms, of_content, of_form, of_nothing, fields_fit, rows, row_if, find, kind_of}
use Rattle.kinds.specs.declared.fields.Post.{Post}
use Rattle.kinds.specs.declared.kind.Does.{Does}
use Rattle.kinds.specs.declared.kind.Does.TheVariants.{Receives, Issues, Brings, Leaves, Closes}
use Rattle.kinds.specs.declared.kind.Measure.{Measure}
use Rattle.kinds.specs.declared.kind.Measure.TheVariants.{Quantity, Content, Loss}

-- ---- looking a kind up

-- what holds of each row holds of the row that a kind has, whose number is the kind's
pub found : (P : Row → Type 0) → AllByRecursion P rows → (n : ℕ) (r : Row) → kind_of n ≡ Ok r → P r × (r.number ≡ n)
unfolding kind_of find
found P h n r e = go rows h e
  where
    pick : (t : Bool) (q : Row) (x : Answer Row) → eqb q.number n ≡ t → P q → (x ≡ Ok r → P r × (r.number ≡ n)) → row_if t q x ≡ Ok r → P r × (r.number ≡ n)
    pick true q x is w next f = let same : q ≡ r = cc in subst (λ (i : Row). P i × (i.number ≡ n)) same (w, eqb-true q.number n is)
    pick false q x is w next f = next f

    go : (rs : List Row) → AllByRecursion P rs → find n rs ≡ Ok r → P r × (r.number ≡ n)
    go [] w f = cc
    go (q ∷ rs) w f = pick (eqb q.number n) q (find n rs) refl w.0 (go rs w.1) f

-- ---- what the limits of a row tell of a post within them

-- of how it is measured: an amount is at most 2×10^15 micrograms, and a loss is one of a form
abbrev pub Measured : Measure → Post → Type 0
Measured Quantity p = p.quantity ≤ 2000000000000000
Measured Content p = p.quantity * p.content ≤ 2000000000000000
Measured Loss p = (1 ≤ p.material) × (p.material < 4)

-- of what it does: what it names is the outline's, and of a material it is in grams
abbrev pub Placed : Outline → Post → Does → Measure → Type 0
Placed o p Receives m = (p.material < o.materials) × ((m ≡ Quantity) × (p.quantity ≤ 2000000000))
Placed o p Issues m = (p.material < o.materials) × ((p.stage < o.stages) × ((m ≡ Quantity) × (p.quantity ≤ 2000000000)))
Placed o p (Brings account) m = (p.stage < o.stages) × (p.substance < o.substances)
Placed o p (Leaves account) m = (p.stage < o.stages) × (p.substance < o.substances)
Placed o p Closes m = Unit

abbrev pub Within : Outline → Post → Does → Measure → Type 0
Within o p d m = Measured m p × Placed o p d m

-- "g times content" is at most 2×10^15
product_small : (q c : ℕ) → q ≤ 2000000000 → c ≤ 1000000 → q * c ≤ 2000000000000000
product_small q c h g = let l : q * c ≤ 2000000000 * 1000000 = mul-le-mul h g in omega arith

module _ (o : Outline) (p : Post) where
  abbrev Paired : Type 0
  Paired = (p.stage < o.stages) × (p.substance < o.substances)

  stock : fields_fit (of_stock o) p ≡ true → Within o p Receives Quantity
  stock h = grind (arith, nat_tests)

  issue : fields_fit (of_issue o) p ≡ true → Within o p Issues Quantity
  issue h = grind (arith, nat_tests)

  stated : fields_fit (of_micrograms o) p ≡ true → Measured Quantity p × Paired
  stated h = grind (arith, nat_tests)

  contained : fields_fit (of_content o) p ≡ true → Measured Content p × Paired
  contained h = grind (arith, nat_tests, product_small)

  lost : fields_fit (of_form o) p ≡ true → Measured Loss p × Paired
  lost h = grind (arith, nat_tests)

  closed : fields_fit (of_nothing o) p ≡ true → Within o p Closes Quantity
  closed h = grind (arith, nat_tests)

  all_within : AllByRecursion (λ r. fields_fit (r.limits o) p ≡ true → Within o p r.does r.measure) rows
  unfolding rows
  all_within = search (stock, issue, stated, contained, lost, closed) depth 30

  -- a post within its row's limits meets them
  pub within : (r : Row) → kind_of p.kind ≡ Ok r → fields_fit (r.limits o) p ≡ true → Within o p r.does r.measure
  within r e = (found (λ r. fields_fit (r.limits o) p ≡ true → Within o p r.does r.measure) all_within p.kind r e).0
