-- Reading a post and its move, and what a move that is read tells. Assumes nothing.
use Rattle.std.proofs.Common.{◌≡◌, ℕ, ◌*◌, ◌≤◌, ◌<◌, ◌^◌, Bool, true, false, List, [], ◌∷◌, length, get_or, eqb, refl, sym, ap, subst, ◌∙◌, cond, arith}
use Rattle.std.specs.Prelude.{Ok, Err}
use Rattle.forms.specs.Form.{values_of}
use Rattle.losses.specs.Coefficient.{row_of}
use Rattle.losses.proofs.loss.Laws.{over_bounded, over_range}
use Rattle.amounts.specs.Decline.{Answer, check, checked, on_taken, verdict_of}
use Rattle.amounts.specs.declared.decline.Decline.TheVariants.{Layout, OutOfRange}
use Rattle.amounts.proofs.decline.Laws.{was_taken, passed_then, checked_verdict, one_taken, one_answers}
use Rattle.layout.specs.declared.outline.Outline.{Outline}
use Rattle.kinds.specs.Fields.{post_at}
use Rattle.kinds.specs.Kind.{Row, fields_fit, kind_of, limited}
use Rattle.kinds.specs.declared.fields.Post.{Post}
use Rattle.kinds.specs.declared.kind.Does.{Does}
use Rattle.kinds.specs.declared.kind.Does.TheVariants.{Receives, Issues, Brings, Leaves, Closes}
use Rattle.kinds.specs.declared.kind.Measure.{Measure}
use Rattle.kinds.specs.declared.kind.Measure.TheVariants.{Quantity, Content, Loss}
use Rattle.kinds.proofs.kind.Laws.{Measured, Within, within}
use Rattle.post.specs.Moves.{floats_of, floats_fit, measured, move_of, move_in, laid_out, well_formed, move_at}
use Rattle.post.specs.Steps.{laid_as, laid_of, amount_read, Fits}
use Rattle.post.specs.declared.moves.Laid.{Laid}
use Rattle.post.specs.declared.moves.Move.{Move}

-- a post that is laid out by a row is of the row's kind and within its limits
pub row_laid : (o : Outline) (s : List ℕ) (r : Row) → laid_out o s ≡ Ok r → (kind_of (post_at s).kind ≡ Ok r) × (fields_fit (r.limits o) (post_at s) ≡ true)
unfolding laid_out
row_laid o s r e =
    let p = post_at s in
    let a = passed_then (check (eqb (length s) 48) Layout ∷ []) p _ r e in
    let b = was_taken (kind_of p.kind) _ r a.1 in
    let c = one_taken _ Layout b.0 r (sym b.2) in
    let is : b.0 ≡ r = sym c.1 in
    subst (λ (k : Row). (kind_of p.kind ≡ Ok k) × (fields_fit (k.limits o) p ≡ true)) is (b.1, c.0)

-- 6 as the code goes through it
abbrev LaidRead : Outline → List ℕ → Type 0
LaidRead o s =
    let p = post_at s in
    laid_of p (laid_out o s)
    ≡ cond (eqb (length s) 48)
    (on_taken (limited o (kind_of p.kind)) (λ k. cond (fields_fit k.limits p) (Ok (record { post = p; measure = k.measure; does = k.does })) (Err Layout)))
    (Err Layout)

pub laid_read : (o : Outline) (s : List ℕ) → LaidRead o s
unfolding laid_out checked
laid_read o s = by_length (eqb (length s) 48) refl (kind_of (post_at s).kind) refl
  where
    by_fit : (r : Row) (t : Bool) → fields_fit (r.limits o) (post_at s) ≡ t → eqb (length s) 48 ≡ true → kind_of (post_at s).kind ≡ Ok r → LaidRead o s
    by_fit r true g e f = rw (e, f, g)
    by_fit r false g e f = rw (e, f, g)

    by_length : (t : Bool) → eqb (length s) 48 ≡ t → (x : Answer Row) → kind_of (post_at s).kind ≡ x → LaidRead o s
    by_length false e x f = rw e
    by_length true e (Err d) f = rw (e, f)
    by_length true e (Ok r) f = by_fit r (fields_fit (r.limits o) (post_at s)) refl e f

-- 7 behind it
pub formed_read : (o : Outline) (s : List ℕ)
    → verdict_of (well_formed o s) ≡ on_taken (laid_of (post_at s) (laid_out o s)) (λ l. cond (floats_fit l.measure l.post) (Ok (tt {0})) (Err OutOfRange))
unfolding well_formed
formed_read o s = by_row (laid_out o s)
  where
    by_row : (x : Answer Row) → verdict_of (on_taken x (λ k. checked (check (floats_fit k.measure (post_at s)) OutOfRange ∷ []) k))
        ≡ on_taken (laid_of (post_at s) x) (λ l. cond (floats_fit l.measure l.post) (Ok (tt {0})) (Err OutOfRange))
    by_row (Ok r) =
        let fit = floats_fit r.measure (post_at s) in
        checked_verdict (check fit OutOfRange ∷ []) r ∙ one_answers fit OutOfRange (tt {0})
    by_row (Err d) = refl

-- it meets what its row's limits tell
laid_within : (o : Outline) (s : List ℕ) (r : Row) → laid_out o s ≡ Ok r → Within o (post_at s) r.does r.measure
laid_within o s r e = let z = row_laid o s r e in within o (post_at s) r z.0 z.1

-- the post in its layout as the code has it
known_laid : (o : Outline) (s : List ℕ) (l : Laid) → Ok l ≡ laid_of (post_at s) (laid_out o s) → (r : Row) × (laid_out o s ≡ Ok r) × (l ≡ laid_as (post_at s) r)
known_laid o s l e = go (laid_out o s) refl e
  where
    go : (x : Answer Row) → laid_out o s ≡ x → Ok l ≡ laid_of (post_at s) x → (r : Row) × (laid_out o s ≡ Ok r) × (l ≡ laid_as (post_at s) r)
    go (Ok r) is f = (r, is, cc)
    go (Err d) is f = cc

-- ---- the amount of a post in its layout

module _ (o : Outline) (s : List ℕ) (l : Laid) (e : Ok l ≡ laid_of (post_at s) (laid_out o s)) where
  pub product_fits : l.measure ≡ Content → l.post.quantity * l.post.content < 2 ^ 64
  product_fits content =
      let z = known_laid o s l e in
      let m : l.measure ≡ z.0.measure = cc in
      let is : z.0.measure ≡ Content = sym m ∙ content in
      let low : Measured Content (post_at s) = subst (λ (m : Measure). Measured m (post_at s)) is (laid_within o s z.0 z.1).0 in
      rw z.2 (omega (arith, low))

-- where its floats are in their ranges it is as measured, and else a 7: a loss tests its floats where it is worked out
module _ (numbers : List ℕ) (p : Post) where
  amount_fit : (m : Measure) → floats_fit m p ≡ true → measured m numbers p ≡ amount_read m numbers p
  unfolding measured amount_read checked
  amount_fit Quantity e = rw e
  amount_fit Content e = rw e
  amount_fit Loss e = refl

  amount_unfit : (m : Measure) → floats_fit m p ≡ false → Measured m p → Err OutOfRange ≡ amount_read m numbers p
  unfolding amount_read checked
  amount_unfit Quantity e h = rw e
  amount_unfit Content e h = rw e
  amount_unfit Loss e h = sym (over_range p.material (row_of (get_or numbers p.substance 0)) (values_of (floats_of p)) h.0 h.1 e)

-- so that 6, 7 and then the amount is what is read
abbrev MoveRead : Outline → List ℕ → List ℕ → Type 0
MoveRead o numbers s =
    move_at o numbers s ≡ on_taken (laid_of (post_at s) (laid_out o s)) (λ l. on_taken (amount_read l.measure numbers l.post) (λ n. Ok (move_of l.does l.post n)))

pub move_read : (o : Outline) (numbers s : List ℕ) → MoveRead o numbers s
unfolding move_at well_formed checked
move_read o numbers s = by_row (laid_out o s) refl
  where
    by_floats : (r : Row) (t : Bool) → floats_fit r.measure (post_at s) ≡ t → laid_out o s ≡ Ok r → MoveRead o numbers s
    by_floats r true f e = rw (e, f, amount_fit numbers (post_at s) r.measure f)
    by_floats r false f e = rw (e, f, ← amount_unfit numbers (post_at s) r.measure f (laid_within o s r e).0)

    by_row : (x : Answer Row) → laid_out o s ≡ x → MoveRead o numbers s
    by_row (Ok r) e = by_floats r (floats_fit r.measure (post_at s)) refl e
    by_row (Err d) e = rw e

-- ---- what a move that is read tells

-- it is that of the row which the post is laid out by
pub move_laid : (o : Outline) (numbers s : List ℕ) (m : Move) → move_at o numbers s ≡ Ok m → (r : Row) × (laid_out o s ≡ Ok r) × (move_in r numbers (post_at s) ≡ Ok m)
unfolding move_at well_formed
move_laid o numbers s m e =
    let a = was_taken (well_formed o s) _ m e in
    let b = was_taken (laid_out o s) _ a.0 a.1 in
    let c = one_taken _ OutOfRange b.0 a.0 (sym b.2) in
    (a.0, b.1 ∙ ap Ok (sym c.1), a.2)

module _ (o : Outline) (numbers : List ℕ) (p : Post) (n : ℕ) where
  amount_of : (m : Measure) → Measured m p → measured m numbers p ≡ Ok n → n ≤ 2000000000000000
  unfolding measured
  amount_of Quantity h e = let is : p.quantity ≡ n = cc in omega arith
  amount_of Content h e = let is : p.quantity * p.content ≡ n = cc in omega arith
  amount_of Loss h e = over_bounded _ _ _ n e

  grams_of : (m : Measure) → (m ≡ Quantity) × (p.quantity ≤ 2000000000) → measured m numbers p ≡ Ok n → n ≤ 2000000000
  unfolding measured
  grams_of Quantity h e = let is : p.quantity ≡ n = cc in omega arith
  grams_of Content h e = cc
  grams_of Loss h e = cc

  fits_by : (d : Does) (m : Measure) → Within o p d m → measured m numbers p ≡ Ok n → Fits o (move_of d p n)
  fits_by Receives m w e = (w.1.0, grams_of m w.1.1 e)
  fits_by Issues m w e = (w.1.0, (w.1.1.0, grams_of m w.1.1.1 e))
  fits_by (Brings account) m w e = (w.1.0, (w.1.1, amount_of m w.0 e))
  fits_by (Leaves account) m w e = (w.1.0, (w.1.1, amount_of m w.0 e))
  fits_by Closes m w e = tt

-- it fits the outline
pub move_fits : (o : Outline) (numbers s : List ℕ) (m : Move) → move_at o numbers s ≡ Ok m → Fits o m
move_fits o numbers s m e =
    let p = post_at s in
    let a = move_laid o numbers s m e in
    let r = a.0 in
    let f = was_taken (measured r.measure numbers p) (λ n. Ok (move_of r.does p n)) m a.2 in
    let is : move_of r.does p f.0 ≡ m = cc in
    subst (Fits o) is (fits_by o numbers p f.0 r.does r.measure (laid_within o s r a.1) f.1)
