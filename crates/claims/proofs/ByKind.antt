-- The sums by what posts move are the sums by the numbers of their kinds. Assumes nothing.
use mathlib.Core.Path.{◌≡◌, refl}
use mathlib.Core.List.{List, [], ◌∷◌, map}
use Prim.Native.Nat.{ℕ, ◌*◌}
use native.Mathlib.Omega.{arith}
use Rattle.std.proofs.lemmas.List.Elements.{All-tail}
use Rattle.std.proofs.lemmas.List.Sums.{sum_by-cons}
use Rattle.std.specs.List.{All, AllByRecursion}
use Rattle.std.specs.Prelude.{Ok}
use Rattle.amounts.proofs.decline.Laws.{was_taken}
use Rattle.kinds.specs.declared.account.Account.{Account}
use Rattle.kinds.specs.declared.account.Account.TheVariants.{Held, OffSite}
use Rattle.kinds.specs.Fields.{post_at}
use Rattle.kinds.specs.Kind.{Row, rows}
use Rattle.kinds.specs.declared.fields.Post.{Post}
use Rattle.kinds.specs.declared.kind.Measure.TheVariants.{Quantity, Content}
use Rattle.kinds.proofs.kind.Laws as kinds
use Rattle.post.specs.Moves.{measured, move_of, said}
use Rattle.post.specs.declared.moves.Move.{Move}
use Rattle.post.specs.declared.moves.Move.TheVariants.{Received, Issued, Brought, Gone, Close}
use Rattle.book.specs.Entry.{enters, handles}
use Rattle.claims.specs.ByKind.{Sort, stock, issued, formed, found, other, sort_of, enters_as, handles_as, found_as, sum_posts, SumsByKinds}
use Rattle.claims.specs.Standing.{Standing, standing, numbers_of, counted_in, sum_over}
use Rattle.claims.specs.Weighing.{brought}
use Rattle.claims.proofs.Tells.{Read, tells_run}

-- a number of a move and one of a post by its kind that agree for each sort
pub record Agrees (f : Move → ℕ) (g : Sort → Post → ℕ) : Type 0 where
  pub of_stock_lem : (p : Post) → f (Received p.material p.quantity) ≡ g stock p
  pub of_issue_lem : (p : Post) → f (Issued p.material p.stage p.quantity) ≡ g issued p
  pub of_formed : (p : Post) → f (Brought Held p.stage p.substance p.quantity) ≡ g formed p
  pub of_found : (p : Post) → f (Brought OffSite p.stage p.substance (p.quantity * p.content)) ≡ g found p
  pub of_gone : (p : Post) (account : Account) (n : ℕ) → f (Gone account p.stage p.substance n) ≡ g other p
  pub of_close : (p : Post) → f Close ≡ g other p

module _ (f : Move → ℕ) (g : Sort → Post → ℕ) (a : Agrees f g) where
  -- ---- a row

  -- the move of a post of its kind says what the sort of its number does
  Agreed : Row → Type 0
  Agreed r = (numbers : List ℕ) (p : Post) (n : ℕ) → measured r.measure numbers p ≡ Ok n → f (move_of r.does p n) ≡ g (sort_of r.number) p

  module _ (numbers : List ℕ) (p : Post) (n : ℕ) where
    as_stock : measured Quantity numbers p ≡ Ok n → f (Received p.material n) ≡ g stock p
    unfolding measured
    as_stock e = cc (a.of_stock_lem p)

    as_issued : measured Quantity numbers p ≡ Ok n → f (Issued p.material p.stage n) ≡ g issued p
    unfolding measured
    as_issued e = cc (a.of_issue_lem p)

    as_formed : measured Quantity numbers p ≡ Ok n → f (Brought Held p.stage p.substance n) ≡ g formed p
    unfolding measured
    as_formed e = cc (a.of_formed p)

    as_found : measured Content numbers p ≡ Ok n → f (Brought OffSite p.stage p.substance n) ≡ g found p
    unfolding measured
    as_found e = cc (a.of_found p)

    as_gone : (account : Account) → f (Gone account p.stage p.substance n) ≡ g other p
    as_gone account = a.of_gone p account n

    as_close : f Close ≡ g other p
    as_close = a.of_close p

  all_agreed : AllByRecursion Agreed rows
  unfolding rows Agreed sort_of
  all_agreed = search (as_stock, as_issued, as_formed, as_found, as_gone, as_close) depth 30

  -- ---- posts

  -- a post that was read
  of_post : (numbers s : List ℕ) → Read numbers s → f (said numbers s) ≡ g (sort_of (post_at s).kind) (post_at s)
  unfolding Agreed
  of_post numbers s (r, k, e) =
      let p = post_at s in
      let z = was_taken (measured r.measure numbers p) (λ n. Ok (move_of r.does p n)) (said numbers s) e in
      let here = kinds.found Agreed all_agreed p.kind r k in
      cc (z.2, here.0 numbers p z.0 z.1, here.1)

  pub of_posts_lem : (numbers : List ℕ) (posts : List (List ℕ)) → All (Read numbers) posts → sum_over f (map (said numbers) posts) ≡ sum_posts g posts
  of_posts_lem numbers [] h = refl
  of_posts_lem numbers (s ∷ posts) h =
      omega (
        arith,
        of_post numbers s (h 0 s (omega arith)),
        of_posts_lem numbers posts (All-tail (Read numbers) s posts h),
        sum_by-cons f (said numbers s) (map (said numbers) posts),
        sum_by-cons (λ s. g (sort_of (post_at s).kind) (post_at s)) s posts,
      )

-- ---- the sums

-- the claim about every list of calls
pub sums_by_kinds : SumsByKinds
sums_by_kinds calls s =
    let w : Standing = standing calls in
    let was_read = (tells_run calls).read in
    record {
      entered = of_posts_lem (enters (counted_in w) s) (enters_as (counted_in w) s) (search) (numbers_of w) w.posts was_read;
      handled = of_posts_lem (handles (counted_in w) s) (handles_as (counted_in w) s) (search) (numbers_of w) w.posts was_read;
      found = of_posts_lem (brought OffSite s) (found_as s) (search) (numbers_of w) w.posts was_read;
    }
