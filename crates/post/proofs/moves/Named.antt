-- What leaves a holding goes to another account, and what comes from outside comes to a holding or to off site. Assumes nothing.
use Rattle.std.proofs.Common.{◌≡◌, ℕ, ◌≤◌, Bool, true, ◌||◌, List, eqb, subst, rules}
use Rattle.std.specs.List.{AllByRecursion}
use Rattle.std.specs.Prelude.{Ok}
use Rattle.amounts.proofs.decline.Laws.{was_taken}
use Rattle.layout.specs.declared.outline.Outline.{Outline}
use Rattle.kinds.specs.Account.{place}
use Rattle.kinds.specs.declared.account.Account.{Account}
use Rattle.kinds.specs.declared.account.Account.TheVariants.{Held, OffSite}
use Rattle.kinds.specs.Fields.{post_at}
use Rattle.kinds.specs.Kind.{Row, rows, kind_of}
use Rattle.kinds.specs.declared.fields.Post.{Post}
use Rattle.kinds.proofs.kind.Laws.{found}
use Rattle.post.specs.Moves.{measured, move_of, move_in, move_at, said}
use Rattle.post.specs.declared.moves.Move.{Move}
use Rattle.post.specs.declared.moves.Move.TheVariants.{Received, Issued, Brought, Gone, Close}
use Rattle.post.proofs.moves.Laws.{row_laid, move_laid}

-- ---- the row of a move that is read

pub row_read : (o : Outline) (numbers s : List ℕ) (m : Move) → move_at o numbers s ≡ Ok m
    → (r : Row) × (kind_of (post_at s).kind ≡ Ok r) × (move_in r numbers (post_at s) ≡ Ok m)
row_read o numbers s m e = let a = move_laid o numbers s m e in (a.0, (row_laid o s a.0 a.1).0, a.2)

-- it is the move that the bytes say, whatever the outline
pub said_is : (o : Outline) (numbers s : List ℕ) (m : Move) → move_at o numbers s ≡ Ok m → said numbers s ≡ m
said_is o numbers s m e = let z = row_read o numbers s m e in rw (z.1, z.2)

-- ---- its account

-- formed comes to a holding, found to off site
abbrev pub comes_to : Account → Bool
comes_to account = eqb (place account) (place Held) || eqb (place account) (place OffSite)

abbrev pub Named : Move → Type 0
Named (Received m g) = Unit
Named (Issued m stage g) = Unit
Named (Brought account stage s n) = comes_to account ≡ true
Named (Gone account stage s n) = 1 ≤ place account
Named Close = Unit

-- whatever the post and its amount
Apart : Row → Type 0
Apart r = (p : Post) (n : ℕ) → Named (move_of r.does p n)

all_apart : AllByRecursion Apart rows
unfolding rows Apart
all_apart = search rules depth 30

pub move_named : (o : Outline) (numbers s : List ℕ) (m : Move) → move_at o numbers s ≡ Ok m → Named m
unfolding Apart
move_named o numbers s m e =
    let z = row_read o numbers s m e in
    let f = was_taken (measured z.0.measure numbers (post_at s)) (λ n. Ok (move_of z.0.does (post_at s) n)) m z.2 in
    let is : move_of z.0.does (post_at s) f.0 ≡ m = cc in
    subst Named is ((found Apart all_apart (post_at s).kind z.0 z.1).0 (post_at s) f.0)
