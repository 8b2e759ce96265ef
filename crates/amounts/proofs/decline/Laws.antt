-- Laws of answers, and of tables of checks, whatever the value that they guard. Assumes nothing.
use mathlib.Core.Path.{◌≡◌, refl, sym, subst}
use mathlib.Core.Bool.{Bool, true, false, cond}
use mathlib.Core.List.{List, [], ◌∷◌, ◌++◌}
use Rattle.std.proofs.lemmas.Result.{err_from_is_err_and}
use Rattle.std.specs.Prelude.{Result, Ok, Err}
use Rattle.std.specs.Result.{IsErrAnd}
use Rattle.amounts.specs.Decline.{Answer, Check, check, checked, passes, on_taken, is_taken, value_or, verdict_of}
use Rattle.amounts.specs.declared.decline.Decline.{Decline}
use Rattle.amounts.specs.declared.decline.Decline.TheVariants.{OutOfTurn, Layout}

-- ---- answers

-- an answer that is taken has a value
pub has_value : {A : Type 0} (x : Answer A) → is_taken x ≡ true → (a : A) × (x ≡ Ok a)
has_value (Ok a) e = (a, refl)
has_value (Err n) e = cc

-- one that is taken came from one that was
pub was_taken : {A B : Type 0} (x : Answer A) (next : A → Answer B) (b : B) → on_taken x next ≡ Ok b → (a : A) × (x ≡ Ok a) × (next a ≡ Ok b)
was_taken (Ok a) next b e = (a, refl, e)
was_taken (Err n) next b e = cc

-- what follows an answer, whatever its value, follows its verdict
pub answer_guards : {A B : Type 0} (x : Answer A) (b : B) → on_taken x (λ _. Ok b) ≡ on_taken (verdict_of x) (λ _. Ok b)
answer_guards (Ok a) b = refl
answer_guards (Err n) b = refl

-- a verdict stays where a value follows it
pub verdict_guards : {B : Type 0} (v : Answer Unit) (b : B) → verdict_of (on_taken v (λ _. Ok b)) ≡ v
verdict_guards (Ok t) b = refl
verdict_guards (Err n) b = refl

-- ---- an answer by its verdict and its value

-- it is the decline that its verdict is
pub was_err : {A E : Type 0} (x : Result A E) (n : E) → Err n ≡ verdict_of x → x ≡ Err n
was_err (Ok a) n e = cc
was_err (Err m) n e = cc

-- it is its value where its verdict is taken
pub was_ok : {A E : Type 0} (x : Result A E) (z : A) (t : Unit) (w : A) → Ok t ≡ verdict_of x → w ≡ value_or z x → x ≡ Ok w
was_ok (Ok a) z t w e f = cc
was_ok (Err m) z t w e f = cc

-- where it is a decline, its value is the one given
pub was_kept : {A E : Type 0} (x : Result A E) (z : A) (n : E) (w : A) → Err n ≡ verdict_of x → w ≡ value_or z x → w ≡ z
was_kept (Ok a) z n w e f = cc
was_kept (Err m) z n w e f = f

-- what a `?` hands on of an answer that is a decline is its verdict
pub hands_on : {A E : Type 0} (r : Result Unit E) (x : Result A E) (n : E) → IsErrAnd r (λ m. m ≡ n) → x ≡ Err n → r ≡ verdict_of x
hands_on r x n h e =
    let p = err_from_is_err_and r h in
    rw (e, p.1, p.2)

-- ---- tables of any length

-- each check of a table passes
abbrev pub AllPass : List Check → Type 0
AllPass [] = Unit
AllPass (check t n ∷ rows) = (t ≡ true) × AllPass rows

-- a table that takes has passed each check, and takes what it was given
pub passed : {A : Type 0} (rows : List Check) (a b : A) → checked rows a ≡ Ok b → AllPass rows × (b ≡ a)
unfolding checked
passed [] a b e = (tt, cc)
passed (check true n ∷ rows) a b e = let z = passed rows a b e in ((refl, z.0), z.1)
passed (check false n ∷ rows) a b e = cc

-- a table that passes takes
pub pass_taken : {A : Type 0} (rows : List Check) (a : A) → AllPass rows → checked rows a ≡ Ok a
unfolding checked
pass_taken [] a h = refl
pass_taken (check t n ∷ rows) a h = rw h.0 (pass_taken rows a h.1)

-- where what follows a table takes, the table has passed, and what follows has what it was given
pub passed_then : {A B : Type 0} (rows : List Check) (a : A) (next : A → Answer B) (b : B) → on_taken (checked rows a) next ≡ Ok b → AllPass rows × (next a ≡ Ok b)
passed_then {A} rows a next b e =
    let w = was_taken (checked rows a) next b e in
    let p = passed rows a w.0 w.1 in
    (p.0, subst (λ (x : A). next x ≡ Ok b) p.1 w.2)

-- what is made of a value is guarded as the value is
pub checked_maps : {A B : Type 0} (f : A → B) (rows : List Check) (a : A) → checked rows (f a) ≡ on_taken (checked rows a) (λ u. Ok (f u))
unfolding checked
checked_maps f [] a = refl
checked_maps f (check true n ∷ rows) a = checked_maps f rows a
checked_maps f (check false n ∷ rows) a = refl

-- a table's verdict is its answer over no value
pub checked_verdict : {A : Type 0} (rows : List Check) (a : A) → verdict_of (checked rows a) ≡ checked rows (tt {0})
unfolding checked
checked_verdict [] a = refl
checked_verdict (check true n ∷ rows) a = checked_verdict rows a
checked_verdict (check false n ∷ rows) a = refl

-- what follows a table is the same over any other value that it guards
pub guards : {A B C : Type 0} (rows : List Check) (a : A) (b : B) (next : A → Answer C) → on_taken (checked rows a) next ≡ on_taken (checked rows b) (λ u. next a)
unfolding checked
guards [] a b next = refl
guards (check true n ∷ rows) a b next = guards rows a b next
guards (check false n ∷ rows) a b next = refl

module _ {A B : Type 0} (a : A) (b : B) where
  -- a table that takes a value takes any other
  pub accepts : (rows : List Check) {x : A} → Ok x ≡ checked rows a → checked rows b ≡ Ok b
  accepts rows e = rw (checked_maps (λ (_ : A). b) rows a, ← e)

  -- one that declines declines any other by the same
  pub declines : (rows : List Check) (d : Decline) → Err d ≡ checked rows a → checked rows b ≡ Err d
  declines rows d e = rw (checked_maps (λ (_ : A). b) rows a, ← e)

-- ---- tables of one check

-- one that takes has passed, and takes what it was given
pub one_taken : {A : Type 0} (t : Bool) (n : Decline) (a b : A) → Ok b ≡ checked (check t n ∷ []) a → (t ≡ true) × (b ≡ a)
one_taken t n a b e = let z = passed (check t n ∷ []) a b (sym e) in (z.0.0, z.1)

-- it takes where its test holds, and else declines
pub one_answers : {A : Type 0} (t : Bool) (n : Decline) (a : A) → checked (check t n ∷ []) a ≡ cond t (Ok a) (Err n)
unfolding checked
one_answers true n a = refl
one_answers false n a = refl

-- ---- two tables

-- where a table with another behind it passes, both do
pub pass_both : (xs ys : List Check) → AllPass (xs ++ ys) → AllPass xs × AllPass ys
pass_both [] ys h = (tt, h)
pass_both (check t n ∷ xs) ys h = let r = pass_both xs ys h.1 in ((h.0, r.0), r.1)

-- the table behind is asked where the first passes
pub checked_both : {A : Type 0} (xs ys : List Check) (a : A) → checked (xs ++ ys) a ≡ on_taken (checked xs (tt {0})) (λ _. checked ys a)
unfolding checked
checked_both [] ys a = refl
checked_both (check true n ∷ xs) ys a = checked_both xs ys a
checked_both (check false n ∷ xs) ys a = refl

-- ---- tables that decline for the layout alone

-- whether each check of a table does
abbrev pub of_layout : List Check → Bool
of_layout [] = true
of_layout (check t Layout ∷ rows) = of_layout rows
of_layout (check t _ ∷ rows) = false

-- such a table takes where each check passes
layout_limits : (rows : List Check) → of_layout rows ≡ true → checked rows (tt {0}) ≡ cond (passes rows) (Ok tt) (Err Layout)
unfolding checked
layout_limits [] h = refl
layout_limits (check true Layout ∷ rows) h = layout_limits rows h
layout_limits (check false Layout ∷ rows) h = refl
layout_limits (check t _ ∷ rows) h = cc

-- and so does a turn that has come with such a table behind it
pub turn_then_limits : (rows : List Check) → of_layout rows ≡ true → (r : Answer Unit) → r ≡ cond (passes rows) (Ok tt) (Err Layout)
    → r ≡ checked (check true OutOfTurn ∷ rows) (tt {0})
unfolding checked
turn_then_limits rows h r e = rw e (sym (layout_limits rows h))
