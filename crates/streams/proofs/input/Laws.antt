-- Calls that are made again, and parts of known bytes. Assumes nothing.
use Rattle.std.proofs.Common.{◌≡◌, ℕ, ◌+◌, ◌-◌, ◌≤◌, ◌<◌, Bool, true, false, cond, eqb, List, [], ◌∷◌, length, take, drop, Option, None, Some, Result, Ok, Err}
use Rattle.std.proofs.Common.{Continue, Break, MutBor, refl, sym, ap, ◌∙◌, subst, arith, length-drop}
use Rattle.std.proofs.KnownBytes.{Keeps-refl, Keeps-trans, Consumes-trans}
use Rattle.std.specs.List.{FoldsTo}
use Rattle.std.specs.Io.{ReadsAtMost}
use Rattle.std.specs.Io.KnownBytes.{Keeps, Consumes, ReadConsumes}
use Rattle.std.specs.declared.io.Error.{Error}
use Rattle.streams.specs.Input.{Progress, after_read, GoesOn}
use lib.Seq.{take-add}

-- ---- calls that are made again

module _ {X Y : Type 0} (fails : MutBor X × MutBor Y → Error → MutBor X × MutBor Y → Type 0) (known : X → Option (List ℕ)) where
  -- the known bytes are left, and the closure holds the same references
  pub record Leaves (f g : MutBor X × MutBor Y) : Type 0 where
    pub kept : Keeps (known f.0.now) (known g.0.now)
    pub reader : g.0.ghost_name ≡ f.0.ghost_name
    pub part : g.1.ghost_name ≡ f.1.ghost_name

  -- what each call that fails leaves, all leave
  pub left_by_calls : ((f : MutBor X × MutBor Y) (e : Error) (g : MutBor X × MutBor Y) → fails f e g → Leaves f g) → (es : List Error) (f g : MutBor X × MutBor Y)
      → FoldsTo fails f es g → Leaves f g
  left_by_calls each [] f g h = subst (Leaves f) h (record { kept = Keeps-refl (known f.0.now); reader = refl; part = refl })
  left_by_calls each (e ∷ es) f g h =
      let first = each f e h.0 h.1 in
      let rest = left_by_calls each es h.0 g h.2 in
      record { kept = Keeps-trans _ _ _ first.kept rest.kept; reader = rest.reader ∙ first.reader; part = rest.part ∙ first.part }

consumed_behind : (a b c : Option (List ℕ)) (bs : List ℕ) → Keeps a b → Consumes b c bs → Consumes a c bs
consumed_behind None b c bs p q = tt
consumed_behind (Some x) None c bs p q = absurd p
consumed_behind (Some x) (Some y) None bs p q = absurd q
consumed_behind (Some x) (Some y) (Some z) bs p q = cc

-- a read behind calls that left the known bytes
pub read_behind : {E : Type 0} (a b c : Option (List ℕ)) (r : Result ℕ E) (part : List ℕ) → Keeps a b → ReadConsumes b c r part → ReadConsumes a c r part
read_behind a b c (Ok n) part p q = (consumed_behind a b c _ p q.0, q.1)
read_behind a b c (Err e) part p q = Keeps-trans a b c p q

-- ---- a part

module _ (a b c : Option (List ℕ)) (done more : ℕ) (part : List ℕ) (h : Consumes a b (take done part)) (l : done ≤ length part) where
  goes_on : (n : ℕ) (t : Bool) → n ≤ length (drop done part) → Consumes b c (take n (drop done part))
      → ◌≡◌ {A = Progress} (Continue more) (cond t (Break (Ok done)) (Continue (done + n)))
      → (more ≤ length part) × Consumes a c (take more part)
  goes_on n true m k on = cc
  goes_on n false m k on =
      let is : more ≡ done + n = cc in
      let room : length (drop done part) ≡ length part - done = length-drop done part in
      (omega arith, subst (Consumes a c) (sym (ap (λ (i : ℕ). take i part) is ∙ take-add done n part)) (Consumes-trans a b c _ _ h k))

  goes_on_by : (got : Result ℕ Error) → ReadsAtMost got (drop done part) → ReadConsumes b c got (drop done part) → ◌≡◌ {A = Progress} (Continue more) (after_read done got)
      → (more ≤ length part) × Consumes a c (take more part)
  goes_on_by (Ok n) m k on = goes_on n (eqb n 0) m.0 k.0 on
  goes_on_by (Err e) m k on = cc

-- one read more of a part that goes on
pub took_on : (a b c : Option (List ℕ)) (done more : ℕ) (given part : List ℕ) (p : Progress) → done < length given → GoesOn b c done given part p
    → p ≡ Continue more → Consumes a b (take done given) → (more ≤ length part) × Consumes a c (take more part)
took_on a b c done more given part p l (got, behind, read, made) on h =
    let long = behind.same_length in
    goes_on_by a b c done more part (subst (Consumes a b) (sym behind.kept) h) (omega arith) got behind.bound read (sym on ∙ made)
