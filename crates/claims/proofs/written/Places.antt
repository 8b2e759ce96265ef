-- Lists put at a place of a list, and lists one behind the other. Assumes nothing.
use mathlib.Core.Path.{◌≡◌, refl, sym, ap, ◌∙◌}
use mathlib.Core.Bool.{true}
use mathlib.Core.List.{List, [], ◌∷◌, ◌++◌, append_assoc}
use Prim.Native.Nat.{ℕ, zero, suc, ◌+◌, ◌*◌, ◌≤◌, ◌<◌}
use native.Mathlib.Omega.{arith}
use lib.ListN.{length, get_or, take, drop, replicate, length-append, length-replicate, replicate-append-replicate}
use lib.Seq.{take_at, drop_at, drop-drop, drop-append-add, ext_get_or}
use Rattle.std.proofs.lemmas.Grind.{common_steps}
use Rattle.std.proofs.lemmas.List.Elements.{All-tail}
use Rattle.std.specs.List.{All}
use Rattle.encoding.specs.Bytes.{all_zero, placed}
use Rattle.encoding.specs.Each.{list_to}
use Rattle.layout.specs.Posts.{part_of}
use Rattle.encoding.proofs.Each.{length_list, list_at}
use Rattle.encoding.proofs.bytes.Placed.{placed_in}
use Rattle.claims.specs.Written.{joined}

-- ---- bytes put at a place

-- behind the front of a list they replace as many of the rest
pub placed_at : (p q s : List ℕ) (n : ℕ) → length p ≡ n → length s ≤ length q → placed (p ++ q) n s ≡ p ++ (s ++ drop (length s) q)
placed_at p q s n e h =
    let fits : n + length s ≤ length (p ++ q) = omega (arith, length-append p q) in
    let rest : drop (n + length s) (p ++ q) ≡ drop (length s) q = sym (drop-drop (length s) n (p ++ q)) ∙ ap (drop (length s)) (drop_at p q n e) in
    placed_in (p ++ q) n s fits ∙ rw (take_at p q n e, rest)

-- ---- zeros

abbrev pub zeros : ℕ → List ℕ
zeros n = replicate n 0

pub zeros_long : (n : ℕ) → length (zeros n) ≡ n
zeros_long n = length-replicate {A = ℕ} n 0

pub zeros-append : (n m : ℕ) → zeros n ++ zeros m ≡ zeros (n + m)
zeros-append n m = replicate-append-replicate {A = ℕ} n m 0

pub drop-zeros : (n m : ℕ) → drop n (zeros (n + m)) ≡ zeros m
drop-zeros n m = ap (drop n) (sym (zeros-append n m)) ∙ drop_at (zeros n) (zeros m) n (zeros_long n)

pub zeros_zero : (n : ℕ) → all_zero (zeros n) ≡ true
zeros_zero zero = refl
zeros_zero (suc n) = zeros_zero n

-- ---- lists one behind the other

pub joined-append : {A : Type 0} (ls ks : List (List A)) → joined (ls ++ ks) ≡ joined ls ++ joined ks
unfolding joined
joined-append [] ks = refl
joined-append (l ∷ ls) ks = grind (arith, common_steps, joined-append ls ks)

pub joined_last : {A : Type 0} (ls : List (List A)) (l : List A) → joined (ls ++ (l ∷ [])) ≡ joined ls ++ l
unfolding joined
joined_last ls l = grind (arith, common_steps, joined-append ls (l ∷ []))

-- each is n long
abbrev pub EachLong : {A : Type 0} → ℕ → List (List A) → Type 0
EachLong n ls = All (λ l. length l ≡ n) ls

-- so many as they are, n long each
pub joined_long : {A : Type 0} (n : ℕ) (ls : List (List A)) → EachLong n ls → length (joined ls) ≡ length ls * n
unfolding joined
joined_long n [] h = omega arith
joined_long n (l ∷ ls) h =
    let long : length l ≡ n = h 0 l (omega arith) in
    grind (arith, common_steps, joined_long n ls (All-tail (λ x. length x ≡ n) l ls h))

-- the parts that they are joined of
pub part_is : (n : ℕ) (ls : List (List ℕ)) (rest : List ℕ) → EachLong n ls → (i : ℕ) → i < length ls → part_of n (joined ls ++ rest) i ≡ get_or ls i []
unfolding joined
part_is n [] rest h i g = absurd (omega arith)
part_is n (l ∷ ls) rest h zero g =
    let long : length l ≡ n = h 0 l (omega arith) in
    grind (arith, common_steps)
part_is n (l ∷ ls) rest h (suc i) g =
    let long : length l ≡ n = h 0 l (omega arith) in
    let start : suc i * n ≡ length l + i * n = omega arith in
    ap (λ (k : ℕ). take n (drop k ((l ++ joined ls) ++ rest))) start
    ∙ ap (λ (r : List ℕ). take n (drop (length l + i * n) r)) (append_assoc l (joined ls) rest)
    ∙ ap (take n) (drop-append-add l (joined ls ++ rest) (i * n)) ∙ part_is n ls rest (All-tail (λ x. length x ≡ n) l ls h) i (omega arith)

-- in order they are the lists
pub parts_are : (n : ℕ) (ls : List (List ℕ)) (rest : List ℕ) → EachLong n ls → list_to (length ls) (part_of n (joined ls ++ rest)) ≡ ls
parts_are n ls rest h =
    let f : ℕ → List ℕ = part_of n (joined ls ++ rest) in
    let same = length_list (length ls) f in
    ext_get_or [] (list_to (length ls) f) ls same
    (λ i g. let l : i < length ls = omega arith in list_at (length ls) f i [] l ∙ part_is n ls rest h i l)
