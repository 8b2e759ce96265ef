-- Kind 1: the substances and the materials (document 01, "Journal blocks"). The body is the block's bytes 8 to 507.
use Rattle.std.specs.Prelude.{ℕ, zero, suc, ◌+◌, ◌*◌, Bool, ◌&&◌, List, [], ◌∷◌, eqb, leb, ltb, length, get_or, drop}
use Rattle.std.specs.List.{list_all}
use Rattle.amounts.specs.Class.{is_class}
use Rattle.amounts.specs.Decline.{Check, check}
use Rattle.amounts.specs.declared.decline.Decline.TheVariants.{OutOfTurn, Layout}
use Rattle.encoding.specs.Bytes.{le, les, part, within, all_zero}
use Rattle.encoding.specs.Each.{sum_to, all_to}
use Rattle.layout.specs.Outline.{may_set_up}
use Rattle.layout.specs.declared.outline.Outline.{Outline}

-- "8: materials, 1–12. 9: stages, 1–8."
abbrev pub materials_in : List ℕ → ℕ
materials_in body = get_or body 0 0

abbrev pub stages_in : List ℕ → ℕ
stages_in body = get_or body 1 0

-- "10–25: eight management numbers of 16 bits, rising, from 1. 26–33: classes. 34–417: for each of 12 materials eight contents of 32 bits"
abbrev pub numbers_in : List ℕ → List ℕ
numbers_in body = les 2 8 (drop 2 body)

abbrev pub classes_in : List ℕ → List ℕ
classes_in body = les 1 8 (drop 18 body)

abbrev pub contents_in : List ℕ → List ℕ
contents_in body = les 4 96 (drop 26 body)

-- "rising, from 1": each of the first n numbers of 16 bits is above the one before it, and the first above 0
abbrev pub number_at : List ℕ → ℕ → ℕ
number_at s i = le 2 (drop (i * 2) s)

abbrev pub before : List ℕ → ℕ → ℕ
before s zero = 0
before s (suc i) = number_at s i

abbrev pub rising : ℕ → List ℕ → Bool
rising n s = all_to n (λ i. ltb (before s i) (number_at s i))

abbrev pub all_classes : List ℕ → Bool
all_classes s = list_all is_class s

-- a material's contents: "summing to at most 1,000,000", and zero for the substances from the kth on
abbrev pub row_sum : List ℕ → ℕ
row_sum s = sum_to 8 (λ i. le 4 (drop (i * 4) s))

abbrev pub row_fits : ℕ → List ℕ → Bool
row_fits k s = leb (row_sum s) 1000000 && all_zero (part (k * 4) 32 s)

abbrev pub rows_fit : ℕ → ℕ → List ℕ → Bool
rows_fit k n s = all_to n (λ i. row_fits k (drop (i * 32) s))

-- 6: each limit, order and zero place; "Unused places are zero", and so are bytes not named
abbrev pub material_checks : ℕ → List ℕ → List Check
material_checks count body =
    check (rows_fit count (materials_in body) (drop 26 body)) Layout
    ∷ check (all_zero (drop (26 + materials_in body * 32) body)) Layout
    ∷ []

abbrev pub substance_checks : ℕ → List ℕ → List Check
substance_checks count body =
    check (rising count (drop 2 body)) Layout
    ∷ check (all_zero (part (2 + count * 2) 18 body)) Layout
    ∷ check (all_classes (part 18 (18 + count) body)) Layout
    ∷ check (all_zero (part (18 + count) 26 body)) Layout
    ∷ material_checks count body

abbrev pub body_checks : ℕ → List ℕ → List Check
body_checks count body =
    check (within 1 8 count) Layout
    ∷ check (within 1 12 (materials_in body)) Layout
    ∷ check (within 1 8 (stages_in body)) Layout
    ∷ substance_checks count body

-- 6, from a body's length on
abbrev pub setup_limits : ℕ → List ℕ → List Check
setup_limits count body = check (eqb (length body) 500) Layout ∷ body_checks count body

-- 4, and then 6
abbrev pub setup_checks : Outline → ℕ → List ℕ → List Check
setup_checks o count body = check (may_set_up o) OutOfTurn ∷ setup_limits count body

-- how far a body brings the set-up
abbrev pub outline_of : ℕ → List ℕ → Outline
outline_of count body = record { substances = count; materials = materials_in body; stages = stages_in body; described = 0 }
