-- What a post does, as one value (document 01, "Posts" and "Why a call is declined, in checking order", 6 to 9).
use Rattle.std.specs.Prelude.{ℕ, ◌*◌, Bool, true, false, List, [], ◌∷◌, eqb, length, get_or, Ok}
use Rattle.losses.specs.Coefficient.{row_of}
use Rattle.amounts.specs.Decline.{Answer, check, checked, on_taken, value_or}
use Rattle.amounts.specs.declared.decline.Decline.TheVariants.{Layout, OutOfRange}
use Rattle.forms.specs.Form.{unused_ranges, values_of, in_ranges, in_form}
use Rattle.forms.specs.declared.form.Inputs.{Inputs}
use Rattle.losses.specs.Loss.{loss_over}
use Rattle.layout.specs.Posts.{post_size}
use Rattle.layout.specs.declared.outline.Outline.{Outline}
use Rattle.kinds.specs.Fields.{post_at}
use Rattle.kinds.specs.Kind.{Row, fields_fit, kind_of}
use Rattle.kinds.specs.declared.fields.Post.{Post}
use Rattle.kinds.specs.declared.kind.Does.{Does}
use Rattle.kinds.specs.declared.kind.Does.TheVariants.{Receives, Issues, Brings, Leaves, Closes}
use Rattle.kinds.specs.declared.kind.Measure.{Measure}
use Rattle.kinds.specs.declared.kind.Measure.TheVariants.{Quantity, Content, Loss}
use Rattle.post.specs.declared.moves.Move.{Move}
use Rattle.post.specs.declared.moves.Move.TheVariants.{Received, Issued, Brought, Gone, Close}

-- a post's four floats, by their bit patterns
abbrev pub floats_of : Post → Inputs ℕ
floats_of p = record { w = p.w; u = p.u; p = p.p; q = p.q }

-- "an unused float has zero as its whole range, so decline 7 covers it"
abbrev pub floats_unused : Post → Bool
floats_unused p = in_ranges unused_ranges (values_of (floats_of p))

-- 6: "A length, kind, form, index, count, limit, order or zero place breaks the layout, floats aside"
unfoldable pub laid_out : Outline → List ℕ → Answer Row
unfolding checked kind_of
laid_out o s =
    on_taken (checked (check (eqb (length s) post_size) Layout ∷ []) (post_at s)) (λ p.
    on_taken (kind_of p.kind) (λ k. checked (check (fields_fit (k.limits o) p) Layout ∷ []) k))

-- 7 of a post, by its kind's measure: "an unused float has zero as its whole range", and a loss has the ranges of its form
abbrev pub floats_fit : Measure → Post → Bool
floats_fit Quantity p = floats_unused p
floats_fit Content p = floats_unused p
floats_fit Loss p = in_form p.material (values_of (floats_of p))

-- 6 and 7 of a post's bytes, which need no book
unfoldable pub well_formed : Outline → List ℕ → Answer Row
unfolding laid_out checked
well_formed o s = on_taken (laid_out o s) (λ k. checked (check (floats_fit k.measure (post_at s)) OutOfRange ∷ []) k)

-- the amount of a post that is well formed, by its kind's measure and the management numbers: the quantity as stated, "g times content", or the loss of its form
-- and floats over the substance's coefficient row, which 8 and 9 may decline
unfoldable pub measured : Measure → List ℕ → Post → Answer ℕ
measured Quantity numbers p = Ok p.quantity
measured Content numbers p = Ok (p.quantity * p.content)
measured Loss numbers p =
    loss_over p.material (row_of (get_or numbers p.substance 0)) (values_of (floats_of p))

-- what a kind does with its amount: "1 opening, 2 bought: material, g"; "3 issued: material, stage, g"; 4 to 12 and 14: at a stage, of a substance; "13 close"
abbrev pub move_of : Does → Post → ℕ → Move
move_of Receives p n = Received p.material n
move_of Issues p n = Issued p.material p.stage n
move_of (Brings account) p n = Brought account p.stage p.substance n
move_of (Leaves account) p n = Gone account p.stage p.substance n
move_of Closes p n = Close

-- the move of a post of a row's kind
abbrev pub move_in : Row → List ℕ → Post → Answer Move
move_in k numbers p = on_taken (measured k.measure numbers p) (λ n. Ok (move_of k.does p n))

-- 6 to 9: what the bytes of a post move
unfoldable pub move_at : Outline → List ℕ → List ℕ → Answer Move
unfolding well_formed measured
move_at o numbers s = on_taken (well_formed o s) (λ k. move_in k numbers (post_at s))

-- the move that the bytes of an accepted post say, whatever the outline; bytes that say none were declined
abbrev pub said : List ℕ → List ℕ → Move
said numbers s = value_or Close (on_taken (kind_of (post_at s).kind) (λ k. move_in k numbers (post_at s)))

-- 13: "and no post follows"
abbrev pub closes : Move → Bool
closes (Received m g) = false
closes (Issued m stage g) = false
closes (Brought account stage s n) = false
closes (Gone account stage s n) = false
closes Close = true
