-- What only follows the code's steps. No promise rests on these definitions.
use Rattle.std.specs.Prelude.{ℕ, ◌*◌, ◌≤◌, ◌<◌, List, [], ◌∷◌, get_or, Ok, Err}
use Rattle.amounts.specs.Decline.{Answer, check, checked}
use Rattle.amounts.specs.declared.decline.Decline.TheVariants.{OutOfRange}
use Rattle.forms.specs.Form.{values_of}
use Rattle.losses.specs.Coefficient.{row_of}
use Rattle.losses.specs.Loss.{loss_over}
use Rattle.layout.specs.declared.outline.Outline.{Outline}
use Rattle.kinds.specs.Kind.{Row}
use Rattle.kinds.specs.declared.fields.Post.{Post}
use Rattle.kinds.specs.declared.kind.Measure.{Measure}
use Rattle.kinds.specs.declared.kind.Measure.TheVariants.{Quantity, Content, Loss}
use Rattle.post.specs.Moves.{floats_of, floats_unused}
use Rattle.post.specs.declared.moves.Laid.{Laid}
use Rattle.post.specs.declared.moves.Move.{Move}
use Rattle.post.specs.declared.moves.Move.TheVariants.{Received, Issued, Brought, Gone, Close}

-- ---- a post in its layout

abbrev pub laid_as : Post → Row → Laid
laid_as p k = record { post = p; measure = k.measure; does = k.does }

abbrev pub laid_of : Post → Answer Row → Answer Laid
laid_of p (Ok k) = Ok (laid_as p k)
laid_of p (Err n) = Err n

-- ---- its amount, with 7 in front: a loss tests its floats where it is worked out

unfoldable pub amount_read : Measure → List ℕ → Post → Answer ℕ
unfolding checked
amount_read Quantity numbers p = checked (check (floats_unused p) OutOfRange ∷ []) p.quantity
amount_read Content numbers p = checked (check (floats_unused p) OutOfRange ∷ []) (p.quantity * p.content)
amount_read Loss numbers p =
    loss_over p.material (row_of (get_or numbers p.substance 0)) (values_of (floats_of p))

-- ---- what is true of every move that bytes tell, by an outline

abbrev pub Fits : Outline → Move → Type 0
Fits o (Received m g) = (m < o.materials) × (g ≤ 2000000000)
Fits o (Issued m stage g) = (m < o.materials) × ((stage < o.stages) × (g ≤ 2000000000))
Fits o (Brought account stage s n) = (stage < o.stages) × ((s < o.substances) × (n ≤ 2000000000000000))
Fits o (Gone account stage s n) = (stage < o.stages) × ((s < o.substances) × (n ≤ 2000000000000000))
Fits o Close = Unit
