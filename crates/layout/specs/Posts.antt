-- Kind 3: what a block's own bytes say of its posts (document 01, "Journal blocks" and "Why a call is declined, in checking order"). The body is the block's bytes 8 to 507.
use Rattle.std.specs.Prelude.{ℕ, ◌*◌, Bool, not, List, [], ◌∷◌, eqb, length, take, drop}
use Rattle.amounts.specs.Decline.{Check, check}
use Rattle.amounts.specs.declared.decline.Decline.TheVariants.{OutOfTurn, Closed, Layout}
use Rattle.encoding.specs.Bytes.{all_zero, within}
use Rattle.layout.specs.Outline.{may_post}
use Rattle.layout.specs.declared.outline.Outline.{Outline}

-- the bytes of a post
abbrev pub post_size : ℕ
post_size = 48

-- the ith of the parts of a size that bytes are made of, from 0
abbrev pub part_of : ℕ → List ℕ → ℕ → List ℕ
part_of size s i = take size (drop (i * size) s)

-- the post at a place of the body, from 0
abbrev pub post_in : List ℕ → ℕ → List ℕ
post_in body = part_of post_size body

-- 4, 5 and 6 of the block's own bytes: "Count: posts, 1–10, from byte 8", and zero behind the last post
abbrev pub own_checks : Outline → Bool → ℕ → List ℕ → List Check
own_checks o closed count body =
    check (may_post o) OutOfTurn
    ∷ check (not closed) Closed
    ∷ check (eqb (length body) 500) Layout
    ∷ check (within 1 10 count) Layout
    ∷ check (all_zero (drop (count * post_size) body)) Layout
    ∷ []
