-- Turns (document 01, "Journal blocks" and decline 4).
use Rattle.std.specs.Prelude.{ℕ, ◌+◌, Bool, not, ◌&&◌, eqb, ltb}
use Rattle.layout.specs.declared.outline.Outline.{Outline}

-- before any set-up
abbrev pub fresh_outline : Outline
fresh_outline = record { substances = 0; materials = 0; stages = 0; described = 0 }

-- with a stage described
abbrev pub with_described : Outline → ℕ → Outline
with_described o stage = record { substances = o.substances; materials = o.materials; stages = o.stages; described = stage + 1 }

-- "Kind 1, first, once": a book has substances from then on
abbrev pub may_set_up : Outline → Bool
may_set_up o = eqb o.substances 0

-- "Kind 2, once per stage in order": the stage named is the next, from 0
abbrev pub may_describe : Outline → ℕ → Bool
may_describe o stage = ltb o.described o.stages && eqb stage o.described

-- "a post or a block of posts before the last stage is described" is out of turn
abbrev pub may_post : Outline → Bool
may_post o = not (eqb o.substances 0) && eqb o.described o.stages
