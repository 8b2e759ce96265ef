-- A post's bytes (document 01, "Posts").
use Rattle.std.specs.Prelude.{ℕ, List, get_or, drop}
use Rattle.encoding.specs.Bytes.{le}
use Rattle.kinds.specs.declared.fields.Post.{Post}

-- "0 kind, 1 material (in kind 12: form), 2 stage, 3 substance, 4–7 content, 8–15 quantity, 16–47 four floats w, u, p, q in that order"
unfoldable pub post_at : List ℕ → Post
unfolding le
post_at s =
    record {
      kind = get_or s 0 0;
      material = get_or s 1 0;
      stage = get_or s 2 0;
      substance = get_or s 3 0;
      content = le 4 (drop 4 s);
      quantity = le 8 (drop 8 s);
      w = le 8 (drop 16 s);
      u = le 8 (drop 24 s);
      p = le 8 (drop 32 s);
      q = le 8 (drop 40 s);
    }
