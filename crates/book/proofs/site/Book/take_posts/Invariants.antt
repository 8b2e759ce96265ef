use Rattle.std.proofs.Common.{◌≡◌, Ok}
use Rattle.book.specs.Posts.{taken_to}
use Rattle.layout.specs.Posts.{post_in}
use Rattle.book.proofs.site.Book.take_posts.Given as goal

-- the posts before the place are taken, and the year is the one after them
abbrev pub invariant-loop-i : goal.invariant-loop-i
invariant-loop-i l =
    record {
      so_far : taken_to l.initial.self.setup l.initial.self.year (post_in l.body) l.i ≡ Ok l.self.year;
      setup : l.self.setup ≡ l.initial.self.setup;
      blocks : l.self.blocks ≡ l.initial.self.blocks;
    }
