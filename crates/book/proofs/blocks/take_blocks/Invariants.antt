use Rattle.std.proofs.Common.{◌≡◌}
use Rattle.book.specs.Site.{fresh_book}
use Rattle.book.specs.Blocks.{parts_in, read_all}
use Rattle.book.proofs.blocks.take_blocks.Given as goal

-- the book after the parts passed is read on over the rest
abbrev pub invariant-loop-part : goal.invariant-loop-part
invariant-loop-part l =
    record {
      so_far : read_all l.book l.book.blocks (parts_in l.part-iterator.rest.now) ≡ read_all fresh_book 0 (parts_in l.journal);
      size : l.part-iterator.size ≡ 512;
    }
