-- A part that is fed leaves a reading fewer to take, so that reading ends. Assumes nothing.
use Rattle.std.proofs.Common.{◌≡◌, refl, sym, subst, false, List, ℕ, suc, ◌-◌, ◌<◌, get_or, Option, Some, None, Ok, Err, arith}
use Rattle.std.specs.Option.{is_some}
use Rattle.amounts.specs.Decline.{Answer}
use Rattle.amounts.specs.declared.decline.Decline.{Decline}
use Rattle.layout.proofs.frame.Laws.{number_small}
use Rattle.book.specs.Block.{block_on}
use Rattle.book.specs.Site.{Book}
use Rattle.book.proofs.block.Laws.{block_done, block_more}
use Rattle.journal.specs.Reading.{after_block, fed_while, fed, left_while, parts_left, Advances}
use Rattle.journal.specs.declared.reading.Reading.{Reading}

-- the number of an accepted block is the count of those before it, and has 16 bits
pub fewer_left : (b : Book) (part : List ℕ) → ((i : ℕ) → get_or part i 0 < 256) → parts_left (after_block b (block_on b part)) < suc (65536 - b.blocks)
fewer_left b part bytes = go (block_on b part) refl
  where
    go : (a : Answer Book) → block_on b part ≡ a → parts_left (after_block b a) < suc (65536 - b.blocks)
    go (Ok c) e = omega (arith, number_small b.blocks part bytes (block_done b c part e).0, block_more b c part e)
    go (Err n) e = omega arith

-- a state that is the one fed leaves fewer
pub advances : (r x : Reading) (part : List ℕ) → ((i : ℕ) → get_or part i 0 < 256) → x ≡ fed r part → Advances r x
advances r x part bytes e = subst (Advances r) (sym e) (go r.stopped)
  where
    go : (s : Option Decline) → is_some s ≡ false → parts_left (fed_while s r.book part) < left_while s r.book
    go None t = fewer_left r.book part bytes
    go (Some d) t = cc
