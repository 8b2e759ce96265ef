-- A journal that is fed part by part prints what its bytes say. Assumes nothing.
use Rattle.std.proofs.Common.{◌≡◌, refl, ap, ◌∙◌, List, [], ◌∷◌, ℕ, suc, add-one, Some, None, Ok, Err}
use Rattle.amounts.specs.Decline.{Answer}
use Rattle.amounts.specs.declared.decline.Decline.{Decline}
use Rattle.book.specs.Block.{block_on}
use Rattle.book.specs.Site.{Book, fresh_book}
use Rattle.book.specs.Blocks.{parts_in, onward, read_all}
use Rattle.book.proofs.block.Laws.{block_more}
use Rattle.journal.specs.Reading.{outcome_text, printed_of, started, after_block, fed, text_of}
use Rattle.journal.specs.declared.reading.Reading.{Reading}

unfoldable pub fed_all : Reading → List (List ℕ) → Reading
fed_all r [] = r
fed_all r (part ∷ parts) = fed_all (fed r part) parts

-- after a decline nothing changes
pub stays_all : (b : Book) (d : Decline) (parts : List (List ℕ)) → fed_all (record { book = b; stopped = Some d }) parts ≡ record { book = b; stopped = Some d }
unfolding fed_all
stays_all b d [] = refl
stays_all b d (part ∷ parts) = stays_all b d parts

fed_text : (b : Book) (parts : List (List ℕ)) → text_of (fed_all (record { book = b; stopped = None }) parts) ≡ outcome_text (read_all b b.blocks parts)
unfolding fed_all read_all
fed_text b [] = refl
fed_text b (part ∷ parts) = go (block_on b part) refl (λ c. fed_text c parts)
  where
    go : (a : Answer Book) → block_on b part ≡ a → ((c : Book) → text_of (fed_all (record { book = c; stopped = None }) parts) ≡ outcome_text (read_all c c.blocks parts))
        → text_of (fed_all (after_block b a) parts) ≡ outcome_text (onward a b.blocks (λ c. read_all c (suc b.blocks) parts))
    go (Ok c) e rest = rest c ∙ ap (λ (k : ℕ). outcome_text (read_all c k parts)) (block_more b c part e ∙ add-one b.blocks)
    go (Err n) e rest = ap text_of (stays_all b n parts)

-- a journal fed part by part prints what its bytes say
pub filing_is : (s : List ℕ) → text_of (fed_all started (parts_in s)) ≡ printed_of s
filing_is s = fed_text fresh_book (parts_in s)
