-- The worked lists of a writer's calls, by computation. Assumes nothing.
use mathlib.Core.Path.{◌≡◌, refl}
use mathlib.Core.List.{[], ◌∷◌, ◌++◌}
use lib.Ieee as ieee
use lib.ListN.{get_or}
use Rattle.forms.specs.Pattern.{in_range}
use Rattle.amounts.specs.Class.{class_of}
use Rattle.amounts.specs.Content.{counted_of}
use Rattle.std.specs.Prelude.{Ok, Err}
use Rattle.amounts.specs.declared.decline.Decline.TheVariants.{Short}
use Rattle.encoding.specs.Bytes.{le, written, placed}
use Rattle.encoding.specs.Each.{sum_to, all_to, list_to, put_to}
use Rattle.plant.specs.Setup.{set_up_on}
use Rattle.bodies.specs.Stage.{second_of, rates_at}
use Rattle.plant.specs.Stage.{described_on}
use Rattle.kinds.specs.Fields.{post_at}
use Rattle.post.specs.Moves.{measured}
use Rattle.book.specs.Block.{block_on}
use Rattle.book.specs.Posts.{posts_on, single_on}
use Rattle.book.specs.Site.{fresh_book}
use Rattle.book.specs.Blocks.{parts_to, parts_in, refused, read_all}
use Rattle.pages.specs.Calls.{end, accepted}
use Rattle.pages.specs.Page as page
use Rattle.pages.specs.Page.{fresh_page}
use Rattle.claims.specs.Singles.{all_taken}
use Rattle.claims.specs.Written.{joined, blocks_of}
use Rattle.claims.specs.Reread.{singly}
use Rattle.worked_claims.specs.Reread.{met, unmet, lent, book_met, PremiseMet, PremiseNeeded}

-- a new writer takes both lists
writer_takes : (accepted (fresh_page lent) met ≡ met) × (accepted (fresh_page lent) unmet ≡ unmet)
unfolding met unmet lent accepted class_of page.set_up_on page.post_on placed written le sum_to all_to second_of rates_at post_at in_range ieee.of_bits ieee.round ieee.le
writer_takes = (refl, refl)

-- ---- the premise met

-- what the book is that took them: both posts, one material, and 900 g of it in store
pub book_takes_met : (all_taken fresh_book (singly 0 met) ≡ Ok book_met)
    × ((book_met.year.posts ≡ 2) × ((book_met.setup.outline.materials ≡ 1) × (get_or book_met.year.store 0 0 ≡ 900)))
unfolding book_met block_on single_on described_on set_up_on posts_on le sum_to all_to list_to put_to second_of rates_at counted_of post_at measured in_range ieee.of_bits ieee.round ieee.le
book_takes_met = (refl, (refl, (refl, refl)))

pub premise_met : PremiseMet
premise_met = (rw writer_takes.0 book_takes_met.0, book_takes_met.1.0)

-- ---- the premise not met

-- a fresh book declines the issue, alone
declined_alone : all_taken fresh_book (singly 0 unmet) ≡ Err Short
unfolding unmet all_taken singly block_on single_on described_on set_up_on le sum_to all_to second_of rates_at counted_of post_at measured in_range ieee.of_bits ieee.round ieee.le
declined_alone = refl

-- and in the journal
declined_written : read_all fresh_book 0 (parts_in (joined (blocks_of (unmet ++ (end ∷ []))))) ≡ Err (refused 2 Short)
unfolding unmet joined blocks_of parts_to read_all block_on described_on set_up_on posts_on le sum_to all_to second_of rates_at counted_of post_at measured in_range ieee.of_bits ieee.round ieee.le
declined_written = refl

pub premise_needed : PremiseNeeded
premise_needed = rw writer_takes.1 (declined_alone, declined_written)
