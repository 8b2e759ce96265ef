-- A written journal against its calls one by one (document 02, (a)): "If a fresh book takes the set-up and posts that the writer took, one by one, it also takes the
-- written journal, once ended, and then holds the same set-up, amounts and post count".
use Rattle.std.specs.Prelude.{ℕ, suc, ◌≡◌, List, [], ◌∷◌, length, Ok}
use Rattle.layout.specs.Frame.{block_of}
use Rattle.book.specs.Site.{Book, fresh_book, book_with}
use Rattle.book.specs.Blocks.{parts_in, read_all}
use Rattle.journal.specs.Reading.{printed_of}
use Rattle.text.specs.Print.{return_text}
use Rattle.pages.specs.Calls as calls
use Rattle.pages.specs.Calls.{set_up, end, accepted}
use Rattle.pages.specs.Page.{fresh_page}
use Rattle.claims.specs.Singles.{all_taken}
use Rattle.claims.specs.Standing.{Call, post, block}
use Rattle.claims.specs.Written.{joined, blocks_of, ended_calls}

-- "the set-up as framed blocks, each post as a single post": so many set-up blocks came before
unfoldable pub singly : ℕ → List calls.Call → List Call
unfolding block_of
singly number [] = []
singly number (set_up kind count body ∷ rest) = block (block_of kind count number body) ∷ singly (suc number) rest
singly number (calls.post s ∷ rest) = post s ∷ singly number rest
singly number (end ∷ rest) = singly number rest

-- a fresh book takes what a new writer over a lent buffer took of a list, one by one, and then is the book
abbrev pub TakesSingly : List ℕ → List calls.Call → Book → Type 0
TakesSingly lent list b = all_taken fresh_book (singly 0 (accepted (fresh_page lent) list)) ≡ Ok b

-- the written journal, once ended
abbrev pub journal_of : List ℕ → List calls.Call → List ℕ
journal_of lent list = joined (blocks_of (ended_calls lent list))

-- ---- 4: "it also takes the written journal, once ended", and is the same book but for its block number
abbrev pub JournalIsItsCalls : Type 0
JournalIsItsCalls =
    (lent : List ℕ) (list : List calls.Call) (b : Book) → TakesSingly lent list b
    → read_all fresh_book 0 (parts_in (journal_of lent list)) ≡ Ok (book_with b.setup b.year (length (blocks_of (ended_calls lent list))))

-- ---- 5: what `filing` prints of the journal is what the reports after the posts say
abbrev pub FilingIsOfCalls : Type 0
FilingIsOfCalls = (lent : List ℕ) (list : List calls.Call) (b : Book) → TakesSingly lent list b → printed_of (journal_of lent list) ≡ return_text b
