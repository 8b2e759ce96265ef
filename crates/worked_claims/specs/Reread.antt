-- Lists of a writer's calls, one that a fresh book takes one by one and one that it doesn't (document 02, (a): "If a fresh book takes the set-up and posts that the
-- writer took, one by one, it also takes the written journal").
use Rattle.std.specs.Prelude.{ℕ, ◌≡◌, List, [], ◌∷◌, ◌++◌, replicate, Err}
use Rattle.amounts.specs.Decline.{value_or}
use Rattle.amounts.specs.declared.decline.Decline.TheVariants.{Short}
use Rattle.encoding.specs.Bytes.{padded}
use Rattle.book.specs.Site.{Book, fresh_book}
use Rattle.book.specs.Blocks.{parts_in, refused, read_all}
use Rattle.pages.specs.Calls.{Call, set_up, post, accepted}
use Rattle.pages.specs.Page.{fresh_page}
use Rattle.claims.specs.Singles.{all_taken}
use Rattle.claims.specs.Reread.{singly, TakesSingly, journal_of}

-- ---- the calls

-- a substance, number 300 and class 1, that is all of the one material; and one stage
unfoldable pub substances : List ℕ
substances = padded 500 (1 ∷ 1 ∷ 44 ∷ 1 ∷ (replicate 14 0 ++ (1 ∷ (replicate 7 0 ++ (64 ∷ 66 ∷ 15 ∷ [])))))

-- water to public water, residues off site, the substance to gas, and no treatment
unfoldable pub stage : List ℕ
stage = padded 500 (1 ∷ 1 ∷ 1 ∷ [])

-- 1,000 g bought, and 100 g issued
unfoldable pub bought : List ℕ
bought = padded 48 (2 ∷ (replicate 7 0 ++ (232 ∷ 3 ∷ [])))

unfoldable pub issued : List ℕ
issued = padded 48 (3 ∷ (replicate 7 0 ++ (100 ∷ [])))

unfoldable pub met : List Call
unfolding substances stage bought issued
met = set_up 1 1 substances ∷ set_up 2 0 stage ∷ post bought ∷ post issued ∷ []

-- nothing was bought
unfoldable pub unmet : List Call
unfolding substances stage issued
unmet = set_up 1 1 substances ∷ set_up 2 0 stage ∷ post issued ∷ []

-- room for three blocks
unfoldable pub lent : List ℕ
lent = replicate 1536 7

-- the book that took them singly
unfoldable pub book_met : Book
unfolding all_taken singly met
book_met = value_or fresh_book (all_taken fresh_book (singly 0 met))

-- ---- what is shown of them

-- the premise can be met, by a book that has both posts
abbrev pub PremiseMet : Type 0
PremiseMet = TakesSingly lent met book_met × (book_met.year.posts ≡ 2)

-- where it isn't met, since a store can't give what it hasn't, the journal is refused too: at its third block, as the post was
abbrev pub PremiseNeeded : Type 0
PremiseNeeded =
    (all_taken fresh_book (singly 0 (accepted (fresh_page lent) unmet)) ≡ Err Short)
    × (read_all fresh_book 0 (parts_in (journal_of lent unmet)) ≡ Err (refused 2 Short))
