-- A written journal is its calls one by one. Assumes nothing.
use mathlib.Core.Path.{◌≡◌, refl, sym, ap, ◌∙◌}
use mathlib.Core.Bool.{true, false, true≢false}
use mathlib.Core.List.{List, [], ◌∷◌, ◌++◌}
use Prim.Native.Nat.{ℕ, zero, suc, ◌+◌, ◌*◌, ◌≤◌}
use native.Mathlib.Decide.{ℕ_discrete}
use native.Mathlib.Numerals.{add-one}
use native.Mathlib.Omega.{arith}
use borrow.Author.Tests.{eq-eqb, ne_eqb}
use lib.ListN.{length, length-append}
use Rattle.std.specs.List.{AllByRecursion}
use Rattle.std.specs.Prelude.{Ok}
use Rattle.amounts.specs.Decline.{Answer, checked, is_taken}
use Rattle.layout.specs.Frame.{block_kind, count_of, body_of, frame_checks, block_of}
use Rattle.layout.specs.Holds.{holds_of}
use Rattle.layout.specs.Outline.{may_post, fresh_outline}
use Rattle.layout.specs.Posts.{post_in}
use Rattle.plant.specs.Setup.{fresh_setup, setup_of}
use Rattle.plant.specs.Stage.{with_stage}
use Rattle.layout.specs.declared.holds.Holds.TheVariants.{SetUp, Posts}
use Rattle.layout.specs.declared.holds.SetupPart.{SetupPart}
use Rattle.layout.specs.declared.outline.Outline.{Outline}
use Rattle.plant.specs.declared.setup.Setup.{Setup}
use Rattle.amounts.proofs.decline.Laws.{has_value, was_taken, passed}
use Rattle.layout.proofs.frame.Laws.{framed}
use Rattle.layout.proofs.frame.Made.{held_made}
use Rattle.book.specs.Block.{block_on}
use Rattle.book.specs.Posts.{post_on, taken_to, single_on}
use Rattle.book.specs.Site.{Book, fresh_book, fresh_year, book_with}
use Rattle.book.specs.Blocks.{parts_to, parts_in, read_all}
use Rattle.book.specs.declared.site.Year.{Year}
use Rattle.book.proofs.block.Laws.{Done, set_up, described, block_done}
use Rattle.book.proofs.block.Laws as blocks
use Rattle.book.proofs.blocks.Laws.{parts_cut}
use Rattle.book.proofs.posts.Laws as posts
use Rattle.book.proofs.posts.Laws.{none_yet}
use Rattle.bodies.proofs.setup.Taken as first
use Rattle.bodies.proofs.stage.Taken as stage
use Rattle.text.specs.Print.{title, lines_to}
use Rattle.journal.specs.Reading.{outcome_text}
use Rattle.report.specs.Report.{report_at}
use Rattle.text.specs.Line.{line_text}
use Rattle.pages.specs.Calls as calls
use Rattle.pages.specs.Calls.{set_up, end, accepted}
use Rattle.pages.specs.Page.{Page, fresh_page, set_up_on}
use Rattle.claims.specs.Singles.{all_taken}
use Rattle.claims.specs.Written.{joined, Sheet, sheet, of_posts, sheets, framed_from, blocks_of, ended_calls}
use Rattle.claims.specs.Written as written
use Rattle.claims.specs.Reread.{singly, JournalIsItsCalls, FilingIsOfCalls}
use Rattle.claims.proofs.written.Accepted.{not_posts, set_up_taken}
use Rattle.claims.proofs.written.Claims.{blocks_pass}
use Rattle.claims.proofs.written.Places.{joined_last}
use Rattle.claims.proofs.Filled.{run_admits, taken_long, one_more, block_of_posts_lem}

-- ---- the set-ups that a writer takes

-- each is a part of the set-up
abbrev Part : ℕ → Type 0
Part kind = (part : SetupPart) × (holds_of kind ≡ Ok (SetUp part))

abbrev SetsUp : calls.Call → Type 0
SetsUp (set_up kind count body) = Part kind
SetsUp (calls.post s) = Unit
SetsUp end = Unit

sets_up : (p : Page) (call : calls.Call) → is_taken (calls.answer_to p call) ≡ true → SetsUp call
sets_up p (set_up kind count body) e =
    let q = has_value (set_up_on p kind count body) e in
    let a = set_up_taken p q.0 kind count body q.1 in
    (a.0, a.1.holds)
sets_up p (calls.post s) e = tt
sets_up p end e = tt

-- of all that a writer accepts, from any page on
kinds_accepted : (p : Page) (list : List calls.Call) → AllByRecursion SetsUp (accepted p list)
unfolding accepted
kinds_accepted p [] = tt
kinds_accepted p (call ∷ list) =
    let t = is_taken (calls.answer_to p call) in
    let rest = kinds_accepted (calls.after p call) list in
    (elim t as (λ t'. t ≡ t' → AllByRecursion SetsUp (calls.keep t' call (accepted (calls.after p call) list))) [
      | true ↦ λ e. (sets_up p call e, rest)
      | false ↦ λ e. rest
    ]) refl

-- ---- 1 to 3 of blocks in turn, the first at a place

abbrev Frames : ℕ → List (List ℕ) → Type 0
Frames place [] = Unit
Frames place (s ∷ rest) = (checked (frame_checks place s) s ≡ Ok s) × Frames (suc place) rest

-- what passes 1 to 3 and more passes 1 to 3
frames : (place : ℕ) (o : Outline) (list : List (List ℕ)) → written.AllPass place o list → Frames place list
frames place o [] h = tt
frames place o (s ∷ rest) h =
    let v = has_value (checked (frame_checks place s) s) h.0.frame in
    (v.1 ∙ ap Ok (passed (frame_checks place s) s v.0 v.1).1, frames (suc place) (written.outline_past o s) rest h.1)

-- blocks joined are parted again
parts_joined : (place : ℕ) (list : List (List ℕ)) → Frames place list → parts_in (joined list) ≡ list
unfolding joined parts_to
parts_joined place [] h = refl
parts_joined place (s ∷ rest) h =
    let long : length s ≡ 512 = (framed place s s s h.0).0.long in
    let more = length-append s (joined rest) in
    parts_cut (s ++ joined rest) s (joined rest) refl (omega arith) (omega arith) ∙ ap (λ (ps : List (List ℕ)). s ∷ ps) (parts_joined (suc place) rest h.1)

-- ---- the reading book and the one that takes the calls singly

-- the year that posts that wait leave
record Waits (u : Setup) (y z : Year) (waiting : List (List ℕ)) : Type 0 where
  pub long : length (joined waiting) ≡ length waiting * 48
  pub run : taken_to u y (post_in (joined waiting)) (length waiting) ≡ Ok z

-- The reading book is of m blocks and a year behind which posts wait, the other of k blocks and the year that these posts leave; before the first post nothing waits
-- and both are of as many blocks.
record Joint (u : Setup) (y z : Year) (waiting : List (List ℕ)) (m k : ℕ) : Type 0 where
  pub waits : Waits u y z waiting
  pub few : length waiting ≤ 9
  pub before : may_post u.outline ≡ false → (waiting ≡ []) × (z ≡ y) × (m ≡ k)

-- nothing waits
joint_none : {u : Setup} {y : Year} {m k : ℕ} → (may_post u.outline ≡ false → m ≡ k) → Joint u y y [] m k
unfolding joined taken_to
joint_none h = record { waits = record { long = omega arith; run = refl }; few = omega arith; before = λ e. (refl, refl, h e) }

-- a set-up block that a book takes leaves the year, and comes before the first post
record Set (u : Setup) (y : Year) (k : ℕ) (c : Book) : Type 0 where
  pub setup : Setup
  pub book : c ≡ book_with setup y (k + 1)
  pub early : may_post u.outline ≡ false

set_done : (u : Setup) (y : Year) (k : ℕ) (s : List ℕ) (c : Book) → (holds_of (block_kind s) ≡ Ok Posts → ⊥) → Done (book_with u y k) s c → Set u y k c
set_done u y k s c other (set_up kind a is) = record { setup = setup_of (count_of s) (body_of s); book = is; early = first.not_yet u.outline a.none }
set_done u y k s c other (described kind a is) = record { setup = with_stage u (count_of s) (body_of s); book = is; early = stage.not_yet u.outline a.left }
set_done u y k s c other (blocks.posted z kind o run is) = absurd (other kind)

module _ (b : Book) where
  -- ---- reading blocks

  -- Framed as the next blocks, further sheets are read on a book of so many, which is then b, but for its block number.
  abbrev Reads : Setup → Year → ℕ → List Sheet → Type 0
  Reads u y m xs =
      Frames m (framed_from m xs) → (place : ℕ) → read_all (book_with u y m) place (framed_from m xs) ≡ Ok (book_with b.setup b.year (m + length (framed_from m xs)))

  -- none
  reads_none : (u : Setup) (y : Year) (m k : ℕ) → ◌≡◌ {A = Answer Book} (Ok (book_with u y k)) (Ok b) → Reads u y m []
  unfolding read_all framed_from
  reads_none u y m k e f place =
      let is : b ≡ book_with u y k = cc in
      let none : m ≡ m + 0 = omega arith in
      rw is (ap (λ (n : ℕ). Ok (book_with u y n)) none)

  -- one that is taken, and then the rest
  reads_next : (u v : Setup) (y z : Year) (m : ℕ) (x : Sheet) (xs : List Sheet)
      → (Frames m (framed_from m (x ∷ xs)) → block_on (book_with u y m) (block_of x.kind x.count m x.body) ≡ Ok (book_with v z (m + 1))) → Reads v z (suc m) xs → Reads u y m (x ∷ xs)
  unfolding read_all framed_from
  reads_next u v y z m x xs e h f place =
      let more : suc m + length (framed_from (suc m) xs) ≡ m + suc (length (framed_from (suc m) xs)) = omega arith in
      rw (e f, add-one m, h f.1 (suc place), more)

  -- the block of posts that wait
  reads_waiting : (u : Setup) (y z : Year) (waiting : List (List ℕ)) (m : ℕ) (xs : List Sheet) → Waits u y z waiting → 1 ≤ length waiting → length waiting ≤ 10
      → Reads u z (suc m) xs → Reads u y m (of_posts waiting ∷ xs)
  unfolding framed_from
  reads_waiting u y z waiting m xs w some few =
      reads_next u u y z m (of_posts waiting) xs (λ f. block_of_posts_lem (length waiting) (joined waiting) w.long some few m u y z w.run f.0)

  -- ---- a call more, whatever waits

  -- an end: the posts that wait are written
  reads_end : (u : Setup) (y z : Year) (waiting : List (List ℕ)) (m k : ℕ) (cs : List calls.Call) → Joint u y z waiting m k
      → ((n : ℕ) → Joint u z z [] n k → Reads u z n (sheets [] cs)) → Reads u y m (sheets waiting (end ∷ cs))
  unfolding sheets taken_to
  reads_end u y z [] m k cs j rest =
      let is : z ≡ y = cc (j.waits.run) in
      rw (← is) (rest m (joint_none (λ t. (j.before t).2)))
  reads_end u y z (w ∷ ws) m k cs j rest =
      let waiting : List (List ℕ) = w ∷ ws in
      let some : 1 ≤ length waiting = omega arith in
      let turn = (run_admits u y z (post_in (joined waiting)) (length waiting) some j.waits.run).0 in
      let few = j.few in
      rw (ne_eqb (length waiting) 0 (λ e. omega arith))
      (reads_waiting u y z waiting m (sheets [] cs) j.waits some (omega arith) (rest (suc m) (joint_none (λ t. absurd (true≢false (sym turn ∙ t))))))

  -- the book that reads the journal of further calls, once ended, is then the book that took them singly, but for its block number
  abbrev Joins : List calls.Call → Type 0
  Joins cs =
      (u : Setup) (y z : Year) (waiting : List (List ℕ)) (m k : ℕ) → Joint u y z waiting m k → all_taken (book_with u z k) (singly k cs) ≡ Ok b
      → Reads u y m (sheets waiting (cs ++ (end ∷ [])))

  -- a post: it waits, or is the tenth and is written with those that wait
  joins_post : (s : List ℕ) (cs : List calls.Call) → Joins cs → Joins (calls.post s ∷ cs)
  unfolding sheets all_taken singly single_on
  joins_post s cs rest u y z waiting m k j e = go (ℕ_discrete (length waiting) 9)
    where
      more : List (List ℕ)
      more = waiting ++ (s ∷ [])

      next : (x : Year) × (post_on u z s ≡ Ok x) × (all_taken (book_with u x k) (singly k cs) ≡ Ok b)
      next =
          let a = was_taken (single_on (book_with u z k) s) (λ c. all_taken c (singly k cs)) b e in
          let p = was_taken (post_on u z s) (λ x. Ok (book_with u x k)) a.0 a.1 in
          let is : a.0 ≡ book_with u p.0 k = cc in
          (p.0, p.1, ap (λ (c : Book). all_taken c (singly k cs)) (sym is) ∙ a.2)

      x : Year
      x = next.0

      count : length more ≡ suc (length waiting)
      count = omega (arith, length-append waiting (s ∷ []))

      waits : Waits u y x more
      waits =
          record {
            long = omega (arith, ap (λ (l : List ℕ). length l) (joined_last waiting s), length-append (joined waiting) s, count, j.waits.long, taken_long u z x s next.1);
            run = rw (joined_last waiting s, count) (one_more u y z x (joined waiting) s (length waiting) j.waits.long j.waits.run next.1);
          }

      turn : may_post u.outline ≡ false → ⊥
      turn t = true≢false (sym (posts.posted u z x s next.1).admitted.in_turn ∙ t)

      go : Dec (length waiting ≡ 9) → Reads u y m (sheets waiting (calls.post s ∷ (cs ++ (end ∷ []))))
      go (yes q) =
          rw (eq-eqb (length waiting) 9 q)
          (reads_waiting u y x more m (sheets [] (cs ++ (end ∷ []))) waits (omega (arith, count)) (omega (arith, count))
          (rest u x x [] (suc m) k (joint_none (λ t. absurd (turn t))) next.2))
      go (no d) =
          let few = j.few in
          rw (ne_eqb (length waiting) 9 d)
          (rest u y x more m k (record { waits = waits; few = omega (arith, count); before = λ t. absurd (turn t) }) next.2)

  -- a set-up: both books take it
  joins_set_up : (kind count : ℕ) (body : List ℕ) (cs : List calls.Call) → Part kind → Joins cs → Joins (set_up kind count body ∷ cs)
  unfolding sheets all_taken singly
  joins_set_up kind count body cs part rest u y z waiting m k j e =
      let s = block_of kind count k body in
      let a = was_taken (block_on (book_with u z k) s) (λ c. all_taken c (singly (suc k) cs)) b e in
      let d = set_done u z k s a.0 (not_posts part.0 (held_made kind count k body (SetUp part.0) part.1)) (block_done (book_with u z k) a.0 s a.1).1 in
      let none = j.before d.early in
      let is : a.0 ≡ book_with d.setup z (suc k) = d.book ∙ ap (book_with d.setup z) (add-one k) in
      rw (none.0, ← none.1, none.2)
      (reads_next u d.setup z z k (sheet kind count body) (sheets [] (cs ++ (end ∷ []))) (λ f. a.1 ∙ ap Ok d.book)
      (rest d.setup z z [] (suc k) (suc k) (joint_none (λ t. refl)) (ap (λ (c : Book). all_taken c (singly (suc k) cs)) (sym is) ∙ a.2)))

  joins_all : (cs : List calls.Call) → AllByRecursion SetsUp cs → Joins cs
  unfolding all_taken singly sheets
  joins_all [] kinds = λ u y z waiting m k j e. reads_end u y z waiting m k [] j (λ n i. reads_none u z n k e)
  joins_all (set_up kind count body ∷ cs) kinds = joins_set_up kind count body cs kinds.0 (joins_all cs kinds.1)
  joins_all (calls.post s ∷ cs) kinds = joins_post s cs (joins_all cs kinds.1)
  joins_all (end ∷ cs) kinds = λ u y z waiting m k j e. reads_end u y z waiting m k (cs ++ (end ∷ [])) j (λ n i. joins_all cs kinds.1 u z z [] n k i e)

-- ---- the claims

-- no report tells how many blocks a book has taken
same_lines : (b : Book) (blocks n : ℕ) → lines_to (book_with b.setup b.year blocks) n ≡ lines_to b n
unfolding lines_to
same_lines b blocks zero = refl
same_lines b blocks (suc n) = ap (λ (l : List ℕ). l ++ line_text (report_at b n)) (same_lines b blocks n)

-- 4: a fresh book takes the written journal, and is the book that took the calls singly, but for its block number
pub journal_is_its_calls : JournalIsItsCalls
unfolding blocks_of
journal_is_its_calls lent list b e =
    let cs = accepted (fresh_page lent) list in
    let f = frames 0 fresh_outline (blocks_of (ended_calls lent list)) (blocks_pass lent list) in
    let zero_more : 0 + length (blocks_of (ended_calls lent list)) ≡ length (blocks_of (ended_calls lent list)) = omega arith in
    ap (read_all fresh_book 0) (parts_joined 0 (blocks_of (ended_calls lent list)) f)
    ∙ joins_all b cs (kinds_accepted (fresh_page lent) list) fresh_setup fresh_year fresh_year [] 0 0 (joint_none (λ t. refl)) e f 0
    ∙ ap (λ (n : ℕ). Ok (book_with b.setup b.year n)) zero_more

-- 5: what is printed of the journal is what the reports of that book say
pub filing_is_of_calls : FilingIsOfCalls
filing_is_of_calls lent list b e = ap outcome_text (journal_is_its_calls lent list b e) ∙ ap (λ (l : List ℕ). title ++ l) (same_lines b _ b.setup.outline.substances)
