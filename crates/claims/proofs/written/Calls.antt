-- What a writer's page shows after a list of calls. Assumes nothing.
use mathlib.Core.Path.{◌≡◌, refl, sym, subst, ◌∙◌}
use mathlib.Core.Bool.{Bool, true≢false, cond}
use mathlib.Core.List.{List, [], ◌∷◌, ◌++◌, append_assoc, append-nil}
use Prim.Native.Nat.{ℕ, suc, ◌+◌}
use native.Mathlib.Decide.{ℕ_discrete}
use native.Mathlib.Omega.{arith}
use borrow.Author.Tests.{eq-eqb, ne_eqb}
use lib.Dec.{eqb}
use lib.ListN.{length, length-append}
use Rattle.std.specs.Prelude.{Ok, Err}
use Rattle.amounts.specs.Decline.{is_taken, value_or}
use Rattle.layout.specs.Frame.{block_of}
use Rattle.pages.specs.Calls.{Call, set_up, post, end, answer_to, run, keep, accepted}
use Rattle.pages.specs.Page as page
use Rattle.pages.specs.Page.{Page, fresh_page}
use Rattle.claims.specs.Written.{Sheet, of_posts, sheets, framed_from, blocks_of, ended_calls, post_by, posts_taken}
use Rattle.claims.proofs.written.Accepted.{PostTaken, set_up_taken, post_taken}
use Rattle.claims.proofs.written.Shows.{Shows, shows_fresh}
use Rattle.claims.proofs.written.Steps.{shows_set_up, shows_tenth, shows_waiting, shows_same, shows_ended}
use Rattle.claims.proofs.written.Sheets.{sheets_by, waiting_by, waiting_after, sheets_first, sheets_last, framed_long, framed_append}

-- ---- a call

-- the blocks after an accepted call
abbrev pub blocks_by : List (List ℕ) → List (List ℕ) → Call → List (List ℕ)
blocks_by blocks waiting call = blocks ++ framed_from (length blocks) (sheets_by waiting call)

module _ (lent : List ℕ) (posts blocks : List (List ℕ)) (p q : Page) where
  -- a set-up block comes before any post
  call_set_up : (waiting : List (List ℕ)) (kind count : ℕ) (body : List ℕ) → Shows lent posts blocks waiting p → answer_to p (set_up kind count body) ≡ Ok q
      → Shows lent (posts ++ []) (blocks_by blocks waiting (set_up kind count body)) waiting q
  unfolding framed_from
  call_set_up [] kind count body h e =
      let a = set_up_taken p q kind count body e in
      rw (a.2, append-nil posts)
      (subst (λ (n : ℕ). Shows lent posts (blocks ++ (block_of kind count n body ∷ [])) [] (page.with_part p kind a.0 count body)) h.number
      (shows_set_up lent posts blocks p kind a.0 count body h a.1))
  call_set_up (w ∷ ws) kind count body h e =
      let a = (set_up_taken p q kind count body e).1 in
      absurd (true≢false (sym (h.begun (omega arith)).in_turn ∙ a.not_yet))

  module _ (waiting : List (List ℕ)) (h : Shows lent posts blocks waiting p) where
    module _ (s : List ℕ) where
      -- after a post, whether it is the tenth
      abbrev AfterPost : Bool → Type 0
      AfterPost t =
          Shows lent (posts ++ (s ∷ [])) (blocks ++ framed_from (length blocks) (cond t (of_posts (waiting ++ (s ∷ [])) ∷ []) [])) (cond t [] (waiting ++ (s ∷ []))) (page.posted p s)

      by_room : PostTaken (length p.bytes) p.draft.tally s → Dec (length waiting ≡ 9) → AfterPost (eqb (length waiting) 9)
      unfolding framed_from
      by_room a (yes f) = rw (eq-eqb (length waiting) 9 f) (shows_tenth lent posts blocks waiting p s h a f)
      by_room a (no d) = rw (ne_eqb (length waiting) 9 d, append-nil blocks) (shows_waiting lent posts blocks waiting p s h a d)

      call_post : answer_to p (post s) ≡ Ok q → Shows lent (posts ++ (s ∷ [])) (blocks_by blocks waiting (post s)) (waiting_by waiting (post s)) q
      call_post e = let a = post_taken p q s e in rw a.1 (by_room a.0 (ℕ_discrete (length waiting) 9))

-- an end is always accepted
pub shows_end : (lent : List ℕ) (posts blocks waiting : List (List ℕ)) (p : Page) → Shows lent posts blocks waiting p
    → Shows lent posts (blocks_by blocks waiting end) [] (page.ended p)
unfolding framed_from
shows_end lent posts blocks [] p h = rw (append-nil blocks) (shows_same lent posts blocks p h)
shows_end lent posts blocks (w ∷ ws) p h = rw (ne_eqb (suc (length ws)) 0 (λ e. omega arith)) (shows_ended lent posts blocks (w ∷ ws) p h (omega arith))

-- every accepted call keeps what the page shows
pub shows_call : (lent : List ℕ) (posts blocks waiting : List (List ℕ)) (p q : Page) (call : Call) → Shows lent posts blocks waiting p → answer_to p call ≡ Ok q
    → Shows lent (posts ++ post_by call) (blocks_by blocks waiting call) (waiting_by waiting call) q
shows_call lent posts blocks waiting p q (set_up kind count body) h e = call_set_up lent posts blocks p q waiting kind count body h e
shows_call lent posts blocks waiting p q (post s) h e = call_post lent posts blocks p q waiting h s e
shows_call lent posts blocks waiting p q end h e =
    let is : q ≡ page.ended p = cc in
    rw (is, append-nil posts) (shows_end lent posts blocks waiting p h)

-- ---- a list of calls

-- the blocks after accepted calls
abbrev pub blocks_after : List (List ℕ) → List (List ℕ) → List Call → List (List ℕ)
blocks_after blocks waiting calls = blocks ++ framed_from (length blocks) (sheets waiting calls)

-- the blocks of the first call, and then those of the others
blocks_first : (blocks waiting : List (List ℕ)) (call : Call) (calls : List Call)
    → blocks_after (blocks_by blocks waiting call) (waiting_by waiting call) calls ≡ blocks_after blocks waiting (call ∷ calls)
blocks_first blocks waiting call calls =
    let xs : List Sheet = sheets_by waiting call in
    let ys : List Sheet = sheets (waiting_by waiting call) calls in
    simp (length-append, framed_long, append_assoc, sheets_first) (simp (framed_append (length blocks) xs ys))

-- the page after accepted calls
abbrev pub ShowsAfter : List ℕ → List (List ℕ) → List (List ℕ) → List (List ℕ) → List Call → Page → Type 0
ShowsAfter lent posts blocks waiting calls p = Shows lent (posts ++ posts_taken calls) (blocks_after blocks waiting calls) (waiting_after waiting calls) p

-- all calls, one by one
shows_all : (lent : List ℕ) (calls : List Call) (posts blocks waiting : List (List ℕ)) (p : Page) → Shows lent posts blocks waiting p
    → ShowsAfter lent posts blocks waiting (accepted p calls) (run p calls)
unfolding run accepted sheets framed_from
shows_all lent [] posts blocks waiting p h = rw (append-nil posts, append-nil blocks) h
shows_all lent (call ∷ calls) posts blocks waiting p h =
    (elim (answer_to p call) as
    (λ a. answer_to p call ≡ a → ShowsAfter lent posts blocks waiting (keep (is_taken a) call (accepted (value_or p a) calls)) (run (value_or p a) calls)) [
      | Ok q ↦ λ e.
          let cs : List Call = accepted q calls in
          rw (← blocks_first blocks waiting call cs, ← append_assoc posts (post_by call) (posts_taken cs))
          (shows_all lent calls (posts ++ post_by call) (blocks_by blocks waiting call) (waiting_by waiting call) q (shows_call lent posts blocks waiting p q call h e))
      | Err n ↦ λ e. shows_all lent calls posts blocks waiting p h
    ]) refl

-- every list of calls from a new writer
module _ (lent : List ℕ) (calls : List Call) where
  abbrev acc : List Call
  acc = accepted (fresh_page lent) calls

  pub shows_run : Shows lent (posts_taken acc) (blocks_of acc) (waiting_after [] acc) (run (fresh_page lent) calls)
  unfolding blocks_of
  shows_run = shows_all lent calls [] [] [] (fresh_page lent) (shows_fresh lent)

  -- and once ended
  blocks_ended : blocks_by (blocks_of acc) (waiting_after [] acc) end ≡ blocks_of (ended_calls lent calls)
  unfolding blocks_of
  blocks_ended =
      let xs : List Sheet = sheets [] acc in
      let none_before : 0 + length xs ≡ length xs = omega arith in
      simp (framed_long, sheets_last, framed_append, none_before)

  pub shows_run_ended : Shows lent (posts_taken acc) (blocks_of (ended_calls lent calls)) [] (page.ended (run (fresh_page lent) calls))
  shows_run_ended = rw (← blocks_ended) (shows_end lent (posts_taken acc) (blocks_of acc) (waiting_after [] acc) (run (fresh_page lent) calls) shows_run)
