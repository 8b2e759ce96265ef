-- A list of a writer's calls, and which of them are accepted (document 02, (a)).
use Rattle.std.specs.Prelude.{ℕ, Bool, true, false, List, [], ◌∷◌, Ok}
use Rattle.amounts.specs.Decline.{Answer, is_taken, value_or}
use Rattle.pages.specs.Page.{Page, set_up_on, post_on, ended}

-- "the set-up (each block's kind, count and 500-byte body) and then posts", and an end; of any numbers and bytes
pub data Call : Type 0 where
  set_up : ℕ → ℕ → List ℕ → Call
  post : List ℕ → Call
  end : Call

abbrev pub answer_to : Page → Call → Answer Page
answer_to p (set_up kind count body) = set_up_on p kind count body
answer_to p (post s) = post_on p s
answer_to p end = Ok (ended p)

abbrev pub after : Page → Call → Page
after p call = value_or p (answer_to p call)

unfoldable pub run : Page → List Call → Page
run p [] = p
run p (call ∷ calls) = run (after p call) calls

-- the calls of the list that aren't declined
abbrev pub keep : Bool → Call → List Call → List Call
keep true call calls = call ∷ calls
keep false call calls = calls

unfoldable pub accepted : Page → List Call → List Call
accepted p [] = []
accepted p (call ∷ calls) = keep (is_taken (answer_to p call)) call (accepted (after p call) calls)
