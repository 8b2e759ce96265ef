-- A writer's buffer is the journal of its accepted calls; the journal, once ended, holds their posts and passes the checks that need no book. Assumes nothing.
use mathlib.Core.Path.{sym, ◌∙◌}
use mathlib.Core.List.{append-nil}
use Rattle.claims.specs.Written.{blocks_of, ended_calls, posts_in_all}
use Rattle.claims.specs.Written.{WriterHoldsJournal, EndedHoldsJournal, BlocksHoldPosts, BlocksPass}
use Rattle.claims.proofs.written.Calls.{shows_run, shows_run_ended}

-- 1: the buffer is the journal of the accepted calls, and then the bytes that were lent
pub writer_holds_journal : WriterHoldsJournal
writer_holds_journal lent calls = let h = (shows_run lent calls).filled in record { bytes = h.bytes_are; filled = h.filled_is; fits = h.within }

pub ended_holds_journal : EndedHoldsJournal
ended_holds_journal lent calls = let h = (shows_run_ended lent calls).filled in record { bytes = h.bytes_are; filled = h.filled_is; fits = h.within }

-- 2: the blocks, once ended, hold the accepted posts in order
pub blocks_hold_posts : BlocksHoldPosts
blocks_hold_posts lent calls = sym (append-nil (posts_in_all (blocks_of (ended_calls lent calls)))) ∙ (shows_run_ended lent calls).told.held

-- 3: and pass the checks that need no book
pub blocks_pass : BlocksPass
blocks_pass lent calls = (shows_run_ended lent calls).told.pass
