-- A writer over a lent buffer, as a page.
use Rattle.std.specs.Prelude.{ℕ, ◌*◌, ◌≡◌, List, length, MatchResult}
use denote.Ref.{MutBor, at_last}
use Rattle.amounts.specs.Decline.{Answer}
use Rattle.amounts.specs.declared.decline.Decline.TheVariants.{NoRoom}
use Rattle.pages.specs.Page as pages
use Rattle.pages.specs.Page.{Page, page_of, draft_of, fresh_page, Sound}
use Rattle.writer.specs.declared.draft.Draft.{Draft}
use Rattle.writer.specs.declared.writer.Writer.{Writer}

-- each block that is written fills 512 bytes
abbrev pub page : Writer → Page
page w = page_of w.buffer.now (w.counter.tally.blocks * 512) (draft_of w.counter.tally w.block)

-- over the borrow that came in, nothing is filled
pub record IsNew (lent : MutBor (List ℕ)) (w : Writer) : Type 0 where
  pub buffer : w.buffer ≡ lent
  pub page_is : page w ≡ fresh_page lent.now

-- what a draft that was taken stands for
abbrev pub draft : Draft → pages.Draft
draft d = draft_of d.counter.tally d.block

-- the bytes of a page, filled by as many blocks as a draft has, with that draft
abbrev pub page_with : Page → pages.Draft → Page
page_with p d = page_of p.bytes (d.tally.blocks * 512) d

-- the draft is the page's where the bytes have room for its blocks, the one that posts wait for too; else 13, and the page is as it was
abbrev pub Resumes : Page → pages.Draft → Answer Unit → Page → Type 0
Resumes p d v q = MatchResult v (λ _. Sound (page_with p d) × (q ≡ page_with p d)) (λ why. (Sound (page_with p d) → ⊥) × (why ≡ NoRoom) × (q ≡ p))

-- the borrow is the one that came in, and its bytes are as many
pub record Kept (w w' : Writer) : Type 0 where
  pub borrow : w'.buffer ≡ at_last w.buffer w'.buffer.now
  pub size : length w'.buffer.now ≡ length w.buffer.now

-- what is true of every writer
abbrev pub WritersAreSound : Type 0
WritersAreSound = (w : Writer) → Sound (page w)
