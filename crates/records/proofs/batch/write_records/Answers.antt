use Rattle.std.proofs.Common.{refl, sym, ap, ◌∙◌, arith}
use denote.MutBor.{ghost_name}
use Rattle.pages.specs.Page.{Page, fresh_page}
use Rattle.records.specs.Batch.{written_in}
use Rattle.records.proofs.batch.Laws.{whole}
use Rattle.records.proofs.batch.write_records.Goals as goal

pub returns-clause-buffer_after : goal.returns-clause-buffer_after
returns-clause-buffer_after c =
    let lent = c.args.buffer.now in
    let w = whole (written_in lent c.args.records.now) _ (sym c.in_ok-count_records.was ∙ c.count_records.ensures lent refl) in
    let taken = c.take_all.ensures in
    let bytes = ap (λ (p : Page). p.bytes) (taken.after (fresh_page lent) w.0 c.new.ensures.page_is w.1) in
    let name = taken.lent_stays ∙ ap ghost_name c.new.ensures.buffer in
    rw w.1 (grind arith)
