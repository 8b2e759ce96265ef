use Rattle.std.proofs.Common.{◌≡◌, ◌+◌, ◌∙◌, Ok, sym, ap, arith}
use Rattle.std.proofs.lemmas.Grind.{common_steps}
use Rattle.amounts.specs.Decline.{verdict_of}
use Rattle.amounts.proofs.decline.Laws.{was_kept, hands_on}
use Rattle.layout.specs.Frame.{held_at}
use Rattle.layout.proofs.frame.Laws.{held_framed}
use Rattle.book.specs.Block.{block_on}
use Rattle.book.specs.Site.{Book, book_with}
use Rattle.book.proofs.block.Laws.{not_framed, setup_declined, setup_taken, setup_sound, posts_declined, posts_counted, block_sound}
use Rattle.book.proofs.site.Book.enter_block.Goals as goal
use Rattle.book.proofs.site.Book.enter_block.Goals.{in-SetUp+in_ok-add_part-in-SetUp, in-Posts+in_ok-take_posts-in-Posts}

-- ---- the bytes of a block

pub bounds-s-5 : goal.bounds-s-5
bounds-s-5 c = omega (arith, (held_framed _ c.args.s.now _ (sym c.in_ok-held.ensures)).0.long)

pub slice_bounds-body-end : goal.slice_bounds-body-end
slice_bounds-body-end c = omega (arith, (held_framed _ c.args.s.now _ (sym c.in_ok-held.ensures)).0.long)

-- ---- a block that is declined

pub returns-in_err-held-clause-verdict : goal.returns-in_err-held-clause-verdict
returns-in_err-held-clause-verdict c =
    rw (← c.self.view_is) (hands_on _ _ _ c.from_residual.ensures.1 (not_framed _ _ _ (sym c.in_err-held.ensures)))

pub returns-in_err-add_part-in-SetUp-clause-verdict : goal.returns-in_err-add_part-in-SetUp-clause-verdict
returns-in_err-add_part-in-SetUp-clause-verdict c =
    rw (← c.self.view_is)
    (hands_on _ _ _ c.from_residual-in_err-add_part-in-SetUp.ensures.1 (setup_declined _ _ _ c.in_ok-held.ensures _ c.in-SetUp.is _ c.in_err-add_part-in-SetUp.ensures.verdict))

pub returns-in_err-take_posts-in-Posts-clause-verdict : goal.returns-in_err-take_posts-in-Posts-clause-verdict
returns-in_err-take_posts-in-Posts-clause-verdict c =
    let held = c.in_ok-held.ensures ∙ ap (λ (b : Book). held_at b.blocks c.args.s.now) c.self.view_is in
    hands_on _ _ _ c.from_residual-in_err-take_posts-in-Posts.ensures.1 (posts_declined c.args.self.now _ _ held c.in-Posts.is _ c.in_err-take_posts-in-Posts.ensures.verdict)

pub invariant_of-self-in_err-add_part-in-SetUp : goal.invariant_of-self-in_err-add_part-in-SetUp
invariant_of-self-in_err-add_part-in-SetUp c =
    let e = c.in_err-add_part-in-SetUp.ensures in
    rw (was_kept _ _ _ _ e.verdict e.setup) c.self.invariant

pub returns-in_err-add_part-in-SetUp-clause-kept : goal.returns-in_err-add_part-in-SetUp-clause-kept
returns-in_err-add_part-in-SetUp-clause-kept c =
    let e = c.in_err-add_part-in-SetUp.ensures in
    grind (arith, common_steps, was_kept _ _ _ _ e.verdict e.setup)

-- ---- one that is taken, by what it holds

pub invariant_of-self : goal.invariant_of-self
invariant_of-self c =
    let e = c.in_ok-add_part-in-SetUp.ensures in
    setup_sound _ _ _ c.self.invariant (setup_taken _ _ _ c.in_ok-held.ensures _ c.in-SetUp.is _ _ e.verdict e.setup)

pub returns-clause-taken : goal.returns-clause-taken
returns-clause-taken c =
    let m = c.match-held.self in
    let held = c.in_ok-held.ensures ∙ ap (λ (b : Book). held_at b.blocks c.args.s.now) c.self.view_is in
    let taken : block_on c.args.self.now c.args.s.now ≡ Ok (book_with m.setup m.year (m.blocks + 1)) =
    elim c.match-held.branch [
      | in-SetUp+in_ok-add_part-in-SetUp w ↦
          rw (w.self-is, ← c.self.view_is) (setup_taken _ _ _ c.in_ok-held.ensures _ w.in-SetUp.is _ _ w.in_ok-add_part-in-SetUp.ensures.verdict w.in_ok-add_part-in-SetUp.ensures.setup)
      | in-Posts+in_ok-take_posts-in-Posts w ↦
          rw w.self-is (posts_counted c.args.self.now _ _ held w.in-Posts.is _ w.in_ok-take_posts-in-Posts.ensures.taken w.take_posts.ensures.kept)
    ] in
    taken ∙ sym (ap (λ (b : Book). Ok (book_with b.setup b.year (b.blocks + 1))) c.self-2.view_is)

pub returns-clause-verdict : goal.returns-clause-verdict
returns-clause-verdict c = sym (ap verdict_of (returns-clause-taken c))

pub invariant_of-self-2 : goal.invariant_of-self-2
invariant_of-self-2 c = block_sound _ _ c.args.s.now (λ i. (c.type_inv.s i).fits) (rw (← c.self.view_is) c.self.invariant) (returns-clause-taken c)
