use Rattle.std.proofs.Common.{◌<◌, ◌∙◌, refl, sym, ap, arith}
use Rattle.amounts.specs.Decline.{checked, verdict_of}
use Rattle.amounts.proofs.decline.Laws.{hands_on}
use Rattle.layout.specs.Posts.{own_checks}
use Rattle.book.specs.Site.{Book}
use Rattle.book.proofs.posts.Laws.{verdict_there, book_there, none_yet, own_declined, own_within, all_taken, turn_declined, turn_taken}
use Rattle.book.proofs.site.Book.take_posts.Goals as goal

pub returns-in_err-check_posts-clause-verdict : goal.returns-in_err-check_posts-clause-verdict
returns-in_err-check_posts-clause-verdict c =
    let own = c.in_err-check_posts.ensures ∙ ap (λ (b : Book). checked (own_checks b.setup.outline b.year.closed c.args.count c.args.body.now) (tt {0})) c.self.view_is in
    hands_on _ _ _ c.from_residual.ensures.1 (own_declined _ _ _ _ _ own)

pub loop-i-init : goal.loop-i-init
loop-i-init c = record { so_far = none_yet _ _ _; setup = refl; blocks = refl }

pub slice_bounds-take_post-end : goal.slice_bounds-take_post-end
slice_bounds-take_post-end c =
    let own = c.in_ok-check_posts.ensures ∙ ap (λ (b : Book). checked (own_checks b.setup.outline b.year.closed c.args.count c.args.body.now) (tt {0})) c.self.view_is in
    let within = own_within c.args.self.now.setup c.args.self.now.year c.args.count c.args.body.now _ own in
    omega (arith, within.long, within.few_posts, c.from-i-end.ensures)

pub returns-in_err-take_post-clause-verdict : goal.returns-in_err-take_post-clause-verdict
returns-in_err-take_post-clause-verdict c =
    let k = c.loop-i in
    let own = c.in_ok-check_posts.ensures ∙ ap (λ (b : Book). checked (own_checks b.setup.outline b.year.closed c.args.count c.args.body.now) (tt {0})) c.self.view_is in
    let more : k.i < c.args.count = omega (arith, c.from-i-end.ensures) in
    let told = c.in_err-take_post.ensures.verdict ∙ verdict_there c.args.self.now k.self k.invariant.setup _ in
    hands_on _ _ _ c.from_residual-in_err-take_post.ensures.1 (turn_declined _ _ _ _ _ own k.i k.self.year k.invariant.so_far more _ told)

pub loop-i-preserved : goal.loop-i-preserved
loop-i-preserved c =
    let k = c.loop-i in
    let e = c.in_ok-take_post.ensures in
    let own = c.in_ok-check_posts.ensures ∙ ap (λ (b : Book). checked (own_checks b.setup.outline b.year.closed c.args.count c.args.body.now) (tt {0})) c.self.view_is in
    let more : k.i < c.args.count = omega (arith, c.from-i-end.ensures) in
    let told = e.verdict ∙ verdict_there c.args.self.now k.self k.invariant.setup _ in
    let after = book_there c.args.self.now k.self k.invariant.setup _ c.take_post.new.self e.book in
    record {
      so_far = turn_taken _ _ _ _ _ own k.i k.self.year k.invariant.so_far more _ _ told (ap (λ (b : Book). b.year) after);
      setup = ap (λ (b : Book). b.setup) after;
      blocks = ap (λ (b : Book). b.blocks) after ∙ k.invariant.blocks;
    }

pub returns-clause-taken : goal.returns-clause-taken
returns-clause-taken c =
    let own = c.in_ok-check_posts.ensures ∙ ap (λ (b : Book). checked (own_checks b.setup.outline b.year.closed c.args.count c.args.body.now) (tt {0})) c.self.view_is in
    all_taken _ _ _ _ _ own c.loop-i.i _ c.loop-i.invariant.so_far (omega (arith, c.from-i-end.ensures)) (omega (arith, c.from-i-end.ensures))

pub returns-clause-verdict : goal.returns-clause-verdict
returns-clause-verdict c = sym (ap verdict_of (returns-clause-taken c))
