use Rattle.std.proofs.Common.{ℕ, get_or, subst}
use Rattle.hot_log.specs.Removing.{IsFolded, Removes}
use Rattle.segment_theorems.specs.State.{version_of}
use Rattle.segment_core.proofs.Gone.{gone_by_more, gone_by_all}
use Rattle.segment_core.proofs.pending.remove_in_pages.Goals as goal

pub loop-page-preserved : goal.loop-page-preserved
loop-page-preserved c = record {
  form = c.remove_folded.ensures.form;
  gone = gone_by_more (λ (page : ℕ) r. IsFolded c.args.book.now page (version_of c.args.store.now page) c.args.point r) c.args.pages.now
      c.loop-page.page-index 0 c.args.hot.now c.loop-page.hot c.remove_folded.new.self c.loop-page-test.true c.loop-page.invariant.gone
      (subst (λ (version : ℕ). Removes (IsFolded c.args.book.now (get_or c.args.pages.now c.loop-page.page-index 0) version c.args.point) c.loop-page.hot
      c.remove_folded.new.self) c.version.ensures c.remove_folded.ensures.removes);
}

pub returns-clause-removes : goal.returns-clause-removes
returns-clause-removes c =
    gone_by_all (λ (page : ℕ) r. IsFolded c.args.book.now page (version_of c.args.store.now page) c.args.point r) c.args.pages.now c.loop-page.page-index
    c.args.hot.now c.loop-page.hot c.loop-page-test.false c.loop-page.invariant.gone
