use Rattle.std.proofs.Common.{◌≤◌, subst, rules}
use Rattle.redo_core.specs.Standing.{IsAlive}
use Rattle.hot_log.specs.Removing.{IsFolded}
use Rattle.segment_theorems.specs.State.{version_of}
use Rattle.segment_core.proofs.Pages.{RemovesPassed, removes_none, removes_more, removes_all}
use Rattle.segment_core.proofs.Forget.{folded_of}
use Rattle.segment_core.proofs.shedding.remove_page_by_page.Goals as goal

pub loop-next-init : goal.loop-next-init
loop-next-init c = search (rules, removes_none)

pub loop-next-preserved : goal.loop-next-preserved
loop-next-preserved c = record {
  form = c.remove_folded.ensures.form;
  gone = removes_more (λ r. IsAlive c.args.book.now.cuts c.args.book.now.complete r.epoch r.number × (r.number ≤ c.args.point)
      × (r.number ≤ version_of c.args.store.now r.page)) (IsFolded c.args.book.now c.in-Some.page c.version.result c.args.point)
      c.args.hot.now c.loop-next.hot c.remove_folded.new.self c.in-Some.page c.page_after-next-in-Some.result
      (folded_of c.args.book.now c.args.store.now c.args.point c.in-Some.page c.version.result c.version.ensures)
      (subst (λ next. RemovesPassed (λ r. IsAlive c.args.book.now.cuts c.args.book.now.complete r.epoch r.number × (r.number ≤ c.args.point)
      × (r.number ≤ version_of c.args.store.now r.page)) next c.args.hot.now c.loop-next.hot) c.in-Some.is c.loop-next.invariant.gone)
      c.remove_folded.ensures.removes
      c.page_after-next-in-Some.ensures;
}

pub returns-clause-removes : goal.returns-clause-removes
returns-clause-removes c =
    removes_all (λ r. IsAlive c.args.book.now.cuts c.args.book.now.complete r.epoch r.number × (r.number ≤ c.args.point)
    × (r.number ≤ version_of c.args.store.now r.page)) c.args.hot.now c.loop-next.hot
    (subst (λ next. RemovesPassed (λ r. IsAlive c.args.book.now.cuts c.args.book.now.complete r.epoch r.number × (r.number ≤ c.args.point)
    × (r.number ≤ version_of c.args.store.now r.page)) next c.args.hot.now c.loop-next.hot) c.in_default.is c.loop-next.invariant.gone)
