use Rattle.std.proofs.lemmas.Grind.{common_steps}
use Rattle.std.proofs.Common.{◌≡◌, ◌∙◌, Some, None, sym, ap, subst, arith}
use Rattle.hot_log.specs.Found.{IsPageAfter}
use Rattle.page_base.specs.Stored.{IsStored}
use Rattle.segment_theorems.specs.State.{State}
use Rattle.segment_theorems.specs.Shows.{Shows}
use Rattle.segment_core.specs.declared.fold_plan.Folded.{Folded}
use Rattle.segment_core.proofs.FoldPages.{FoldsTo, folds_none, folds_more, folds_all, raises_folded}
use Rattle.segment_core.proofs.segment.Segment.folded_store.Goals as goal

pub loop-next-init : goal.loop-next-init
loop-next-init c = record {
  form = subst IsStored (sym c.in_ok-store.ensures) c.self.invariant.2;
  own = c.anchor-anchor.ensures.own;
  folds = subst (FoldsTo c.args.self.now c.anchor-anchor.result c.page_after-next.result)
      (sym (c.in_ok-store.ensures ∙ ap (λ (s : State). s.store) c.self.view_is))
      (folds_none c.args.self.now c.anchor-anchor.result c.page_after-next.result
      (subst (λ (s : State). IsPageAfter s.held None c.page_after-next.result) c.self.view_is c.page_after-next.ensures));
}

pub loop-next-preserved : goal.loop-next-preserved
loop-next-preserved c =
    let s = c.args.self.now in
    let folded = c.fold-folded.result in
    let is : folded ≡ c.in_ok-plan_at.field-0 = c.fold-folded.ensures in
    let anchor = c.anchor-anchor.result in record {
      form = c.raise.ensures.form;
      own = c.loop-next.invariant.own;
      folds = folds_more s anchor c.in-Some.page c.page_after-next-in-Some.result c.loop-next.store folded.image c.raise.new.store
          (record {
            own = c.loop-next.invariant.own;
            after = subst (λ (x : State). IsPageAfter x.held (Some c.in-Some.page) c.page_after-next-in-Some.result) c.self.view_is
                c.page_after-next-in-Some.ensures;
            before = subst (λ next. FoldsTo s anchor next c.loop-next.store) c.in-Some.is c.loop-next.invariant.folds;
            raises = raises_folded c.loop-next.store c.raise.new.store folded c.in-Some.page anchor
                (ap (λ (f : Folded). f.page) is ∙ c.in_ok-plan_at.ensures.page)
                (ap (λ (f : Folded). f.version) is ∙ c.in_ok-plan_at.ensures.version) c.in-Ok.ensures.raises;
            shows = subst (λ (f : Folded). Shows s c.in-Some.page anchor f.image) (sym is) c.in_ok-plan_at.ensures.image;
          });
    }

pub returns-clause-folds : goal.returns-clause-folds
returns-clause-folds c =
    folds_all c.args.self.now c.anchor-anchor.result c.loop-next.store c.loop-next.invariant.own
    (subst (λ next. FoldsTo c.args.self.now c.anchor-anchor.result next c.loop-next.store) c.in_default.is c.loop-next.invariant.folds)

pub loop-next-smaller : goal.loop-next-smaller
loop-next-smaller c = grind (arith, common_steps)
