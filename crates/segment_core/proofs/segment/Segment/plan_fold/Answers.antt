use Rattle.std.proofs.Common.{◌≡◌, Some, None, refl, rules, sym, ◌∙◌}
use Rattle.std.proofs.lemmas.Option.{none-some}
use Rattle.segment_core.proofs.PlanFold.{anchor_complete, fold_of, none_broken, folds_page}
use Rattle.segment_core.proofs.segment.Segment.plan_fold.Goals as goal

pub returns-in-Some-clause-result : goal.returns-in-Some-clause-result
returns-in-Some-clause-result c = λ roster log facts p sound means.
    let none : c.broken_of.result ≡ None = c.broken_of.ensures.sound roster log facts p sound means
    (anchor_complete facts log p c.args.self.now c.anchor-anchor.result means (c.anchor-anchor.ensures.anchor roster log facts p sound means)) in
    let some : c.broken_of.result ≡ Some c.in-Some.number = c.in-Some.is in
    absurd (none-some c.in-Some.number (sym none ∙ some))

pub returns-in-Some-clause-own : goal.returns-in-Some-clause-own
returns-in-Some-clause-own c = (refl, (c.anchor-anchor.result, c.anchor-anchor.ensures.own, (c.broken_of.ensures.breaks c.in-Some.number).0 c.in-Some.is))

pub returns-in-Ok-clause-result : goal.returns-in-Ok-clause-result
returns-in-Ok-clause-result c = λ roster log facts p sound means.
    fold_of log facts p c.args.self.now c.args.page c.anchor-anchor.result c.in-Ok.plan sound means
    (c.anchor-anchor.ensures.anchor roster log facts p sound means) c.in-Ok.ensures.page c.in-Ok.ensures.version c.in-Ok.ensures.image

pub returns-in-Ok-clause-own : goal.returns-in-Ok-clause-own
returns-in-Ok-clause-own c = (
  folds_page c.args.self.now c.args.page c.anchor-anchor.result c.in-Ok.plan c.anchor-anchor.ensures.own c.in-Ok.ensures.page c.in-Ok.ensures.version
      c.in-Ok.ensures.image,
  none_broken c.args.self.now c.args.page c.anchor-anchor.result c.broken_of.result c.anchor-anchor.ensures.own c.broken_of.ensures.breaks c.in_default.is,
)

pub returns-in-Err-clause-own : goal.returns-in-Err-clause-own
returns-in-Err-clause-own c = search (rules, none_broken)
