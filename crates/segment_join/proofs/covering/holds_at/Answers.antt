use Rattle.std.proofs.Common.{refl, subst}
use Rattle.std.proofs.lemmas.Bool.{false≢true}
use Rattle.std.specs.Option.{option_copied}
use Rattle.hot_log.specs.Held.{IsRecordAt}
use Rattle.segment_join.proofs.Keeping.{same_at}
use Rattle.segment_join.proofs.covering.holds_at.Goals as goal

pub returns-in_default : goal.returns-in_default
returns-in_default c =
    let key = c.args.key in
    let none = subst (λ found. IsRecordAt c.args.lower.now.held key (option_copied found)) c.in_default.is c.get.ensures in (
      λ h r has is. absurd (none r has is),
      λ each. refl,
    )

pub returns-in-Some-get : goal.returns-in-Some-get
returns-in-Some-get c =
    same_at c.args.upper.now c.args.lower.now c.args.key c.in-Some.redo.now c.in-Some-get.held.now c.is_same.result c.opens_form.ensures.form.held.rising
    c.opens_form-2.ensures.form.held.rising c.in-Some.ensures c.in-Some-get.ensures c.is_same.ensures

pub returns-in-None : goal.returns-in-None
returns-in-None c = (
  λ h. absurd (false≢true h),
  λ each. absurd (c.in-None.ensures c.in-Some.redo.now (each c.in-Some.redo.now c.in-Some.ensures.0 c.in-Some.ensures.1) c.in-Some.ensures.1),
)
