use Rattle.std.proofs.Common.{◌≡◌, true, false, refl, subst, List, None}
use Rattle.redo_core.specs.Data.{RecordData}
use Rattle.redo_core.specs.declared.keys.Key.{Key}
use Rattle.hot_log.specs.Held.{HoldsKey, IsRecordAt}
use Rattle.hot_log.proofs.Capped.{none_exact}
use Rattle.hot_log.proofs.Indexed.{stored_at}
use Rattle.std.proofs.lemmas.Bool.{false≢true}
use Rattle.hot_log.proofs.log.HotLog.holds_key.Goals as goal

pub returns-in_default : goal.returns-in_default
returns-in_default c =
    let none = none_exact c.args.self.now c.args.key c.opens_form.ensures.form (c.in_default.ensures.none refl) in (
      λ (h : false ≡ true). absurd (false≢true h),
      λ (h : HoldsKey c.args.self.now c.args.key). absurd (none h.0 h.1 h.2),
    )

pub returns-in-Some-get : goal.returns-in-Some-get
returns-in-Some-get c =
    let p = c.in-Some.packed in
    let r = c.in-Some-get.field-0.now in
    let t = c.self.invariant.by_key.backed p.epoch p.number r c.in-Some-get.ensures in (
      λ h. subst (HoldsKey c.args.self.now) c.in-Some.ensures.some (subst (λ (l : List RecordData). HoldsKey l p) c.self.view_is (r, t.0, t.1)),
      λ h. refl,
    )

pub returns-in-None : goal.returns-in-None
returns-in-None c =
    let p = c.in-Some.packed in
    let none = subst (λ (k : Key). IsRecordAt c.args.self.now k None) c.in-Some.ensures.some
    (subst (λ (l : List RecordData). IsRecordAt l p None) c.self.view_is
    (stored_at c.self.inside.records c.self.inside.by_key p.epoch p.number None c.self.invariant.by_key c.in-None.ensures)) in (
      λ (h : false ≡ true). absurd (false≢true h),
      λ (h : HoldsKey c.args.self.now c.args.key). absurd (none h.0 h.1 h.2),
    )
