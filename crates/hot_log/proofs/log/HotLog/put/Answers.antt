use Rattle.std.proofs.Common.{◌≡◌, ◌⊎◌, ◌↔◌, refl, sym, ◌∙◌, subst, List, None, IsTrue, false}
use Rattle.std.specs.List.{Contains}
use Rattle.std.proofs.lemmas.Bool.{false≢true}
use Rattle.redo_core.specs.Data.{RecordData}
use Rattle.redo_core.specs.Keys.{key_of}
use Rattle.redo_core.specs.declared.keys.Key.{Key}
use Rattle.hot_log.specs.Held.{IsRecordAt}
use Rattle.hot_log.specs.Indexing.{IsKeyRecords, IsUnderKey, IsIndexed, GainsEntry}
use Rattle.hot_log.specs.Putting.{RefusesPut}
use Rattle.hot_log.proofs.Indexed.{none_for, stored_at, entries_grow, entries_undone, on_ok, on_err}
use Rattle.hot_log.proofs.Keys.{same_epoch, same_number}
use Rattle.hot_log.proofs.log.HotLog.put.Goals as goal

-- no record has the key of the one that is put
free : (held : List RecordData) (keys : List (Key × RecordData)) (redo : RecordData) (key : Key) → IsKeyRecords held keys → key ≡ key_of redo → IsUnderKey keys key None
    → IsRecordAt held (key_of redo) None
free held keys redo key is same none =
    none_for held key.epoch key.number redo.epoch redo.number (same_epoch same) (same_number same) (stored_at held keys key.epoch key.number None is none)

pub returns-then-is_same-clause-put : goal.returns-then-is_same-clause-put
returns-then-is_same-clause-put c =
    let key = c.of-key.result in
    let t = c.self.invariant.by_key.backed key.epoch key.number c.in-Some.held.now c.in-Some.ensures in
    let same : c.in-Some.held.now ≡ c.args.redo = c.if-is_same.ensures.0 refl in
    (subst (λ (l : List RecordData). Contains l c.args.redo) c.self.view_is (subst (Contains c.self.inside.records) same t.0), refl)

pub returns-in-Some-clause-refused : goal.returns-in-Some-clause-refused
returns-in-Some-clause-refused c =
    let key = c.of-key.result in let other = c.in-Some.held.now in
    let t = c.self.invariant.by_key.backed key.epoch key.number other c.in-Some.ensures in (
      refl,
      (
        other,
        subst (λ (l : List RecordData). Contains l other) c.self.view_is t.0,
        (t.1.0 ∙ same_epoch c.of-key.ensures.value, t.1.1 ∙ same_number c.of-key.ensures.value),
        λ same. let is : IsTrue false = c.if-is_same.ensures.1 same in absurd (false≢true is),
      ),
    )

pub returns-then-is_err-clause-refused : goal.returns-then-is_err-clause-refused
returns-then-is_err-clause-refused c = (
  refl,
  subst (λ (l : List RecordData). IsRecordAt l (key_of c.args.redo) None) c.self.view_is
      (free c.self.inside.records c.self.inside.by_key c.args.redo c.of-key.result c.self.invariant.by_key c.of-key.ensures.value c.in_default.ensures),
)

pub hold-requires-clause-free : goal.hold-requires-clause-free
hold-requires-clause-free c = free c.self.inside.records c.self.inside.by_key c.args.redo c.of-key.result c.self.invariant.by_key c.of-key.ensures.value c.in_default.ensures

pub invariant_of-self-in-Ok : goal.invariant_of-self-in-Ok
invariant_of-self-in-Ok c =
    let held = c.self.inside.records in let keys = c.self.inside.by_key in let key = c.of-key.result in
    let gains = on_ok c.add.result c.is_err.result (GainsEntry keys key c.args.redo c.add.new.self) c.is_err.ensures.value c.if-is_err.false c.add.ensures.gains in
    record {
      form = c.in-Ok.ensures.form;
      by_key = entries_grow held c.hold.new.records keys c.add.new.self c.args.redo key.epoch key.number c.self.invariant.by_key c.in-Ok.ensures.gains
          (same_epoch c.of-key.ensures.value) (same_number c.of-key.ensures.value) gains;
      by_back = c.in-Ok.ensures.still_listed;
    }

pub invariant_of-self-in-Err : goal.invariant_of-self-in-Err
invariant_of-self-in-Err c =
    let held = c.self.inside.records in let keys = c.self.inside.by_key in let key = c.of-key.result in
    let gains = on_ok c.add.result c.is_err.result (GainsEntry keys key c.args.redo c.add.new.self) c.is_err.ensures.value c.if-is_err.false c.add.ensures.gains in
    let none = free held keys c.args.redo key c.self.invariant.by_key c.of-key.ensures.value c.in_default.ensures in
    record {
      form = c.in-Err.ensures.form;
      by_key = subst (λ (l : List RecordData). IsKeyRecords l c.remove.new.self) (sym c.in-Err.ensures.unchanged)
          (entries_undone held keys c.add.new.self c.remove.new.self c.args.redo key.epoch key.number c.self.invariant.by_key none
          (same_epoch c.of-key.ensures.value) (same_number c.of-key.ensures.value) gains c.remove.ensures.loses);
      by_back = c.in-Err.ensures.still_listed;
    }

pub returns-in-Ok-clause-put : goal.returns-in-Ok-clause-put
returns-in-Ok-clause-put c =
    let none = free c.self.inside.records c.self.inside.by_key c.args.redo c.of-key.result c.self.invariant.by_key c.of-key.ensures.value c.in_default.ensures in (
      subst (λ (l : List RecordData). IsRecordAt l (key_of c.args.redo) None) c.self.view_is none,
      λ r. subst (λ (l : List RecordData). Contains c.hold.new.records r ↔ (Contains l r ⊎ (r ≡ c.args.redo))) c.self.view_is (c.in-Ok.ensures.gains r),
    )

pub returns-in-Err-clause-refused : goal.returns-in-Err-clause-refused
returns-in-Err-clause-refused c =
    let none = free c.self.inside.records c.self.inside.by_key c.args.redo c.of-key.result c.self.invariant.by_key c.of-key.ensures.value c.in_default.ensures in
    let refused = c.in-Err.ensures.refused in (
      refused.0,
      subst (RefusesPut c.args.self.now c.args.redo) (sym refused.1) (subst (λ (l : List RecordData). IsRecordAt l (key_of c.args.redo) None) c.self.view_is none),
    )

pub invariant_of-self : goal.invariant_of-self
invariant_of-self c =
    let same = on_err c.add.result c.is_err.result (c.add.new.self ≡ c.self.inside.by_key) c.is_err.ensures.value c.if-is_err.true c.add.ensures.unchanged in
    subst (λ (l : List (Key × RecordData)). IsIndexed c.self.inside.records l c.self.inside.by_back) (sym same) c.self.invariant

pub returns-then-is_err-clause-unchanged : goal.returns-then-is_err-clause-unchanged
returns-then-is_err-clause-unchanged c = c.self.view_is

pub returns-in-Err-clause-unchanged : goal.returns-in-Err-clause-unchanged
returns-in-Err-clause-unchanged c = c.in-Err.ensures.unchanged ∙ c.self.view_is

pub returns-then-is_err-clause-form : goal.returns-then-is_err-clause-form
returns-then-is_err-clause-form c = c.self.invariant.form

pub returns-in-Err-clause-form : goal.returns-in-Err-clause-form
returns-in-Err-clause-form c = c.in-Err.ensures.form

pub hold-requires-clause-listed : goal.hold-requires-clause-listed
hold-requires-clause-listed c = c.self.invariant.by_back

pub returns-in-Ok-clause-form : goal.returns-in-Ok-clause-form
returns-in-Ok-clause-form c = c.in-Ok.ensures.form
