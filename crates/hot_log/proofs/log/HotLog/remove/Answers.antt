use Rattle.std.proofs.Common.{subst, List, None, sym, refl}
use Rattle.redo_core.specs.Data.{RecordData}
use Rattle.redo_core.specs.declared.keys.Key.{Key}
use Rattle.hot_log.specs.Held.{HasKey}
use Rattle.hot_log.specs.Removing.{Removes}
use Rattle.hot_log.specs.Indexing.{IsIndexed}
use Rattle.hot_log.proofs.Capped.{none_exact}
use Rattle.hot_log.proofs.Indexed.{index_shrinks, entries_shrink, stored_at, removes_none, removes_key}
use Rattle.hot_log.proofs.log.HotLog.remove.Goals as goal

pub returns-in_default-clause-removes : goal.returns-in_default-clause-removes
returns-in_default-clause-removes c =
    removes_none c.args.self.now c.args.key.epoch c.args.key.number (none_exact c.args.self.now c.args.key c.opens_form.ensures.form (c.in_default.ensures.none refl))

pub returns-in_default-clause-form : goal.returns-in_default-clause-form
returns-in_default-clause-form c = c.opens_form.ensures.form

pub returns-in_default-remove-clause-removes : goal.returns-in_default-remove-clause-removes
returns-in_default-remove-clause-removes c =
    let held = c.self.inside.records in let p = c.in-Some.packed in
    subst (λ (k : Key). Removes (HasKey k) c.args.self.now held) c.in-Some.ensures.some
    (subst (λ (l : List RecordData). Removes (HasKey p) l held) c.self.view_is
    (removes_none held p.epoch p.number (stored_at held c.self.inside.by_key p.epoch p.number None c.self.invariant.by_key c.in_default-remove.ensures.had)))

goes : (c : goal.After-drop-redo) → Removes (HasKey c.in-Some.packed) c.self.inside.records c.remove-2.new.self
goes c =
    let p = c.in-Some.packed in
    removes_key c.self.inside.records c.remove-2.new.self c.self.inside.by_key p.epoch p.number c.page.result c.in-Some-remove.redo c.self.invariant.form c.self.invariant.by_key
    c.in-Some-remove.ensures.had c.page.ensures c.remove-2.ensures.removes

pub invariant_of-self-2 : goal.invariant_of-self-2
invariant_of-self-2 c =
    let held = c.self.inside.records in let redo = c.in-Some-remove.redo in let p = c.in-Some.packed in
    let found = c.self.invariant.by_key.backed p.epoch p.number redo c.in-Some-remove.ensures.had in
    record {
      form = c.remove-2.ensures.form;
      by_key = entries_shrink held c.remove-2.new.self c.self.inside.by_key c.remove.new.self p.epoch p.number c.self.invariant.by_key (goes c) c.in-Some-remove.ensures.loses;
      by_back = index_shrinks held c.remove-2.new.self c.self.inside.by_back c.remove-3.new.self redo c.back.result p.epoch p.number c.self.invariant.form
          c.self.invariant.by_back found.0 found.1 c.back.ensures.value (goes c) c.remove-3.ensures;
    }

pub returns-clause-removes : goal.returns-clause-removes
returns-clause-removes c =
    subst (λ (k : Key). Removes (HasKey k) c.args.self.now c.remove-2.new.self) c.in-Some.ensures.some
    (subst (λ (l : List RecordData). Removes (HasKey c.in-Some.packed) l c.remove-2.new.self) c.self.view_is (goes c))

pub invariant_of-self : goal.invariant_of-self
invariant_of-self c = subst (λ (l : List (Key × RecordData)). IsIndexed c.self.inside.records l c.self.inside.by_back) (sym (c.in_default-remove.ensures.unchanged refl)) c.self.invariant

pub returns-clause-form : goal.returns-clause-form
returns-clause-form c = c.remove-2.ensures.form
