use Rattle.std.proofs.lemmas.Grind.{common_steps}
use Rattle.std.proofs.Common.{inl, inr, ⊎_elim, List, map, sym, subst, Bor, arith}
use Rattle.std.specs.List.{Contains}
use Rattle.redo_core.specs.Data.{RecordData}
use Rattle.redo_core.specs.Order.{Lists, RecordBefore}
use Rattle.hot_log.specs.Missing.{IsMissing}
use Rattle.segment_theorems.specs.State.{State}
use Rattle.segment_core.proofs.BookTaken.{late_of}
use Rattle.segment_join.proofs.LeavingOut.{settled_held}
use Rattle.segment_join.proofs.KeptKnown.{knows_taken}
use Rattle.segment_core.proofs.TakingAll.{leaves_all}
use Rattle.segment_core.specs.Form.{IsSegment}
use Rattle.segment_core.specs.Transaction.{reached}
use Rattle.segment_join.proofs.joining.know_and_hold.Goals as goal

pub take_all-requires : goal.take_all-requires
take_all-requires c =
    let other = c.args.other.now in
    subst (λ (rs : List (Bor RecordData)). Lists RecordBefore (IsMissing (reached c.args.union.now).held other.held) (map (λ x. x.now) rs)) (sym c.deref.ensures.value)
    (subst (λ (s : State). Lists RecordBefore (IsMissing s.held other.held) (map (λ x. x.now) c.in_ok-missing.missing.items)) c.segment-2.ensures c.in_ok-missing.ensures)

pub hold_rest-requires-clause-known : goal.hold_rest-requires-clause-known
hold_rest-requires-clause-known c = λ r has.
    let s = reached c.args.union.now in
    let taken = c.in_default.ensures.takes in
    let form : IsSegment s = subst IsSegment c.segment.ensures c.opens_form.ensures.form in
    let after = leaves_all s taken.facts (reached c.take_all.new.union) (late_of s form) taken.takes in
    ⊎_elim
    (λ (own : Contains s.held r). inl (after.before r own))
    (λ (no : Contains s.held r → ⊥). inr (subst (λ (rs : List (Bor RecordData)). Contains (map (λ x. x.now) rs) r) (sym c.deref-2.ensures.value)
    ((c.in_ok-missing.ensures.members r).1 (has, λ h. no (subst (λ (t : State). Contains t.held r) c.segment-2.ensures h)))))
    (settled_held s.held r)

pub hold_rest-requires-clause-held : goal.hold_rest-requires-clause-held
hold_rest-requires-clause-held c = λ r h.
    ((c.in_ok-missing.ensures.members r).0 (subst (λ (rs : List (Bor RecordData)). Contains (map (λ x. x.now) rs) r) c.deref-2.ensures.value h)).0

pub hold_rest-requires-clause-taken : goal.hold_rest-requires-clause-taken
hold_rest-requires-clause-taken c = knows_taken (reached c.args.union.now) _ (reached c.take_all.new.union) c.in_default.ensures.takes

pub returns-in_err-hold_rest-clause-began : goal.returns-in_err-hold_rest-clause-began
returns-in_err-hold_rest-clause-began c = grind (arith, common_steps)

pub returns-clause-began : goal.returns-clause-began
returns-clause-began c = grind (arith, common_steps)

pub returns-in-Err-clause-began : goal.returns-in-Err-clause-began
returns-in-Err-clause-began c = grind (arith, common_steps)

pub returns-in_err-hold_rest-clause-refused : goal.returns-in_err-hold_rest-clause-refused
returns-in_err-hold_rest-clause-refused c = grind (arith, common_steps)

pub returns-clause-joined : goal.returns-clause-joined
returns-clause-joined c = grind (arith, common_steps)

pub returns-in-Err-clause-refused : goal.returns-in-Err-clause-refused
returns-in-Err-clause-refused c = grind (arith, common_steps)
