use Rattle.std.proofs.lemmas.Grind.{common_steps}
use Rattle.std.proofs.Common.{◌≡◌, inl, inr, refl, sym, subst, arith, rules}
use Rattle.hot_log.specs.Putting.{Puts, RefusesPut}
use Rattle.hot_log.specs.declared.log.PutFault.TheVariants.{OtherRecord}
use Rattle.redo_core.specs.declared.keys.Key.{Key}
use Rattle.segment_core.specs.Savepoint.{NotesKey}
use Rattle.segment_core.specs.Transaction.{reached}
use Rattle.segment_core.specs.Uniting.{HoldsRecord}
use Rattle.segment_core.proofs.Holding.{put_holds}
use Rattle.segment_core.proofs.Savepoints.{more_began}
use Rattle.segment_core.proofs.merge_transaction.MergeTransaction.hold.Goals as goal

pub returns-in-Ok-New-clause-holds : goal.returns-in-Ok-New-clause-holds
returns-in-Ok-New-clause-holds c =
    let s = reached c.args.self.now in let t = c.put.new.self in let r = c.args.redo in
    put_holds s t r c.put.ensures.book c.put.ensures.rest (subst (Puts s.held r t.held) c.in-Ok-New.field-0-is c.in-Ok-New.ensures.put)

pub returns-in-Ok-New-clause-began : goal.returns-in-Ok-New-clause-began
returns-in-Ok-New-clause-began c =
    let s = reached c.args.self.now in let t = c.put.new.self in let r = c.args.redo in let saved = c.args.self.now.saved.now in
    let puts = subst (Puts s.held r t.held) c.in-Ok-New.field-0-is c.in-Ok-New.ensures.put in
    more_began c.args.self.now.segment.ghost_name saved c.note.new.self s t r
    (subst (λ (k : Key). NotesKey saved k c.note.new.self) c.key.ensures.value c.in_ok-note.ensures.notes) c.put.ensures.rest
    c.opens_form.ensures.form.held c.put.ensures.form puts.0 puts.1

pub returns-in-Ok-Known-clause-began : goal.returns-in-Ok-Known-clause-began
returns-in-Ok-Known-clause-began c = grind (arith, common_steps)

pub returns-in-OtherRecord-clause-began : goal.returns-in-OtherRecord-clause-began
returns-in-OtherRecord-clause-began c = grind (arith, common_steps)

pub returns-clause-began : goal.returns-clause-began
returns-clause-began c = grind (arith, common_steps)

pub returns-in-Ok-Known-clause-holds : goal.returns-in-Ok-Known-clause-holds
returns-in-Ok-Known-clause-holds c = grind (arith, common_steps)

pub returns-clause-unchanged : goal.returns-clause-unchanged
returns-clause-unchanged c = grind (arith, common_steps)

pub returns-clause-holds : goal.returns-clause-holds
returns-clause-holds c = search rules

pub returns-in-OtherRecord-clause-holds : goal.returns-in-OtherRecord-clause-holds
returns-in-OtherRecord-clause-holds c =
    let s = reached c.args.self.now in let t = c.put.new.self in let r = c.args.redo in
    let same : t ≡ s = c.in-Err.ensures.unchanged in
    let other : RefusesPut s.held r OtherRecord = subst (RefusesPut s.held r) c.in-OtherRecord.is c.in-Err.ensures.refused.1 in
    subst (HoldsRecord s r) (sym same) (record {
      book = refl;
      rest = record { base = refl; store = refl };
      before = λ x m. m;
      more = λ x m. inl m;
      held = inr (other.0, other.1, other.2.0, other.2.1, other.3);
    })
