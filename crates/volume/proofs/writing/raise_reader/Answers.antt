use Rattle.std.proofs.Common.{◌≡◌, ◌∙◌, ◌∷◌, ◌++◌, [], Some, inl, inr, refl, sym, ap, subst}
use Rattle.std.proofs.lemmas.Result.{IfOk-weaker}
use Rattle.redo_core.specs.Data.{AdvanceData, advance_of}
use Rattle.redo_core.specs.Shape.{advance_fault}
use Rattle.redo_core.specs.declared.facts.Fact.TheVariants as fact
use Rattle.log_law.specs.declared.writer.WriterFault.TheVariants as refusal
use Rattle.redo_writer.specs.Changes.{RaisesReader}
use Rattle.redo_writer.specs.Continues.{Continues}
use Rattle.volume.specs.declared.actions.Action.TheVariants.{Refused}
use Rattle.volume.specs.declared.actions.Fault.TheVariants.{Shape}
use Rattle.volume.specs.declared.errands.Errand.TheVariants.{Raise}
use Rattle.volume.specs.Writing.{RaisesPoint, to_members}
use Rattle.volume.proofs.Refused.{shape_refused}
use Rattle.volume.proofs.writing.raise_reader.Goals as goal

pub returns-in-Err-clause-raises : goal.returns-in-Err-clause-raises
returns-in-Err-clause-raises c =
    let w = c.args.writing.now in let reader = c.args.reader in let point = c.args.point in let why = c.in-Err.fault in
    let fault : advance_fault (advance_of w.writer.epoch reader point) ≡ Some why =
    sym (c.in-Err.ensures.fault ∙ ap (λ n. advance_fault (advance_of n reader point)) c.epoch.ensures) in
    IfOk-weaker c.refuse-in-Err.result (λ v. v.items ≡ Refused (Shape why) ∷ []) (λ v. RaisesPoint w reader point v.items w)
    (λ v is. inr (Shape why, inr (c.if-point-durable.false, (refusal.Shape why, shape_refused w.writer reader point why fault, refl)), (is, refl)))
    c.refuse-in-Err.ensures

pub returns-in-Ok-advance-clause-raises : goal.returns-in-Ok-advance-clause-raises
returns-in-Ok-advance-clause-raises c =
    let w = c.args.writing.now in let reader = c.args.reader in let point = c.args.point in let next = c.advance.new.self in
    let raised : AdvanceData = advance_of w.writer.epoch reader point in
    let told : c.in-Ok-advance.field-0 ≡ raised = c.in-Ok-advance.ensures.advance in
    let sent : c.in-Ok.advance ≡ raised = c.in-Ok.ensures.ok ∙ ap (λ n. advance_of n reader point) c.epoch.ensures in
    inl (record {
      durable = c.if-point-durable.false;
      next = next;
      raises = subst (λ (a : AdvanceData). RaisesReader w.writer a next) told c.in-Ok-advance.ensures.state;
      drops = c.forget.ensures.state;
      continues = λ log k.
          let longer : Continues next (log ++ fact.Advance raised ∷ []) =
          subst (λ (a : AdvanceData). Continues next (log ++ fact.Advance a ∷ [])) told (c.in-Ok-advance.ensures.continues log k) in
          c.forget.ensures.continues (log ++ fact.Advance raised ∷ []) longer;
      backlog = refl;
      same = record { session = refl; cut = refl; reached = refl; durable = refl };
      asks = c.in_ok-actions.ensures ∙ ap (λ (a : AdvanceData). to_members w.session (Raise a)) sent;
    })
