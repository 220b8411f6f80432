use Rattle.std.proofs.Common.{◌≡◌, ◌∙◌, ◌+◌, ◌∷◌, ◌++◌, [], List, inl, inr, refl, sym, ap, subst, IfOk}
use Rattle.std.proofs.lemmas.Result.{IfOk-weaker}
use Rattle.std.proofs.lemmas.List.Elements.{same_from_all_zip}
use Rattle.redo_core.specs.Data.{RecordData}
use Rattle.redo_core.specs.declared.patches.Patch.{Patch}
use Rattle.redo_writer.specs.State.{next_record}
use Rattle.redo_writer.specs.Refusals.{append_refusal}
use Rattle.redo_writer.specs.Layout.{number_patch}
use Rattle.volume.specs.Writing.{AddsRecord, record_of_page, IsRefusedAs, fault_named}
use Rattle.volume.proofs.writing.write_record.Goals as goal
use Rattle.volume.proofs.writing.write_record.Goals.{In_ok-clone}

-- the record that is made with a copy of the patches
made : (c : In_ok-clone) → let w = c.args.writing.now.writer in
    next_record w (c.last-last.result + 1) c.args.page c.args.init c.in_ok-clone.field-0.items ≡ record_of_page w c.args.page c.args.init c.args.patches.items
made c =
    let w = c.args.writing.now.writer in let patches = c.args.patches.items in
    let copied : c.in_ok-clone.field-0.items ≡ c.push.new.self.items =
    same_from_all_zip _ c.push.new.self.items c.in_ok-clone.field-0.items c.in_ok-clone.ensures.cases.0 (λ x y is. is) in
    let number : c.in_ok-number_patch.field-0 ≡ number_patch (w.last + 1) =
    c.in_ok-number_patch.ensures ∙ ap (λ n. number_patch (n + 1)) c.last-last.ensures in
    let body : c.in_ok-clone.field-0.items ≡ patches ++ number_patch (w.last + 1) ∷ [] =
    ◌∙◌ {A = List Patch} copied (◌∙◌ {A = List Patch} c.in_ok-push.ensures.items (ap (λ (p : Patch). patches ++ p ∷ []) number)) in
    ap (λ n. next_record w (n + 1) c.args.page c.args.init c.in_ok-clone.field-0.items) c.last-last.ensures
    ∙ ap (λ (ps : List Patch). next_record w (w.last + 1) c.args.page c.args.init ps) body

pub returns-in-Ok-clause-writes : goal.returns-in-Ok-clause-writes
returns-in-Ok-clause-writes c =
    let w = c.args.writing.now in
    let same : c.in-Ok.redo ≡ record_of_page w.writer c.args.page c.args.init c.args.patches.items =
    c.in-Ok.ensures.record ∙ made (goal.at.returns-in-Ok-clause-writes c).In_ok-clone in
    subst (λ (r : RecordData). IfOk c.send_record.result (λ v. AddsRecord w r v.items c.send_record.new.writing)) same c.send_record.ensures.sends

pub returns-in-Err-clause-writes : goal.returns-in-Err-clause-writes
returns-in-Err-clause-writes c =
    let w = c.args.writing.now in let redo = record_of_page w.writer c.args.page c.args.init c.args.patches.items in
    let why = c.in-Err.refused.fault in
    let same = made (goal.at.returns-in-Err-clause-writes c).In_ok-clone in
    IfOk-weaker c.refused_as.result (λ v. IsRefusedAs why v.items) (λ v. AddsRecord w redo v.items w)
    (λ v is. elim c.in-Err.ensures.fault [
      | inl fault ↦ inr (fault_named why, inr (why, sym (ap (append_refusal w.writer) same) ∙ fault, refl), (is.1, refl))
      | inr lack ↦ absurd (is.0 lack.0)
    ]) c.refused_as.ensures
