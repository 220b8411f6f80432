use Rattle.std.proofs.Common.{◌≡◌, ◌∙◌, ◌∷◌, ◌++◌, [], inl, refl, sym, ap, subst}
use Rattle.redo_core.specs.Data.{RecordData}
use Rattle.redo_core.specs.declared.facts.Fact.TheVariants as fact
use Rattle.redo_writer.specs.Changes.{KeepsRecord}
use Rattle.redo_writer.specs.State.{next_record}
use Rattle.redo_writer.specs.Continues.{Continues}
use Rattle.volume.specs.Writing.{sends_record}
use Rattle.volume.proofs.writing.send_record.Goals as goal

pub returns-in-Ok-clause-sends : goal.returns-in-Ok-clause-sends
returns-in-Ok-clause-sends c =
    let w = c.args.writing.now in let redo = c.args.redo in let new = c.append.new.self in let patches = c.args.patches.items in
    let number : c.number-number.result ≡ redo.number = c.number-number.ensures.value in
    let page : c.page-page.result ≡ redo.page = c.page-page.ensures in
    let same : c.in-Ok.field-0 ≡ redo =
    c.in-Ok.ensures.record ∙ ap (λ n. next_record w.writer n c.page-page.result c.args.init patches) number
    ∙ ap (λ g. next_record w.writer redo.number g c.args.init patches) page ∙ sym c.requires.next in
    inl (record {
      number = c.requires.room;
      writer = subst (λ g. KeepsRecord w.writer redo.number g new) page (subst (λ n. KeepsRecord w.writer n c.page-page.result new) number c.in-Ok.ensures.state);
      continues = λ log k. subst (λ (r : RecordData). Continues new (log ++ fact.Record r ∷ [])) same (c.in-Ok.ensures.continues log k);
      backlog = c.in_ok-add.ensures.ok;
      same = record { session = refl; cut = refl; reached = refl; durable = refl };
      asks = c.in_ok-actions.ensures ∙ ap (λ (r : RecordData). sends_record w.session r) c.in_ok-copy.ensures;
    })
