use Rattle.std.proofs.Common.{◌≡◌, sym, ◌∙◌, ap, subst}
use Rattle.std.specs.Prelude.{slice_index}
use Rattle.redo_core.specs.Data.{RecordData, record_with}
use Rattle.redo_writer.specs.Tracks.{newest_number}
use Rattle.redo_writer.specs.State.{WriterState, state_with, next_record}
use Rattle.redo_writer.specs.Refusals.{RefusesPreview}
use Rattle.redo_writer.proofs.Refusing.{preview_refused}
use Rattle.redo_writer.proofs.writer.RedoWriter.preview.Goals as goal

pub returns-in-Err-clause-fault : goal.returns-in-Err-clause-fault
returns-in-Err-clause-fault c =
    let i = c.self.inside in
    let w : WriterState = state_with i.epoch i.last i.points i.page_tops.items i.settled i.alive.items in
    let n = c.args.number in let g = c.args.page in let init = c.args.init in let ps = c.args.patches.items in let why = c.writer_fault.result in
    let back : c.number_on_top-back.result ≡ newest_number c.self.inside.settled c.self.inside.alive.items = c.number_on_top-back.ensures in
    let block_back : c.top_of-block_back.result ≡ slice_index c.self.inside.page_tops.items c.args.page = c.top_of-block_back.ensures
    ∙ ap (λ xs. slice_index xs c.args.page) c.deref.ensures.value in
    let redo : RecordData = record_with i.epoch n c.number_on_top-back.result g c.top_of-block_back.result init ps in
    let same : redo ≡ next_record w n g init ps =
    ap (λ b. record_with i.epoch n b g c.top_of-block_back.result init ps) back
    ∙ ap (λ b. record_with i.epoch n (newest_number i.settled i.alive.items) g b init ps) block_back in
    subst (λ (v : WriterState). RefusesPreview v (next_record v n g init ps) why) c.self.view_is
    (subst (λ (r : RecordData). RefusesPreview w r why) same (subst (RefusesPreview w redo) (sym c.writer_fault.ensures)
    (preview_refused w redo c.in-Err.refused.fault c.in-Err.ensures.fault.1 c.if-number-self.false)))
