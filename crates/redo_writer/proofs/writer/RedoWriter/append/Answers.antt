use Rattle.std.proofs.Common.{◌≡◌, ◌<◌, ◌≤◌, ◌++◌, ◌∷◌, [], sym, ◌∙◌, ap, arith, subst}
use Rattle.std.specs.Prelude.{slice_index}
use Rattle.redo_core.specs.Data.{RecordData, record_with}
use Rattle.redo_core.specs.Shape.{record_fault}
use Rattle.redo_core.specs.declared.facts.Fact.TheVariants.{Record}
use Rattle.redo_writer.specs.declared.parts.AliveRecord.{AliveRecord}
use Rattle.redo_writer.specs.Tracks.{PutsTop, newest_number}
use Rattle.redo_writer.specs.State.{WriterState, state_with, next_record}
use Rattle.redo_writer.specs.Refusals.{contents_fault, RefusesRecord, RefusesOnLog}
use Rattle.redo_writer.specs.Continues.{Continues}
use Rattle.redo_writer.proofs.Continuing.{continues_record, back_below, back_order, contents_alone}
use Rattle.redo_writer.proofs.Refusing.{refused_as, refused_on_log}
use Rattle.redo_writer.proofs.writer.RedoWriter.append.Goals as goal

pub returns-in-Ok-clause-continues : goal.returns-in-Ok-clause-continues
returns-in-Ok-clause-continues c log g =
    let i = c.self.inside in
    let w : WriterState = state_with i.epoch i.last i.points i.page_tops.items i.settled i.alive.items in
    let x : AliveRecord = record { number = c.args.number; page = c.args.page; block_back = c.top_of-block_back.result } in
    let is : c.in-Ok.redo ≡ record_with i.epoch c.args.number c.number_on_top-back.result c.args.page c.top_of-block_back.result c.args.init c.args.patches.items =
    c.in-Ok.ensures.ok.0 in
    let number : c.in-Ok.redo.number ≡ c.args.number = ap (λ (r : RecordData). r.number) is in
    let page : c.in-Ok.redo.page ≡ c.args.page = ap (λ (r : RecordData). r.page) is in
    let tops : c.reserve_top.new.page_tops.items ≡ c.self.inside.page_tops.items = c.reserve_top.ensures.items in
    let new : Continues (state_with i.epoch c.in-Ok.redo.number i.points c.keep_newest.new.page_tops.items i.settled (x ∷ i.alive.items)) (log ++ Record c.in-Ok.redo ∷ []) =
    continues_record w log c.in-Ok.redo x c.keep_newest.new.page_tops.items (subst (λ v. Continues v log) (sym c.self.view_is) g)
    (ap record_fault is ∙ c.in-Ok.ensures.ok.1) (ap (λ (r : RecordData). r.epoch) is) (omega arith)
    (ap (λ (r : RecordData). r.back) is ∙ c.number_on_top-back.ensures ∙ ap (newest_number i.settled) c.reserve.ensures.items)
    (ap (λ (r : RecordData). r.block_back) is ∙ c.top_of-block_back.ensures ∙ ap (λ xs. slice_index xs c.args.page) (c.deref.ensures.value ∙ tops)
    ∙ ap (slice_index i.page_tops.items) (sym page))
    (record { number = sym number; page = sym page; block_back = sym (ap (λ (r : RecordData). r.block_back) is) })
    (subst (λ xs. PutsTop c.args.page c.args.number xs c.keep_newest.new.page_tops.items) tops c.keep_newest.ensures.tops) in
    subst (λ ys. Continues (state_with i.epoch c.args.number i.points c.keep_newest.new.page_tops.items i.settled ys) (log ++ Record c.in-Ok.redo ∷ []))
    (sym (c.keep_newest.ensures.alive ∙ ap (λ ys. x ∷ ys) c.reserve.ensures.items))
    (subst (λ n. Continues (state_with i.epoch n i.points c.keep_newest.new.page_tops.items i.settled (x ∷ i.alive.items)) (log ++ Record c.in-Ok.redo ∷ []))
    number new)

pub returns-in-Err-clause-fault : goal.returns-in-Err-clause-fault
returns-in-Err-clause-fault c =
    let i = c.self.inside in
    let w : WriterState = state_with i.epoch i.last i.points i.page_tops.items i.settled i.alive.items in
    let n = c.args.number in let g = c.args.page in let init = c.args.init in let ps = c.args.patches.items in let why = c.writer_fault.result in
    let back : c.number_on_top-back.result ≡ newest_number c.self.inside.settled c.self.inside.alive.items = c.number_on_top-back.ensures
    ∙ ap (newest_number i.settled) c.reserve.ensures.items in
    let block_back : c.top_of-block_back.result ≡ slice_index c.self.inside.page_tops.items c.args.page = c.top_of-block_back.ensures
    ∙ ap (λ xs. slice_index xs c.args.page) (c.deref.ensures.value ∙ c.reserve_top.ensures.items) in
    let redo : RecordData = record_with i.epoch n c.number_on_top-back.result g c.top_of-block_back.result init ps in
    let same : redo ≡ next_record w n g init ps =
    ap (λ b. record_with i.epoch n b g c.top_of-block_back.result init ps) back
    ∙ ap (λ b. record_with i.epoch n (newest_number i.settled i.alive.items) g b init ps) block_back in
    subst (λ (v : WriterState). RefusesRecord v (next_record v n g init ps) why) c.self.view_is
    (subst (λ (r : RecordData). RefusesRecord w r why) same (subst (RefusesRecord w redo) (sym c.writer_fault.ensures)
    (refused_as w redo c.in-Err.refused.fault c.in-Err.ensures.fault.1 c.if-number-self.false)))

pub returns-in-Err-clause-fault_on_log : goal.returns-in-Err-clause-fault_on_log
returns-in-Err-clause-fault_on_log c log g =
    let i = c.self.inside in
    let w : WriterState = state_with i.epoch i.last i.points i.page_tops.items i.settled i.alive.items in
    let h : Continues w log = subst (λ v. Continues v log) (sym c.self.view_is) g in
    let back : c.number_on_top-back.result ≡ newest_number c.self.inside.settled c.self.inside.alive.items = c.number_on_top-back.ensures
    ∙ ap (newest_number i.settled) c.reserve.ensures.items in
    let block_back : c.top_of-block_back.result ≡ slice_index c.self.inside.page_tops.items c.args.page = c.top_of-block_back.ensures
    ∙ ap (λ xs. slice_index xs c.args.page) (c.deref.ensures.value ∙ c.reserve_top.ensures.items) in
    let low : newest_number c.self.inside.settled c.self.inside.alive.items ≤ c.self.inside.last = back_below w log h in
    let order : slice_index c.self.inside.page_tops.items c.args.page ≤ newest_number c.self.inside.settled c.self.inside.alive.items = back_order w log h c.args.page in
    let above : c.self.inside.last < c.args.number = c.if-number-self.false in
    let redo : RecordData = record_with i.epoch c.args.number c.number_on_top-back.result c.args.page c.top_of-block_back.result c.args.init c.args.patches.items in
    let alone : record_fault redo ≡ contents_fault c.args.number c.args.patches.items =
    contents_alone i.epoch c.args.number c.number_on_top-back.result c.args.page c.top_of-block_back.result c.args.init c.args.patches.items
    (omega arith) (omega arith) in
    subst (RefusesOnLog log c.args.number c.args.patches.items) (sym c.writer_fault.ensures)
    (refused_on_log log c.args.number c.args.patches.items redo c.in-Err.refused.fault c.in-Err.ensures.fault.1 (sym alone)
    (i.last, (i.epoch, h.epoch, h.last), above))
