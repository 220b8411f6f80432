use Rattle.std.proofs.Common.{◌≡◌, sym, subst, List, refl}
use Rattle.redo_core.specs.Data.{RecordData}
use Rattle.redo_core.specs.Keys.{key_in}
use Rattle.hot_log.specs.Indexing.{GainsKey, IndexData, IsIndexOf}
use Rattle.hot_log.proofs.Indexed.{on_ok, index_grows, index_undone, on_err}
use Rattle.hot_log.proofs.Keys.{same_epoch, same_number}
use Rattle.hot_log.proofs.log.hold.Goals as goal

pub returns-then-is_err-clause-still_listed : goal.returns-then-is_err-clause-still_listed
returns-then-is_err-clause-still_listed c =
    let same = on_err c.insert.result c.is_err.result _ c.is_err.ensures.value c.if-is_err.true c.insert.ensures.unchanged in
    subst (λ (l : IndexData). IsIndexOf c.args.records.now l) (sym same) c.requires.listed

pub returns-in-Ok-clause-still_listed : goal.returns-in-Ok-clause-still_listed
returns-in-Ok-clause-still_listed c =
    let keys = c.args.by_back.now in let back = c.back-back.result in let e = c.of-key.result.epoch in let n = c.of-key.result.number in
    let gains = on_ok c.insert.result c.is_err.result (GainsKey keys back (key_in e n) c.insert.new.self) c.is_err.ensures.value c.if-is_err.false c.insert.ensures.gains in
    index_grows c.args.records.now c.insert-2.new.self keys c.insert.new.self c.args.redo back e n c.requires.listed c.in-Ok.ensures.gains c.back-back.ensures.value
    (same_epoch c.of-key.ensures.value) (same_number c.of-key.ensures.value) gains

pub returns-in-Err-clause-still_listed : goal.returns-in-Err-clause-still_listed
returns-in-Err-clause-still_listed c =
    let keys = c.args.by_back.now in let back = c.back-back.result in let e = c.of-key.result.epoch in let n = c.of-key.result.number in
    let gains = on_ok c.insert.result c.is_err.result (GainsKey keys back (key_in e n) c.insert.new.self) c.is_err.ensures.value c.if-is_err.false c.insert.ensures.gains in
    let same : c.insert-2.new.self ≡ c.args.records.now = c.in-Err.ensures.unchanged in
    subst (λ (l : List RecordData). IsIndexOf l c.remove.new.self) (sym same)
    (index_undone c.args.records.now keys c.insert.new.self c.remove.new.self c.args.redo back e n c.requires.listed c.requires.free (same_epoch c.of-key.ensures.value)
    (same_number c.of-key.ensures.value) gains c.remove.ensures)

pub insert-requires-2 : goal.insert-requires-2
insert-requires-2 c = c.requires.free

pub returns-then-is_err-clause-form : goal.returns-then-is_err-clause-form
returns-then-is_err-clause-form c = c.opens_form.ensures.form

pub returns-in-Ok-clause-gains : goal.returns-in-Ok-clause-gains
returns-in-Ok-clause-gains c = c.in-Ok.ensures.gains

pub returns-in-Ok-clause-form : goal.returns-in-Ok-clause-form
returns-in-Ok-clause-form c = c.in-Ok.ensures.form

pub returns-in-Err-clause-refused : goal.returns-in-Err-clause-refused
returns-in-Err-clause-refused c = (c.in-Err.ensures.refused, refl)

pub returns-in-Err-clause-unchanged : goal.returns-in-Err-clause-unchanged
returns-in-Err-clause-unchanged c = c.in-Err.ensures.unchanged

pub returns-in-Err-clause-form : goal.returns-in-Err-clause-form
returns-in-Err-clause-form c = c.in-Err.ensures.form
