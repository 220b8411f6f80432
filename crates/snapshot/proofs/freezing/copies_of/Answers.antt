use Rattle.std.proofs.Common.{List, [], ◌∷◌, ◌++◌, Bor, ap, ◌∙◌}
use Rattle.redo_core.specs.Data.{RecordData}
use Rattle.segment_core.proofs.Copied.{made_more, made_all}
use Rattle.snapshot.proofs.freezing.copies_of.Goals as goal

pub loop-redo-preserved : goal.loop-redo-preserved
loop-redo-preserved c =
    let seen : Bor RecordData → RecordData = λ r. r.now in let copied : List RecordData = c.loop-redo.copied.items in
    c.in_ok-push.ensures.items ∙ ap (λ (r : RecordData). copied ++ r ∷ []) c.in_ok-copy.ensures
    ∙ made_more c.args.records.now seen copied c.loop-redo.redo-index c.redo-item.result c.loop-redo-test.true c.redo-item.is c.loop-redo.invariant

pub returns : goal.returns
returns c =
    let seen : Bor RecordData → RecordData = λ r. r.now in
    made_all c.args.records.now seen c.loop-redo.copied.items c.loop-redo.redo-index c.loop-redo-test.false c.loop-redo.invariant
