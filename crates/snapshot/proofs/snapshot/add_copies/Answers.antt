use Rattle.std.proofs.Common.{List, [], ◌∷◌, ◌++◌, take, take_all, append_assoc, ap, ◌∙◌}
use Rattle.redo_core.specs.Data.{RecordData}
use Rattle.segment_core.proofs.Copied.{one_more}
use Rattle.snapshot.proofs.snapshot.add_copies.Goals as goal

pub loop-redo-preserved : goal.loop-redo-preserved
loop-redo-preserved c =
    let old : List RecordData = c.args.copied.now.items in let so_far : List RecordData = c.loop-redo.copied.items in
    let xs = c.args.records.now in let i = c.loop-redo.redo-index in let x = c.redo-item.result in
    c.in_ok-push.ensures.items ∙ ap (λ (r : RecordData). so_far ++ r ∷ []) c.in_ok-copy.ensures ∙ ap (λ l. l ++ x ∷ []) c.loop-redo.invariant
    ∙ append_assoc old (take i xs) (x ∷ []) ∙ ap (λ l. old ++ l) (one_more xs i x c.loop-redo-test.true c.redo-item.is)

pub returns : goal.returns
returns c =
    c.loop-redo.invariant ∙ ap (λ l. c.args.copied.now.items ++ l) (take_all c.loop-redo.redo-index c.args.records.now c.loop-redo-test.false)
