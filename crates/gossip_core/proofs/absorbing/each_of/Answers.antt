use Rattle.std.proofs.Common.{List, [], ◌∷◌, ◌++◌, map, take_all, Bor, ap, ◌∙◌}
use Rattle.std.proofs.lemmas.List.{map-append}
use Rattle.redo_core.specs.Data.{RecordData}
use Rattle.segment_core.proofs.Copied.{one_more}
use Rattle.gossip_core.proofs.absorbing.each_of.Goals as goal

pub loop-redo-preserved : goal.loop-redo-preserved
loop-redo-preserved c =
    let seen : Bor RecordData → RecordData = λ r. r.now in let each : List (Bor RecordData) = c.loop-redo.each.items in
    let xs = c.args.records.now in let i = c.loop-redo.redo-index in
    ap (map seen) c.in_ok-push.ensures.items ∙ map-append seen each _
    ∙ ap (λ (l : List RecordData). l ++ c.redo-item.result ∷ []) c.loop-redo.invariant ∙ one_more xs i c.redo-item.result c.loop-redo-test.true c.redo-item.is

pub returns : goal.returns
returns c = c.loop-redo.invariant ∙ take_all c.loop-redo.redo-index c.args.records.now c.loop-redo-test.false
