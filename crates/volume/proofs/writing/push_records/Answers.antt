use Rattle.std.proofs.Common.{◌≡◌, ◌++◌, ◌∙◌, ap}
use Rattle.redo_core.specs.Data.{RecordData}
use Rattle.volume.specs.declared.errands.Errand.TheVariants.{Store}
use Rattle.volume.specs.Asking.{asks_of}
use Rattle.volume.proofs.Stores.{one_stored_more}
use Rattle.volume.proofs.writing.push_records.Goals as goal

pub loop-redo-preserved : goal.loop-redo-preserved
loop-redo-preserved c =
    let now = c.loop-redo.actions.items in let generation = c.args.writing.now.session.generation in let r = c.redo-item.result in
    let sent : c.push_errand.new.actions.items ≡ now ++ asks_of c.args.node generation c.args.birth (Store r) =
    c.in_ok-push_errand.ensures ∙ ap (λ (x : RecordData). now ++ asks_of c.args.node generation c.args.birth (Store x)) c.in_ok-copy.ensures in
    one_stored_more c.args.actions.now.items now c.push_errand.new.actions.items c.args.node generation c.args.birth c.records-redo-items.result.now
    c.loop-redo.redo-index r c.loop-redo-test.true c.redo-item.is c.loop-redo.invariant sent
