use Rattle.std.proofs.Common.{◌≡◌, ◌*◌, IfOk, List, take, drop, ap, ◌∙◌, subst}
use Rattle.redo_core.specs.Data.{RecordData}
use Rattle.messages.specs.Pieces.{max_batch}
use Rattle.snapshot.specs.Snapshots.{SnapshotData}
use Rattle.snapshot.proofs.Batches.{batch_is}
use Rattle.snapshot.proofs.snapshot.Snapshot.batch.Goals as goal

pub returns : goal.returns
returns c =
    let rs : List RecordData = c.deref.result.now in
    let start = max_batch * c.args.place in
    let own : rs ≡ c.args.self.now.records = c.deref.ensures.value ∙ ap (λ (d : SnapshotData). d.records) c.self.view_is in
    subst (λ (xs : List RecordData). IfOk c.copies.result (λ v. v.items ≡ take max_batch (drop start xs))) own
    (subst (λ (xs : List RecordData). IfOk c.copies.result (λ v. v.items ≡ xs)) (batch_is start c.min-len.result max_batch rs c.min-len.ensures) c.copies.ensures)
