use Rattle.std.proofs.Common.{◌≡◌, ◌<◌, ◌*◌, ◌-◌, List, length, take, drop, get_or, Some, sym, ap, ◌∙◌, subst, arith}
use Rattle.redo_core.specs.Data.{RecordData}
use Rattle.messages.specs.Pieces.{max_batch}
use Rattle.snapshot.specs.Snapshots.{SnapshotData, IsSnapshot}
use Rattle.snapshot.proofs.Batches.{batch_some, slice_at}
use Rattle.snapshot.proofs.snapshot.Snapshot.content.Goals as goal

pub returns-then-place-len : goal.returns-then-place-len
returns-then-place-len c =
    let pages = c.args.self.now.pages in
    let len : c.len.result ≡ length pages = c.len.ensures ∙ c.self.inside.pages.ok.0 ∙ ap (λ (d : SnapshotData). length d.pages) c.self.view_is in
    let place = c.args.index - 1 in
    let x = c.index.result.now in
    let at : x ≡ get_or pages place x = c.index.ensures ∙ ap (λ (d : SnapshotData). get_or d.pages place x) c.self.view_is in (
      place,
      omega (arith, c.if-index-eq0.false),
      slice_at pages place x (omega (arith, len, c.if-place-len.true)) at ∙ ap Some (sym c.in_ok-copy-2.ensures),
    )

pub returns : goal.returns
returns c =
    let rs = c.args.self.now.records in
    let n = c.len-2.result in
    let place = c.args.index - 1 - n in
    let len : c.len.result ≡ length c.args.self.now.pages = c.len.ensures ∙ c.self.inside.pages.ok.0 ∙ ap (λ (d : SnapshotData). length d.pages) c.self.view_is in
    let len2 : n ≡ length c.args.self.now.pages = c.len-2.ensures ∙ c.self.inside.pages.ok.0 ∙ ap (λ (d : SnapshotData). length d.pages) c.self.view_is in
    let form : IsSnapshot c.args.self.now = subst IsSnapshot c.self.view_is c.self.invariant in
    let count = form.total in
    let is : c.new.result ≡ take max_batch (drop (max_batch * place) rs) = c.new.ensures ∙ c.in_ok-records.ensures in (
      place,
      omega (arith, len, len2, c.if-place-len.false, c.if-index-eq0.false),
      is,
      subst (λ (l : List RecordData). 0 < length l) (sym is)
          (batch_some place rs (omega (arith, len, len2, c.if-place-len.false, c.if-index-eq0.false, c.requires, count.1.0, count.1.1, count.2))),
    )
