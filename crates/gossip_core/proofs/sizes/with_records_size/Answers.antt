use Rattle.std.proofs.Common.{◌≡◌, min, List, length, map, ap, ◌∙◌, subst}
use Rattle.redo_core.specs.Data.{RecordData}
use Rattle.redo_core.specs.Order.{Lists, RecordBefore}
use Rattle.messages.specs.Deltas.{delta_of}
use Rattle.redo_wire.specs.Deltas.{delta_bytes}
use Rattle.gossip_core.specs.Replying.{IsSent}
use Rattle.gossip_core.proofs.SizesTold.{SizesDeltas, records_size}
use Rattle.gossip_core.proofs.sizes.with_records_size.Goals as goal

pub returns : goal.returns
returns c =
    let s = c.args.segment.now in let summary = c.args.summary.now in let anchor = c.anchor.result in let size = c.delta_size.result in
    let records : List RecordData = map (λ r. r.now) c.in_ok-records.records.items in
    let point : c.min-point.result ≡ min anchor summary.anchor = c.min-point.ensures ∙ ap (λ n. min anchor n) c.anchor-2.ensures.anchor in
    let lists : Lists RecordBefore (IsSent s (min anchor summary.anchor) summary.keys) records =
    subst (λ n. Lists RecordBefore (IsSent s n summary.keys) records) point
    (subst (λ keys. Lists RecordBefore (IsSent s c.min-point.result keys) records) c.keys.ensures.keys c.in_ok-records.ensures) in
    let sizes : SizesDeltas s 0 records size = λ base images count each.
    subst (λ b. size ≡ length (delta_bytes (delta_of b base images records))) c.book_ref.ensures.book
    (rw c.deref.ensures.value at (c.delta_size.ensures base images count each)) in
    records_size s summary anchor records size c.anchor.ensures.own lists sizes
