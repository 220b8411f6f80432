use Rattle.std.proofs.Common.{◌≡◌, List, length, map, subst}
use Rattle.redo_core.specs.Data.{RecordData}
use Rattle.redo_core.specs.Order.{Lists, RecordBefore}
use Rattle.messages.specs.Deltas.{delta_of}
use Rattle.redo_wire.specs.Deltas.{delta_bytes}
use Rattle.gossip_core.specs.Replying.{IsSent}
use Rattle.gossip_core.proofs.SizesTold.{SizesDeltas, pages_size}
use Rattle.gossip_core.proofs.sizes.with_shown_size.Goals as goal

pub returns : goal.returns
returns c =
    let s = c.args.segment.now in let summary = c.args.summary.now in let anchor = c.anchor-anchor.result in let size = c.delta_size.result in
    let records : List RecordData = map (λ r. r.now) c.in_ok-records.records.items in
    let lists : Lists RecordBefore (IsSent s anchor summary.keys) records =
    subst (λ keys. Lists RecordBefore (IsSent s anchor keys) records) c.keys.ensures.keys c.in_ok-records.ensures in
    let sizes : SizesDeltas s c.in_ok-pages.pages records size = λ base images count each.
    subst (λ b. size ≡ length (delta_bytes (delta_of b base images records))) c.book_ref.ensures.book
    (rw c.deref.ensures.value at (c.delta_size.ensures base images count each)) in
    pages_size s summary anchor c.in_ok-pages.pages records size c.anchor-anchor.ensures.own c.in_ok-pages.ensures lists sizes
