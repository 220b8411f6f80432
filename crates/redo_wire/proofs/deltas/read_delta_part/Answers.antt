use Rattle.std.proofs.Common.{arith}
use Rattle.messages.specs.Deltas.{delta_of}
use Rattle.redo_wire.proofs.DeltaReaders.{delta_part_takes}
use Rattle.redo_wire.proofs.deltas.read_delta_part.Goals as goal

-- what was judged on the way has the shape of a delta
pub new-requires : goal.new-requires
new-requires c =
    (delta_part_takes c.args.has_many c.args.bytes.now (delta_of c.in_ok-book.book c.in_ok-base.base c.in_ok-base.pages.items c.in_ok-base.records.items, c.in_ok-base.rest.now)
    (λ i. omega (arith, c.type_inv.bytes i)) (c.in_ok-base.ensures c.args.has_many c.args.bytes.now c.in_ok-book.ensures)).1.0.shape
