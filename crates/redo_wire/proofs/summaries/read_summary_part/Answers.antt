use Rattle.std.proofs.Common.{arith}
use Rattle.messages.specs.Summaries.{summary_of}
use Rattle.redo_wire.proofs.SummaryReaders.{summary_part_takes}
use Rattle.redo_wire.proofs.summaries.read_summary_part.Goals as goal

-- what was judged on the way has the shape of a summary
pub new-requires : goal.new-requires
new-requires c =
    (summary_part_takes c.args.has_many c.args.bytes.now (summary_of c.in_ok-book.book c.in_ok-anchor.anchor c.in_ok-anchor.keys.items, c.in_ok-anchor.rest.now)
    (λ i. omega (arith, c.type_inv.bytes i)) (c.in_ok-anchor.ensures c.args.has_many c.args.bytes.now c.in_ok-book.ensures)).1.0.shape
