use Rattle.std.proofs.Common.{map, arith}
use Rattle.messages.specs.Deltas.{delta_of}
use Rattle.redo_wire.proofs.Lengths.{delta_len}
use Rattle.redo_wire.proofs.sizes.delta_size.Goals as goal

pub returns : goal.returns
returns c = λ base images count long.
    let whole = delta_len (delta_of c.args.book.now base images (map (λ r. r.now) c.args.records.now)) long in
    omega (arith, whole, count, c.book_size.ensures.size, c.records_size.ensures.size)
