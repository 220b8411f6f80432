use Rattle.std.proofs.Common.{rules}
use Rattle.snapshot.proofs.Shaped.{piece_shaped}
use Rattle.snapshot.proofs.snapshot.Snapshot.piece.Goals as goal

pub new-requires : goal.new-requires
new-requires c = search (rules, piece_shaped)
