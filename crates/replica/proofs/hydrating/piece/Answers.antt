use Rattle.std.proofs.Common.{rules}
use Rattle.replica.proofs.hydrating.piece.Goals as goal

pub returns-in-Ok : goal.returns-in-Ok
returns-in-Ok c = search rules
