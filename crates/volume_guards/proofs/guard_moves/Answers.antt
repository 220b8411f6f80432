use Rattle.volume_guards.proofs.Guards.{guard_moves}
use Rattle.volume_guards.proofs.guard_moves.Goals as goal

pub returns : goal.returns
returns c = guard_moves
