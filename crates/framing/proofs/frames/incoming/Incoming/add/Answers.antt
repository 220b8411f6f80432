use Rattle.std.proofs.Common.{arith}
use Rattle.std.proofs.lemmas.Grind.{common_steps}
use Rattle.framing.proofs.frames.incoming.Incoming.add.Goals as goal

pub returns-then-make_room-clause-room : goal.returns-then-make_room-clause-room
returns-then-make_room-clause-room c = grind (arith, common_steps)

pub append-requires : goal.append-requires
append-requires c = grind (arith, common_steps)

pub returns-else-make_room-clause-room : goal.returns-else-make_room-clause-room
returns-else-make_room-clause-room c = grind (arith, common_steps)

pub returns-then-make_room-clause-holds : goal.returns-then-make_room-clause-holds
returns-then-make_room-clause-holds c = grind (arith, common_steps)
