use Rattle.front_board.proofs.LinkedNumbers.{linked_below}
use Rattle.front_board.proofs.fronts.LogFront.new.Goals as goal

pub invariant_of-result : goal.invariant_of-result
invariant_of-result g c = (c.requires, linked_below g.L.LogName.log g.met.L.LogName.sound c.args.epoch c.args.number c.requires.1)
