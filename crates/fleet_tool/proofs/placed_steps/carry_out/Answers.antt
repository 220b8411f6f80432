use Rattle.fleet_tool.proofs.placed_steps.carry_out.Goals as goal

pub returns-in-Take : goal.returns-in-Take
returns-in-Take c = rw c.in-Take.is c.take.ensures.follows
