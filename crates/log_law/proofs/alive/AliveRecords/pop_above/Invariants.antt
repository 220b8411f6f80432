use Rattle.std.proofs.Common.{◌≡◌, length}
use Rattle.log_law.specs.Alive.{stack_of, without_above, IsStack}
use Rattle.log_law.proofs.alive.AliveRecords.pop_above.Given as goal

abbrev pub invariant-loop-self : goal.invariant-loop-self
invariant-loop-self l = record {
  stack : IsStack l.self;
  rest : without_above l.lo (stack_of l.self) ≡ without_above l.lo (stack_of l.initial.self);
  view : l.self.view ≡ l.initial.self.view;
}

abbrev pub decreases-loop-self : goal.decreases-loop-self
decreases-loop-self l = length (stack_of l.self)
