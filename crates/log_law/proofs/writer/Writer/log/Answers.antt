use Rattle.std.proofs.Common.{subst}
use Rattle.redo_core.specs.Sound.{IsSound}
use Rattle.log_law.proofs.writer.Writer.log.Goals as goal

pub returns-clause-sound : goal.returns-clause-sound
returns-clause-sound c = subst (λ w. IsSound w.roster w.log) c.self.view_is c.self.invariant.sound
