use Rattle.std.proofs.Common.{ap, arith}
use Rattle.node_threads.specs.Refusals.{most_listed}
use Rattle.node_threads.proofs.join_rounds.joined.Goals as goal

pub take_in-requires : goal.take_in-requires
take_in-requires g c = omega (arith, ap (most_listed (λ h. h.promise.rounds)) c.in-Some.is, c.join.ensures, c.requires.room)
