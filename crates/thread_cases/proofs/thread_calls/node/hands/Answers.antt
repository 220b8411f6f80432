use Rattle.std.proofs.Common.{◌≡◌, subst}
use Rattle.std.proofs.lemmas.List.Elements.{All-pop}
use Rattle.node_lock.specs.Passes.{AreIdle}
use Rattle.thread_cases.proofs.thread_calls.node.hands.Goals as goal

pub loop-pass-preserved : goal.loop-pass-preserved
loop-pass-preserved g c = (
  (subst (AreIdle c.args.node.now.lock) c.in-Some.ensures.steps.0 c.loop-pass.invariant.0).1,
  (All-pop (λ s. s.board ≡ c.args.board.now) c.loop-pass.seats.items c.pop.new.self.items c.pop.result c.pop.ensures.items c.loop-pass.invariant.1).0,
)
