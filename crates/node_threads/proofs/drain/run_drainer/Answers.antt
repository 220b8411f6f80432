use Rattle.std.proofs.Common.{◌-◌}
use Rattle.front_board.specs.Seat.{IsNode}
use Rattle.node_threads.proofs.Work.{answered_none}
use Rattle.node_threads.proofs.Lists.{all_at}
use Rattle.node_threads.proofs.drain.run_drainer.Goals as goal

pub returns-in_default-clause-answered : goal.returns-in_default-clause-answered
returns-in_default-clause-answered g c = answered_none _ _ _ c.requires.ready.none

pub drain_all-halt-requires-clause-node : goal.drain_all-halt-requires-clause-node
drain_all-halt-requires-clause-node g c = all_at c.args.context.now.nodes.now (c.args.hold.node - 1) c.in-Some.node.now (λ n. IsNode c.args.context.now.board.now.words n.number) c.args.context.now.numbers c.in-Some.ensures.1

pub returns-clause-answered : goal.returns-clause-answered
returns-clause-answered g c = c.drain_all-halt.ensures.answered

pub returns-clause-count : goal.returns-clause-count
returns-clause-count g c = λ _. c.drain_all-halt.ensures.count
