use Rattle.segment_core.proofs.points.Points.joined.Goals as goal

pub returns-then-at_end : goal.returns-then-at_end
returns-then-at_end c = λ base j last. c.on_end.ensures c.args.view.now.held.now base j (last c.if-at_end.true)

pub returns-else-at_end : goal.returns-else-at_end
returns-else-at_end c = λ base j last. c.on_top.ensures base j
