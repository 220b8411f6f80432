use Rattle.std.proofs.Common.{IsTrue, false, arith}
use Rattle.segment_core.proofs.OnTop.{ended, walked}
use Rattle.segment_core.proofs.points.Points.on_top.Goals as goal

pub straight_end_since-requires : goal.straight_end_since-requires
straight_end_since-requires c = λ r h lt. c.requires.since r h (omega arith)

pub returns-then-has_between : goal.returns-then-has_between
returns-then-has_between c base j = walked c.args.view.now.book.now c.args.view.now.held.now base c.args.number c.args.self c.onward.result j c.onward.ensures

pub returns-in_default : goal.returns-in_default
returns-in_default c base j = walked c.args.view.now.book.now c.args.view.now.held.now base c.args.number c.args.self c.onward-in_default.result j c.onward-in_default.ensures

pub returns : goal.returns
returns c base j =
    ended c.args.view.now.book.now c.args.view.now.held.now base c.args.number c.in-Some.complete c.anchor_on-anchor.result c.args.self j
    (λ h. let t : IsTrue false = c.if-has_between.ensures.found.1 h in cc) c.in-Some.ensures.some c.anchor_on-anchor.ensures
