use Rattle.std.proofs.Common.{◌≡◌, ◌+◌, ◌-◌, arith, subst}
use Rattle.node_stream.specs.Gathering.{HasPlaceFor, gathered_bytes}
use Rattle.framing.proofs.Nested.{shorter}
use Rattle.node_stream.proofs.Together.{answered_none, some_left, answered_more, answered_all}
use Rattle.node_stream.proofs.many.answer_each.Goals as goal

pub loop-frame-init : goal.loop-frame-init
loop-frame-init c = (
  c.requires.room,
  answered_none c.args.guard.now c.args.frames.now (gathered_bytes c.args.answers) c.args.count c.requires.frames.0 c.requires.frames.1 c.requires.frames.2
      c.requires.none (omega (arith, c.requires.room.within)),
)

pub overflow_sub-left : goal.overflow_sub-left
overflow_sub-left c =
    let some = some_left c.args.guard.now c.args.frames.now c.loop-frame.rest.now (gathered_bytes c.loop-frame.answers) c.loop-frame.left c.loop-frame.guard
    c.loop-frame.invariant.1 c.in-Some.frame.now c.in-Some.behind.now c.in-Some.ensures.bytes c.in-Some.ensures.short in
    omega (arith, some)

pub put_answer-requires : goal.put_answer-requires
put_answer-requires c =
    let some = some_left c.args.guard.now c.args.frames.now c.loop-frame.rest.now (gathered_bytes c.loop-frame.answers) c.loop-frame.left c.loop-frame.guard
    c.loop-frame.invariant.1 c.in-Some.frame.now c.in-Some.behind.now c.in-Some.ensures.bytes c.in-Some.ensures.short in
    let same : c.loop-frame.left ≡ c.loop-frame.left - 1 + 1 = omega (arith, some) in
    subst (HasPlaceFor c.loop-frame.answers) same c.loop-frame.invariant.0

pub loop-frame-smaller : goal.loop-frame-smaller
loop-frame-smaller c = shorter c.loop-frame.rest.now c.in-Some.frame.now c.in-Some.behind.now c.in-Some.ensures.bytes

pub loop-frame-preserved : goal.loop-frame-preserved
loop-frame-preserved c =
    let some = some_left c.args.guard.now c.args.frames.now c.loop-frame.rest.now (gathered_bytes c.loop-frame.answers) c.loop-frame.left c.loop-frame.guard
    c.loop-frame.invariant.1 c.in-Some.frame.now c.in-Some.behind.now c.in-Some.ensures.bytes c.in-Some.ensures.short in
    let put = c.put_answer.ensures.answers in (
      c.put_answer.ensures.room,
      answered_more c.args.guard.now c.args.frames.now c.loop-frame.rest.now (gathered_bytes c.loop-frame.answers) c.loop-frame.left c.loop-frame.guard
          c.loop-frame.invariant.1 c.in-Some.frame.now c.in-Some.behind.now put.0 (gathered_bytes c.put_answer.new.answers) (c.loop-frame.left - 1)
          c.put_answer.new.guard c.in-Some.ensures.bytes c.in-Some.ensures.short put.1 put.2 put.3 (omega (arith, some)),
    )

pub returns-clause-answers : goal.returns-clause-answers
returns-clause-answers c = answered_all c.args.guard.now c.args.frames.now c.loop-frame.rest.now (gathered_bytes c.loop-frame.answers) c.loop-frame.left
    c.loop-frame.guard c.loop-frame.invariant.1 c.in_default.ensures.none (omega (arith, c.loop-frame.invariant.0.within))
