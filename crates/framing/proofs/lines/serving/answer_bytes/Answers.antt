use Rattle.std.proofs.lemmas.Grind.{common_steps}
use Rattle.std.proofs.Common.{◌++◌, ◌∙◌, [], refl, arith}
use Rattle.framing.specs.LinesServed.{BreaksOff}
use Rattle.framing.proofs.Going.{goes_start, goes_on, goes_off, on_err}
use Rattle.framing.proofs.lines.serving.answer_bytes.Goals as goal

pub loop-front-init : goal.loop-front-init
loop-front-init g c = (refl, λ begun h. (begun, h, goes_start _ _ _ begun c.args.bytes.now c.args.machine.now c.args.writer.now))

pub returns-in_err-write_all-clause-err : goal.returns-in_err-write_all-clause-err
returns-in_err-write_all-clause-err g c = on_err c.from_residual.result
    (BreaksOff g.M.LineMachine.answers g.W.Write.contents c.args.pending.now c.args.bytes.now c.args.machine.now c.answer-answer.new.machine c.args.writer.now
    c.write_all.new.writer) (λ begun h.
    let inv = c.loop-front.invariant in
    let so = inv.1 begun h in
    let part = c.in_err-write_all.ensures.part in
    goes_off _ _ _ begun c.args.bytes.now c.args.machine.now c.loop-front.machine c.args.writer.now c.loop-front.writer c.write_all.new.writer so.0 c.loop-front.rest.now
    c.in-Some.front.now c.in-Some.behind.now _ c.answer-answer.new.machine part.0 so.2 c.in-Some.ensures.some _ (c.add.ensures.limit ∙ inv.0)
    (c.answer-answer.ensures.answers (so.0 ++ c.in-Some.front.now) (c.add.ensures.holds so.0 so.1))
    c.as_bytes.result.now c.as_bytes.ensures part.1 (c.in_err-write_all.ensures.failed refl))

pub loop-front-preserved-in_ok-write_all : goal.loop-front-preserved-in_ok-write_all
loop-front-preserved-in_ok-write_all g c =
    let inv = c.loop-front.invariant in (
      c.answer-answer.ensures.limit ∙ c.add.ensures.limit ∙ inv.0,
      λ begun h.
          let so = inv.1 begun h in (
            [],
            c.answer-answer.ensures.holds,
            goes_on _ _ _ begun c.args.bytes.now c.args.machine.now c.loop-front.machine c.args.writer.now
                c.loop-front.writer c.write_all.new.writer so.0 c.loop-front.rest.now
                c.in-Some.front.now c.in-Some.behind.now _ c.answer-answer.new.machine so.2 c.in-Some.ensures.some _ (c.add.ensures.limit ∙ inv.0)
                (c.answer-answer.ensures.answers (so.0 ++ c.in-Some.front.now) (c.add.ensures.holds so.0 so.1))
                c.as_bytes.result.now c.as_bytes.ensures c.in_ok-write_all.ensures.ok,
          ),
    )

pub loop-front-preserved : goal.loop-front-preserved
loop-front-preserved g c =
    let inv = c.loop-front.invariant in (
      c.answer-answer.ensures.limit ∙ c.add.ensures.limit ∙ inv.0,
      λ begun h.
          let so = inv.1 begun h in (
            [],
            c.answer-answer.ensures.holds,
            goes_on _ _ _ begun c.args.bytes.now c.args.machine.now c.loop-front.machine c.args.writer.now
                c.loop-front.writer c.write_all.new.writer so.0 c.loop-front.rest.now
                c.in-Some.front.now c.in-Some.behind.now _ c.answer-answer.new.machine so.2 c.in-Some.ensures.some _ (c.add.ensures.limit ∙ inv.0)
                (c.answer-answer.ensures.answers (so.0 ++ c.in-Some.front.now) (c.add.ensures.holds so.0 so.1))
                c.as_bytes.result.now c.as_bytes.ensures c.in_ok-write_all.ensures.ok,
          ),
    )

pub returns-clause-ok : goal.returns-clause-ok
returns-clause-ok g c = grind (arith, common_steps)

pub returns-in_err-write_all-clause-limit : goal.returns-in_err-write_all-clause-limit
returns-in_err-write_all-clause-limit g c = grind (arith, common_steps)

pub loop-front-smaller-in_ok-write_all : goal.loop-front-smaller-in_ok-write_all
loop-front-smaller-in_ok-write_all g c = grind (arith, common_steps)

pub returns-in_err-write_all-clause-errors : goal.returns-in_err-write_all-clause-errors
returns-in_err-write_all-clause-errors g c = grind (arith, common_steps)

pub loop-front-smaller : goal.loop-front-smaller
loop-front-smaller g c = grind (arith, common_steps)
