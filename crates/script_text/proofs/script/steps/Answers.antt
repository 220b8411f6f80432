use Rattle.std.proofs.Common.{◌≡◌, ◌≤◌, ◌<◌, ◌+◌, inr, length, refl, sym, ap, ◌∙◌, arith, rules}
use Rattle.std.proofs.lemmas.Grind.{common_steps}
use Rattle.text.specs.Parts.{parts_at}
use Rattle.script_text.specs.StepLine.{step_of}
use Rattle.script_text.specs.Script.{most, lines_from}
use Rattle.script_text.specs.LineReasons.{ExplainsStep}
use Rattle.script_text.specs.TextReasons.{IsBadStep, IsReasonFrom}
use Rattle.script_text.specs.declared.reasons.TextReason.TheVariants.{ManySteps}
use Rattle.script_text.proofs.LineWords.{step_reasons_are_of_bad_lines}
use Rattle.script_text.proofs.Lines.{with_said, said_onto, said_bad, said_past}
use Rattle.script_text.proofs.StoppedLines.{explained_more, stops_line, reason_here, reason_line, reason_onto}
use Rattle.script_text.proofs.script.steps.Goals as goal

pub returns-then-len-ge-MOST-clause-steps : goal.returns-then-len-ge-MOST-clause-steps
returns-then-len-ge-MOST-clause-steps c =
    let same : c.len.result ≡ length c.loop-line.steps.items = search rules in
    let late : most ≤ length c.loop-line.steps.items = grind (arith, common_steps) in
    let bad = said_past (step_of c.args.facts) (length c.loop-line.steps.items) (c.args.at + length c.loop-line.steps.items) c.loop-line.rest.now c.in-Some.line.now c.in-Some.behind.now
    c.in-Some.ensures.some late in
    rw same (sym c.loop-line.invariant.so_far ∙ ap (with_said c.loop-line.steps.items) bad)

pub returns-then-len-ge-MOST-clause-reason : goal.returns-then-len-ge-MOST-clause-reason
returns-then-len-ge-MOST-clause-reason c =
    let same : c.len.result ≡ length c.loop-line.steps.items = search rules in
    let late : most ≤ length c.loop-line.steps.items = grind (arith, common_steps) in
    rw same (c.loop-line.invariant.reason (c.args.at + length c.loop-line.steps.items) ManySteps
    (reason_here (ExplainsStep c.args.facts) ManySteps (length c.loop-line.steps.items) (c.args.at + length c.loop-line.steps.items) c.loop-line.rest.now c.in-Some.line.now
    c.in-Some.behind.now ManySteps c.in-Some.ensures.some (inr (refl, late))))

pub returns-in-Err-clause-steps : goal.returns-in-Err-clause-steps
returns-in-Err-clause-steps c =
    let same : c.len.result ≡ length c.loop-line.steps.items = search rules in
    let place : c.args.at + c.len.result ≡ c.args.at + length c.loop-line.steps.items = omega (arith, same) in
    stops_line (ExplainsStep c.args.facts c.in-Some.line.now) (c.args.at + length c.loop-line.steps.items) c.in-Err.error (lines_from (step_of c.args.facts) 0 c.args.at (parts_at 10 c.args.text.now))
    (λ reason why. sym c.loop-line.invariant.so_far ∙ ap (with_said c.loop-line.steps.items)
    (said_bad (step_of c.args.facts) (length c.loop-line.steps.items) (c.args.at + length c.loop-line.steps.items) c.loop-line.rest.now c.in-Some.line.now c.in-Some.behind.now
    c.in-Some.ensures.some (step_reasons_are_of_bad_lines c.args.facts c.in-Some.line.now reason why)))
    (rw place at c.in-Err.ensures.reason)

pub returns-in-Err-clause-reason : goal.returns-in-Err-clause-reason
returns-in-Err-clause-reason c =
    let same : c.len.result ≡ length c.loop-line.steps.items = search rules in
    let place : c.args.at + c.len.result ≡ c.args.at + length c.loop-line.steps.items = omega (arith, same) in
    explained_more (IsBadStep c.args.facts (c.args.at + length c.loop-line.steps.items) c.in-Some.line.now)
    (IsReasonFrom (ExplainsStep c.args.facts) ManySteps 0 c.args.at (parts_at 10 c.args.text.now)) c.in-Err.error
    (λ stop reason h. c.loop-line.invariant.reason stop reason (reason_line (ExplainsStep c.args.facts) ManySteps (length c.loop-line.steps.items)
    (c.args.at + length c.loop-line.steps.items) c.loop-line.rest.now c.in-Some.line.now c.in-Some.behind.now stop reason c.in-Some.ensures.some h))
    (rw place at c.in-Err.ensures.reason)

pub loop-line-preserved : goal.loop-line-preserved
loop-line-preserved c =
    let few : length c.loop-line.steps.items < most = grind (arith, common_steps) in
    record {
      so_far = said_onto (step_of c.args.facts) c.args.at c.loop-line.steps.items c.push.new.self.items c.loop-line.rest.now c.in-Some.line.now c.in-Some.behind.now c.in-Ok.next
          c.in-Some.ensures.some few c.in-Ok.ensures.step c.in_ok-push-in-Ok.ensures.items ∙ c.loop-line.invariant.so_far;
      few = grind (arith, common_steps);
      reason = λ stop reason h. c.loop-line.invariant.reason stop reason (reason_onto (ExplainsStep c.args.facts) ManySteps c.args.at c.loop-line.steps.items c.push.new.self.items
          c.loop-line.rest.now c.in-Some.line.now c.in-Some.behind.now c.in-Ok.next stop reason c.in-Some.ensures.some c.in_ok-push-in-Ok.ensures.items h);
    }
