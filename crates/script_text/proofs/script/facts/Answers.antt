use Rattle.std.proofs.Common.{◌≡◌, ◌≤◌, ◌<◌, ◌+◌, inr, length, refl, sym, ap, ◌∙◌, arith, rules}
use Rattle.std.proofs.lemmas.Grind.{common_steps}
use Rattle.text.specs.Parts.{parts_at}
use Rattle.script_text.specs.FactLine.{fact_of}
use Rattle.script_text.specs.Script.{most, lines_from}
use Rattle.script_text.specs.LineReasons.{ExplainsFact}
use Rattle.script_text.specs.TextReasons.{IsBadFact, IsReasonFrom}
use Rattle.script_text.specs.declared.reasons.TextReason.TheVariants.{ManyFacts}
use Rattle.script_text.proofs.LineWords.{fact_reasons_are_of_bad_lines}
use Rattle.script_text.proofs.Lines.{with_said, said_onto, said_bad, said_past}
use Rattle.script_text.proofs.StoppedLines.{explained_more, stops_line, reason_here, reason_line, reason_onto}
use Rattle.script_text.proofs.script.facts.Goals as goal

pub returns-then-len-ge-MOST-clause-facts : goal.returns-then-len-ge-MOST-clause-facts
returns-then-len-ge-MOST-clause-facts c =
    let same : c.len.result ≡ length c.loop-line.facts.items = search rules in
    let late : most ≤ length c.loop-line.facts.items = grind (arith, common_steps) in
    let bad = said_past (fact_of) (length c.loop-line.facts.items) (c.args.at + length c.loop-line.facts.items) c.loop-line.rest.now c.in-Some.line.now c.in-Some.behind.now
    c.in-Some.ensures.some late in
    rw same (sym c.loop-line.invariant.so_far ∙ ap (with_said c.loop-line.facts.items) bad)

pub returns-then-len-ge-MOST-clause-reason : goal.returns-then-len-ge-MOST-clause-reason
returns-then-len-ge-MOST-clause-reason c =
    let same : c.len.result ≡ length c.loop-line.facts.items = search rules in
    let late : most ≤ length c.loop-line.facts.items = grind (arith, common_steps) in
    rw same (c.loop-line.invariant.reason (c.args.at + length c.loop-line.facts.items) ManyFacts
    (reason_here (ExplainsFact) ManyFacts (length c.loop-line.facts.items) (c.args.at + length c.loop-line.facts.items) c.loop-line.rest.now c.in-Some.line.now
    c.in-Some.behind.now ManyFacts c.in-Some.ensures.some (inr (refl, late))))

pub returns-in-Err-clause-facts : goal.returns-in-Err-clause-facts
returns-in-Err-clause-facts c =
    let same : c.len.result ≡ length c.loop-line.facts.items = search rules in
    let place : c.args.at + c.len.result ≡ c.args.at + length c.loop-line.facts.items = omega (arith, same) in
    stops_line (ExplainsFact c.in-Some.line.now) (c.args.at + length c.loop-line.facts.items) c.bad_fact.result (lines_from (fact_of) 0 c.args.at (parts_at 10 c.args.text.now))
    (λ reason why. sym c.loop-line.invariant.so_far ∙ ap (with_said c.loop-line.facts.items)
    (said_bad (fact_of) (length c.loop-line.facts.items) (c.args.at + length c.loop-line.facts.items) c.loop-line.rest.now c.in-Some.line.now c.in-Some.behind.now
    c.in-Some.ensures.some (fact_reasons_are_of_bad_lines c.in-Some.line.now reason why)))
    (rw place at c.bad_fact.ensures)

pub returns-in-Err-clause-reason : goal.returns-in-Err-clause-reason
returns-in-Err-clause-reason c =
    let same : c.len.result ≡ length c.loop-line.facts.items = search rules in
    let place : c.args.at + c.len.result ≡ c.args.at + length c.loop-line.facts.items = omega (arith, same) in
    explained_more (IsBadFact (c.args.at + length c.loop-line.facts.items) c.in-Some.line.now)
    (IsReasonFrom (ExplainsFact) ManyFacts 0 c.args.at (parts_at 10 c.args.text.now)) c.bad_fact.result
    (λ stop reason h. c.loop-line.invariant.reason stop reason (reason_line (ExplainsFact) ManyFacts (length c.loop-line.facts.items)
    (c.args.at + length c.loop-line.facts.items) c.loop-line.rest.now c.in-Some.line.now c.in-Some.behind.now stop reason c.in-Some.ensures.some h))
    (rw place at c.bad_fact.ensures)

pub loop-line-preserved : goal.loop-line-preserved
loop-line-preserved c =
    let few : length c.loop-line.facts.items < most = grind (arith, common_steps) in
    record {
      so_far = said_onto (fact_of) c.args.at c.loop-line.facts.items c.push.new.self.items c.loop-line.rest.now c.in-Some.line.now c.in-Some.behind.now c.in-Ok.next
          c.in-Some.ensures.some few c.in-Ok.ensures.fact c.in_ok-push-in-Ok.ensures.items ∙ c.loop-line.invariant.so_far;
      few = grind (arith, common_steps);
      reason = λ stop reason h. c.loop-line.invariant.reason stop reason (reason_onto (ExplainsFact) ManyFacts c.args.at c.loop-line.facts.items c.push.new.self.items
          c.loop-line.rest.now c.in-Some.line.now c.in-Some.behind.now c.in-Ok.next stop reason c.in-Some.ensures.some c.in_ok-push-in-Ok.ensures.items h);
    }
