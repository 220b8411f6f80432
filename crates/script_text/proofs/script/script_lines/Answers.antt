use Rattle.std.proofs.Common.{◌≡◌, ◌≤◌, ◌<◌, ◌+◌, inr, false, codes, length, refl, sym, ap, ◌∙◌, arith, rules}
use Rattle.std.proofs.lemmas.Grind.{common_steps}
use Rattle.std.specs.Prelude.{bytes_eq}
use Rattle.text.specs.Parts.{parts_at}
use Rattle.script_text.specs.Script.{most, within, with_facts, script_from}
use Rattle.script_text.specs.LineReasons.{ExplainsFact}
use Rattle.script_text.specs.TextReasons.{IsBadFact, IsNodesReason, IsScriptReason}
use Rattle.script_text.specs.declared.reasons.TextReason.TheVariants.{ManyFacts}
use Rattle.script_text.proofs.LineWords.{fact_reasons_are_of_bad_lines}
use Rattle.script_text.proofs.Lines.{fact_next, go_next, script_bad}
use Rattle.script_text.proofs.StoppedLines.{explained_more, result_more, stops_line, script_go, script_here, script_line, script_onto}
use Rattle.script_text.proofs.script.script_lines.Goals as goal

pub returns-then-is_word-clause-asked : goal.returns-then-is_word-clause-asked
returns-then-is_word-clause-asked c = search (rules, go_next)

pub returns-then-is_word-clause-reason : goal.returns-then-is_word-clause-reason
returns-then-is_word-clause-reason c =
    let same : c.len.result ≡ length c.loop-line.facts.items = search rules in
    let place : c.args.at + c.len.result + 1 ≡ c.args.at + length c.loop-line.facts.items + 1 = omega (arith, same) in
    result_more (IsNodesReason (length c.loop-line.facts.items) (c.args.at + length c.loop-line.facts.items + 1) (parts_at 10 c.in-Some.behind.now))
    (IsScriptReason 0 c.args.at (parts_at 10 c.args.text.now)) c.after_go.result
    (λ stop reason h. c.loop-line.invariant.reason stop reason (script_go (length c.loop-line.facts.items) (c.args.at + length c.loop-line.facts.items) c.loop-line.rest.now
    c.in-Some.line.now c.in-Some.behind.now stop reason c.in-Some.ensures.some (sym c.is_word.ensures ∙ c.if-is_word.true) h))
    (rw place at c.after_go.ensures.reason)

pub returns-then-len-ge-MOST-clause-reason : goal.returns-then-len-ge-MOST-clause-reason
returns-then-len-ge-MOST-clause-reason c =
    let same : c.len.result ≡ length c.loop-line.facts.items = search rules in
    let late : most ≤ length c.loop-line.facts.items = grind (arith, common_steps) in
    rw same (c.loop-line.invariant.reason (c.args.at + length c.loop-line.facts.items) ManyFacts
    (script_here (length c.loop-line.facts.items) (c.args.at + length c.loop-line.facts.items) c.loop-line.rest.now c.in-Some.line.now c.in-Some.behind.now
    (c.args.at + length c.loop-line.facts.items) ManyFacts c.in-Some.ensures.some (sym c.is_word.ensures ∙ c.if-is_word.false) (refl, inr (refl, late))))

pub returns-in-Err-clause-asked : goal.returns-in-Err-clause-asked
returns-in-Err-clause-asked c =
    let same : c.len.result ≡ length c.loop-line.facts.items = search rules in
    let place : c.args.at + c.len.result ≡ c.args.at + length c.loop-line.facts.items = omega (arith, same) in
    let other : bytes_eq c.in-Some.line.now (codes "go") ≡ false = sym c.is_word.ensures ∙ c.if-is_word.false in
    stops_line (ExplainsFact c.in-Some.line.now) (c.args.at + length c.loop-line.facts.items) c.bad_fact.result (script_from 0 c.args.at (parts_at 10 c.args.text.now))
    (λ reason why. sym c.loop-line.invariant.so_far ∙ ap (within (with_facts c.loop-line.facts.items))
    (script_bad (length c.loop-line.facts.items) (c.args.at + length c.loop-line.facts.items) c.loop-line.rest.now c.in-Some.line.now c.in-Some.behind.now
    c.in-Some.ensures.some other (fact_reasons_are_of_bad_lines c.in-Some.line.now reason why)))
    (rw place at c.bad_fact.ensures)

pub returns-in-Err-clause-reason : goal.returns-in-Err-clause-reason
returns-in-Err-clause-reason c =
    let same : c.len.result ≡ length c.loop-line.facts.items = search rules in
    let place : c.args.at + c.len.result ≡ c.args.at + length c.loop-line.facts.items = omega (arith, same) in
    let other : bytes_eq c.in-Some.line.now (codes "go") ≡ false = sym c.is_word.ensures ∙ c.if-is_word.false in
    explained_more (IsBadFact (c.args.at + length c.loop-line.facts.items) c.in-Some.line.now) (IsScriptReason 0 c.args.at (parts_at 10 c.args.text.now)) c.bad_fact.result
    (λ stop reason h. c.loop-line.invariant.reason stop reason (script_line (length c.loop-line.facts.items) (c.args.at + length c.loop-line.facts.items)
    c.loop-line.rest.now c.in-Some.line.now c.in-Some.behind.now stop reason c.in-Some.ensures.some other h))
    (rw place at c.bad_fact.ensures)

pub loop-line-preserved : goal.loop-line-preserved
loop-line-preserved c =
    let few : length c.loop-line.facts.items < most = grind (arith, common_steps) in
    let other : bytes_eq c.in-Some.line.now (codes "go") ≡ false = sym c.is_word.ensures ∙ c.if-is_word.false in
    record {
      so_far = fact_next c.args.at c.loop-line.facts.items c.push.new.self.items c.loop-line.rest.now c.in-Some.line.now c.in-Some.behind.now c.in-Ok.next
          c.in-Some.ensures.some few c.in-Ok.ensures.fact c.in_ok-push-in-Ok.ensures.items ∙ c.loop-line.invariant.so_far;
      few = grind (arith, common_steps);
      reason = λ stop reason h. c.loop-line.invariant.reason stop reason (script_onto c.args.at c.loop-line.facts.items c.push.new.self.items c.loop-line.rest.now
          c.in-Some.line.now c.in-Some.behind.now c.in-Ok.next stop reason c.in-Some.ensures.some other c.in_ok-push-in-Ok.ensures.items h);
    }
