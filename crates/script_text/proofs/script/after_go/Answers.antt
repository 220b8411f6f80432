use Rattle.std.proofs.Common.{length, ap, arith}
use Rattle.std.proofs.lemmas.Grind.{common_steps}
use Rattle.text.specs.Parts.{parts_at}
use Rattle.script_text.specs.Script.{within, with_facts, nodes_from}
use Rattle.script_text.specs.LineReasons.{ExplainsNodes}
use Rattle.script_text.specs.TextReasons.{IsBadNodes, IsNodesReason}
use Rattle.script_text.proofs.LineWords.{nodes_reasons_are_of_bad_lines}
use Rattle.script_text.proofs.Lines.{nodes_next}
use Rattle.script_text.proofs.StoppedLines.{explained_more, stops_line, nodes_bad, nodes_here}
use Rattle.script_text.proofs.script.after_go.Goals as goal

pub returns-in-Err-clause-asked : goal.returns-in-Err-clause-asked
returns-in-Err-clause-asked c = stops_line (ExplainsNodes c.in-Some.first.now) c.args.at c.in-Err.error
    (within (with_facts c.args.facts.items) (nodes_from (length c.args.facts.items) c.args.at (parts_at 10 c.args.text.now)))
    (λ reason why. ap (within (with_facts c.args.facts.items)) (nodes_bad (length c.args.facts.items) c.args.at c.args.text.now c.in-Some.first.now c.in-Some.rest.now
    c.in-Some.ensures.some (nodes_reasons_are_of_bad_lines c.in-Some.first.now reason why))) c.in-Err.ensures.reason

pub returns-in-Err-clause-reason : goal.returns-in-Err-clause-reason
returns-in-Err-clause-reason c = explained_more (IsBadNodes c.args.at c.in-Some.first.now) (IsNodesReason (length c.args.facts.items) c.args.at (parts_at 10 c.args.text.now))
    c.in-Err.error
    (λ stop reason h. nodes_here (length c.args.facts.items) c.args.at c.args.text.now c.in-Some.first.now c.in-Some.rest.now stop reason c.in-Some.ensures.some h)
    c.in-Err.ensures.reason

pub returns-clause-asked : goal.returns-clause-asked
returns-clause-asked c = grind (arith, common_steps, nodes_next)
