use Rattle.std.proofs.Common.{◌+◌, ◌<◌, ◌≤◌, length, arith}
use Rattle.std.proofs.lemmas.Grind.{common_steps}
use Rattle.script_text.specs.FactLine.{fact_of}
use Rattle.script_text.specs.Script.{most}
use Rattle.script_text.specs.LineReasons.{ExplainsFact}
use Rattle.script_text.specs.declared.reasons.TextReason.TheVariants.{ManyFacts}
use Rattle.script_text.proofs.JoinedLines.{many_good, good_behind}
use Rattle.script_text.proofs.blocks.moved.Goals as goal

pub returns-then-len-room-clause-facts : goal.returns-then-len-room-clause-facts
returns-then-len-room-clause-facts c = λ parts h.
    let far : most < c.args.before + length c.in-Ok.facts.items = grind (arith, common_steps) in
    (many_good fact_of ExplainsFact ManyFacts c.args.at c.args.before parts c.in-Ok.facts.items c.requires.before far (rw c.in-Ok.is at h)).0

pub returns-then-len-room-clause-reason : goal.returns-then-len-room-clause-reason
returns-then-len-room-clause-reason c = λ parts h why.
    let far : most < c.args.before + length c.in-Ok.facts.items = grind (arith, common_steps) in
    (many_good fact_of ExplainsFact ManyFacts c.args.at c.args.before parts c.in-Ok.facts.items c.requires.before far (rw c.in-Ok.is at h)).1

pub returns-else-len-room-clause-facts : goal.returns-else-len-room-clause-facts
returns-else-len-room-clause-facts c = λ parts h.
    let few : c.args.before + length c.in-Ok.facts.items ≤ most = grind (arith, common_steps) in
    good_behind fact_of c.args.at c.args.before parts c.in-Ok.facts.items few (rw c.in-Ok.is at h)
