use Rattle.std.proofs.Common.{◌+◌, ◌<◌, ◌≤◌, arith}
use Rattle.script_text.specs.FactLine.{fact_of}
use Rattle.script_text.specs.Script.{most}
use Rattle.script_text.specs.LineReasons.{ExplainsFact}
use Rattle.script_text.specs.declared.reasons.TextReason.TheVariants.{ManyFacts}
use Rattle.script_text.proofs.JoinedLines.{many_bad, bad_behind, why_behind}
use Rattle.script_text.proofs.blocks.moved_error.Goals as goal

pub returns-then-stop-last-clause-fails : goal.returns-then-stop-last-clause-fails
returns-then-stop-last-clause-fails c = λ parts h.
    let far : c.args.at + most < c.in-BadLine.stop + c.args.before = omega (arith, c.if-stop-last.true, c.requires.before) in
    (many_bad fact_of ExplainsFact ManyFacts c.args.at c.args.before parts c.in-BadLine.stop c.requires.before far (rw c.in-BadLine.is at h)).0

pub returns-then-stop-last-clause-reason : goal.returns-then-stop-last-clause-reason
returns-then-stop-last-clause-reason c = λ parts h why.
    let far : c.args.at + most < c.in-BadLine.stop + c.args.before = omega (arith, c.if-stop-last.true, c.requires.before) in
    (many_bad fact_of ExplainsFact ManyFacts c.args.at c.args.before parts c.in-BadLine.stop c.requires.before far (rw c.in-BadLine.is at h)).1

pub returns-else-stop-last-clause-fails : goal.returns-else-stop-last-clause-fails
returns-else-stop-last-clause-fails c = λ parts h.
    let few : c.in-BadLine.stop + c.args.before ≤ c.args.at + most = omega (arith, c.if-stop-last.false, c.requires.before) in
    bad_behind fact_of c.args.at c.args.before parts c.in-BadLine.stop few (rw c.in-BadLine.is at h)

pub returns-else-stop-last-clause-reason : goal.returns-else-stop-last-clause-reason
returns-else-stop-last-clause-reason c = λ parts h why.
    why_behind ExplainsFact ManyFacts c.args.at c.args.before parts c.in-BadLine.stop c.in-BadLine.reason (rw c.in-BadLine.is at why)
