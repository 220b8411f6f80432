use Rattle.std.proofs.Common.{◌≡◌, ◌≤◌, ◌+◌, ℕ, length}
use Rattle.text.specs.Parts.{parts_at}
use Rattle.script_text.specs.FactLine.{fact_of}
use Rattle.script_text.specs.Script.{lines_from, most}
use Rattle.script_text.specs.LineReasons.{ExplainsFact}
use Rattle.script_text.specs.TextReasons.{IsReasonFrom}
use Rattle.script_text.specs.declared.reasons.TextReason.{TextReason}
use Rattle.script_text.specs.declared.reasons.TextReason.TheVariants.{ManyFacts}
use Rattle.script_text.proofs.Lines.{with_said}
use Rattle.script_text.proofs.script.facts.Given as goal

-- what was said so far, and what the lines say that are left, and why one of them is bad
abbrev pub invariant-loop-line : goal.invariant-loop-line
invariant-loop-line l = record {
  so_far : with_said l.facts.items (lines_from fact_of (length l.facts.items) (l.at + length l.facts.items) (parts_at 10 l.rest)) ≡ lines_from
      fact_of 0 l.at (parts_at 10 l.text);
  few : length l.facts.items ≤ most;
  reason : (stop : ℕ) (reason : TextReason)
      → IsReasonFrom ExplainsFact ManyFacts (length l.facts.items) (l.at + length l.facts.items) (parts_at 10 l.rest) stop reason
      → IsReasonFrom ExplainsFact ManyFacts 0 l.at (parts_at 10 l.text) stop reason;
}

abbrev pub decreases-loop-line : goal.decreases-loop-line
decreases-loop-line l = length l.rest
