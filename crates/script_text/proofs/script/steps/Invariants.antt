use Rattle.std.proofs.Common.{◌≡◌, ◌≤◌, ◌+◌, ℕ, length}
use Rattle.text.specs.Parts.{parts_at}
use Rattle.script_text.specs.StepLine.{step_of}
use Rattle.script_text.specs.Script.{lines_from, most}
use Rattle.script_text.specs.LineReasons.{ExplainsStep}
use Rattle.script_text.specs.TextReasons.{IsReasonFrom}
use Rattle.script_text.specs.declared.reasons.TextReason.{TextReason}
use Rattle.script_text.specs.declared.reasons.TextReason.TheVariants.{ManySteps}
use Rattle.script_text.proofs.Lines.{with_said}
use Rattle.script_text.proofs.script.steps.Given as goal

-- what was said so far, and what the lines say that are left, and why one of them is bad
abbrev pub invariant-loop-line : goal.invariant-loop-line
invariant-loop-line l = record {
  so_far : with_said l.steps.items (lines_from (step_of l.facts) (length l.steps.items) (l.at + length l.steps.items) (parts_at 10 l.rest)) ≡ lines_from
      (step_of l.facts) 0 l.at (parts_at 10 l.text);
  few : length l.steps.items ≤ most;
  reason : (stop : ℕ) (reason : TextReason)
      → IsReasonFrom (ExplainsStep l.facts) ManySteps (length l.steps.items) (l.at + length l.steps.items) (parts_at 10 l.rest) stop reason
      → IsReasonFrom (ExplainsStep l.facts) ManySteps 0 l.at (parts_at 10 l.text) stop reason;
}

abbrev pub decreases-loop-line : goal.decreases-loop-line
decreases-loop-line l = length l.rest
