use Rattle.std.proofs.Common.{◌≡◌, ◌≤◌, ◌+◌, ℕ, length}
use Rattle.text.specs.Parts.{parts_at}
use Rattle.script_text.specs.Script.{script_from, most, within, with_facts}
use Rattle.script_text.specs.TextReasons.{IsScriptReason}
use Rattle.script_text.specs.declared.reasons.TextReason.{TextReason}
use Rattle.script_text.proofs.script.script_lines.Given as goal

-- the facts so far, and what the lines say that are left, and why one of them is bad
abbrev pub invariant-loop-line : goal.invariant-loop-line
invariant-loop-line l = record {
  so_far : within (with_facts l.facts.items) (script_from (length l.facts.items) (l.at + length l.facts.items) (parts_at 10 l.rest)) ≡ script_from
      0 l.at (parts_at 10 l.text);
  few : length l.facts.items ≤ most;
  reason : (stop : ℕ) (reason : TextReason) → IsScriptReason (length l.facts.items) (l.at + length l.facts.items) (parts_at 10 l.rest) stop reason
      → IsScriptReason 0 l.at (parts_at 10 l.text) stop reason;
}

abbrev pub decreases-loop-line : goal.decreases-loop-line
decreases-loop-line l = length l.rest
