-- A reason is true only of a line that is not read, and so is the CR with which such a line ends.
use Rattle.std.proofs.Common.{◌≡◌, ◌-◌, ◌⊎◌, ℕ, List, [], ◌∷◌, length, Some, inl, inr}
use Rattle.std.specs.Prelude.{slice_get}
use Rattle.text.specs.Parts.{parts_at}
use Rattle.script_text.specs.StepLine.{step_forms, step_line}
use Rattle.script_text.specs.Script.{nodes_form, nodes_in_line}
use Rattle.script_text.specs.declared.reasons.LineReason.{LineReason}
use Rattle.script_text.specs.declared.reasons.LineReason.TheVariants.{CarriageReturn}
use Rattle.script_text.specs.FormReasons.{IsReasonBy}
use Rattle.script_text.specs.FactReasons.{IsFactReason}
use Rattle.script_text.specs.LineReasons.{ExplainsFact, ExplainsNodes, ExplainsStep}
use Rattle.script_text.specs.Laws.{FactReasonsAreOfBadLines, NodesReasonsAreOfBadLines, StepReasonsAreOfBadLines}
use Rattle.script_text.proofs.FormLines.{reason_by}
use Rattle.script_text.proofs.FactLines.{fact_reason}

-- the reason itself, or the CR in its place
abbrev pub IsReported : List ℕ → LineReason → LineReason → Type 0
IsReported line reason shown = (shown ≡ reason) ⊎ ((shown ≡ CarriageReturn) × (slice_get line (length line - 1) ≡ Some 13))

pub fact_reasons_are_of_bad_lines : FactReasonsAreOfBadLines
fact_reasons_are_of_bad_lines line reason h = elim h [ inl wrong ↦ fact_reason (parts_at 32 line) reason wrong | inr ended ↦ ended.2 ]

pub nodes_reasons_are_of_bad_lines : NodesReasonsAreOfBadLines
unfolding nodes_in_line
nodes_reasons_are_of_bad_lines line reason h = elim h [ inl wrong ↦ reason_by (nodes_form ∷ []) (parts_at 32 line) reason wrong | inr ended ↦ ended.2 ]

pub step_reasons_are_of_bad_lines : StepReasonsAreOfBadLines
unfolding step_line
step_reasons_are_of_bad_lines facts line reason h = elim h [ inl wrong ↦ reason_by (step_forms facts) (parts_at 32 line) reason wrong | inr ended ↦ ended.2 ]

pub fact_explained : (line : List ℕ) (reason shown : LineReason) → IsFactReason (parts_at 32 line) reason → IsReported line reason shown → ExplainsFact line shown
fact_explained line reason shown wrong is = elim is [
  | inl same ↦ inl (rw same wrong)
  | inr ended ↦ inr (ended.0, ended.1, fact_reasons_are_of_bad_lines line reason (inl wrong))
]

pub nodes_explained : (line : List ℕ) (reason shown : LineReason) → IsReasonBy (nodes_form ∷ []) (parts_at 32 line) reason → IsReported line reason shown
    → ExplainsNodes line shown
nodes_explained line reason shown wrong is = elim is [
  | inl same ↦ inl (rw same wrong)
  | inr ended ↦ inr (ended.0, ended.1, nodes_reasons_are_of_bad_lines line reason (inl wrong))
]

pub step_explained : (facts : ℕ) (line : List ℕ) (reason shown : LineReason) → IsReasonBy (step_forms facts) (parts_at 32 line) reason
    → IsReported line reason shown → ExplainsStep facts line shown
step_explained facts line reason shown wrong is = elim is [
  | inl same ↦ inl (rw same wrong)
  | inr ended ↦ inr (ended.0, ended.1, step_reasons_are_of_bad_lines facts line reason (inl wrong))
]
