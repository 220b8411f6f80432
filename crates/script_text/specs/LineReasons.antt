-- Why a line is not read where it is.
use Rattle.std.specs.Prelude.{◌≡◌, ◌⊎◌, ◌-◌, ℕ, List, [], ◌∷◌, length, slice_get, Option, Some, None}
use Rattle.text.specs.Parts.{parts_at}
use Rattle.script_text.specs.FactLine.{fact_of}
use Rattle.script_text.specs.StepLine.{step_of, step_forms}
use Rattle.script_text.specs.Script.{nodes_form, nodes_in_line}
use Rattle.script_text.specs.declared.reasons.FactError.{FactError}
use Rattle.script_text.specs.declared.reasons.FactError.TheVariants.{Memory, Bad}
use Rattle.script_text.specs.declared.reasons.LineReason.{LineReason}
use Rattle.script_text.specs.declared.reasons.LineReason.TheVariants.{CarriageReturn}
use Rattle.script_text.specs.FormReasons.{IsReasonBy}
use Rattle.script_text.specs.FactReasons.{IsFactReason}

-- the reason of an error has Why, unless memory ran out
abbrev pub IfBad : (LineReason → Type 0) → FactError → Type 0
IfBad Why Memory = Unit {0}
IfBad Why (Bad reason) = Why reason

-- the reason is the CR with which the line ends, of which nothing is read
abbrev pub IsReturn : {A : Type 0} → Option A → List ℕ → LineReason → Type 0
IsReturn read line reason = (reason ≡ CarriageReturn) × (slice_get line (length line - 1) ≡ Some 13) × (read ≡ None)

-- the line's word or its fields are wrong as those of a fact, or it ends with CR
abbrev pub ExplainsFact : List ℕ → LineReason → Type 0
ExplainsFact line reason = IsFactReason (parts_at 32 line) reason ⊎ IsReturn (fact_of line) line reason

-- the same of the line of the nodes
abbrev pub ExplainsNodes : List ℕ → LineReason → Type 0
ExplainsNodes line reason = IsReasonBy (nodes_form ∷ []) (parts_at 32 line) reason ⊎ IsReturn (nodes_in_line line) line reason

-- and of a step, behind that many facts
abbrev pub ExplainsStep : ℕ → List ℕ → LineReason → Type 0
ExplainsStep facts line reason = IsReasonBy (step_forms facts) (parts_at 32 line) reason ⊎ IsReturn (step_of facts line) line reason
