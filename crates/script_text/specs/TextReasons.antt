-- Why a line of a whole text is bad: the texts are read as in Script, and the reason is of the line at which the reader stops.
use Rattle.std.specs.Prelude.{◌≡◌, ◌≢◌, ◌≤◌, ◌+◌, ◌==◌, ◌⊎◌, ℕ, List, [], ◌∷◌, length, drop, bytes_eq, codes, MatchBool}
use Rattle.text.specs.Parts.{parts_at}
use Rattle.script_text.specs.Script.{most, opening_of}
use Rattle.script_text.specs.declared.reasons.LineReason.{LineReason}
use Rattle.script_text.specs.declared.reasons.TextReason.{TextReason}
use Rattle.script_text.specs.declared.reasons.TextReason.TheVariants.{NoGo, NoNodes, NoLineEnd, ManyFacts, ManySteps, Line}
use Rattle.script_text.specs.declared.script.ScriptError.{ScriptError}
use Rattle.script_text.specs.declared.script.ScriptError.TheVariants.{Memory, BadLine}
use Rattle.script_text.specs.LineReasons.{ExplainsFact, ExplainsNodes, ExplainsStep}

-- a line is wrong by itself
abbrev pub IsLineReason : (LineReason → Type 0) → TextReason → Type 0
IsLineReason Why (Line reason) = Why reason
IsLineReason Why _ = ⊥

-- a line is wrong by itself, or one more than may come of its kind
abbrev pub IsWrongLine : (LineReason → Type 0) → TextReason → ℕ → TextReason → Type 0
IsWrongLine Why many count reason = IsLineReason Why reason ⊎ ((reason ≡ many) × (most ≤ count))

-- the line of this number, by itself, as a fact, as that of the nodes, or as a step
abbrev pub IsBadFact : ℕ → List ℕ → ℕ → TextReason → Type 0
IsBadFact at line stop reason = (stop ≡ at) × IsLineReason (ExplainsFact line) reason

abbrev pub IsBadNodes : ℕ → List ℕ → ℕ → TextReason → Type 0
IsBadNodes at line stop reason = (stop ≡ at) × IsLineReason (ExplainsNodes line) reason

abbrev pub IsBadStep : ℕ → ℕ → List ℕ → ℕ → TextReason → Type 0
IsBadStep facts at line stop reason = (stop ≡ at) × IsLineReason (ExplainsStep facts line) reason

-- what stands behind the last LF is a line with no end, or nothing, where something is missing
abbrev pub IsEndReason : TextReason → List ℕ → TextReason → Type 0
IsEndReason missing rest reason = ((rest ≢ []) × (reason ≡ NoLineEnd)) ⊎ ((rest ≡ []) × (reason ≡ missing))

-- The reason is true of the line with the number stop, of lines that are read one by one. So many came before, and the first has
-- the number at.
abbrev pub IsReasonFrom : (List ℕ → LineReason → Type 0) → TextReason → ℕ → ℕ → List (List ℕ) → ℕ → TextReason → Type 0
IsReasonFrom Why many count at [] stop reason = ⊥
IsReasonFrom Why many count at (line ∷ rest) stop reason = MatchBool (length rest == 0)
    ((stop ≡ at) × (line ≢ []) × (reason ≡ NoLineEnd))
    (((stop ≡ at) × IsWrongLine (Why line) many count reason) ⊎ IsReasonFrom Why many (count + 1) (at + 1) rest stop reason)

-- the same of the line of the nodes, and the steps
abbrev pub IsNodesReason : ℕ → ℕ → List (List ℕ) → ℕ → TextReason → Type 0
IsNodesReason facts at [] stop reason = ⊥
IsNodesReason facts at (line ∷ rest) stop reason = MatchBool (length rest == 0)
    ((stop ≡ at) × IsEndReason NoNodes line reason)
    (((stop ≡ at) × IsLineReason (ExplainsNodes line) reason) ⊎ IsReasonFrom (ExplainsStep facts) ManySteps 0 (at + 1) rest stop reason)

-- and of facts up to go, and what follows
abbrev pub IsScriptReason : ℕ → ℕ → List (List ℕ) → ℕ → TextReason → Type 0
IsScriptReason count at [] stop reason = ⊥
IsScriptReason count at (line ∷ rest) stop reason = MatchBool (length rest == 0)
    ((stop ≡ at) × IsEndReason NoGo line reason)
    (MatchBool (bytes_eq line (codes "go")) (IsNodesReason count (at + 1) rest stop reason)
    (((stop ≡ at) × IsWrongLine (ExplainsFact line) ManyFacts count reason) ⊎ IsScriptReason (count + 1) (at + 1) rest stop reason))

-- the reason is true of that line of a text, by what it says of the lines below the opening
abbrev pub IsReasonBelow : (ℕ → List (List ℕ) → ℕ → TextReason → Type 0) → List (List ℕ) → ℕ → TextReason → Type 0
IsReasonBelow Why lines stop reason = Why ((opening_of lines).lines + 1) (drop (opening_of lines).lines lines) stop reason

-- the reason is true of that line of a script
abbrev pub ExplainsScript : List ℕ → ℕ → TextReason → Type 0
ExplainsScript text stop reason = IsReasonBelow (IsScriptReason 0) (parts_at 10 text) stop reason

-- and of fact lines alone
abbrev pub ExplainsLog : List ℕ → ℕ → TextReason → Type 0
ExplainsLog text stop reason = IsReasonBelow (IsReasonFrom ExplainsFact ManyFacts 0) (parts_at 10 text) stop reason

-- the reason of an error is true of its line, unless memory ran out
abbrev pub IsExplained : (ℕ → TextReason → Type 0) → ScriptError → Type 0
IsExplained Why Memory = Unit {0}
IsExplained Why (BadLine at reason) = Why at reason
