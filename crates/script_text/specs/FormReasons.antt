-- What is wrong with a line of a word and numbers.
use Rattle.std.specs.Prelude.{◌≡◌, ◌<◌, ◌+◌, ◌-◌, ℕ, List, [], ◌∷◌, length, slice_index, Some, None, bytes_eq, MatchBool}
use Rattle.redo_core.specs.Shape.{page_len}
use Rattle.text.specs.Fields.{Form, numbers_of}
use Rattle.script_text.specs.declared.reasons.LineReason.{LineReason}
use Rattle.script_text.specs.declared.reasons.LineReason.TheVariants.{UnknownWord, Zero, PastPage}
use Rattle.script_text.specs.FieldReasons.{IsFieldReason}

-- the fields are these numbers, of which the form makes nothing
abbrev pub MakesNothing : {A : Type 0} → Form A → List (List ℕ) → List ℕ → Type 0
MakesNothing f fields ns = (numbers_of f.limits fields ≡ Some ns) × (f.made ns ≡ None)

-- the fields behind a form's word are wrong: as numbers, by a last number that is 0, or by an offset and a length that end past the page
abbrev pub IsFormReason : {A : Type 0} → Form A → List (List ℕ) → LineReason → Type 0
IsFormReason f fields (Zero at) = (ns : List ℕ) × MakesNothing f fields ns × (at ≡ length ns + 1) × (slice_index ns (length ns - 1) ≡ 0)
IsFormReason f fields PastPage = (ns : List ℕ) × MakesNothing f fields ns × (page_len < slice_index ns 3 + slice_index ns 4)
IsFormReason f fields reason = IsFieldReason f.limits fields reason

-- the fields of a line are wrong: for the first form that has its word, or since none has it
abbrev pub IsReasonBy : {A : Type 0} → List (Form A) → List (List ℕ) → LineReason → Type 0
IsReasonBy forms [] reason = reason ≡ UnknownWord
IsReasonBy [] (word ∷ fields) reason = reason ≡ UnknownWord
IsReasonBy (f ∷ forms) (word ∷ fields) reason = MatchBool (bytes_eq word f.word) (IsFormReason f fields reason) (IsReasonBy forms (word ∷ fields) reason)
