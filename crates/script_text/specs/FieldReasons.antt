-- What is wrong with the fields behind a word that requires numbers up to some limits.
use Rattle.std.specs.Prelude.{◌≡◌, ◌≢◌, ◌<◌, ◌+◌, ℕ, List, [], length, slice_index, slice_index_or, None}
use Rattle.text.specs.Number.{decimal_value}
use Rattle.script_text.specs.declared.reasons.NumberFault.{NumberFault}
use Rattle.script_text.specs.declared.reasons.LineReason.{LineReason}
use Rattle.script_text.specs.declared.reasons.LineReason.TheVariants.{FieldCount, Field}
use Rattle.script_text.specs.NumberFaults.{IsNumberFault}

-- the field of that number has this fault as a number up to its limit, where the word is field 1
pub record IsFaultAt (limits : List ℕ) (fields : List (List ℕ)) (at : ℕ) (fault : NumberFault) : Type 0 where
  pub before : ℕ
  pub number : at ≡ before + 2
  pub limited : before < length limits
  pub within : before < length fields
  pub faulty : IsNumberFault (slice_index limits before) (slice_index_or fields before []) fault

-- one of the fields is no number up to its limit
pub record HasWrongField (limits : List ℕ) (fields : List (List ℕ)) : Type 0 where
  pub before : ℕ
  pub limited : before < length limits
  pub within : before < length fields
  pub none : decimal_value (slice_index limits before) (slice_index_or fields before []) ≡ None

-- the reason is the fault of a field
abbrev pub IsWrongField : List ℕ → List (List ℕ) → LineReason → Type 0
IsWrongField limits fields (Field at fault) = IsFaultAt limits fields at fault
IsWrongField limits fields _ = ⊥

-- there is another number of fields than of limits, or a field is no number
abbrev pub IsFieldReason : List ℕ → List (List ℕ) → LineReason → Type 0
IsFieldReason limits fields (FieldCount wanted) = (wanted ≡ length limits) × (length fields ≢ length limits)
IsFieldReason limits fields (Field at fault) = IsFaultAt limits fields at fault
IsFieldReason limits fields _ = ⊥
