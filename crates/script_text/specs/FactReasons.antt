-- What is wrong with a fact line.
use Rattle.std.specs.Prelude.{◌≡◌, ◌≢◌, ◌⊎◌, ℕ, Bool, List, [], ◌∷◌, length, take, slice_index_or, Option, Some, bytes_eq, codes, MatchBool}
use Rattle.redo_core.specs.Data.{record_with, cut_of, advance_of}
use Rattle.redo_core.specs.Shape.{max_number, max_readers, record_fault, cut_fault, advance_fault}
use Rattle.redo_core.specs.declared.shapes.ShapeFault.{ShapeFault}
use Rattle.redo_core.specs.declared.patches.Patch.{Patch}
use Rattle.text.specs.Fields.{numbers_of}
use Rattle.redo_core.specs.declared.records.RecordHead.{RecordHead}
use Rattle.script_text.specs.FactLine.{each_patch, Contents, contents, contents_of, head_numbers, record_limits}
use Rattle.script_text.specs.declared.reasons.LineReason.{LineReason}
use Rattle.script_text.specs.declared.reasons.LineReason.TheVariants.{UnknownWord, FieldCount, AdvanceFieldCount, Field, Shape}
use Rattle.script_text.specs.FieldReasons.{IsFieldReason, IsFaultAt}
use Rattle.script_text.specs.ContentsReasons.{IsListReason, IsContentsReason}

-- the reason is that fault of shape
abbrev pub IsShape : Option ShapeFault → LineReason → Type 0
IsShape found (Shape fault) = found ≡ Some fault
IsShape found _ = ⊥

-- ---- records

-- the fault of a record of these numbers and contents
abbrev pub fault_with : RecordHead → Contents → Option ShapeFault
fault_with h c = record_fault (record_with h.epoch h.number h.back h.page h.block_back c.init c.patches)

-- a record's list of patches is wrong, or the shape of the record
abbrev pub IsPatchesReason : RecordHead → Bool → List (List ℕ) → LineReason → Type 0
IsPatchesReason head init words (Shape fault) = (ps : List Patch) × (each_patch words ≡ Some ps) × (fault_with head (contents init ps) ≡ Some fault)
IsPatchesReason head init words reason = IsListReason words reason

-- the text behind a record's numbers is wrong, or the shape of the record
abbrev pub IsBodyReason : RecordHead → List ℕ → LineReason → Type 0
IsBodyReason head text (Shape fault) = (c : Contents) × (contents_of text ≡ Some c) × (fault_with head c ≡ Some fault)
IsBodyReason head text reason = IsContentsReason text reason

-- six fields are a record's numbers and contents, and its shape has that fault
pub record IsFaultyRecord (fields : List (List ℕ)) (fault : ShapeFault) : Type 0 where
  pub head : RecordHead
  pub contents : Contents
  pub many : length fields ≡ 6
  pub numbers : numbers_of record_limits (take 5 fields) ≡ Some (head_numbers head)
  pub encoded : contents_of (slice_index_or fields 5 []) ≡ Some contents
  pub faulty : fault_with head contents ≡ Some fault

-- the fields behind rec are not six, or a number, the contents or the shape is wrong; without a sixth there are no contents
abbrev pub IsRecordReason : List (List ℕ) → LineReason → Type 0
IsRecordReason fields (FieldCount wanted) = (wanted ≡ 6) × (length fields ≢ 6)
IsRecordReason fields (Field at fault) = IsFaultAt record_limits fields at fault
IsRecordReason fields (Shape fault) = IsFaultyRecord fields fault
IsRecordReason fields reason = (length fields ≡ 6) × IsContentsReason (slice_index_or fields 5 []) reason

-- ---- truncations and advances

abbrev pub cut_limits : List ℕ
cut_limits = 65535 ∷ max_number ∷ max_number ∷ []

-- three fields are a truncation whose shape has that fault
pub record IsFaultyCut (fields : List (List ℕ)) (fault : ShapeFault) : Type 0 where
  pub epoch : ℕ
  pub lo : ℕ
  pub hi : ℕ
  pub numbers : numbers_of cut_limits fields ≡ Some (epoch ∷ lo ∷ hi ∷ [])
  pub faulty : cut_fault (cut_of epoch lo hi) ≡ Some fault

-- the fields behind cut are wrong as numbers, or the shape is
abbrev pub IsCutReason : List (List ℕ) → LineReason → Type 0
IsCutReason fields (Shape fault) = IsFaultyCut fields fault
IsCutReason fields reason = IsFieldReason cut_limits fields reason

abbrev pub point_limits : List ℕ
point_limits = 65535 ∷ max_number ∷ []

abbrev pub advance_limits : List ℕ
advance_limits = 65535 ∷ max_number ∷ max_readers ∷ []

-- the fields are an advance, of reader 1 where none is named, whose shape has that fault
pub record IsFaultyAdvance (fields : List (List ℕ)) (fault : ShapeFault) : Type 0 where
  pub epoch : ℕ
  pub point : ℕ
  pub reader : ℕ
  pub numbers : ((numbers_of point_limits fields ≡ Some (epoch ∷ point ∷ [])) × (reader ≡ 1)) ⊎ (numbers_of advance_limits fields ≡ Some (epoch ∷ point ∷ reader ∷ []))
  pub faulty : advance_fault (advance_of epoch reader point) ≡ Some fault

-- the fields behind min are neither two nor three, or one is wrong as a number, or the shape is wrong
abbrev pub IsAdvanceReason : List (List ℕ) → LineReason → Type 0
IsAdvanceReason fields AdvanceFieldCount = (length fields ≢ 2) × (length fields ≢ 3)
IsAdvanceReason fields (Field at fault) = IsFaultAt advance_limits fields at fault
IsAdvanceReason fields (Shape fault) = IsFaultyAdvance fields fault
IsAdvanceReason fields _ = ⊥

-- ---- by the word

-- the fields of a fact line are wrong: those behind its word, or the word
abbrev pub IsFactReason : List (List ℕ) → LineReason → Type 0
IsFactReason [] reason = reason ≡ UnknownWord
IsFactReason (word ∷ fields) reason = MatchBool (bytes_eq word (codes "rec")) (IsRecordReason fields reason)
    (MatchBool (bytes_eq word (codes "cut")) (IsCutReason fields reason)
    (MatchBool (bytes_eq word (codes "min")) (IsAdvanceReason fields reason) (reason ≡ UnknownWord)))
