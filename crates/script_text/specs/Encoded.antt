-- What lines and texts are, without their reader.
use Rattle.std.specs.Prelude.{◌≡◌, ℕ, ◌+◌, ◌-◌, ◌≤◌, ◌<◌, ◌⊎◌, List, [], ◌∷◌, ◌++◌, length, take, Bool, false, None, Ok, codes}
use Rattle.std.specs.List.{AllZip, join_with_byte}
use Rattle.std.specs.Fmt.{decimal}
use Rattle.hex.specs.Hex.{decode_of}
use Rattle.redo_core.specs.Data.{RecordData, CutData, AdvanceData}
use Rattle.redo_core.specs.Writes.{WriteData}
use Rattle.redo_core.specs.Roster.{IsRoster}
use Rattle.redo_core.specs.Shape.{record_fault, cut_fault, advance_fault}
use Rattle.redo_core.specs.declared.patches.Patch.{Patch}
use Rattle.redo_core.specs.declared.patches.Patch.TheVariants.{Bytes, Fill}
use Rattle.redo_core.specs.declared.facts.Fact.{Fact}
use Rattle.redo_core.specs.declared.facts.Fact.TheVariants.{Record, Cut, Advance}
use Rattle.script_steps.specs.declared.steps.Step.{Step}
use Rattle.script_steps.specs.declared.steps.Step.TheVariants.{Take, Fold, Discard, Front, Read, Join, Same, Covers, Wipe, Ask, Answer, Absorb}
use Rattle.text.specs.Parts.{parts_at}
use Rattle.text.specs.Wording.{spaced, worded, EncodesBy}
use Rattle.script_text.specs.FactText.{behind_init}
use Rattle.script_text.specs.StepLine.{take_form, fold_form, discard_form, front_form, read_form, join_form, same_form, covers_form, wipe_form, ask_form, answer_form, absorb_form}
use Rattle.script_text.specs.Script.{ScriptData, Rostered, most, most_nodes}

-- ---- lines

-- an offset, a colon, and at least one byte in hex digits of either case
pub record EncodesBytes (text : List ℕ) (w : WriteData) : Type 0 where
  pub digits : List ℕ
  pub all : text ≡ decimal w.offset ++ 58 ∷ digits
  pub offset : w.offset ≤ 65535
  pub bytes : decode_of digits ≡ Ok w.bytes
  pub some : 0 < length w.bytes

-- an offset, an asterisk, a length, a colon, and one byte in hex digits of either case
pub record EncodesFill (text : List ℕ) (offset len byte : ℕ) : Type 0 where
  pub digits : List ℕ
  pub all : text ≡ (decimal offset ++ 42 ∷ decimal len) ++ 58 ∷ digits
  pub in_offset : offset ≤ 65535
  pub in_len : len ≤ 4096
  pub bytes : decode_of digits ≡ Ok (byte ∷ [])

abbrev pub EncodesPatch : List ℕ → Patch → Type 0
EncodesPatch text (Bytes w) = EncodesBytes text w
EncodesPatch text (Fill offset len byte) = EncodesFill text offset len byte

-- a dash for no patches, or patches between commas, behind the word init where the page begins anew
abbrev pub EncodesContents : List ℕ → Bool → List Patch → Type 0
EncodesContents text init patches = ((text ≡ codes "-") × (init ≡ false) × (patches ≡ []))
    ⊎ ((texts : List (List ℕ)) × (text ≡ join_with_byte 44 (behind_init init texts)) × AllZip EncodesPatch texts patches × (0 < length (behind_init init texts)))

-- rec, five numbers and the contents
pub record EncodesRecord (line : List ℕ) (r : RecordData) : Type 0 where
  pub text : List ℕ
  pub all : line ≡ spaced (codes "rec" ∷ decimal r.epoch ∷ decimal r.number ∷ decimal r.back ∷ decimal r.page ∷ decimal r.block_back ∷ text ∷ [])
  pub said : EncodesContents text r.init r.patches
  pub epoch : r.epoch ≤ 65535
  pub page : r.page ≤ 65535
  pub shape : record_fault r ≡ None

-- cut and three numbers
pub record EncodesCut (line : List ℕ) (c : CutData) : Type 0 where
  pub all : line ≡ worded (codes "cut") (c.epoch ∷ c.lo ∷ c.hi ∷ [])
  pub epoch : c.epoch ≤ 65535
  pub shape : cut_fault c ≡ None

-- min, epoch and point, and the reader, which need not be named where it is 1
pub record EncodesAdvance (line : List ℕ) (a : AdvanceData) : Type 0 where
  pub all : (line ≡ worded (codes "min") (a.epoch ∷ a.point ∷ a.reader ∷ [])) ⊎ ((a.reader ≡ 1) × (line ≡ worded (codes "min") (a.epoch ∷ a.point ∷ [])))
  pub epoch : a.epoch ≤ 65535
  pub shape : advance_fault a ≡ None

-- the line encodes the fact
abbrev pub EncodesFact : List ℕ → Fact → Type 0
EncodesFact line (Record r) = EncodesRecord line r
EncodesFact line (Cut c) = EncodesCut line c
EncodesFact line (Advance a) = EncodesAdvance line a

-- the line encodes the step, behind that many facts
abbrev pub EncodesStep : ℕ → List ℕ → Step ℕ → Type 0
EncodesStep facts line (Take node place) = EncodesBy (take_form facts) line (node ∷ place ∷ []) × (0 < place)
EncodesStep facts line (Fold node page) = EncodesBy fold_form line (node ∷ page ∷ [])
EncodesStep facts line (Discard node) = EncodesBy discard_form line (node ∷ [])
EncodesStep facts line (Front node) = EncodesBy front_form line (node ∷ [])
EncodesStep facts line (Read node page point offset len) =
    EncodesBy read_form line (node ∷ page ∷ point ∷ offset ∷ len ∷ []) × (0 < len) × (offset + len ≤ 4096)
EncodesStep facts line (Join node from) = EncodesBy join_form line (node ∷ from ∷ [])
EncodesStep facts line (Same node other) = EncodesBy same_form line (node ∷ other ∷ [])
EncodesStep facts line (Covers node other) = EncodesBy covers_form line (node ∷ other ∷ [])
EncodesStep facts line (Wipe node) = EncodesBy wipe_form line (node ∷ [])
EncodesStep facts line (Ask node) = EncodesBy ask_form line (node ∷ [])
EncodesStep facts line (Answer node message) = EncodesBy answer_form line (node ∷ message ∷ [])
EncodesStep facts line (Absorb node message) = EncodesBy absorb_form line (node ∷ message ∷ [])

-- ---- lists of lines

-- a line that names the roster, or none for the roster 1
abbrev pub EncodesRoster : List (List ℕ) → ℕ → Type 0
EncodesRoster lines roster = ((lines ≡ []) × (roster ≡ 1)) ⊎ ((lines ≡ worded (codes "roster") (roster ∷ []) ∷ []) × IsRoster roster)

-- the line of the roster, and lines with Is
pub record IsRostered {A : Type 0} (Is : List (List ℕ) → A → Type 0) (lines : List (List ℕ)) (x : Rostered A) : Type 0 where
  pub first : List (List ℕ)
  pub others : List (List ℕ)
  pub all : lines ≡ first ++ others
  pub named : EncodesRoster first x.roster
  pub said : Is others x.said

-- fact lines alone
abbrev pub AreFacts : List (List ℕ) → List Fact → Type 0
AreFacts lines facts = AllZip EncodesFact lines facts × (length lines ≤ most)

-- fact lines, go, the line of the nodes, step lines
pub record AsksSteps (lines : List (List ℕ)) (script : ScriptData) : Type 0 where
  pub facts : List (List ℕ)
  pub steps : List (List ℕ)
  pub all : lines ≡ facts ++ (codes "go" ∷ worded (codes "nodes") (script.nodes ∷ []) ∷ steps)
  pub said : AllZip EncodesFact facts script.facts
  pub some_nodes : 1 ≤ script.nodes
  pub few_nodes : script.nodes ≤ most_nodes
  pub asked : AllZip (EncodesStep (length facts)) steps script.steps
  pub few_facts : length facts ≤ most
  pub few_steps : length steps ≤ most

-- a log: its roster, and fact lines
abbrev pub IsLog : List (List ℕ) → Rostered (List Fact) → Type 0
IsLog lines log = IsRostered AreFacts lines log

-- a script: the log's roster, and what it asks of the log's facts
abbrev pub IsScript : List (List ℕ) → Rostered ScriptData → Type 0
IsScript lines script = IsRostered AsksSteps lines script

-- ---- texts

-- the text is these lines, each ended by LF: cut at each LF it gives them, and nothing behind the last
abbrev pub HasLines : List ℕ → List (List ℕ) → Type 0
HasLines text lines = parts_at 10 text ≡ lines ++ ([] ∷ [])

-- the text is lines with Is
abbrev pub Encodes : {A : Type 0} → (List (List ℕ) → A → Type 0) → List ℕ → A → Type 0
Encodes Is text x = (lines : List (List ℕ)) × HasLines text lines × Is lines x

-- some lines with Is begin with these
abbrev pub Begins : {A : Type 0} → (List (List ℕ) → A → Type 0) → List (List ℕ) → Type 0
Begins {A} Is lines = (more : List (List ℕ)) × (x : A) × Is (lines ++ more) x

-- Line number at is the least bad one: the lines before it begin a good text, and with it they do not. Behind the last LF
-- the text ends, where more would have to follow, or it goes on with no LF.
pub record IsLeastBadLine {A : Type 0} (Is : List (List ℕ) → A → Type 0) (text : List ℕ) (at : ℕ) : Type 0 where
  pub from_one : 0 < at
  pub within : at ≤ length (parts_at 10 text)
  pub before : Begins Is (take (at - 1) (parts_at 10 text))
  pub bad : at < length (parts_at 10 text) → Begins Is (take at (parts_at 10 text)) → ⊥
  pub none : (x : A) → Encodes Is text x → ⊥
