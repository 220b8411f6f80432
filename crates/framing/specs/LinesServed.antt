-- What is read and written while lines are answered.
use Rattle.std.specs.Prelude.{◌≡◌, ℕ, ◌<◌, List, [], ◌∷◌, ◌++◌, length, Option, Result, Ok, Err, true, take}
use Rattle.std.specs.List.{concat}
use Rattle.std.specs.Io.KnownBytes.{Appends, Consumes, IsAtEnd}
use Rattle.text.specs.Parts.{parts_at}
use Rattle.framing.specs.Watching.{device_of, has_failed}
use Rattle.framing.specs.LineKeeping.{HoldsLine, line_limit}
use Rattle.framing.specs.Lines.{AnswersFirst, glued}
use Rattle.framing.specs.declared.devices.fault.RunFault.{RunFault}
use Rattle.framing.specs.declared.devices.fault.RunFault.TheVariants.{Input, Output, Memory}
use Rattle.framing.specs.declared.lines.pending.Pending.{Pending}
use Rattle.framing.specs.declared.devices.watched.Watched.{Watched}

-- ---- a piece of the input
-- All lines that end in the bytes are answered, the first with a beginning that arrived earlier; `rest` is what arrived of the last line.
pub record EndsWith {W M : Type 0} (answers : M → List ℕ → List ℕ → M → Type 0)
    (contents : W → Option (List ℕ)) (limit : ℕ) (begun bytes : List ℕ)
    (old new : M) (writer writer' : Watched W) (rest : List ℕ) : Type 0 where
  pub texts : List (List ℕ)
  pub lines : AnswersFirst answers limit old (glued begun (parts_at 10 bytes)) texts new (rest ∷ [])
  pub written : Appends (contents (device_of writer)) (contents (device_of writer')) (concat texts)

-- for every beginning of the first line
abbrev pub EndsLines : {W M : Type 0} → (M → List ℕ → List ℕ → M → Type 0) → (W → Option (List ℕ)) → Pending → Pending → List ℕ → M
    → M → Watched W → Watched W → Type 0
EndsLines answers contents pending pending' bytes old new writer writer' =
    (begun : List ℕ) → HoldsLine pending begun
    → (rest : List ℕ) × HoldsLine pending' rest × EndsWith answers contents (line_limit pending) begun bytes old new writer writer' rest

-- Lines are answered up to one whose answer was not written, or not the whole of it, or not flushed: those before it are written whole.
-- What follows it is left, with the part after the last LF.
pub record IsCutOff {W M : Type 0} (answers : M → List ℕ → List ℕ → M → Type 0)
    (contents : W → Option (List ℕ)) (limit : ℕ) (lines : List (List ℕ))
    (old new : M) (writer writer' : Watched W) : Type 0 where
  pub texts : List (List ℕ)
  pub text : List ℕ
  pub left : List (List ℕ)
  pub count : ℕ
  pub answered : AnswersFirst answers limit old lines (texts ++ text ∷ []) new left
  pub some : 0 < length left
  pub written : Appends (contents (device_of writer)) (contents (device_of writer')) (concat texts ++ take count text)
  pub failed : has_failed writer' ≡ true

abbrev pub BreaksOff : {W M : Type 0} → (M → List ℕ → List ℕ → M → Type 0) → (W → Option (List ℕ)) → Pending → List ℕ → M → M
    → Watched W → Watched W → Type 0
BreaksOff answers contents pending bytes old new writer writer' =
    (begun : List ℕ) → HoldsLine pending begun
    → IsCutOff answers contents (line_limit pending) (glued begun (parts_at 10 bytes)) old new writer writer'

-- ---- the whole
-- each line that ended in what was read is answered, and the answers are written
abbrev pub IsAnswered : {W M : Type 0} → (M → List ℕ → List ℕ → M → Type 0) → (W → Option (List ℕ)) → ℕ → List ℕ → M → M → Watched W
    → Watched W → Type 0
IsAnswered answers contents limit input old new writer writer' =
    (rest : List ℕ) × EndsWith answers contents limit [] input old new writer writer' rest

-- how the call ends
abbrev pub Ends : {R W M : Type 0} → (M → List ℕ → List ℕ → M → Type 0) → ℕ → (R → Option (List ℕ)) → (W → Option (List ℕ)) → List ℕ → M → M
    → Watched R → Watched W → Watched W → Result (Unit {0}) RunFault → Type 0
Ends answers limit remaining contents input old new reader' writer writer' (Ok u) =
    IsAtEnd (remaining (device_of reader')) × IsAnswered answers contents limit input old new writer writer'
Ends answers limit remaining contents input old new reader' writer writer' (Err Input) =
    (has_failed reader' ≡ true) × IsAnswered answers contents limit input old new writer writer'
Ends answers limit remaining contents input old new reader' writer writer' (Err Memory) =
    IsAnswered answers contents limit input old new writer writer'
Ends answers limit remaining contents input old new reader' writer writer' (Err Output) =
    IsCutOff answers contents limit (parts_at 10 input) old new writer writer'

-- A call that answers the lines of a reader on a writer. `remaining` and `contents` are the bytes of the devices, where these are known.
pub record Serves {R W M : Type 0} (answers : M → List ℕ → List ℕ → M → Type 0) (limit : ℕ)
    (remaining : R → Option (List ℕ)) (contents : W → Option (List ℕ))
    (old new : M) (reader reader' : Watched R) (writer writer' : Watched W) (result : Result (Unit {0}) RunFault) : Type 0 where
  -- what was read
  pub input : List ℕ
  pub read : Consumes (remaining (device_of reader)) (remaining (device_of reader')) input
  pub ends : Ends answers limit remaining contents input old new reader' writer writer' result
