-- What is read and written while frames are answered.
use Rattle.std.specs.Prelude.{◌≡◌, ℕ, List, [], ◌∷◌, ◌++◌, Option, Result, Ok, Err, true, take, map}
use Rattle.std.specs.List.{All, concat}
use Rattle.std.specs.Io.KnownBytes.{Appends, Consumes, IsAtEnd}
use Rattle.framing.specs.Watching.{device_of, has_failed}
use Rattle.framing.specs.declared.devices.fault.RunFault.{RunFault}
use Rattle.framing.specs.declared.devices.fault.RunFault.TheVariants.{Input, Output, Memory}
use Rattle.framing.specs.declared.devices.watched.Watched.{Watched}
use Rattle.framing.specs.Frames.{AnswersFrames, AreFrames, IsShort, framed}

-- The frames are answered, and the answers are written as frames.
pub record AreAnswered {W M : Type 0} (answers : M → List ℕ → List ℕ → M → Type 0) (contents : W → Option (List ℕ)) (limit : ℕ)
    (frames : List (List ℕ)) (old new : M) (writer writer' : Watched W) : Type 0 where
  pub texts : List (List ℕ)
  pub answered : AnswersFrames answers limit old frames texts new
  pub short : All IsShort texts
  pub written : Appends (contents (device_of writer)) (contents (device_of writer')) (concat (map framed texts))

-- The frames are answered, and the answers are written but for the last, of which a beginning is, if not all of it: the writer failed.
pub record AreCutOff {W M : Type 0} (answers : M → List ℕ → List ℕ → M → Type 0) (contents : W → Option (List ℕ)) (limit : ℕ)
    (frames : List (List ℕ)) (old new : M) (writer writer' : Watched W) : Type 0 where
  pub texts : List (List ℕ)
  pub text : List ℕ
  pub count : ℕ
  pub answered : AnswersFrames answers limit old frames (texts ++ text ∷ []) new
  pub short : All IsShort (texts ++ text ∷ [])
  pub written : Appends (contents (device_of writer)) (contents (device_of writer')) (concat (map framed texts) ++ take count (framed text))
  pub failed : has_failed writer' ≡ true

-- How the call ends. Where the writer failed, nothing after the frame of that answer has been read.
abbrev pub EndsFrames : {R W M : Type 0} → (M → List ℕ → List ℕ → M → Type 0) → ℕ → (R → Option (List ℕ)) → (W → Option (List ℕ))
    → List (List ℕ) → List ℕ → M → M → Watched R → Watched W → Watched W → Result (Unit {0}) RunFault → Type 0
EndsFrames answers limit remaining contents frames rest old new reader' writer writer' (Ok u) =
    IsAtEnd (remaining (device_of reader')) × AreAnswered answers contents limit frames old new writer writer'
EndsFrames answers limit remaining contents frames rest old new reader' writer writer' (Err Input) =
    (has_failed reader' ≡ true) × AreAnswered answers contents limit frames old new writer writer'
EndsFrames answers limit remaining contents frames rest old new reader' writer writer' (Err Memory) =
    AreAnswered answers contents limit frames old new writer writer'
EndsFrames answers limit remaining contents frames rest old new reader' writer writer' (Err Output) =
    (rest ≡ []) × AreCutOff answers contents limit frames old new writer writer'

-- A call that answers the frames of a reader on a writer. `remaining` and `contents` are the bytes of the devices, where these are known.
pub record ServesFrames {R W M : Type 0} (answers : M → List ℕ → List ℕ → M → Type 0) (limit : ℕ)
    (remaining : R → Option (List ℕ)) (contents : W → Option (List ℕ))
    (old new : M) (reader reader' : Watched R) (writer writer' : Watched W) (result : Result (Unit {0}) RunFault) : Type 0 where
  -- what was read: whole frames, and the beginning of one
  pub input : List ℕ
  pub frames : List (List ℕ)
  pub rest : List ℕ
  pub holds : AreFrames input frames rest
  pub read : Consumes (remaining (device_of reader)) (remaining (device_of reader')) input
  pub ends : EndsFrames answers limit remaining contents frames rest old new reader' writer writer' result
