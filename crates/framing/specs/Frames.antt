-- Frames and their answers.
use Rattle.std.specs.Prelude.{◌≡◌, ℕ, ◌+◌, ◌<◌, ◌^◌, ◌⊎◌, List, ◌++◌, codes, length, take, map}
use Rattle.std.specs.Int.{w32, to_be_bytes, from_be_bytes}
use Rattle.std.specs.List.{All, concat}
use Rattle.framing.specs.Lines.{AnswersOne, AnswersEach}

-- ---- bytes
-- a length in four bytes, the highest first
unfoldable pub header : ℕ → List ℕ
header n = to_be_bytes w32 n

-- the length that some bytes begin with
unfoldable pub stated : List ℕ → ℕ
stated bytes = from_be_bytes w32 (take 4 bytes)

abbrev pub IsShort : List ℕ → Type 0
IsShort bytes = length bytes < 2 ^ 32

-- the bytes of a frame after their length
abbrev pub framed : List ℕ → List ℕ
framed bytes = header (length bytes) ++ bytes

-- no whole frame: a part of a length, or fewer bytes after it than it states
abbrev pub IsBegun : List ℕ → Type 0
IsBegun bytes = (length bytes < 4) ⊎ (length bytes < 4 + stated bytes)

-- The whole frames of some bytes, and the bytes after the last of them.
pub record AreFrames (input : List ℕ) (frames : List (List ℕ)) (rest : List ℕ) : Type 0 where
  pub encoded : input ≡ concat (map framed frames) ++ rest
  pub short : All IsShort frames
  pub begun : IsBegun rest

-- ---- answers
-- the bytes answer the frame; one that is longer than the limit, or for which there is no room, does not reach the machine
abbrev pub AnswersFrame : {M : Type 0} → (M → List ℕ → List ℕ → M → Type 0) → ℕ → M → List ℕ → List ℕ → M → Type 0
AnswersFrame answers limit old frame text new = AnswersOne (codes "memory") (codes "long frame") answers limit old frame text new

-- the answers are to the frames, one after another, from a first state to another one
abbrev pub AnswersFrames : {M : Type 0} → (M → List ℕ → List ℕ → M → Type 0) → ℕ → M → List (List ℕ) → List (List ℕ) → M → Type 0
AnswersFrames answers limit old frames texts new = AnswersEach (AnswersFrame answers limit) old frames texts new
