-- Frames inside the bytes of another frame.
use Rattle.std.specs.Prelude.{◌≡◌, ℕ, ◌+◌, ◌*◌, ◌<◌, ◌≤◌, ◌^◌, List, map}
use Rattle.std.specs.List.{All, concat}
use Rattle.framing.specs.Frames.{framed, IsShort}

-- The bytes are whole frames, one after another.
pub record AreInside (bytes : List ℕ) (frames : List (List ℕ)) : Type 0 where
  pub encoded : bytes ≡ concat (map framed frames)
  pub short : All IsShort frames

-- ---- the size of answer frames together
-- The size of an answer of `len` bytes as a frame, with the bytes put before it and 21 bytes for each answer after it.
abbrev pub bytes_with : ℕ → ℕ → ℕ → ℕ
bytes_with put len others = put + (4 + len) + 21 * others

-- together these are within the limit, 64 MiB
abbrev pub FitsFrame : ℕ → ℕ → ℕ → Type 0
FitsFrame put len others = bytes_with put len others ≤ 2 ^ 26

-- together these are above the limit
abbrev pub Exceeds : ℕ → ℕ → ℕ → Type 0
Exceeds put len others = 2 ^ 26 < bytes_with put len others
