-- Answer frames that are gathered in room which was reserved before they were known.
use Rattle.std.specs.Prelude.{◌≡◌, ℕ, ◌+◌, ◌*◌, ◌<◌, ◌≤◌, ◌^◌, ◌⊎◌, List, ◌++◌, codes, length, vec_capacity}
use Rattle.framing.specs.Frames.{framed}
use Rattle.framing.specs.Inside.{bytes_with, FitsFrame, Exceeds}
use Rattle.node_stream.specs.declared.gathered.Gathered.{Gathered}

-- the answers so far
abbrev pub gathered_bytes : Gathered → List ℕ
gathered_bytes answers = answers.bytes.items

-- how many bytes there is room for
abbrev pub gathered_room : Gathered → ℕ
gathered_room answers = vec_capacity answers.bytes

-- There is room for `count` more answers of 17 bytes with their lengths, and with these all answers are within the limit.
pub record HasPlaceFor (answers : Gathered) (count : ℕ) : Type 0 where
  pub free : length (gathered_bytes answers) + 21 * count ≤ gathered_room answers
  pub within : length (gathered_bytes answers) + 21 * count ≤ 2 ^ 26

-- The answer is appended where it fits, with `others` after it that are not known yet; where it exceeds the limit, `long` is put in its place. One
-- that fits may be replaced by `memory` where it has more than 17 bytes, and there was not room enough.
abbrev pub Gathers : Gathered → List ℕ → ℕ → Gathered → Type 0
Gathers old text others new =
    (FitsFrame (length (gathered_bytes old)) (length text) others × (gathered_bytes new ≡ gathered_bytes old ++ framed text))
    ⊎ ((FitsFrame (length (gathered_bytes old)) (length text) others
    × (gathered_room old < bytes_with (length (gathered_bytes old)) (length text) others)
    × (gathered_bytes new ≡ gathered_bytes old ++ framed (codes "memory")))
    ⊎ (Exceeds (length (gathered_bytes old)) (length text) others × (gathered_bytes new ≡ gathered_bytes old ++ framed (codes "long"))))
