-- The log of a drill: `size` records of epoch 0, an advance and a truncation in their middle, and `size` records of epoch 1.
use Rattle.std.specs.Prelude.{ℕ, ◌+◌, ◌-◌, ◌*◌, ◌/◌, ◌%◌, Bool, ◌&&◌, ◌==◌, nat_lt, nat_le, List, [], ◌∷◌, map, if◌then◌else◌}
use Rattle.std.specs.List.{range_with_len}
use Rattle.std.specs.Int.{to_be_bytes, w64}
use Rattle.redo_core.specs.Writes.{WriteData}
use Rattle.redo_core.specs.Data.{RecordData, CutData, AdvanceData, record_of, cut_of, advance_of}
use Rattle.redo_core.specs.declared.facts.Fact.{Fact}
use Rattle.redo_core.specs.declared.facts.Fact.TheVariants.{Record, Cut, Advance}

-- the two writes of the record of an LSN: its eight bytes at offset 0, and at an offset of its own
unfoldable pub drill_writes : ℕ → List WriteData
drill_writes number = record { offset = 0; bytes = to_be_bytes w64 number } ∷ record {
  offset = 8 + 8 * (number / 8 % 511);
  bytes = to_be_bytes w64 number;
} ∷ []

-- the record of an LSN of epoch 0
abbrev pub record_of_epoch_0 : ℕ → RecordData
record_of_epoch_0 number = record_of 0 number (number - 1) (number % 8) (if nat_lt 8 number then number - 8 else 0) (drill_writes number)

-- the point of the advance, which the truncation leaves alive
abbrev pub drill_lo : ℕ → ℕ
drill_lo size = size / 2

-- the LSN that those of epoch 1 are above
abbrev pub drill_hi : ℕ → ℕ
drill_hi size = size + 8

-- the one advance, of epoch 0
abbrev pub drill_advance : ℕ → AdvanceData
drill_advance size = advance_of 0 1 (drill_lo size)

-- the one truncation, with which epoch 1 begins
abbrev pub drill_cut : ℕ → CutData
drill_cut size = cut_of 1 (drill_lo size) (drill_hi size)

-- the greatest LSN up to h of a page, or 0
abbrev pub last_of_page : ℕ → ℕ → ℕ
last_of_page h page = if nat_lt h page then 0 else h - (h - page) % 8

-- the j-th record of epoch 1
abbrev pub record_of_epoch_1 : ℕ → ℕ → RecordData
record_of_epoch_1 size j =
    record_of 1 (drill_hi size + j) (if j == 1 then drill_lo size else drill_hi size + j - 1) ((j - 1) % 8)
    (if nat_lt 8 j then drill_hi size + j - 8 else last_of_page (drill_lo size) ((j - 1) % 8)) (drill_writes (drill_hi size + j))

-- the fact at an index
unfoldable pub drill_fact : ℕ → ℕ → Fact
drill_fact size place =
    if nat_le place size then Record (record_of_epoch_0 place)
    else if place == size + 1 then Advance (drill_advance size)
    else if place == size + 2 then Cut (drill_cut size)
    else Record (record_of_epoch_1 size (place - (size + 2)))

-- the sizes that a drill has
abbrev pub is_drill_size : ℕ → Bool
is_drill_size size = nat_le 2 size && nat_le size 1048576

-- the whole log, of the indices from 1 to 2 * size + 2, or the empty log
unfoldable pub drill_log : ℕ → List Fact
drill_log size = if is_drill_size size then map (drill_fact size) (range_with_len 1 (2 * size + 2)) else []
