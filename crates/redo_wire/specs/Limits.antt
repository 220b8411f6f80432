-- How long the lists of the formats may be, by the bits of their count fields.
use Rattle.std.specs.Prelude.{ℕ}

-- elements of a list whose count has 16 bits, and of one whose count has 32, are fewer than these
abbrev pub count16_end : ℕ
count16_end = 65536

abbrev pub count32_end : ℕ
count32_end = 4294967296
