-- The fields: single bytes, runs of bytes, and numbers of 16, 32, 48 and 64 bits, most significant byte first.
use Rattle.std.specs.Prelude.{ℕ, List, [], ◌∷◌, length, take, drop, Ok, Err, nat_lt, if◌then◌else◌}
use Rattle.std.specs.Int.{Width, w16, w32, w64, byte_len, from_be_bytes, to_be_bytes}
use Rattle.redo_wire.specs.declared.faults.WireFault.TheVariants.{Short}
use Rattle.redo_wire.specs.Reading.{Read, mapped}

-- ---- reading

abbrev pub byte_at : List ℕ → Read ℕ
byte_at [] = Err Short
byte_at (b ∷ rest) = Ok (b, rest)

abbrev pub bytes_at : ℕ → List ℕ → Read (List ℕ)
bytes_at n bytes = if nat_lt (length bytes) n then Err Short else Ok (take n bytes, drop n bytes)

unfoldable pub number_at : Width → List ℕ → Read ℕ
number_at w bytes = mapped (from_be_bytes w) (bytes_at (byte_len w) bytes)

abbrev pub u16_at : List ℕ → Read ℕ
u16_at bytes = number_at w16 bytes

abbrev pub u32_at : List ℕ → Read ℕ
u32_at bytes = number_at w32 bytes

abbrev pub u64_at : List ℕ → Read ℕ
u64_at bytes = number_at w64 bytes

unfoldable pub u48_at : List ℕ → Read ℕ
u48_at bytes = mapped (λ text. from_be_bytes w64 (0 ∷ 0 ∷ text)) (bytes_at 6 bytes)

-- ---- encoding

unfoldable pub number : Width → ℕ → List ℕ
number w n = to_be_bytes w n

abbrev pub u16 : ℕ → List ℕ
u16 n = number w16 n

abbrev pub u32 : ℕ → List ℕ
u32 n = number w32 n

abbrev pub u64 : ℕ → List ℕ
u64 n = number w64 n

-- the last six of eight bytes, for a number below 2^48
unfoldable pub u48 : ℕ → List ℕ
u48 n = drop 2 (to_be_bytes w64 n)
