-- Why a word is no patch.
use Rattle.std.specs.Prelude.{◌≡◌, ◌≢◌, ◌⊎◌, ℕ, List, [], ◌∷◌, length, Some, None, IsSome}
use Rattle.hex.specs.Hex.{decode_of}
use Rattle.text.specs.Parts.{parts_at}
use Rattle.text.specs.Fields.{numbers_of}
use Rattle.text.specs.HexDigits.{decoded}
use Rattle.script_text.specs.declared.reasons.PatchFault.{PatchFault}
use Rattle.script_text.specs.declared.reasons.PatchFault.TheVariants.{Colon, Place, NoBytes, Digits, FillBytes}

abbrev pub offset_limits : List ℕ
offset_limits = 65535 ∷ []

abbrev pub range_limits : List ℕ
range_limits = 65535 ∷ 4096 ∷ []

-- the word is an offset, or an offset and a length round a star
abbrev pub IsPatchPlace : List ℕ → Type 0
IsPatchPlace word = IsSome (numbers_of offset_limits (parts_at 42 word)) ⊎ IsSome (numbers_of range_limits (parts_at 42 word))

-- it is neither
abbrev pub IsNoPatchPlace : List ℕ → Type 0
IsNoPatchPlace word = (numbers_of offset_limits (parts_at 42 word) ≡ None) × (numbers_of range_limits (parts_at 42 word) ≡ None)

-- a place and digits round one colon, of which this holds
pub record RoundColon (text : List ℕ) (Holds : List ℕ → List ℕ → Type 0) : Type 0 where
  pub place : List ℕ
  pub digits : List ℕ
  pub parts : parts_at 58 text ≡ place ∷ digits ∷ []
  pub holds : Holds place digits

-- the place is a range, and the digits stand for some bytes, but not for one
pub record IsWideFill (place digits : List ℕ) : Type 0 where
  pub bytes : List ℕ
  pub range : length (parts_at 42 place) ≡ 2
  pub stand : decoded (decode_of digits) ≡ Some bytes
  pub many : length bytes ≢ 1

-- the text has this fault as a patch
abbrev pub IsPatchFault : List ℕ → PatchFault → Type 0
IsPatchFault text Colon = length (parts_at 58 text) ≢ 2
IsPatchFault text Place = RoundColon text (λ place digits. IsNoPatchPlace place)
IsPatchFault text NoBytes = RoundColon text (λ place digits. decoded (decode_of digits) ≡ Some [])
IsPatchFault text Digits = RoundColon text (λ place digits. decoded (decode_of digits) ≡ None)
IsPatchFault text FillBytes = RoundColon text IsWideFill
