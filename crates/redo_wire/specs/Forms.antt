-- Values that have two forms, distinguished by their tags, and the bytes that only the second form has.
use Rattle.std.specs.Prelude.{ℕ, Bool, true, false, List, [], ◌∷◌, Ok, Err, nat_le, ◌==◌, ◌&&◌, if◌then◌else◌}
use Rattle.redo_wire.specs.declared.faults.WireFault.TheVariants.{UnknownTag}
use Rattle.redo_wire.specs.Reading.{◌>>=◌, Read, shaped}
use Rattle.redo_wire.specs.Fields.{byte_at}

-- whether the tag is that of the second form
unfoldable pub form_at : ℕ → ℕ → List ℕ → Read Bool
form_at first second bytes = do
  tag ← byte_at bytes
  if tag.0 == first then Ok (false, tag.1) else if tag.0 == second then Ok (true, tag.1) else Err UnknownTag

abbrev pub form_bytes : ℕ → ℕ → Bool → List ℕ
form_bytes first second false = first ∷ []
form_bytes first second true = second ∷ []

-- a byte from `lo` to `hi` that only the second form has; in the first it is `absent`
abbrev pub within_at : Bool → ℕ → ℕ → ℕ → List ℕ → Read ℕ
within_at false absent lo hi bytes = Ok (absent, bytes)
within_at true absent lo hi bytes = shaped (λ n. nat_le lo n && nat_le n hi) (byte_at bytes)

abbrev pub byte_in : Bool → ℕ → List ℕ
byte_in false n = []
byte_in true n = n ∷ []
