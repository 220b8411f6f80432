-- The bytes that hexadecimal digits stand for.
use Rattle.std.specs.Prelude.{ℕ, List, Option, Some, None, Result, Ok, Err}
use Rattle.hex.specs.declared.error.FromHexError.{FromHexError}

-- the bytes of hexadecimal digits
abbrev pub decoded : Result (List ℕ) FromHexError → Option (List ℕ)
decoded (Ok bytes) = Some bytes
decoded (Err e) = None
