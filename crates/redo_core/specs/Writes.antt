-- A write as contracts see it.
use Rattle.std.specs.Prelude.{ℕ, List}

-- bytes that a redo record puts into its page, from an offset on
pub record WriteData : Type 0 where
  pub offset : ℕ
  pub bytes : List ℕ
