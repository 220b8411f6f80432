-- The bytes that a write stores.
use Rattle.std.specs.Prelude.{ℕ, List, take}
use Rattle.redo_core.specs.declared.held_bytes.Holder.{Holder}
use Rattle.redo_core.specs.declared.held_bytes.Holder.TheVariants.{Short, Long}

abbrev pub bytes_held : Holder → List ℕ
bytes_held (Short len bytes) = take len bytes
bytes_held (Long bytes) = bytes.items
