-- Entries and their copies.
use Rattle.std.specs.Prelude.{◌≡◌}
use Rattle.std.specs.List.{AllZip}
use Rattle.std.specs.Global.{Vec}

-- the same key, and a clone of the value
abbrev pub IsEntryCopy : {K V : Type 0} → (V → V → Type 0) → K × V → K × V → Type 0
IsEntryCopy IsClone e f = (f.0 ≡ e.0) × IsClone e.1 f.1

-- a run of such entries
abbrev pub IsRunCopy : {K V : Type 0} → (V → V → Type 0) → Vec (K × V) → Vec (K × V) → Type 0
IsRunCopy IsClone v w = AllZip (IsEntryCopy IsClone) v.items w.items
