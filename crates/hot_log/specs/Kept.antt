-- The records that wait or are alive above a point, and their keys.
use Rattle.std.specs.Prelude.{◌≡◌, ℕ, ◌<◌, ◌⊎◌, List, map}
use Rattle.std.specs.List.{Contains}
use Rattle.redo_core.specs.Data.{RecordData}
use Rattle.redo_core.specs.Keys.{key_of, KeyBefore}
use Rattle.redo_core.specs.declared.keys.Key.{Key}
use Rattle.redo_core.specs.Order.{Lists, RecordBefore}
use Rattle.redo_core.specs.Standing.{IsAlive, IsWaiting}
use Rattle.epoch_book.specs.Book.{BookData}

-- a record of this key waits, or is alive above a point
abbrev pub KeepsKey : BookData → ℕ → Key → Type 0
KeepsKey b point key = IsWaiting b.complete key.epoch ⊎ (IsAlive b.cuts b.complete key.epoch key.number × (point < key.number))

-- a stored record that waits, or is alive above a point
abbrev pub IsKeptAbove : BookData → List RecordData → ℕ → RecordData → Type 0
IsKeptAbove b held point r = Contains held r × (IsWaiting b.complete r.epoch ⊎ (IsAlive b.cuts b.complete r.epoch r.number × (point < r.number)))

-- such a record whose key is not listed
abbrev pub IsKeptUnlisted : BookData → List RecordData → ℕ → List Key → RecordData → Type 0
IsKeptUnlisted b held point keys r = IsKeptAbove b held point r × (Contains keys (key_of r) → ⊥)

-- exactly the keys of the records with P, in the order of the keys
pub record ListsKeysOf (P : RecordData → Type 0) (keys : List Key) : Type 0 where
  pub kept : List RecordData
  pub lists : Lists RecordBefore P kept
  pub keys_are : keys ≡ map key_of kept

-- a key above the one given, which waits or is alive above a point
abbrev pub IsKeyKept : BookData → List (Key × RecordData) → Key → ℕ → Key → Type 0
IsKeyKept b keys above point k = ((r : RecordData) × Contains keys (k, r)) × KeyBefore above k × KeepsKey b point k
