-- Two logs scanned side by side, by key.
use Rattle.std.specs.Prelude.{◌≡◌, ℕ, List, [], Option}
use Rattle.std.specs.List.{Contains, cons_option}
use Rattle.std.specs.Option.{IsNone}
use Rattle.std.specs.declared.cmp.Ordering.TheVariants.{Less}
use Rattle.redo_core.specs.Data.{RecordData}
use Rattle.redo_core.specs.Keys.{key_of, key_cmp}
use Rattle.redo_core.specs.declared.keys.Key.{Key}
use Rattle.redo_core.specs.Order.{IsRising}
use Rattle.epoch_book.specs.Book.{BookData}
use Rattle.hot_log.specs.Kept.{KeepsKey}

-- an entry's key is below that of another
abbrev pub EntryBefore : Key × RecordData → Key × RecordData → Type 0
EntryBefore e f = key_cmp e.0 f.0 ≡ Less

-- the entry that comes next and the rest rise by key; where none comes next, none is left
pub record StandsNext (next : Option (Key × RecordData)) (rest : List (Key × RecordData)) : Type 0 where
  pub rising : IsRising EntryBefore (cons_option next rest)
  pub ended : IsNone next → rest ≡ []

-- an entry of a stored record under its key
abbrev pub IsStoredEntry : List RecordData → Key × RecordData → Type 0
IsStoredEntry held e = (e.0 ≡ key_of e.1) × Contains held e.1

-- the stored records under their keys, rising
pub record AreEntries (held : List RecordData) (entries : List (Key × RecordData)) : Type 0 where
  pub rising : IsRising EntryBefore entries
  pub each : (e : Key × RecordData) → (Contains entries e → IsStoredEntry held e) × (IsStoredEntry held e → Contains entries e)

-- a record of this key is kept in both of two views, in each above its point
abbrev pub IsKeptInBoth : BookData → ℕ → BookData → ℕ → Key → Type 0
IsKeptInBoth book point low base key = KeepsKey low base key × KeepsKey book point key

-- a log stores each record of another one that is kept in both views
abbrev pub StoresKept : BookData → List RecordData → ℕ → BookData → List RecordData → ℕ → Type 0
StoresKept book held point low lower base = (r : RecordData) → Contains lower r → IsKeptInBoth book point low base (key_of r) → Contains held r
