-- A map of records by page and key, seen in the order of the keys.
use Rattle.std.specs.Prelude.{◌≡◌, ℕ, ◌<◌, Bool, ◌==◌, nat_lt, ◌&&◌, ◌||◌, if◌then◌else◌, List, [], ◌∷◌, map, None}
use Rattle.std.specs.List.{Contains}
use Rattle.std.specs.Ordering.{nat_cmp, ordering_then}
use Rattle.std.specs.declared.cmp.Ordering.{Ordering}
use Rattle.std.specs.Map.{keys_of}
use Rattle.std.specs.List.Sorted.{IsStrictlySortedBy}
use Rattle.redo_core.specs.Data.{RecordData}
use Rattle.redo_core.specs.Keys.{key_of, key_cmp}
use Rattle.redo_core.specs.declared.keys.Key.{Key}
use Rattle.redo_core.specs.Shape.{record_fault}

-- the order of keys in groups, such as pages
abbrev pub place_cmp : ℕ × Key → ℕ × Key → Ordering
place_cmp x y = ordering_then (nat_cmp x.0 y.0) (key_cmp x.1 y.1)

-- a record's page and key
abbrev pub place_of : RecordData → ℕ × Key
place_of r = (r.page, key_of r)

abbrev pub records_in : List ((ℕ × Key) × RecordData) → List RecordData
records_in entries = map (λ (e : (ℕ × Key) × RecordData). e.1) entries

-- a record's key is below that of another
abbrev pub is_below : RecordData → RecordData → Bool
is_below r s = nat_lt r.epoch s.epoch || (r.epoch == s.epoch && nat_lt r.number s.number)

-- a record before the first that it is below
abbrev pub insert_by_key : RecordData → List RecordData → List RecordData
insert_by_key r [] = r ∷ []
insert_by_key r (s ∷ ss) = if is_below r s then r ∷ s ∷ ss else s ∷ insert_by_key r ss

-- the same records, in the order of their keys
abbrev pub by_key : List RecordData → List RecordData
by_key [] = []
by_key (r ∷ rs) = insert_by_key r (by_key rs)

pub record IsPaged (m : List ((ℕ × Key) × RecordData)) : Type 0 where
  pub ordered : IsStrictlySortedBy place_cmp (keys_of m)
  pub placed : (e : (ℕ × Key) × RecordData) → Contains m e → e.0 ≡ place_of e.1
  pub shaped : (r : RecordData) → Contains (records_in m) r → record_fault r ≡ None
  pub fits : (r : RecordData) → Contains (records_in m) r → r.page < 65536
  pub apart : (r s : RecordData) → Contains (records_in m) r → Contains (records_in m) s → r.epoch ≡ s.epoch → r.number ≡ s.number → r.page ≡ s.page
