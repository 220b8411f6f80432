-- The least index that breaks law 1.
use Rattle.std.specs.Prelude.{◌≡◌, ℕ, ◌<◌, ◌==◌, ◌&&◌, Bool, List, length, take, slice_get, Option, Some, None, ⊤}
use Rattle.std.specs.List.{Contains}
use Rattle.std.specs.HashMap.{get, HashMap}
use Rattle.std.specs.declared.hash.FoldHasher.{FoldHasher}
use Rattle.std.specs.declared.hash.BuildHasherDefault.{BuildHasherDefault}
use Rattle.redo_core.specs.Data.{RecordData}
use Rattle.redo_core.specs.Keys.{key_in, key_of, KeyBefore}
use Rattle.redo_core.specs.declared.keys.Key.{Key}
use Rattle.redo_core.specs.Order.{RecordBefore}
use Rattle.redo_core.specs.Sound.{Law1}
use Rattle.redo_core.specs.declared.facts.Fact.{Fact}
use Rattle.redo_core.specs.declared.facts.Fact.TheVariants.{Record}

-- the facts before an index keep law 1
abbrev pub KeepLaw1To : List Fact → ℕ → Type 0
KeepLaw1To log p = (q : ℕ) (f : Fact) → q < p → slice_get log q ≡ Some f → Law1 (take q log) f

-- the least index that breaks law 1, or the number of facts
pub record IsFirstKeyConflict (log : List Fact) (p : ℕ) : Type 0 where
  pub before : KeepLaw1To log p
  pub breaks : (f : Fact) → slice_get log p ≡ Some f → Law1 (take p log) f → ⊥

-- among the first facts each record's key is above those of the earlier records
abbrev pub HasRisingKeysTo : List Fact → ℕ → Type 0
HasRisingKeysTo log p = (i j : ℕ) (r s : RecordData) → i < j → j < p → slice_get log i ≡ Some (Record r) → slice_get log j ≡ Some (Record s) → RecordBefore r s

abbrev pub HasRisingKeys : List Fact → Type 0
HasRisingKeys log = HasRisingKeysTo log (length log)

-- the record's key is above this one, if there is one
abbrev pub HasKeyAbove : RecordData → Option Key → Type 0
HasKeyAbove r None = ⊤
HasKeyAbove r (Some key) = KeyBefore key (key_of r)

-- two keys are equal
abbrev pub is_same_key : Key → Key → Bool
is_same_key x y = (x.epoch == y.epoch) && (x.number == y.number)

abbrev pub Seen : Type 0
Seen = HashMap Key ℕ (BuildHasherDefault FoldHasher)

-- the map's entry of a key: none where no record before the index has it, otherwise the index of one, and all are equal to that one
abbrev pub IsSeenAt : List Fact → ℕ → ℕ → ℕ → Option ℕ → Type 0
IsSeenAt log place e n None = (r : RecordData) → Contains (take place log) (Record r) → r.epoch ≡ e → r.number ≡ n → ⊥
IsSeenAt log place e n (Some p) =
    (r : RecordData) × (p < place) × (slice_get log p ≡ Some (Record r)) × (r.epoch ≡ e) × (r.number ≡ n)
    × ((s : RecordData) → Contains (take place log) (Record s) → s.epoch ≡ e → s.number ≡ n → s ≡ r)

abbrev pub IsSeen : List Fact → ℕ → Seen → Type 0
IsSeen log place seen = (e n : ℕ) → IsSeenAt log place e n (get is_same_key seen (key_in e n))
