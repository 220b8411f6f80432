-- Keys of records with the records, and in groups by segment backlink or by page.
use Rattle.std.specs.Prelude.{◌≡◌, ℕ, ◌≤◌, max, ◌⊎◌, ◌↔◌, List, [], Option, Some, None}
use Rattle.std.specs.List.{Contains}
use Rattle.redo_core.specs.Data.{RecordData}
use Rattle.redo_core.specs.Order.{IsRising}
use Rattle.std.specs.declared.cmp.Ordering.TheVariants.{Less}
use Rattle.redo_core.specs.Keys.{key_in, key_of, key_cmp, KeyBefore}
use Rattle.redo_core.specs.declared.keys.Key.{Key}
use Rattle.hot_log.specs.Held.{IsHeld, HasKey}

-- a group has a key
abbrev pub InGroup : List (ℕ × Key) → ℕ → ℕ → ℕ → Type 0
InGroup keys group epoch number = Contains keys (group, key_in epoch number)

-- the least key of a group above the one given, or none where no key of the group is above it
abbrev pub IsNextKey : List (ℕ × Key) → ℕ → Key → Option Key → Type 0
IsNextKey keys group after None = (e n : ℕ) → InGroup keys group e n → KeyBefore after (key_in e n) → ⊥
IsNextKey keys group after (Some key) =
    InGroup keys group key.epoch key.number × KeyBefore after key
    × ((e n : ℕ) → InGroup keys group e n → KeyBefore after (key_in e n) → ((e ≡ key.epoch) × (n ≡ key.number)) ⊎ KeyBefore key (key_in e n))

-- the greatest key of a group at or below the one given, or none where each key of the group is above it
abbrev pub IsLastKey : List (ℕ × Key) → ℕ → Key → Option Key → Type 0
IsLastKey keys group to None = (e n : ℕ) → InGroup keys group e n → KeyBefore to (key_in e n)
IsLastKey keys group to (Some key) =
    InGroup keys group key.epoch key.number × (KeyBefore to key → ⊥)
    × ((e n : ℕ) → InGroup keys group e n → (KeyBefore to (key_in e n) → ⊥) → ((e ≡ key.epoch) × (n ≡ key.number)) ⊎ KeyBefore (key_in e n) key)

-- an index: its start, and the keys of the groups from there on
pub record IndexData : Type 0 where
  pub start : ℕ
  pub keys : List (ℕ × Key)

abbrev pub empty_index : IndexData
empty_index = record { start = 0; keys = [] }

-- no group is below one
abbrev pub IsFrom : ℕ → List (ℕ × Key) → Type 0
IsFrom start keys = (p : ℕ × Key) → Contains keys p → start ≤ p.0

-- the key joins its group, unless the index starts above that
pub record GainsKey (old : IndexData) (group : ℕ) (key : Key) (new : IndexData) : Type 0 where
  pub start : new.start ≡ old.start
  pub keys : (p : ℕ × Key) → Contains new.keys p ↔ (Contains old.keys p ⊎ ((old.start ≤ group) × (p ≡ (group, key))))

-- the key leaves its group
pub record LosesKey (old : IndexData) (group : ℕ) (key : Key) (new : IndexData) : Type 0 where
  pub start : new.start ≡ old.start
  pub keys : (p : ℕ × Key) → Contains new.keys p ↔ (Contains old.keys p × (p ≡ (group, key) → ⊥))

-- the index starts at a group or higher, and the keys of the groups below that one are gone
pub record RaisesStart (old : IndexData) (group : ℕ) (new : IndexData) : Type 0 where
  pub start : new.start ≡ max old.start group
  pub keys : (p : ℕ × Key) → Contains new.keys p ↔ (Contains old.keys p × (group ≤ p.0))

-- the keys are those of the stored records, each in the group that `group` gives for its record
pub record IsIndexBy (group : RecordData → ℕ) (held : List RecordData) (keys : List (ℕ × Key)) : Type 0 where
  pub listed : (r : RecordData) → Contains held r → InGroup keys (group r) r.epoch r.number
  pub backed : (g e n : ℕ) → InGroup keys g e n → (r : RecordData) × Contains held r × (group r ≡ g) × HasKey (key_in e n) r

-- the keys are those of the stored records whose segment backlink is not below the start of the index, each in the group of its backlink
pub record IsIndexOf (held : List RecordData) (backs : IndexData) : Type 0 where
  pub listed : (r : RecordData) → Contains held r → backs.start ≤ r.back → InGroup backs.keys r.back r.epoch r.number
  pub backed : (g e n : ℕ) → InGroup backs.keys g e n → (r : RecordData) × Contains held r × (r.back ≡ g) × HasKey (key_in e n) r

-- a key has joined the others, with a record
abbrev pub GainsEntry : List (Key × RecordData) → Key → RecordData → List (Key × RecordData) → Type 0
GainsEntry old key redo new = (e : Key × RecordData) → Contains new e ↔ (Contains old e ⊎ (e ≡ (key, redo)))

-- a key has left them
abbrev pub LosesEntry : List (Key × RecordData) → Key → List (Key × RecordData) → Type 0
LosesEntry old key new = (e : Key × RecordData) → Contains new e ↔ (Contains old e × (e.0 ≡ key → ⊥))

-- the record of a key, or none where the key is not there
abbrev pub IsUnderKey : List (Key × RecordData) → Key → Option RecordData → Type 0
IsUnderKey keys key None = (redo : RecordData) → Contains keys (key, redo) → ⊥
IsUnderKey keys key (Some redo) = Contains keys (key, redo)

-- the key (e, n) is above the one given; with none given each is
abbrev pub IsAboveKey : Option Key → ℕ → ℕ → Type 0
IsAboveKey None e n = Unit {0}
IsAboveKey (Some key) e n = KeyBefore key (key_in e n)

-- the least key above the one given, or none where no key is above it
abbrev pub IsLeastKey : List (Key × RecordData) → Option Key → Option Key → Type 0
IsLeastKey keys after None = (e n : ℕ) (r : RecordData) → Contains keys (key_in e n, r) → IsAboveKey after e n → ⊥
IsLeastKey keys after (Some key) =
    ((r : RecordData) × Contains keys (key, r) × IsAboveKey after key.epoch key.number)
    × ((e n : ℕ) (r : RecordData) → Contains keys (key_in e n, r) → IsAboveKey after e n → ((e ≡ key.epoch) × (n ≡ key.number)) ⊎ KeyBefore key (key_in e n))

-- the greatest key at or below the one given, or none where each key is above it
abbrev pub IsGreatestKey : List (Key × RecordData) → Key → Option Key → Type 0
IsGreatestKey keys to None = (e n : ℕ) (r : RecordData) → Contains keys (key_in e n, r) → KeyBefore to (key_in e n)
IsGreatestKey keys to (Some key) =
    ((r : RecordData) × Contains keys (key, r) × (KeyBefore to key → ⊥))
    × ((e n : ℕ) (r : RecordData) → Contains keys (key_in e n, r) → (KeyBefore to (key_in e n) → ⊥) → ((e ≡ key.epoch) × (n ≡ key.number)) ⊎ KeyBefore (key_in e n) key)

-- the greatest key, or none where there is none
abbrev pub IsGreatestOf : List (Key × RecordData) → Option Key → Type 0
IsGreatestOf keys None = (e n : ℕ) (r : RecordData) → Contains keys (key_in e n, r) → ⊥
IsGreatestOf keys (Some key) =
    ((r : RecordData) × Contains keys (key, r))
    × ((e n : ℕ) (r : RecordData) → Contains keys (key_in e n, r) → ((e ≡ key.epoch) × (n ≡ key.number)) ⊎ KeyBefore (key_in e n) key)

-- the keys above one, with their records, rising
pub record AreAbove (keys : List (Key × RecordData)) (after : Key) (above : List (Key × RecordData)) : Type 0 where
  pub each : (e : Key × RecordData) → Contains above e ↔ (Contains keys e × KeyBefore after e.0)
  pub rising : IsRising (λ x y. key_cmp x.0 y.0 ≡ Less) above

-- the keys are those of the stored records, each with its record
pub record IsKeyRecords (held : List RecordData) (keys : List (Key × RecordData)) : Type 0 where
  pub listed : (r : RecordData) → Contains held r → Contains keys (key_of r, r)
  pub backed : (e n : ℕ) (r : RecordData) → Contains keys (key_in e n, r) → Contains held r × HasKey (key_in e n) r

-- stored records with those by key and the index by segment backlink
pub record IsIndexed (held : List RecordData) (keys : List (Key × RecordData)) (backs : IndexData) : Type 0 where
  pub form : IsHeld held
  pub by_key : IsKeyRecords held keys
  pub by_back : IsIndexOf held backs

-- the least key above the one given of the stored records of one group, or none
abbrev pub IsNextHeld : (RecordData → ℕ) → List RecordData → ℕ → Key → Option Key → Type 0
IsNextHeld group held g after None = (r : RecordData) → Contains held r → group r ≡ g → KeyBefore after (key_of r) → ⊥
IsNextHeld group held g after (Some key) =
    ((r : RecordData) × Contains held r × (group r ≡ g) × HasKey key r × KeyBefore after (key_of r))
    × ((r : RecordData) → Contains held r → group r ≡ g → KeyBefore after (key_of r) → HasKey key r ⊎ KeyBefore key (key_of r))

-- the greatest key at or below the one given of the stored records of one group, or none
abbrev pub IsLastHeld : (RecordData → ℕ) → List RecordData → ℕ → Key → Option Key → Type 0
IsLastHeld group held g to None = (r : RecordData) → Contains held r → group r ≡ g → KeyBefore to (key_of r)
IsLastHeld group held g to (Some key) =
    ((r : RecordData) × Contains held r × (group r ≡ g) × HasKey key r × (KeyBefore to (key_of r) → ⊥))
    × ((r : RecordData) → Contains held r → group r ≡ g → (KeyBefore to (key_of r) → ⊥) → HasKey key r ⊎ KeyBefore (key_of r) key)

-- the record of a page with the least key above the one given, or none
abbrev pub IsNextRecord : List RecordData → ℕ → Key → Option RecordData → Type 0
IsNextRecord held page after None = IsNextHeld (λ r. r.page) held page after None
IsNextRecord held page after (Some r) = Contains held r × IsNextHeld (λ r. r.page) held page after (Some (key_of r))

-- the record of a page with the greatest key at or below the one given, or none
abbrev pub IsLastRecord : List RecordData → ℕ → Key → Option RecordData → Type 0
IsLastRecord held page to None = IsLastHeld (λ r. r.page) held page to None
IsLastRecord held page to (Some r) = Contains held r × IsLastHeld (λ r. r.page) held page to (Some (key_of r))

-- the keys of the stored records above one, with the records, rising
pub record AreHeldAbove (held : List RecordData) (after : Key) (above : List (Key × RecordData)) : Type 0 where
  pub listed : (r : RecordData) → Contains held r → KeyBefore after (key_of r) → Contains above (key_of r, r)
  pub backed : (e : Key × RecordData) → Contains above e → Contains held e.1 × HasKey e.0 e.1 × KeyBefore after (key_of e.1)
  pub rising : IsRising (λ x y. key_cmp x.0 y.0 ≡ Less) above
