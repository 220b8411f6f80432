-- Items, which represent the records that keep law 2, and the least index whose backlinks are wrong.
use Rattle.std.specs.Prelude.{◌≡◌, ℕ, ◌<◌, ◌≤◌, ◌⊎◌, ◌==◌, List, length, slice_get, slice_index_or, Option, Some, None, if◌then◌else◌}
use Rattle.std.specs.List.{Contains}
use Rattle.redo_core.specs.Data.{RecordData}
use Rattle.redo_core.specs.Order.{PairBefore}
use Rattle.redo_core.specs.Sound.{Law2, Law3, Law4}
use Rattle.redo_core.specs.declared.facts.Fact.{Fact}
use Rattle.redo_core.specs.declared.facts.Fact.TheVariants.{Record}
use Rattle.redo_core.specs.declared.laws.Law.{Law}
use Rattle.redo_core.specs.declared.laws.Law.TheVariants.{OneFactPerKey, EpochBegun, SegmentBacklink, BlockBacklink, AdvanceKept}
use Rattle.log_law.specs.declared.alive.Entry.{Entry}
use Rattle.log_law.specs.declared.links.Item.{Item}
use Rattle.log_law.specs.declared.links.BrokenLink.{BrokenLink}
use Rattle.log_law.specs.Alive.{top_number, page_top}

-- the item represents a record of the log that keeps law 2
pub record IsItem (log : List Fact) (t : Item) : Type 0 where
  pub redo : RecordData
  pub at : slice_get log t.place ≡ Some (Record redo)
  pub begun : Law2 log (Record redo)
  pub epoch : t.epoch ≡ redo.epoch
  pub number : t.number ≡ redo.number
  pub page : t.page ≡ redo.page
  pub back : t.back ≡ redo.back
  pub block_back : t.block_back ≡ redo.block_back

-- the items represent exactly these records among the first facts
pub record AreItemsTo (log : List Fact) (places : ℕ) (items : List Item) : Type 0 where
  pub each : (t : Item) → Contains items t → IsItem log t
  pub all : (p : ℕ) (r : RecordData) → p < places → slice_get log p ≡ Some (Record r) → Law2 log (Record r) → (t : Item) × Contains items t × (t.place ≡ p)

abbrev pub AreItems : List Fact → List Item → Type 0
AreItems log items = AreItemsTo log (length log) items

abbrev pub KeyAtMost : Item → Item → Type 0
KeyAtMost t u = (t.epoch < u.epoch) ⊎ ((t.epoch ≡ u.epoch) × (t.number ≤ u.number))

abbrev pub KeyBelow : Item → Item → Type 0
KeyBelow t u = PairBefore t.epoch t.number u.epoch u.number

abbrev pub SameItemKey : Item → Item → Type 0
SameItemKey t u = (t.epoch ≡ u.epoch) × (t.number ≡ u.number)

abbrev pub IsInKeyOrder : List Item → Type 0
IsInKeyOrder items = (i j : ℕ) (d : Item) → i ≤ j → j < length items → KeyAtMost (slice_index_or items i d) (slice_index_or items j d)

-- the law by which a record's backlinks differ from the tops of a stack
abbrev pub law_broken : Item → List Entry → Option Law
law_broken t xs = if t.back == top_number xs then (if t.block_back == page_top t.page xs then None else Some BlockBacklink) else Some SegmentBacklink

-- the record breaks law 3, or keeps it and breaks law 4
abbrev pub BreaksLink : List Fact → RecordData → Law → Type 0
BreaksLink log r OneFactPerKey = ⊥
BreaksLink log r EpochBegun = ⊥
BreaksLink log r SegmentBacklink = Law3 log (Record r) → ⊥
BreaksLink log r BlockBacklink = Law3 log (Record r) × (Law4 log (Record r) → ⊥)
BreaksLink log r AdvanceKept = ⊥

abbrev pub KeepsLinks : List Fact → RecordData → Type 0
KeepsLinks log r = Law3 log (Record r) × Law4 log (Record r)

-- the verdict on a record's backlinks is right
abbrev pub Judges : List Fact → RecordData → Option Law → Type 0
Judges log r None = KeepsLinks log r
Judges log r (Some law) = BreaksLink log r law

abbrev pub JudgesItem : List Fact → Item → Option Law → Type 0
JudgesItem log t answer = (r : RecordData) → slice_get log t.place ≡ Some (Record r) → Judges log r answer

-- the least index of these items whose backlinks are wrong, if there is one
abbrev pub IsLeastBroken : List Fact → List Item → Option BrokenLink → Type 0
IsLeastBroken log past None = (t : Item) → Contains past t → JudgesItem log t None
IsLeastBroken log past (Some b) = ((t : Item) → Contains past t → t.place < b.place → JudgesItem log t None)
    × ((t : Item) × Contains past t × (t.place ≡ b.place) × JudgesItem log t (Some b.law))

-- the least index of the log whose record keeps law 2 and has a wrong backlink, if there is one
abbrev pub IsFirstBrokenLink : List Fact → Option BrokenLink → Type 0
IsFirstBrokenLink log None = (p : ℕ) (r : RecordData) → slice_get log p ≡ Some (Record r) → Law2 log (Record r) → KeepsLinks log r
IsFirstBrokenLink log (Some b) = ((p : ℕ) (r : RecordData) → p < b.place → slice_get log p ≡ Some (Record r) → Law2 log (Record r) → KeepsLinks log r)
    × ((r : RecordData) × (slice_get log b.place ≡ Some (Record r)) × BreaksLink log r b.law)
