-- What a writer keeps of the alive records of its log.
use Rattle.std.specs.Prelude.{◌≡◌, ◌≢◌, ℕ, ◌<◌, ◌⊎◌, List, [], ◌∷◌, slice_index}
use Rattle.std.specs.List.{Contains}
use Rattle.redo_core.specs.Data.{RecordData}
use Rattle.redo_core.specs.Sets.{records}
use Rattle.redo_core.specs.Order.{IsGreatest, IsRising}
use Rattle.redo_core.specs.Standing.{IsAlive}
use Rattle.redo_core.specs.Sound.{counted}
use Rattle.redo_core.specs.declared.facts.Fact.{Fact}
use Rattle.redo_writer.specs.declared.parts.AliveRecord.{AliveRecord}

-- r is a record of the log and alive in the view of epoch k
pub record IsAliveRecord (log : List Fact) (k : ℕ) (r : RecordData) : Type 0 where
  pub among : Contains (records log) r
  pub alive : IsAlive (counted log) k r.epoch r.number

-- n is the number of a record with P
abbrev pub HasNumber : (RecordData → Type 0) → ℕ → Type 0
HasNumber P n = (r : RecordData) × P r × (r.number ≡ n)

-- x is what a writer keeps of the record
pub record IsEntryOf (x : AliveRecord) (r : RecordData) : Type 0 where
  pub number : x.number ≡ r.number
  pub page : x.page ≡ r.page
  pub block_back : x.block_back ≡ r.block_back

abbrev pub entry_of : RecordData → AliveRecord
entry_of r = record { number = r.number; page = r.page; block_back = r.block_back }

abbrev pub IsNewer : AliveRecord → AliveRecord → Type 0
IsNewer x y = y.number < x.number

-- the greatest number among the entries, or else `settled`
abbrev pub newest_number : ℕ → List AliveRecord → ℕ
newest_number settled [] = settled
newest_number settled (x ∷ xs) = x.number

-- Of the records with P, `tops` has the greatest number of each page, and `alive` has those above `settled`, newest first.
pub record Tracks (P : RecordData → Type 0) (settled : ℕ) (tops : List ℕ) (alive : List AliveRecord) : Type 0 where
  pub falls : IsRising IsNewer alive
  pub above : (x : AliveRecord) → Contains alive x → settled < x.number
  pub each : (x : AliveRecord) → Contains alive x → (r : RecordData) × P r × IsEntryOf x r
  pub all : (r : RecordData) → P r → settled < r.number → (x : AliveRecord) × Contains alive x × IsEntryOf x r
  pub base : (settled ≡ 0) ⊎ HasNumber P settled
  pub pages : (page : ℕ) → IsGreatest (HasNumber (λ r. P r × (r.page ≡ page))) (slice_index tops page)

-- the block backlink of each record with P is the greatest number below its own that its page has among them
abbrev pub LinksPages : (RecordData → Type 0) → Type 0
LinksPages P = (r : RecordData) → P r → IsGreatest (HasNumber (λ s. P s × (s.page ≡ r.page) × (s.number < r.number))) r.block_back

-- one page's number is another
pub record PutsTop (page number : ℕ) (old new : List ℕ) : Type 0 where
  pub here : slice_index new page ≡ number
  pub others : (other : ℕ) → other ≢ page → slice_index new other ≡ slice_index old other
