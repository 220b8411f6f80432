-- The pages that a state yields.
use Rattle.std.specs.Prelude.{◌≡◌, ℕ, ◌<◌, ◌≤◌, ◌⊎◌, List}
use Rattle.std.specs.List.{Contains}
use Rattle.redo_core.specs.Data.{RecordData}
use Rattle.redo_core.specs.Order.{Lists, BeforeByNumber}
use Rattle.redo_core.specs.Standing.{IsAlive}
use Rattle.redo_core.specs.Writing.{after_records}
use Rattle.segment_theorems.specs.State.{State, version_of, image_of}

-- the records that the state applies to its image of a page, up to the point q
abbrev pub IsApplied : State → ℕ → ℕ → RecordData → Type 0
IsApplied s page q r =
    Contains s.held r × IsAlive s.book.cuts s.book.complete r.epoch r.number × (r.page ≡ page) × (version_of s.store page < r.number) × (r.number ≤ q)

-- the page of the state at q: its image, and then those records in rising order
pub record Shows (s : State) (page q : ℕ) (image : List ℕ) : Type 0 where
  pub written : List RecordData
  pub lists : Lists BeforeByNumber (IsApplied s page q) written
  pub result : image ≡ after_records (image_of s.store page) written

-- the block chain is whole below r: its block backlink is in the page's image, or the LSN of a record that is applied before it
abbrev pub HasBlockBelow : State → ℕ → ℕ → RecordData → Type 0
HasBlockBelow s page q r = (r.block_back ≤ version_of s.store page) ⊎ ((below : RecordData) × IsApplied s page q below × (below.number ≡ r.block_back))
