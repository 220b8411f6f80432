-- Keys that a walk scans beside a chain.
use Rattle.std.specs.Prelude.{◌≡◌, ℕ, ◌<◌, Bool, List, ◌∷◌, ◌++◌, Option, Some, None}
use Rattle.std.specs.List.{Contains}
use Rattle.std.specs.declared.cmp.Ordering.TheVariants.{Less}
use Rattle.redo_core.specs.Data.{RecordData}
use Rattle.redo_core.specs.Keys.{key_in, key_of, key_cmp}
use Rattle.redo_core.specs.declared.keys.Key.{Key}
use Rattle.redo_core.specs.Order.{IsRising}
use Rattle.redo_core.specs.Standing.{IsAlive}
use Rattle.epoch_book.specs.Book.{BookData}
use Rattle.hot_log.specs.Held.{HasKey}
use Rattle.hot_log.specs.Alive.{IsAliveOfBack, IsHeldAlive, HasSecond}

-- the keys of the alive records above an LSN are among these, and no other alive ones; they rise
pub record AreOnward (book : BookData) (held : List RecordData) (number : ℕ) (left : List (Key × RecordData)) : Type 0 where
  pub listed : (r : RecordData) → IsHeldAlive book held r → number < r.number → Contains left (key_of r, r)
  pub backed : (e : Key × RecordData) → Contains left e → IsAlive book.cuts book.complete e.0.epoch e.0.number → (r : RecordData) × IsHeldAlive book held r × HasKey e.0 r × (number < r.number)
  pub rising : IsRising (λ x y. key_cmp x.0 y.0 ≡ Less) left

-- none of these keys is alive
abbrev pub NoneAlive : BookData → List (Key × RecordData) → Type 0
NoneAlive book keys = (e : Key × RecordData) → Contains keys e → IsAlive book.cuts book.complete e.0.epoch e.0.number → ⊥

-- the keys up to the first alive one are passed, or all where none is alive
abbrev pub PassesToAlive : BookData → List (Key × RecordData) → Option Key → List (Key × RecordData) → Type 0
PassesToAlive book old None new = NoneAlive book old
PassesToAlive book old (Some key) new =
    IsAlive book.cuts book.complete key.epoch key.number
    × ((passed : List (Key × RecordData)) × (r : RecordData) × (old ≡ passed ++ (key, r) ∷ new) × NoneAlive book passed)

-- the least key of the alive records with this segment backlink, and whether another one has it; or none has it
abbrev pub IsNextOfBack : BookData → List RecordData → ℕ → Option (Key × Bool) → Type 0
IsNextOfBack book held back None = IsAliveOfBack book held back (key_in 0 0) None
IsNextOfBack book held back (Some t) = IsAliveOfBack book held back (key_in 0 0) (Some t.0) × HasSecond book held back t.0 t.1
