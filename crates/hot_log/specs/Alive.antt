-- Which of the stored records are alive in a book's view, and which LSNs they link.
use Rattle.std.specs.Prelude.{◌≡◌, ℕ, ◌+◌, ◌<◌, ◌≤◌, ◌⊎◌, ◌↔◌, Bool, List, Option, Some, None}
use Rattle.std.specs.Option.{is_some}
use Rattle.redo_core.specs.Order.{PairBefore}
use Rattle.redo_core.specs.Keys.{key_in, key_of, KeyBefore}
use Rattle.redo_core.specs.declared.keys.Key.{Key}
use Rattle.std.specs.List.{Contains}
use Rattle.redo_core.specs.Data.{RecordData, CutData}
use Rattle.redo_core.specs.Standing.{IsAlive}
use Rattle.redo_core.specs.Linked.{Linked}
use Rattle.epoch_book.specs.Book.{BookData}
use Rattle.hot_log.specs.Held.{HasKey}

-- a stored record that is alive
abbrev pub IsHeldAlive : BookData → List RecordData → RecordData → Type 0
IsHeldAlive book held r = Contains held r × IsAlive book.cuts book.complete r.epoch r.number

-- no stored record that is alive is above an LSN
abbrev pub HasNoneAbove : BookData → List RecordData → ℕ → Type 0
HasNoneAbove book held number = (r : RecordData) → IsHeldAlive book held r → number < r.number → ⊥

-- no stored record that is alive above an LSN is of an epoch before one
abbrev pub HasNoneEarlier : BookData → List RecordData → ℕ → ℕ → Type 0
HasNoneEarlier book held number since = (r : RecordData) → IsHeldAlive book held r → number < r.number → since ≤ r.epoch

-- n is linked from a base by the stored records
abbrev pub IsLinkedFrom : BookData → List RecordData → ℕ → ℕ → Type 0
IsLinkedFrom book held from n = Linked book.cuts held book.complete from n

-- an alive record of a page, with an LSN above `from` and at most `to`
abbrev pub IsHeldOf : BookData → List RecordData → ℕ → ℕ → ℕ → RecordData → Type 0
IsHeldOf book held page from to r =
    Contains held r × IsAlive book.cuts book.complete r.epoch r.number × (r.page ≡ page) × (from < r.number) × (r.number ≤ to)

-- an alive record whose LSN is linked from a base
abbrev pub IsLinkedHeld : BookData → List RecordData → ℕ → RecordData → Type 0
IsLinkedHeld book held from r =
    Contains held r × IsAlive book.cuts book.complete r.epoch r.number × IsLinkedFrom book held from r.number

-- an alive record of a page
abbrev pub IsPageAlive : BookData → List RecordData → ℕ → RecordData → Type 0
IsPageAlive book held page r = Contains held r × IsAlive book.cuts book.complete r.epoch r.number × (r.page ≡ page)

-- an alive record of a page with a key above one and at most another
abbrev pub IsAliveBetween : BookData → List RecordData → ℕ → Key → Key → RecordData → Type 0
IsAliveBetween book held page above to r =
    IsPageAlive book held page r × KeyBefore above (key_of r) × (KeyBefore to (key_of r) → ⊥)

-- the epoch parts the alive records at an LSN: those with a higher LSN are those with a higher key, and the next LSN
-- can be alive in this epoch alone
abbrev pub PartsAt : BookData → ℕ → ℕ → Type 0
PartsAt book number epoch =
    ((e n : ℕ) → IsAlive book.cuts book.complete e n → (number < n) ↔ PairBefore epoch number e n)
    × ((e : ℕ) → IsAlive book.cuts book.complete e (number + 1) → e ≡ epoch)

-- a key parts the alive records at an LSN: those with a higher LSN are those with a higher key
abbrev pub PartsAtKey : BookData → ℕ → Key → Type 0
PartsAtKey book number key = (e n : ℕ) → IsAlive book.cuts book.complete e n → (number < n) ↔ KeyBefore key (key_in e n)

-- each alive record above an LSN, of an epoch at or above one, is above a key, and each alive record above the key is above the LSN
abbrev pub StartsAbove : BookData → ℕ → ℕ → Key → Type 0
StartsAbove book number since key =
    ((e n : ℕ) → IsAlive book.cuts book.complete e n → number < n → since ≤ e → KeyBefore key (key_in e n))
    × ((e n : ℕ) → IsAlive book.cuts book.complete e n → KeyBefore key (key_in e n) → number < n)

-- each truncation of an epoch above one and up to the complete one has its lo at or above an LSN
abbrev pub SparesAbove : BookData → ℕ → ℕ → Type 0
SparesAbove book epoch number = (c : CutData) → Contains book.cuts c → epoch < c.epoch → c.epoch ≤ book.complete → number ≤ c.lo

-- an alive record whose backlink is linked from a base and at most a limit: one that a search for linked LSNs has to visit
abbrev pub IsReached : BookData → List RecordData → ℕ → ℕ → RecordData → Type 0
IsReached book held from limit r = IsHeldAlive book held r × IsLinkedFrom book held from r.back × (r.back ≤ limit)

-- From one LSN to another the chain is contiguous: each alive record above the one and up to the other is linked, and each
-- linked LSN is linked from each lower one. So there is no orphan record and no fork.
pub record IsContiguous (book : BookData) (held : List RecordData) (from to : ℕ) : Type 0 where
  pub linked : (r : RecordData) → IsHeldAlive book held r → from < r.number → r.number ≤ to → IsLinkedFrom book held from r.number
  pub onward : (m n : ℕ) → IsLinkedFrom book held from m → IsLinkedFrom book held from n → m ≤ n → n ≤ to → IsLinkedFrom book held m n

-- an alive record of an epoch above one, with a segment backlink below an LSN
abbrev pub IsOpenedBelow : BookData → List RecordData → ℕ → ℕ → RecordData → Type 0
IsOpenedBelow book held epoch number r = IsHeldAlive book held r × (epoch < r.epoch) × (r.back < number)

-- the end of a chain that is contiguous from an LSN on: the greatest LSN that is linked from there
pub record IsStraightEnd (book : BookData) (held : List RecordData) (from n : ℕ) : Type 0 where
  pub linked : IsLinkedFrom book held from n
  pub most : (m : ℕ) → IsLinkedFrom book held from m → m ≤ n
  pub straight : IsContiguous book held from n

-- the key of the alive record with the least LSN above one, or none where there is none
abbrev pub IsAliveKey : BookData → List RecordData → ℕ → Option Key → Type 0
IsAliveKey book held above None = (r : RecordData) → IsHeldAlive book held r → above < r.number → ⊥
IsAliveKey book held above (Some key) =
    ((r : RecordData) × IsHeldAlive book held r × HasKey key r × (above < r.number))
    × ((r : RecordData) → IsHeldAlive book held r → above < r.number → HasKey key r ⊎ (key.number < r.number))

-- the least key above the one given of the alive records with this segment backlink, or none
abbrev pub IsAliveOfBack : BookData → List RecordData → ℕ → Key → Option Key → Type 0
IsAliveOfBack book held back after None = (r : RecordData) → IsHeldAlive book held r → r.back ≡ back → KeyBefore after (key_of r) → ⊥
IsAliveOfBack book held back after (Some key) =
    ((r : RecordData) × IsHeldAlive book held r × (r.back ≡ back) × HasKey key r × KeyBefore after (key_of r))
    × ((r : RecordData) → IsHeldAlive book held r → r.back ≡ back → KeyBefore after (key_of r) → HasKey key r ⊎ KeyBefore key (key_of r))

-- whether an alive record with this segment backlink has a key above the one given
abbrev pub HasSecond : BookData → List RecordData → ℕ → Key → Bool → Type 0
HasSecond book held back key is = (second : Option Key) × IsAliveOfBack book held back key second × (is ≡ is_some second)
