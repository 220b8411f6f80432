-- The points that a segment keeps beside its records, so that a read of them needs no search.
use Rattle.std.specs.Prelude.{◌≡◌, ℕ, ◌<◌, ◌≤◌, ◌⊎◌, IsTrue, true, List}
use Rattle.std.specs.List.{Contains}
use Rattle.redo_core.specs.Data.{RecordData, CutData}
use Rattle.redo_core.specs.Standing.{IsAlive}
use Rattle.redo_core.specs.Roster.{least}
use Rattle.epoch_book.specs.Book.{BookData, IsBook}
use Rattle.hot_log.specs.Held.{IsHeld}
use Rattle.hot_log.specs.Putting.{Puts}
use Rattle.hot_log.specs.declared.log.Put.TheVariants.{New}
use Rattle.hot_log.specs.Alive.{HasNoneEarlier, IsHeldAlive, IsLinkedFrom, IsContiguous}
use Rattle.segment_core.specs.declared.points.Points.{Points}
use Rattle.segment_core.specs.declared.points.Spared.{Spared}

-- n is the greatest LSN that the stored records link from an LSN on
pub record IsTop (book : BookData) (held : List RecordData) (from n : ℕ) : Type 0 where
  pub linked : IsLinkedFrom book held from n
  pub most : (m : ℕ) → IsLinkedFrom book held from m → m ≤ n

-- n is the greatest of those LSNs up to a limit
pub record IsTopTo (book : BookData) (held : List RecordData) (from limit n : ℕ) : Type 0 where
  pub linked : IsLinkedFrom book held from n
  pub bound : n ≤ limit
  pub most : (m : ℕ) → IsLinkedFrom book held from m → m ≤ limit → m ≤ n

-- the points of a chain that is one LSN alone
abbrev pub points_at : ℕ → Points
points_at from = record { complete = from; anchor = from; straight = true; since = 0 }

-- Each point is the greatest LSN that is linked from its old position; the anchor is not above the minimum read point, and no alive
-- record above the complete point is of an epoch before `since`.
pub record MoveOn (book : BookData) (held : List RecordData) (old new : Points) : Type 0 where
  pub complete : IsTop book held old.complete new.complete
  pub anchor : IsTopTo book held old.anchor (least book.points) new.anchor
  pub straight : IsTrue new.straight → IsContiguous book held old.complete new.complete
  pub since : HasNoneEarlier book held new.complete new.since

-- The points of stored records over a base point: the complete point is the greatest LSN linked from there, the anchor the
-- greatest of them up to the minimum read point, and where `straight` is set the chain is contiguous.
abbrev pub HasPoints : BookData → List RecordData → ℕ → Points → Type 0
HasPoints book held base points = MoveOn book held (points_at base) points

-- the same, where the minimum read point may have risen above the one that the anchor was taken for
pub record HasLowAnchor (book : BookData) (held : List RecordData) (base : ℕ) (points : Points) : Type 0 where
  pub complete : IsTop book held base points.complete
  pub anchor : IsLinkedFrom book held base points.anchor
  pub bound : points.anchor ≤ least book.points
  pub straight : IsTrue points.straight → IsContiguous book held base points.complete
  pub since : HasNoneEarlier book held points.complete points.since

-- a record that is alive above the base point, and whose backlink is not above the complete point
abbrev pub MayLink : BookData → ℕ → Points → RecordData → Type 0
MayLink book base points r = IsAlive book.cuts book.complete r.epoch r.number × (base < r.number) × (r.back ≤ points.complete)

-- A later book: up to the complete epoch of the earlier one both have the same truncations, and neither the complete epoch nor the
-- minimum read point has fallen.
pub record IsLaterBook (old new : BookData) : Type 0 where
  pub form : IsBook old
  pub kept : (c : CutData) → Contains old.cuts c → Contains new.cuts c
  pub known : (c : CutData) → Contains new.cuts c → Contains old.cuts c ⊎ (old.complete < c.epoch)
  pub complete : old.complete ≤ new.complete
  pub minimum : least old.points ≤ least new.points

-- the greatest LSN up to a limit that is linked from the base point; the base point itself may be above the limit
pub record IsSparedChain (book : BookData) (held : List RecordData) (base : ℕ) (spared : Spared) : Type 0 where
  pub linked : IsLinkedFrom book held base spared.number
  pub most : (m : ℕ) → IsLinkedFrom book held base m → m ≤ spared.limit → m ≤ spared.number

-- the points were kept over an earlier book, whose complete epoch is given, and there this LSN was spared
pub record WerePoints (book : BookData) (held : List RecordData) (base epoch : ℕ) (points : Points) (spared : Spared) : Type 0 where
  pub earlier : BookData
  pub later : IsLaterBook earlier book
  pub at : earlier.complete ≡ epoch
  pub had : HasPoints earlier held base points
  pub stays : IsTrue points.straight → IsSparedChain earlier held base spared

-- An LSN that the epochs above one leave unchanged: the limit is the least lo of their truncations, the LSN is not above it,
-- and none of their alive records has a backlink below the LSN.
pub record IsUntouched (book : BookData) (held : List RecordData) (epoch : ℕ) (spared : Spared) : Type 0 where
  pub cut : (c : CutData) × Contains book.cuts c × (epoch < c.epoch) × (c.epoch ≤ book.complete) × (c.lo ≡ spared.limit)
  pub least : (c : CutData) → Contains book.cuts c → epoch < c.epoch → c.epoch ≤ book.complete → spared.limit ≤ c.lo
  pub low : spared.number ≤ spared.limit
  pub behind : (r : RecordData) → IsHeldAlive book held r → epoch < r.epoch → spared.number ≤ r.back

-- the same points, where an alive record may be of an earlier epoch
abbrev pub Meets : BookData → RecordData → Points → Points → Type 0
Meets book r old new =
    (new.complete ≡ old.complete) × (new.anchor ≡ old.anchor) × (new.straight ≡ old.straight) × (new.since ≤ old.since)
    × (IsAlive book.cuts book.complete r.epoch r.number → new.since ≤ r.epoch)

-- a record with this LSN has joined the stored ones at the complete point of a contiguous chain
pub record JoinsOnTop (book : BookData) (held : List RecordData) (base number : ℕ) (points : Points) : Type 0 where
  pub earlier : List RecordData
  pub redo : RecordData
  pub form : IsHeld held
  pub at : redo.number ≡ number
  pub puts : Puts earlier redo held New
  pub may : MayLink book base points redo
  pub back : redo.back ≡ points.complete
  pub straight : IsTrue points.straight
  pub had : HasPoints book earlier base points
  pub since : HasNoneEarlier book held points.complete points.since

-- where the chain continues from an LSN, the anchor continues from there if the minimum read point has come so far, and else stays
abbrev pub AnchorsOn : BookData → List RecordData → ℕ → ℕ → ℕ → Type 0
AnchorsOn book held from old new = (least book.points < from → new ≡ old) × (from ≤ least book.points → IsTopTo book held from (least book.points) new)
