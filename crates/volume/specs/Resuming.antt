-- How an open volume begins.
use Rattle.std.specs.Prelude.{◌≡◌, ℕ, ◌<◌, ◌⊎◌, List, [], ◌∷◌, replicate, slice_index, map, reverse, Option, Some, None}
use Rattle.std.specs.List.{Contains}
use Rattle.redo_core.specs.Data.{CutData, RecordData}
use Rattle.redo_core.specs.Order.{Lists, RecordBefore}
use Rattle.redo_core.specs.declared.keys.Key.{Key}
use Rattle.hot_log.specs.Held.{IsRecordAt}
use Rattle.redo_core.specs.Standing.{IsAlive}
use Rattle.segment_theorems.specs.State.{State}
use Rattle.segment_theorems.specs.Shows.{Shows}
use Rattle.segment_theorems.specs.HasMeaning.{HasAnchor}
use Rattle.segment_core.specs.StoredPages.{IsStoredPage}
use Rattle.redo_writer.specs.State.{WriterState}
use Rattle.redo_writer.specs.Tracks.{entry_of}
use Rattle.redo_writer.specs.declared.parts.AliveRecord.{AliveRecord}
use Rattle.volume.specs.declared.actions.Action.{Action}
use Rattle.volume.specs.declared.actions.Action.TheVariants.{Opened}
use Rattle.volume.specs.declared.actions.Fault.TheVariants.{Damaged}
use Rattle.volume.specs.declared.phases.Phase.TheVariants as phase
use Rattle.volume.specs.declared.phases.Session.{Session}
use Rattle.volume.specs.declared.phases.Writing.{Writing}
use Rattle.volume.specs.declared.turns.Transition.{Transition}
use Rattle.volume.specs.declared.turns.Transition.TheVariants as turn
use Rattle.redo_writer.specs.Layout.{number_of}
use Rattle.volume.specs.Layout.{IsHeaderOf}
use Rattle.volume.specs.Planning.{RefusesRead}
use Rattle.volume.specs.Turning.{StopsWith}

-- the number that the page has at its end at a point, or 0 where nothing of it is stored
abbrev pub IsPageTop : State → ℕ → ℕ → ℕ → Type 0
IsPageTop union point page top =
    (IsStoredPage union page × ((image : List ℕ) × Shows union page point image × (top ≡ number_of image)))
    ⊎ (¬ (IsStoredPage union page) × (top ≡ 0))

-- a stored record that is alive above the anchor
abbrev pub IsAliveAbove : State → ℕ → RecordData → Type 0
IsAliveAbove union anchor r =
    Contains union.held r × IsAlive union.book.cuts union.book.complete r.epoch r.number × (anchor < r.number)

-- these are the alive records above the anchor, newest first
abbrev pub AreAliveAbove : State → ℕ → List AliveRecord → Type 0
AreAliveAbove union anchor entries =
    (records : List RecordData) × Lists RecordBefore (IsAliveAbove union anchor) records × (entries ≡ reverse (map entry_of records))

-- what is kept of the stored record of a key, or none where none is alive
abbrev pub IsEntryOfKey : State → Key → Option AliveRecord → Type 0
IsEntryOfKey union key (Some entry) =
    IsAlive union.book.cuts union.book.complete key.epoch key.number × ((r : RecordData) × IsRecordAt union.held key (Some r) × (entry ≡ entry_of r))
IsEntryOfKey union key None =
    IsAlive union.book.cuts union.book.complete key.epoch key.number → IsRecordAt union.held key None

-- the writer goes on from the union, where that has taken the truncation, and its numbers are above the truncation's hi
pub record IsResumed (union : State) (cut : CutData) (w : WriterState) : Type 0 where
  pub epoch : w.epoch ≡ cut.epoch
  pub last : w.last ≡ cut.hi
  pub points : w.points ≡ union.book.points
  pub settled : HasAnchor union w.settled
  pub tops : (page : ℕ) → IsPageTop union cut.lo page (slice_index w.page_tops page)
  pub alive : AreAliveAbove union w.settled w.alive

-- nothing is written yet, and what the truncation keeps is durable
pub record BeginsWriting (session : Session) (union : State) (cut : CutData) (w : Writing) : Type 0 where
  pub session_is : w.session ≡ session
  pub cut_is : w.cut ≡ cut
  pub writer : IsResumed union cut w.writer
  pub backlog : w.backlog ≡ []
  pub reached : w.reached ≡ replicate 15 0
  pub durable : w.durable ≡ cut.lo

-- the header of page 0 at a point
abbrev pub IsHeader : State → ℕ → List ℕ → Type 0
IsHeader union point header = (image : List ℕ) × Shows union 0 point image × IsHeaderOf image header

-- the one action reports the commit point that the truncation keeps, and the header there
abbrev pub IsOpened : State → CutData → List Action → Type 0
IsOpened union cut (Opened epoch commit_point header ∷ []) =
    (epoch ≡ cut.epoch) × (commit_point ≡ cut.lo) × IsHeader union cut.lo header.items
IsOpened union cut actions = ⊥

-- a read of page 0, or of a page of which something is stored, is refused at the point
abbrev pub RefusesPage : State → ℕ → Type 0
RefusesPage union point = (page : ℕ) × ((page ≡ 0) ⊎ IsStoredPage union page) × RefusesRead union page point

-- the volume is open, or the union does not show one of its pages at the commit point that the truncation keeps
abbrev pub OpensVolume : Session → State → CutData → Transition → Type 0
OpensVolume session union cut (turn.Enter (phase.Open w) actions) = BeginsWriting session union cut w × IsOpened union cut actions.items
OpensVolume session union cut told = StopsWith told Damaged × RefusesPage union cut.lo
