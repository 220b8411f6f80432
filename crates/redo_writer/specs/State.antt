-- A writer as contracts see it.
use Rattle.std.specs.Prelude.{ℕ, Bool, List, [], replicate, slice_index}
use Rattle.redo_core.specs.Data.{RecordData, record_with}
use Rattle.redo_core.specs.declared.patches.Patch.{Patch}
use Rattle.redo_writer.specs.declared.parts.AliveRecord.{AliveRecord}
use Rattle.redo_writer.specs.declared.parts.WriterParts.{WriterParts}
use Rattle.redo_writer.specs.Tracks.{newest_number}

-- The epoch, its last number (or its hi), each reader's point, the greatest alive number of each page (0 where it has none), and the
-- alive records above `settled`, newest first.
pub record WriterState : Type 0 where
  pub epoch : ℕ
  pub last : ℕ
  pub points : List ℕ
  pub page_tops : List ℕ
  pub settled : ℕ
  pub alive : List AliveRecord

abbrev pub state_with : ℕ → ℕ → List ℕ → List ℕ → ℕ → List AliveRecord → WriterState
state_with epoch last points page_tops settled alive = record {
  epoch = epoch;
  last = last;
  points = points;
  page_tops = page_tops;
  settled = settled;
  alive = alive;
}

abbrev pub writer_of_parts : WriterParts → WriterState
writer_of_parts p = state_with p.epoch p.last p.points p.page_tops.items p.settled p.alive.items

-- a writer of an empty log
abbrev pub empty_writer : ℕ → WriterState
empty_writer roster = state_with 0 0 (replicate roster 0) [] 0 []

-- the record that comes next, with this number, page and contents
abbrev pub next_record : WriterState → ℕ → ℕ → Bool → List Patch → RecordData
next_record w number page init patches = record_with w.epoch number (newest_number w.settled w.alive) page (slice_index w.page_tops page) init patches
