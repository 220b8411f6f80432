-- What a call changes of a writer, whether it continues a log or not.
use Rattle.std.specs.Prelude.{◌≡◌, ◌≢◌, ℕ, ◌+◌, ◌<◌, ◌≤◌, max, List, ◌∷◌, ◌++◌, length, slice_index}
use Rattle.std.specs.List.{Contains}
use Rattle.redo_core.specs.Data.{AdvanceData}
use Rattle.redo_core.specs.Roster.{IsReader, point_of, least}
use Rattle.redo_writer.specs.declared.parts.AliveRecord.{AliveRecord}
use Rattle.redo_writer.specs.Tracks.{PutsTop, newest_number}
use Rattle.redo_writer.specs.State.{WriterState, state_with}

-- one more record, which is the last of the epoch and of its page
pub record KeepsRecord (old : WriterState) (given_number given_page : ℕ) (new : WriterState) : Type 0 where
  pub tops : List ℕ
  pub puts : PutsTop given_page given_number old.page_tops tops
  pub state : let entry : AliveRecord = record { number = given_number; page = given_page; block_back = slice_index old.page_tops given_page } in
      new ≡ state_with old.epoch given_number old.points tops old.settled (entry ∷ old.alive)

-- the newest entries, which are above lo, go
pub record DropsAbove (lo : ℕ) (old new : List AliveRecord) : Type 0 where
  pub dropped : List AliveRecord
  pub parts : old ≡ dropped ++ new
  pub above : (x : AliveRecord) → Contains dropped x → lo < x.number
  pub rest : newest_number 0 new ≤ lo

-- the next epoch, whose numbers begin above hi
pub record OpensEpoch (old : WriterState) (given_lo given_hi : ℕ) (new : WriterState) : Type 0 where
  pub tops : List ℕ
  pub alive : List AliveRecord
  pub drops : DropsAbove given_lo old.alive alive
  pub state : new ≡ state_with (old.epoch + 1) given_hi old.points tops old.settled alive

-- one reader's point is raised
pub record RaisesReader (old : WriterState) (a : AdvanceData) (new : WriterState) : Type 0 where
  pub points : List ℕ
  pub count : length points ≡ length old.points
  pub here : point_of points a.reader ≡ max (point_of old.points a.reader) a.point
  pub others : (reader : ℕ) → IsReader (length old.points) reader → reader ≢ a.reader → point_of points reader ≡ point_of old.points reader
  pub state : new ≡ state_with old.epoch old.last points old.page_tops old.settled old.alive

-- the oldest entries, which are not above the minimum read point, go, and the last one that goes is settled
pub record DropsSettled (old new : WriterState) : Type 0 where
  pub dropped : List AliveRecord
  pub alive : List AliveRecord
  pub parts : old.alive ≡ alive ++ dropped
  pub low : (x : AliveRecord) → Contains dropped x → x.number ≤ least old.points
  pub state : new ≡ state_with old.epoch old.last old.points old.page_tops (newest_number old.settled dropped) alive
