-- When a writer can go on with a log.
use Rattle.std.specs.Prelude.{◌≤◌, List, length}
use Rattle.std.specs.List.{Contains}
use Rattle.redo_core.specs.Data.{CutData}
use Rattle.redo_core.specs.Sets.{cuts, advances}
use Rattle.redo_core.specs.Roster.{least}
use Rattle.redo_core.specs.Points.{ArePoints}
use Rattle.redo_core.specs.CompleteEpoch.{IsCompleteEpoch}
use Rattle.redo_core.specs.Sound.{IsSound}
use Rattle.redo_core.specs.declared.facts.Fact.{Fact}
use Rattle.log_law.specs.Writing.{IsBoundAt}
use Rattle.redo_writer.specs.Tracks.{IsAliveRecord, Tracks}
use Rattle.redo_writer.specs.State.{WriterState}

-- The log is sound, no truncation of it is above the writer's epoch, and what the writer keeps is what the log says.
pub record Continues (w : WriterState) (log : List Fact) : Type 0 where
  pub sound : IsSound (length w.points) log
  pub epoch : IsCompleteEpoch (cuts log) w.epoch
  pub newest : (c : CutData) → Contains (cuts log) c → c.epoch ≤ w.epoch
  pub last : IsBoundAt log w.epoch w.last
  pub points : ArePoints (length w.points) (advances log) w.epoch w.points
  pub past : w.settled ≤ least w.points
  pub alive : Tracks (IsAliveRecord log w.epoch) w.settled w.page_tops w.alive
