-- What a writer's calls give.
use Rattle.std.proofs.Common.{◌≡◌, ℕ, ◌<◌, List, ◌∷◌, refl}
use Rattle.std.specs.Prelude.{slice_index}
use Rattle.redo_core.specs.Data.{RecordData}
use Rattle.redo_core.specs.Sound.{HasShape}
use Rattle.redo_core.specs.declared.facts.Fact.TheVariants.{Record}
use Rattle.redo_writer.specs.declared.parts.AliveRecord.{AliveRecord}
use Rattle.redo_writer.specs.Tracks.{IsEntryOf, PutsTop, newest_number}
use Rattle.redo_writer.specs.State.{WriterState, state_with}
use Rattle.redo_writer.proofs.Continuing.{continues_record}
use Rattle.volume_logs.specs.Writes.{GivesFact}

pub gives_record : (v : WriterState) (r : RecordData) (x : AliveRecord) (tops : List ℕ) → HasShape (Record r) → r.epoch ≡ v.epoch → v.last < r.number
    → r.back ≡ newest_number v.settled v.alive → r.block_back ≡ slice_index v.page_tops r.page → IsEntryOf x r
    → PutsTop x.page x.number v.page_tops tops → GivesFact v (Record r) (state_with v.epoch r.number v.points tops v.settled (x ∷ v.alive))
gives_record v r x tops shape epoch above back block_back entry puts = record {
  continues = λ log had. continues_record v log r x tops had shape epoch above back block_back entry puts;
  readers = refl;
  epoch = refl;
  next = (epoch, above, refl);
}
