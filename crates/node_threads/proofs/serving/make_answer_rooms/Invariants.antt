use Rattle.std.proofs.Common.{◌≡◌, ℕ, length, Some}
use Rattle.std.specs.Prelude.{slice_get}
use Rattle.node_threads.specs.Work.{count_of}
use Rattle.node_threads.proofs.serving.make_answer_rooms.Given as goal

abbrev pub invariant-loop-index : goal.invariant-loop-index
invariant-loop-index g l = record {
  count : length l.rooms.items ≡ l.index;
  each : (k : ℕ) (r : _) → slice_get l.rooms.items k ≡ Some r → r.count ≡ count_of l.parcels k;
}
