use Rattle.std.proofs.Common.{◌≡◌, ℕ, ◌≤◌, ◌++◌, List, length}
use Rattle.std.specs.List.{Contains}
use Rattle.redo_writer.specs.declared.parts.AliveRecord.{AliveRecord}
use Rattle.redo_core.specs.declared.facts.Fact.{Fact}
use Rattle.redo_writer.specs.Tracks.{IsAliveRecord, Tracks, newest_number}
use Rattle.redo_writer.proofs.tail.settle.Given as goal

abbrev pub invariant-loop-oldest : goal.invariant-loop-oldest
invariant-loop-oldest l =
    ((dropped : List AliveRecord) × (l.initial.alive.items ≡ l.alive.items ++ dropped) × (l.greatest ≡ newest_number l.settled dropped)
    × ((x : AliveRecord) → Contains dropped x → x.number ≤ l.point))
    × ((log : List Fact) (k : ℕ) (tops : List ℕ) → l.settled ≤ l.point → Tracks (IsAliveRecord log k) l.settled tops l.initial.alive.items
    → (l.greatest ≤ l.point) × Tracks (IsAliveRecord log k) l.greatest tops l.alive.items)

abbrev pub decreases-loop-oldest : goal.decreases-loop-oldest
decreases-loop-oldest l = length l.alive.items
