use Rattle.std.proofs.Common.{◌≡◌, ℕ, ◌<◌, ◌≤◌, ◌++◌, List, length}
use Rattle.std.specs.List.{Contains}
use Rattle.redo_writer.specs.declared.parts.AliveRecord.{AliveRecord}
use Rattle.redo_core.specs.declared.facts.Fact.{Fact}
use Rattle.redo_writer.specs.Tracks.{IsAliveRecord, LinksPages, Tracks}
use Rattle.redo_writer.proofs.Tracking.{Under}
use Rattle.redo_writer.proofs.tail.annul_above.Given as goal

abbrev pub invariant-loop-alive : goal.invariant-loop-alive
invariant-loop-alive l =
    ((dropped : List AliveRecord) × (l.initial.alive.items ≡ dropped ++ l.alive.items) × ((x : AliveRecord) → Contains dropped x → l.lo < x.number))
    × ((log : List Fact) (k settled : ℕ) → LinksPages (IsAliveRecord log k) → settled ≤ l.lo
    → Tracks (IsAliveRecord log k) settled l.initial.page_tops.items l.initial.alive.items
    → (m : ℕ) × (l.lo < m) × Tracks (Under (IsAliveRecord log k) m) settled l.page_tops.items l.alive.items)

abbrev pub decreases-loop-alive : goal.decreases-loop-alive
decreases-loop-alive l = length l.alive.items
