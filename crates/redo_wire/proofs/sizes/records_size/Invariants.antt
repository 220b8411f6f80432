use Rattle.std.proofs.Common.{◌≡◌, ◌≤◌, ◌*◌, ◌^◌, Bor, length, take}
use Rattle.std.specs.List.{flat_map}
use Rattle.redo_core.specs.Data.{RecordData}
use Rattle.redo_wire.specs.Records.{record_bytes}
use Rattle.redo_wire.proofs.sizes.records_size.Given as goal

-- the size of the records so far
abbrev pub invariant-loop-redo : goal.invariant-loop-redo
invariant-loop-redo l =
    (l.total ≡ length (flat_map (λ (r : Bor RecordData). record_bytes r.now) (take l.redo-index l.records))) × (l.total ≤ 2 ^ 20 * l.redo-index)
