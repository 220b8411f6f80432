use Rattle.std.proofs.Common.{◌≡◌, ◌++◌, take}
use Rattle.volume.specs.Writing.{stores_of}
use Rattle.volume.proofs.writing.push_records.Given as goal

-- the records that are passed are sent
abbrev pub invariant-loop-redo : goal.invariant-loop-redo
invariant-loop-redo l =
    l.actions.items ≡ l.initial.actions.items ++ stores_of l.node l.generation l.birth (take l.redo-index l.redo-items)
