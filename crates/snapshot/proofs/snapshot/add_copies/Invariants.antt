use Rattle.std.proofs.Common.{◌≡◌, ◌++◌, take}
use Rattle.snapshot.proofs.snapshot.add_copies.Given as goal

-- copies of the records so far are added
abbrev pub invariant-loop-redo : goal.invariant-loop-redo
invariant-loop-redo l = l.copied.items ≡ l.fn.copied.items ++ take l.redo-index l.records
