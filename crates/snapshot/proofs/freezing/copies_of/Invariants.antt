use Rattle.std.proofs.Common.{◌≡◌, map, take}
use Rattle.snapshot.proofs.freezing.copies_of.Given as goal

-- the copies so far
abbrev pub invariant-loop-redo : goal.invariant-loop-redo
invariant-loop-redo l = l.copied.items ≡ map (λ x. x.now) (take l.redo-index l.records)
