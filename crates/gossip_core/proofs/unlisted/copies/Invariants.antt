use Rattle.std.proofs.Common.{◌≡◌, map, take}
use Rattle.gossip_core.proofs.unlisted.copies.Given as goal

-- those so far
abbrev pub invariant-loop-redo : goal.invariant-loop-redo
invariant-loop-redo l = l.copied.items ≡ map (λ r. r.now) (take l.redo-index l.records)
