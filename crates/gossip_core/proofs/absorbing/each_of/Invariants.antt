use Rattle.std.proofs.Common.{◌≡◌, map, take}
use Rattle.gossip_core.proofs.absorbing.each_of.Given as goal

-- those so far
abbrev pub invariant-loop-redo : goal.invariant-loop-redo
invariant-loop-redo l = map (λ r. r.now) l.each.items ≡ take l.redo-index l.records
