use Rattle.std.proofs.Common.{◌≡◌, ℕ, ◌↔◌}
use Rattle.segment_theorems.specs.State.{version_of}
use Rattle.segment_core.specs.BlockChain.{IsLinkedOf, BreaksFrom, BreaksAt}
use Rattle.segment_core.proofs.segment.Segment.broken_link.Given as goal

-- the walk has reached a linked record of the page, and the chain breaks where it breaks from that record on
abbrev pub invariant-loop-redo : goal.invariant-loop-redo
invariant-loop-redo l = record {
  version : l.version ≡ version_of l.self.store l.page;
  linked : IsLinkedOf l.self l.page l.point l.redo;
  same : (n : ℕ) → BreaksAt l.self l.page l.point n ↔ BreaksFrom l.self l.page l.point l.redo n;
}

abbrev pub decreases-loop-redo : goal.decreases-loop-redo
decreases-loop-redo l = l.redo.number
