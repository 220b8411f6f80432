use Rattle.snapshot.specs.Hydrating.{pages_of}
use Rattle.snapshot.proofs.Brought.{AreBelow}
use Rattle.snapshot.proofs.staging.Staging.pages.Given as goal

-- the pages that the pieces so far contain
abbrev pub invariant-loop-index : goal.invariant-loop-index
invariant-loop-index l = AreBelow pages_of l.self l.index l.pages.items
