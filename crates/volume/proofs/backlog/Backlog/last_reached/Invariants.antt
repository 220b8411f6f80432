use Rattle.std.proofs.Common.{IfSome, IfNone, take}
use Rattle.volume.specs.Writing.{IsLastReached, HasNoneReached}
use Rattle.volume.proofs.backlog.Backlog.last_reached.Given as goal

-- what is found is the greatest among the records that are passed; where nothing is, there is nothing among them
abbrev pub invariant-loop-redo : goal.invariant-loop-redo
invariant-loop-redo l =
    IfSome l.last (IsLastReached l.quorum (take l.redo-index l.redo-items) l.reached)
    × IfNone l.last (HasNoneReached l.quorum (take l.redo-index l.redo-items) l.reached)
