use Rattle.std.proofs.Common.{◌≡◌, ◌++◌, length}
use Rattle.sorted_runs.specs.Rows.{entries}
use Rattle.sorted_runs.proofs.entries.EntriesDoubleEndedIterator.next_back.Given as goal

-- no entry is lost or added where a run becomes a part of its own
abbrev pub invariant-loop-entry : goal.invariant-loop-entry
invariant-loop-entry g l =
    l.self-inside.front.now ++ (entries l.self-inside.middle.now ++ l.self-inside.back.now) ≡ l.initial.self-inside.front.now ++ (entries l.initial.self-inside.middle.now ++ l.initial.self-inside.back.now)

abbrev pub decreases-loop-entry : goal.decreases-loop-entry
decreases-loop-entry g l = length l.self-inside.middle.now
