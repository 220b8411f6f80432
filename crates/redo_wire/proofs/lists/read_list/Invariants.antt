use Rattle.std.proofs.Common.{◌≡◌, ◌-◌}
use Rattle.redo_wire.specs.Lists.{each_at}
use Rattle.redo_wire.proofs.Loops.{with_front}
use Rattle.redo_wire.proofs.lists.read_list.Given as goal

-- what was read and what is still read make up the whole list
abbrev pub invariant-loop : goal.invariant-loop
invariant-loop g l =
    with_front l.items.items (each_at (g.R.ListReader.step l.reader) g.R.ListReader.next (l.count - l.counter) l.state l.rest) ≡ each_at
    (g.R.ListReader.step l.reader) g.R.ListReader.next l.count l.fn.start l.bytes
