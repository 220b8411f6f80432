use Rattle.std.proofs.Common.{◌≡◌, ◌++◌, take}
use Rattle.std.specs.List.{All, flat_map}
use Rattle.redo_wire.proofs.lists.put_list.Given as goal

-- the elements so far are written
abbrev pub invariant-loop-item : goal.invariant-loop-item
invariant-loop-item g l = record {
  written : l.out.items ≡ l.fn.out.items ++ flat_map (g.W.ListWriter.encode l.writer) (take l.item-index l.items);
  wire : All (g.W.ListWriter.fits l.writer) (take l.item-index l.items);
}
