use Rattle.std.proofs.Common.{◌≡◌, length, drop}
use Rattle.text.specs.Parts.{parts_at}
use Rattle.script_text.specs.FactLine.{each_patch}
use Rattle.text.proofs.Loops.{with_front}
use Rattle.script_text.proofs.contents.each_patch.Given as goal

-- the patches so far, and then those of what is left
abbrev pub invariant-loop-piece : goal.invariant-loop-piece
invariant-loop-piece l = record {
  so_far : with_front l.patches.items (each_patch (parts_at 44 l.rest)) ≡ each_patch (parts_at 44 l.list);
  rest : parts_at 44 l.rest ≡ drop (length l.patches.items) (parts_at 44 l.list);
}

abbrev pub decreases-loop-piece : goal.decreases-loop-piece
decreases-loop-piece l = length l.rest
