use Rattle.std.proofs.Common.{◌≤◌, take}
use Rattle.std.specs.List.{All}
use Rattle.segment_theorems.specs.State.{StoredImage}
use Rattle.segment_core.proofs.pending.top_in.Given as goal

-- no version so far is above the top
abbrev pub invariant-loop-image : goal.invariant-loop-image
invariant-loop-image l = record {
  floor : l.floor ≤ l.top;
  each : All (λ (i : StoredImage). i.version ≤ l.top) (take l.image-index l.images);
}
