-- The meaning that clauses for arbitrary facts refer to exists.
use Rattle.std.specs.Prelude.{◌≡◌}
use Rattle.redo_core.specs.Meaning.{Meaning}
use Rattle.segment_theorems.specs.State.{State}
use Rattle.segment_theorems.specs.HasMeaning.{HasMeaning}
use Rattle.segment_core.specs.Form.{IsSegment}

-- Whatever facts reached it, a segment has exactly one meaning by itself.
abbrev pub EverySegmentHasOneMeaning : Type 0
EverySegmentHasOneMeaning = (s : State) → IsSegment s → (m : Meaning) × HasMeaning s m × ((n : Meaning) → HasMeaning s n → n ≡ m)
