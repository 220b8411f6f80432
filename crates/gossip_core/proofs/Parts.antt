-- Books and keys that are equal part by part, and where an anchor is.
use Rattle.std.proofs.Common.{ℕ, ◌≤◌}
use Rattle.redo_core.specs.Linked.Linked.{start}
use Rattle.segment_theorems.specs.State.{State}
use Rattle.segment_theorems.specs.HasMeaning.{HasAnchor}
use Rattle.segment_core.specs.Form.{IsSegment}

pub base_low : (s : State) (anchor : ℕ) → IsSegment s → HasAnchor s anchor → s.base ≤ anchor
base_low s anchor form has = has.1 s.base (start, form.base)
