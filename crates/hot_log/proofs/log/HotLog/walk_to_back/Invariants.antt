use Rattle.std.proofs.Common.{◌≡◌, ℕ}
use Rattle.std.specs.List.{Contains}
use Rattle.redo_core.specs.Data.{RecordData}
use Rattle.redo_core.specs.Keys.{key_in, key_of, KeyBefore}
use Rattle.hot_log.proofs.Climb.{above}
use Rattle.hot_log.proofs.log.HotLog.walk_to_back.Given as goal

-- no record with the backlink has a key up to this one
abbrev pub invariant-loop-key : goal.invariant-loop-key
invariant-loop-key l = record {
  above : (r : RecordData) → Contains l.self r → r.back ≡ l.back → KeyBefore l.fn.after (key_of r) → KeyBefore l.at (key_of r);
  later : (e n : ℕ) → KeyBefore l.at (key_in e n) → KeyBefore l.fn.after (key_in e n);
}

abbrev pub decreases-loop-key : goal.decreases-loop-key
decreases-loop-key l = above l.at l.self
