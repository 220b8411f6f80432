use Rattle.std.proofs.Common.{◌≡◌, ℕ}
use Rattle.redo_core.specs.Data.{RecordData}
use Rattle.redo_core.specs.Keys.{key_in, key_of, KeyBefore}
use Rattle.hot_log.specs.Held.{IsHeld}
use Rattle.hot_log.specs.Alive.{IsHeldAlive}
use Rattle.hot_log.proofs.Climb.{above}
use Rattle.hot_log.proofs.view.BookView.alive_of_back.Given as goal

-- no alive record with the backlink has a key up to this one
abbrev pub invariant-loop-key : goal.invariant-loop-key
invariant-loop-key l = record {
  above : IsHeld l.self.held.now → (r : RecordData) → IsHeldAlive l.self.book.now l.self.held.now r → r.back ≡ l.back → KeyBefore l.fn.after (key_of r) → KeyBefore l.at (key_of r);
  later : (e n : ℕ) → KeyBefore l.at (key_in e n) → KeyBefore l.fn.after (key_in e n);
}

abbrev pub decreases-loop-key : goal.decreases-loop-key
decreases-loop-key l = above l.at l.self.held.now
