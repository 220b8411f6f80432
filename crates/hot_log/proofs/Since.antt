-- Searches upwards from an LSN, where no alive record above it is of an epoch before one.
use Rattle.std.proofs.Common.{◌≡◌, ℕ, ◌<◌, ◌≤◌, ⊎_elim, List, arith}
use Rattle.redo_core.specs.Data.{RecordData}
use Rattle.redo_core.specs.Keys.{key_in, key_of, KeyBefore}
use Rattle.redo_core.specs.declared.keys.Key.{Key}
use Rattle.redo_core.specs.Order.{PairBefore}
use Rattle.redo_core.proofs.Pairs.{pair_trans}
use Rattle.epoch_book.specs.Book.{BookData}
use Rattle.hot_log.specs.Held.{IsHeld}
use Rattle.hot_log.specs.Ahead.{AreOnward}
use Rattle.hot_log.specs.Alive.{HasNoneEarlier, IsHeldAlive, PartsAt, StartsAbove}
use Rattle.hot_log.specs.Indexing.{AreHeldAbove}
use Rattle.hot_log.proofs.Chain.{back_below}
use Rattle.hot_log.proofs.Climb.{Rest, alive_key, positive}
use Rattle.hot_log.proofs.Keyed.{Entry}
use Rattle.hot_log.proofs.Places.{pair_or_not}

-- ---- the key from which a search begins: that which parts the alive records at the LSN, or the first of the epoch
pub parting_starts : (b : BookData) (number since epoch : ℕ) → PartsAt b number epoch → StartsAbove b number since (key_in epoch number)
parting_starts b number since epoch parts = (λ e n a lt le. (parts.0 e n a).0 lt, λ e n a p. (parts.0 e n a).1 p)

in_epoch : (since e n : ℕ) → since ≤ e → 0 < n → PairBefore since 0 e n
in_epoch since e n le up = grind arith

pub first_starts : (b : BookData) (number since epoch : ℕ) → PartsAt b number epoch → ((PairBefore epoch number since 0 → ⊥) → ⊥) → StartsAbove b number since (key_in since 0)
first_starts b number since epoch parts up = (
  λ e n a lt le. in_epoch since e n le (omega arith),
  λ e n a p. (parts.0 e n a).1 (⊎_elim
      (λ (q : PairBefore epoch number since 0). pair_trans epoch number since 0 e n q p)
      (λ (no : PairBefore epoch number since 0 → ⊥). absurd (up no))
      (pair_or_not epoch number since 0)),
)

-- ---- what is alive above the LSN is above that key
pub none_above : (b : BookData) (held : List RecordData) (number above since : ℕ) → number ≤ above → HasNoneEarlier b held number since → HasNoneEarlier b held above since
none_above b held number above since le none r h lt = none r h (omega arith)

pub rest_since : (b : BookData) (held : List RecordData) (number since : ℕ) (at : Key) → StartsAbove b number since at → HasNoneEarlier b held number since
    → Rest b held (λ (r : RecordData). Unit {0}) number at
rest_since b held number since at starts none = record {
  above = λ r h a q lt. starts.0 r.epoch r.number a lt (none r (h, a) lt);
  low = λ e n a p. starts.1 e n a p;
}

pub onward_since : (b : BookData) (held : List RecordData) (number since : ℕ) (at : Key) (left : List Entry) → StartsAbove b number since at
    → HasNoneEarlier b held number since → AreHeldAbove held at left → AreOnward b held number left
onward_since b held number since at left starts none above = record {
  listed = λ r h lt. above.listed r h.0 (starts.0 r.epoch r.number h.1 lt (none r h lt));
  backed = λ e h a.
      let t = above.backed e h in
      let alive = alive_key b e.1 e.0 t.1 a in
      (e.1, (t.0, alive), t.1, starts.1 e.1.epoch e.1.number alive t.2);
  rising = above.rising;
}

-- a record with the LSN as its backlink
pub over_start : (b : BookData) (held : List RecordData) (back since : ℕ) (at : Key) → StartsAbove b back since at → HasNoneEarlier b held back since → IsHeld held
    → (r : RecordData) → IsHeldAlive b held r → r.back ≡ back → KeyBefore at (key_of r)
over_start b held back since at starts none form r h e =
    let up : r.back < r.number = back_below r (form.shaped r h.0) in
    let lt : back < r.number = omega arith in
    starts.0 r.epoch r.number h.1 lt (none r h lt)

pub over_first : (b : BookData) (held : List RecordData) (back since : ℕ) → HasNoneEarlier b held back since → IsHeld held → (r : RecordData) → IsHeldAlive b held r
    → r.back ≡ back → KeyBefore (key_in since 0) (key_of r)
over_first b held back since none form r h e =
    let up : r.back < r.number = back_below r (form.shaped r h.0) in
    in_epoch since r.epoch r.number (none r h (omega arith)) (positive r (form.shaped r h.0))
