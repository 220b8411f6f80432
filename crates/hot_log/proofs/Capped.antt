-- Keys with an LSN that no record has, beside the keys of records.
use Rattle.std.proofs.Common.{◌≡◌, ℕ, ◌<◌, ◌≤◌, ◌↔◌, List, Option, Some, None, sym, subst, arith, rules}
use Rattle.std.specs.List.{Contains}
use Rattle.redo_core.specs.Data.{RecordData}
use Rattle.redo_core.specs.Keys.{key_in, key_of, KeyBefore}
use Rattle.redo_core.specs.Order.{Lists}
use Rattle.redo_core.proofs.Listing.{lists_as}
use Rattle.redo_core.specs.Shape.{max_number, record_fault}
use Rattle.redo_core.specs.declared.keys.Key.{Key}
use Rattle.epoch_book.specs.Book.{BookData}
use Rattle.hot_log.specs.Alive.{IsAliveBetween}
use Rattle.hot_log.specs.Held.{IsHeld, IsRecordAt, IsKeyAfter, IsKeyTo}
use Rattle.hot_log.specs.Indexing.{IsNextHeld, IsLastHeld, IsNextRecord, IsLastRecord, IsKeyRecords, AreHeldAbove}
use Rattle.hot_log.specs.Kept.{IsKeyKept}
use Rattle.hot_log.specs.Packed.{capped}
use Rattle.hot_log.specs.Removing.{RemovesRow}

pub small : (r : RecordData) → record_fault r ≡ None → r.number ≤ max_number
small r shaped = search (rules, shaped)

-- the same keys of records are above a key and above the capped one
pub above_capped : (k : Key) (e n : ℕ) → n ≤ max_number → KeyBefore k (key_in e n) → KeyBefore (capped k) (key_in e n)
above_capped k e n fits h = grind arith

pub above_given : (k : Key) (e n : ℕ) → n ≤ max_number → KeyBefore (capped k) (key_in e n) → KeyBefore k (key_in e n)
above_given k e n fits h = grind arith

above : (held : List RecordData) (k p : Key) → IsHeld held → p ≡ capped k → (r : RecordData) → Contains held r → KeyBefore k (key_of r) → KeyBefore p (key_of r)
above held k p form is r h a = subst (λ (q : Key). KeyBefore q (key_of r)) (sym is) (above_capped k r.epoch r.number (small r (form.shaped r h)) a)

given : (held : List RecordData) (k p : Key) → IsHeld held → p ≡ capped k → (r : RecordData) → Contains held r → KeyBefore p (key_of r) → KeyBefore k (key_of r)
given held k p form is r h a = above_given k r.epoch r.number (small r (form.shaped r h)) (subst (λ (q : Key). KeyBefore q (key_of r)) is a)

-- no record has a key with a higher LSN
pub none_exact : (held : List RecordData) (k : Key) → IsHeld held → max_number < k.number → IsRecordAt held k None
none_exact held k form high r h at = let t = small r (form.shaped r h) in omega (arith, t, at.1)

pub next_given : (group : RecordData → ℕ) (held : List RecordData) (g : ℕ) (k p : Key) (o : Option Key) → IsHeld held → p ≡ capped k → IsNextHeld group held g p o → IsNextHeld group held g k o
next_given group held g k p None form is none = λ r h at a. none r h at (above held k p form is r h a)
next_given group held g k p (Some key) form is (found, least) = (
  (found.0, found.1, found.2, found.3, given held k p form is found.0 found.1 found.4),
  λ r h at a. least r h at (above held k p form is r h a),
)

pub last_given : (group : RecordData → ℕ) (held : List RecordData) (g : ℕ) (k p : Key) (o : Option Key) → IsHeld held → p ≡ capped k → IsLastHeld group held g p o → IsLastHeld group held g k o
last_given group held g k p None form is none = λ r h at. given held k p form is r h (none r h at)
last_given group held g k p (Some key) form is (found, most) = (
  (found.0, found.1, found.2, found.3, λ a. found.4 (above held k p form is found.0 found.1 a)),
  λ r h at up. most r h at (λ a. up (given held k p form is r h a)),
)

pub next_record_given : (held : List RecordData) (page : ℕ) (k p : Key) (o : Option RecordData) → IsHeld held → p ≡ capped k → IsNextRecord held page p o → IsNextRecord held page k o
next_record_given held page k p None form is none = next_given (λ r. r.page) held page k p None form is none
next_record_given held page k p (Some r) form is (h, next) = (h, next_given (λ r. r.page) held page k p (Some (key_of r)) form is next)

pub last_record_given : (held : List RecordData) (page : ℕ) (k p : Key) (o : Option RecordData) → IsHeld held → p ≡ capped k → IsLastRecord held page p o → IsLastRecord held page k o
last_record_given held page k p None form is none = last_given (λ r. r.page) held page k p None form is none
last_record_given held page k p (Some r) form is (h, last) = (h, last_given (λ r. r.page) held page k p (Some (key_of r)) form is last)

pub key_given : (held : List RecordData) (k p : Key) (o : Option Key) → IsHeld held → p ≡ capped k → IsKeyAfter held (Some p) o → IsKeyAfter held (Some k) o
key_given held k p None form is none = λ r h a. none r h (above held k p form is r h a)
key_given held k p (Some key) form is (found, least) = (
  (found.0, found.1, found.2, given held k p form is found.0 found.1 found.3),
  λ r h a. least r h (above held k p form is r h a),
)

pub key_to_given : (held : List RecordData) (k p : Key) (o : Option Key) → IsHeld held → p ≡ capped k → IsKeyTo held p o → IsKeyTo held k o
key_to_given held k p None form is none = λ r h. given held k p form is r h (none r h)
key_to_given held k p (Some key) form is (found, most) = (
  (found.0, found.1, found.2, λ a. found.3 (above held k p form is found.0 found.1 a)),
  λ r h up. most r h (λ a. up (given held k p form is r h a)),
)

pub above_given_held : (held : List RecordData) (k p : Key) (above_p : List (Key × RecordData)) → IsHeld held → p ≡ capped k → AreHeldAbove held p above_p → AreHeldAbove held k above_p
above_given_held held k p above_p form is a = record {
  listed = λ r h b. a.listed r h (above held k p form is r h b);
  backed = λ e h. let t = a.backed e h in (t.0, t.1, given held k p form is e.1 t.0 t.2);
  rising = a.rising;
}

-- the alive records of a page between two keys are those between the capped ones
pub between_given : (b : BookData) (held : List RecordData) (page : ℕ) (k l p q : Key) → IsHeld held → p ≡ capped k → q ≡ capped l → (r : RecordData) → IsAliveBetween b held page p q r → IsAliveBetween b held page k l r
between_given b held page k l p q form is to r (alive, low, up) = (alive, given held k p form is r alive.0 low, λ a. up (above held l q form to r alive.0 a))

pub between_capped : (b : BookData) (held : List RecordData) (page : ℕ) (k l p q : Key) → IsHeld held → p ≡ capped k → q ≡ capped l → (r : RecordData) → IsAliveBetween b held page k l r → IsAliveBetween b held page p q r
between_capped b held page k l p q form is to r (alive, low, up) = (alive, above held k p form is r alive.0 low, λ a. up (given held l q form to r alive.0 a))

pub row_given : (b : BookData) (held left : List RecordData) (page : ℕ) (k l p q last : Key) → IsHeld held → p ≡ capped k → q ≡ capped l → RemovesRow b page p q held left (Some last) → RemovesRow b page k l held left (Some last)
row_given b held left page k l p q last form is to (removes, row) = (
  λ r. (
    λ h. let t = (removes r).0 h in (t.0, λ gone. t.1 (gone.0, above held k p form is r t.0 gone.1, gone.2)),
    λ h. (removes r).1 (h.0, λ gone. h.1 (gone.0, given held k p form is r h.0 gone.1, gone.2)),
  ),
  (row.0, between_given b held page k l p q form is to row.0 row.1, row.2),
)

pub between_same : (b : BookData) (held : List RecordData) (page : ℕ) (k l p q : Key) → IsHeld held → p ≡ capped k → q ≡ capped l → (r : RecordData) → IsAliveBetween b held page p q r ↔ IsAliveBetween b held page k l r
between_same b held page k l p q form is to r = (between_given b held page k l p q form is to r, between_capped b held page k l p q form is to r)

-- a key that is there is that of a record
listed_fits : (held : List RecordData) (keys : List (Key × RecordData)) (x : Key) (redo : RecordData) → IsHeld held → IsKeyRecords held keys → Contains keys (x, redo) → x.number ≤ max_number
listed_fits held keys x redo form listed h =
    let t = listed.backed x.epoch x.number redo h in
    let low = small redo (form.shaped redo t.0) in
    omega (arith, low, t.1.1)

pub kept_given : (b : BookData) (held : List RecordData) (keys : List (Key × RecordData)) (point : ℕ) (k p : Key) (xs : List Key) → IsHeld held → IsKeyRecords held keys → p ≡ capped k
    → Lists KeyBefore (IsKeyKept b keys p point) xs → Lists KeyBefore (IsKeyKept b keys k point) xs
kept_given b held keys point k p xs form listed is lists =
    lists_as KeyBefore (IsKeyKept b keys p point) (IsKeyKept b keys k point) xs
    (λ x. (
      λ h. (h.0, above_given k x.epoch x.number (listed_fits held keys x h.0.0 form listed h.0.1) (subst (λ (q : Key). KeyBefore q x) is h.1), h.2),
      λ h. (h.0, subst (λ (q : Key). KeyBefore q x) (sym is) (above_capped k x.epoch x.number (listed_fits held keys x h.0.0 form listed h.0.1) h.1), h.2),
    ))
    lists
