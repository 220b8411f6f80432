-- What keeps an index the index of the stored records.
use Rattle.std.proofs.Common.{◌≡◌, ℕ, ◌≤◌, ◌⊎◌, ◌↔◌, inl, inr, ⊎_elim, List, refl, sym, ◌∙◌, ap, subst, Option, Some, None, Bool, true, false, Result, rules}
use Rattle.std.specs.Result.{is_err, OnOk, OnErr}
use Rattle.std.specs.List.{Contains}
use Rattle.redo_core.specs.Data.{RecordData}
use Rattle.redo_core.specs.Keys.{key_in, key_of, KeyBefore}
use Rattle.redo_core.specs.declared.keys.Key.{Key}
use Rattle.redo_core.specs.Order.{IsRising, RecordBefore}
use Rattle.redo_core.proofs.Rising.{rising_members}
use Rattle.hot_log.specs.Held.{IsHeld, HasKey, IsRecordAt, IsAbove, IsKeyAfter, IsKeyTo, IsGreatestHeld}
use Rattle.hot_log.specs.Removing.{Removes}
use Rattle.hot_log.specs.Indexing.{IndexData, GainsKey, LosesKey, IsIndexBy, IsIndexOf, IsNextKey, IsLastKey, IsNextHeld, IsLastHeld, GainsEntry, LosesEntry, IsUnderKey, IsAboveKey, IsLeastKey, IsKeyRecords, IsGreatestKey, IsGreatestOf}
use Rattle.hot_log.proofs.Keys.{pair_not_same}
use Rattle.hot_log.proofs.Places.{Place}
use Rattle.hot_log.proofs.Paged.{place_as}

-- a key belongs to one record
pub one_key : (held : List RecordData) → IsRising RecordBefore held → (r s : RecordData) → Contains held r → Contains held s → r.epoch ≡ s.epoch → r.number ≡ s.number → r ≡ s
one_key held rising r s h k e n =
    ⊎_elim
    (λ (u : r ≡ s). u)
    (λ (u : RecordBefore r s ⊎ RecordBefore s r). absurd (⊎_elim
    (λ (v : RecordBefore r s). pair_not_same r.epoch r.number s.epoch s.number v e n)
    (λ (v : RecordBefore s r). pair_not_same s.epoch s.number r.epoch r.number v (sym e) (sym n))
    u))
    (rising_members RecordBefore held r s rising h k)

-- one more record, one more key
pub index_grows : (old new : List RecordData) (backs more : IndexData) (redo : RecordData) (g e n : ℕ) → IsIndexOf old backs → ((r : RecordData) → Contains new r ↔ (Contains old r ⊎ (r ≡ redo))) → g ≡ redo.back → e ≡ redo.epoch → n ≡ redo.number → GainsKey backs g (key_in e n) more → IsIndexOf new more
index_grows old new backs more redo g e n is grows p q r gains = record {
  listed = λ s h low. ⊎_elim
      (λ (u : Contains old s). (gains.keys (s.back, key_of s)).1 (inl (is.listed s u (subst (λ (x : ℕ). x ≤ s.back) gains.start low))))
      (λ (u : s ≡ redo). let at : s.back ≡ g = ap (λ (x : RecordData). x.back) u ∙ sym p in (gains.keys (s.back, key_of s)).1 (inr (
        subst (λ (x : ℕ). backs.start ≤ x) at (subst (λ (x : ℕ). x ≤ s.back) gains.start low),
        place_as s.back s.epoch s.number g e n at (ap (λ (x : RecordData). x.epoch) u ∙ sym q) (ap (λ (x : RecordData). x.number) u ∙ sym r),
      )))
      ((grows s).0 h);
  backed = λ h a b k. ⊎_elim
      (λ (u : Contains backs.keys (h, key_in a b)). let t = is.backed h a b u in (t.0, (grows t.0).1 (inl t.1), t.2, t.3))
      (λ (u : (backs.start ≤ g) × ((h, key_in a b) ≡ (g, key_in e n))). (
        redo,
        (grows redo).1 (inr refl),
        sym (ap (λ (x : Place). x.0) u.1 ∙ p),
        (sym (ap (λ (x : Place). x.1.epoch) u.1 ∙ q), sym (ap (λ (x : Place). x.1.number) u.1 ∙ r)),
      ))
      ((gains.keys (h, key_in a b)).0 k);
}

-- a key that was added and taken out again
pub index_undone : (held : List RecordData) (backs more back : IndexData) (redo : RecordData) (g e n : ℕ) → IsIndexOf held backs → IsRecordAt held (key_of redo) None → e ≡ redo.epoch → n ≡ redo.number → GainsKey backs g (key_in e n) more → LosesKey more g (key_in e n) back → IsIndexOf held back
index_undone held backs more back redo g e n is free q r gains loses = record {
  listed = λ s h low. (loses.keys (s.back, key_of s)).1 (
    (gains.keys (s.back, key_of s)).1 (inl (is.listed s h (subst (λ (x : ℕ). x ≤ s.back) (loses.start ∙ gains.start) low))),
    λ u. free s h (ap (λ (x : Place). x.1.epoch) u ∙ q, ap (λ (x : Place). x.1.number) u ∙ r),
  );
  backed = λ h a b k.
      let l = (loses.keys (h, key_in a b)).0 k in
      ⊎_elim
      (λ (u : Contains backs.keys (h, key_in a b)). is.backed h a b u)
      (λ (u : (backs.start ≤ g) × ((h, key_in a b) ≡ (g, key_in e n))). absurd (l.1 u.1))
      ((gains.keys (h, key_in a b)).0 l.0);
}

-- one record less, one key less
pub index_shrinks : (old new : List RecordData) (backs less : IndexData) (redo : RecordData) (g e n : ℕ) → IsHeld old → IsIndexOf old backs → Contains old redo → HasKey (key_in e n) redo → g ≡ redo.back → Removes (HasKey (key_in e n)) old new → LosesKey backs g (key_in e n) less → IsIndexOf new less
index_shrinks old new backs less redo g e n form is among key p removes loses = record {
  listed = λ s h low.
      let t = (removes s).0 h in
      (loses.keys (s.back, key_of s)).1 (
        is.listed s t.0 (subst (λ (x : ℕ). x ≤ s.back) loses.start low),
        λ u. t.1 (ap (λ (x : Place). x.1.epoch) u, ap (λ (x : Place). x.1.number) u),
      );
  backed = λ h a b k.
      let l = (loses.keys (h, key_in a b)).0 k in
      let t = is.backed h a b l.0 in
      let other : HasKey (key_in e n) t.0 → ⊥ = λ same.
      let it : t.0 ≡ redo = one_key old form.rising t.0 redo t.1 among (same.0 ∙ sym key.0) (same.1 ∙ sym key.1) in
      l.1 (place_as h a b g e n (sym t.2 ∙ ap (λ (x : RecordData). x.back) it ∙ sym p) (sym t.3.0 ∙ same.0) (sym t.3.1 ∙ same.1)) in
      (t.0, (removes t.0).1 (t.1, other), t.2, t.3);
}

pub removes_none : (held : List RecordData) (e n : ℕ) → IsRecordAt held (key_in e n) None → Removes (HasKey (key_in e n)) held held
removes_none held e n none r = (λ h. (h, λ k. none r h k), λ h. h.0)

pub on_ok : {T E : Type 0} (r : Result T E) (b : Bool) (P : Type 0) → b ≡ is_err r → b ≡ false → OnOk r P → P
on_ok r b P e f h = search rules

pub on_err : {T E : Type 0} (r : Result T E) (b : Bool) (P : Type 0) → b ≡ is_err r → b ≡ true → OnErr r P → P
on_err r b P e f h = search rules

pub none_for : (held : List RecordData) (e n a b : ℕ) → e ≡ a → n ≡ b → IsRecordAt held (key_in e n) None → IsRecordAt held (key_in a b) None
none_for held e n a b p q none r h key = none r h (key.0 ∙ sym p, key.1 ∙ sym q)

pub next_held : (f : RecordData → ℕ) (held : List RecordData) (keys : List Place) (g : ℕ) (after : Key) (o : Option Key) → IsIndexBy f held keys → IsNextKey keys g after o → IsNextHeld f held g after o
next_held f held keys g after None is next = λ r h e p. next r.epoch r.number (subst (λ (x : ℕ). Contains keys (x, key_of r)) e (is.listed r h)) p
next_held f held keys g after (Some key) is next =
    let t = is.backed g key.epoch key.number next.0 in
    let up : KeyBefore after (key_of t.0) = subst (λ (x : ℕ). KeyBefore after (key_in x t.0.number)) (sym t.3.0) (subst (λ (x : ℕ). KeyBefore after (key_in key.epoch x)) (sym t.3.1) next.1) in (
      (t.0, t.1, t.2, t.3, up),
      λ r h e p. next.2 r.epoch r.number (subst (λ (x : ℕ). Contains keys (x, key_of r)) e (is.listed r h)) p,
    )

-- in a group that the index does not leave out, it has the keys of all records
listed_at : (held : List RecordData) (backs : IndexData) (g : ℕ) → backs.start ≤ g → IsIndexOf held backs → (r : RecordData) → Contains held r → r.back ≡ g → Contains backs.keys (g, key_of r)
listed_at held backs g low is r h e = subst (λ (x : ℕ). Contains backs.keys (x, key_of r)) e (is.listed r h (subst (λ (x : ℕ). backs.start ≤ x) (sym e) low))

pub next_from : (held : List RecordData) (backs : IndexData) (g : ℕ) (after : Key) (o : Option Key) → backs.start ≤ g → IsIndexOf held backs → IsNextKey backs.keys g after o → IsNextHeld (λ r. r.back) held g after o
next_from held backs g after None low is next = λ r h e p. next r.epoch r.number (listed_at held backs g low is r h e) p
next_from held backs g after (Some key) low is next =
    let t = is.backed g key.epoch key.number next.0 in
    let up : KeyBefore after (key_of t.0) = subst (λ (x : ℕ). KeyBefore after (key_in x t.0.number)) (sym t.3.0) (subst (λ (x : ℕ). KeyBefore after (key_in key.epoch x)) (sym t.3.1) next.1) in (
      (t.0, t.1, t.2, t.3, up),
      λ r h e p. next.2 r.epoch r.number (listed_at held backs g low is r h e) p,
    )

pub last_held : (f : RecordData → ℕ) (held : List RecordData) (keys : List Place) (g : ℕ) (to : Key) (o : Option Key) → IsIndexBy f held keys → IsLastKey keys g to o → IsLastHeld f held g to o
last_held f held keys g to None is last = λ r h e. last r.epoch r.number (subst (λ (x : ℕ). Contains keys (x, key_of r)) e (is.listed r h))
last_held f held keys g to (Some key) is last =
    let t = is.backed g key.epoch key.number last.0 in
    let down : KeyBefore to (key_of t.0) → ⊥ = subst (λ (x : ℕ). KeyBefore to (key_in x t.0.number) → ⊥) (sym t.3.0) (subst (λ (x : ℕ). KeyBefore to (key_in key.epoch x) → ⊥) (sym t.3.1) last.1) in (
      (t.0, t.1, t.2, t.3, down),
      λ r h e p. last.2 r.epoch r.number (subst (λ (x : ℕ). Contains keys (x, key_of r)) e (is.listed r h)) p,
    )

-- the records of keys: one more, one that was added and taken out again, one less
entry_as : (e n a b : ℕ) (r s : RecordData) → e ≡ a → n ≡ b → r ≡ s → ◌≡◌ {A = Key × RecordData} (key_in e n, r) (key_in a b, s)
entry_as e n a b r s x y z = cc

pub entries_grow : (old new : List RecordData) (keys more : List (Key × RecordData)) (redo : RecordData) (e n : ℕ) → IsKeyRecords old keys → ((r : RecordData) → Contains new r ↔ (Contains old r ⊎ (r ≡ redo))) → e ≡ redo.epoch → n ≡ redo.number → GainsEntry keys (key_in e n) redo more → IsKeyRecords new more
entries_grow old new keys more redo e n is grows x y gains = record {
  listed = λ s h. ⊎_elim
      (λ (u : Contains old s). (gains (key_of s, s)).1 (inl (is.listed s u)))
      (λ (u : s ≡ redo). (gains (key_of s, s)).1 (inr (entry_as s.epoch s.number e n s redo
      (ap (λ (r : RecordData). r.epoch) u ∙ sym x) (ap (λ (r : RecordData). r.number) u ∙ sym y) u)))
      ((grows s).0 h);
  backed = λ a b s h. ⊎_elim
      (λ (u : Contains keys (key_in a b, s)). let t = is.backed a b s u in ((grows s).1 (inl t.0), t.1))
      (λ (u : (key_in a b, s) ≡ (key_in e n, redo)).
      let same : s ≡ redo = ap (λ (w : Key × RecordData). w.1) u in (
        (grows s).1 (inr same),
        (
          ap (λ (r : RecordData). r.epoch) same ∙ sym (ap (λ (w : Key × RecordData). w.0.epoch) u ∙ x),
          ap (λ (r : RecordData). r.number) same ∙ sym (ap (λ (w : Key × RecordData). w.0.number) u ∙ y),
        ),
      ))
      ((gains (key_in a b, s)).0 h);
}

pub entries_undone : (held : List RecordData) (keys more back : List (Key × RecordData)) (redo : RecordData) (e n : ℕ) → IsKeyRecords held keys → IsRecordAt held (key_of redo) None → e ≡ redo.epoch → n ≡ redo.number → GainsEntry keys (key_in e n) redo more → LosesEntry more (key_in e n) back → IsKeyRecords held back
entries_undone held keys more back redo e n is free x y gains loses = record {
  listed = λ s h. (loses (key_of s, s)).1 (
    (gains (key_of s, s)).1 (inl (is.listed s h)),
    λ u. free s h (ap (λ (k : Key). k.epoch) u ∙ x, ap (λ (k : Key). k.number) u ∙ y),
  );
  backed = λ a b s h.
      let l = (loses (key_in a b, s)).0 h in
      ⊎_elim
      (λ (u : Contains keys (key_in a b, s)). is.backed a b s u)
      (λ (u : (key_in a b, s) ≡ (key_in e n, redo)). absurd (l.1 (ap (λ (w : Key × RecordData). w.0) u)))
      ((gains (key_in a b, s)).0 l.0);
}

pub entries_shrink : (old new : List RecordData) (keys less : List (Key × RecordData)) (e n : ℕ) → IsKeyRecords old keys → Removes (HasKey (key_in e n)) old new → LosesEntry keys (key_in e n) less → IsKeyRecords new less
entries_shrink old new keys less e n is removes loses = record {
  listed = λ s h.
      let t = (removes s).0 h in
      (loses (key_of s, s)).1 (is.listed s t.0, λ u. t.1 (ap (λ (k : Key). k.epoch) u, ap (λ (k : Key). k.number) u));
  backed = λ a b s h.
      let l = (loses (key_in a b, s)).0 h in
      let t = is.backed a b s l.0 in
      let key : key_of s ≡ key_in a b = ap (λ (x : ℕ). key_in x s.number) t.1.0 ∙ ap (λ (x : ℕ). key_in a x) t.1.1 in
      ((removes s).1 (t.0, λ k. l.1 (sym key ∙ ap (λ (x : ℕ). key_in x s.number) k.0 ∙ ap (λ (x : ℕ). key_in e x) k.1)), t.1);
}

-- what is under a key is the record of the key
pub stored_at : (held : List RecordData) (keys : List (Key × RecordData)) (e n : ℕ) (o : Option RecordData) → IsKeyRecords held keys → IsUnderKey keys (key_in e n) o → IsRecordAt held (key_in e n) o
stored_at held keys e n None is none = λ r h k. none r (subst (λ (x : ℕ). Contains keys (key_in x n, r)) k.0 (subst (λ (x : ℕ). Contains keys (key_in r.epoch x, r)) k.1 (is.listed r h)))
stored_at held keys e n (Some r) is at = is.backed e n r at

pub removes_key : (old new : List RecordData) (keys : List (Key × RecordData)) (e n page : ℕ) (redo : RecordData) → IsHeld old → IsKeyRecords old keys → IsUnderKey keys (key_in e n) (Some redo) → page ≡ redo.page → Removes (λ r. (r.page ≡ page) × HasKey (key_in e n) r) old new → Removes (HasKey (key_in e n)) old new
removes_key old new keys e n page redo form is at same removes r = (
  λ h.
      let t = (removes r).0 h in
      let own = is.backed e n redo at in
      (t.0, λ k. t.1 (ap (λ (x : RecordData). x.page) (one_key old form.rising r redo t.0 own.0 (k.0 ∙ sym own.1.0) (k.1 ∙ sym own.1.1)) ∙ sym same, k)),
  λ h. (removes r).1 (h.0, λ k. h.1 k.1),
)

-- the least key above one
key_above : (after : Option Key) (r : RecordData) → IsAbove after r → IsAboveKey after r.epoch r.number
key_above after r h = search rules

above_key : (after : Option Key) (r : RecordData) (e n : ℕ) → HasKey (key_in e n) r → IsAboveKey after e n → IsAbove after r
above_key after r e n k h = search rules

pub key_held : (held : List RecordData) (keys : List (Key × RecordData)) (after o : Option Key) → IsKeyRecords held keys → IsLeastKey keys after o → IsKeyAfter held after o
key_held held keys after None is least = λ r h up. least r.epoch r.number r (is.listed r h) (key_above after r up)
key_held held keys after (Some key) is least =
    let t = is.backed key.epoch key.number least.0.0 least.0.1 in (
      (least.0.0, t.0, t.1, above_key after least.0.0 key.epoch key.number t.1 least.0.2),
      λ r h up. least.1 r.epoch r.number r (is.listed r h) (key_above after r up),
    )

pub key_held_to : (held : List RecordData) (keys : List (Key × RecordData)) (to : Key) (o : Option Key) → IsKeyRecords held keys → IsGreatestKey keys to o → IsKeyTo held to o
key_held_to held keys to None is greatest = λ r h. greatest r.epoch r.number r (is.listed r h)
key_held_to held keys to (Some key) is greatest =
    let t = is.backed key.epoch key.number greatest.0.0 greatest.0.1 in (
      (greatest.0.0, t.0, t.1, λ p. greatest.0.2 (subst (λ (x : ℕ). KeyBefore to (key_in x key.number)) t.1.0 (subst (λ (x : ℕ). KeyBefore to (key_in greatest.0.0.epoch x)) t.1.1 p))),
      λ r h not. greatest.1 r.epoch r.number r (is.listed r h) not,
    )

pub greatest_held : (held : List RecordData) (keys : List (Key × RecordData)) (o : Option Key) → IsKeyRecords held keys → IsGreatestOf keys o → IsGreatestHeld held o
greatest_held held keys None is none = λ r h. none r.epoch r.number r (is.listed r h)
greatest_held held keys (Some key) is greatest =
    let t = is.backed key.epoch key.number greatest.0.0 greatest.0.1 in
    ((greatest.0.0, t.0, t.1), λ r h. greatest.1 r.epoch r.number r (is.listed r h))
