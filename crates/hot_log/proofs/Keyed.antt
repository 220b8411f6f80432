-- The records of keys.
use Rattle.std.proofs.Common.{◌≡◌, ℕ, ◌⊎◌, ◌↔◌, inl, inr, ⊎_elim, List, [], ◌∷◌, sym, ap, subst, Option, Some, None, ◌++◌, Bool, true}
use Rattle.std.specs.List.{Contains, filter}
use Rattle.std.specs.declared.cmp.Ordering.TheVariants.{Less}
use Rattle.std.specs.declared.ops.Bound.TheVariants.{Excluded, Unbounded, Included}
use Rattle.std.specs.BTreeMap.{is_at, insert_entry}
use Rattle.std.specs.Map.{keys_of, lookup, remove_entry}
use Rattle.std.specs.List.Sorted.{IsStrictlySortedBy}
use Rattle.std.specs.BTreeMap.Range.{range_contains}
use Rattle.redo_core.specs.Data.{RecordData}
use Rattle.redo_core.specs.Order.{IsRising}
use Rattle.redo_core.specs.Keys.{key_in, key_cmp, KeyBefore}
use Rattle.redo_core.specs.declared.keys.Key.{Key}
use Rattle.redo_core.proofs.Members.{none_in, here, which, each, filtered, passed}
use Rattle.redo_core.proofs.Rising.{rising_filter}
use Rattle.hot_log.specs.Indexing.{GainsEntry, AreAbove, LosesEntry, IsUnderKey, IsLeastKey, IsGreatestKey, IsGreatestOf}
use Rattle.hot_log.proofs.Maps.{rising_entries, held_at, at_key, joins, shrunk, lt_true, lt_of}
use Rattle.hot_log.proofs.Orders.{keys_exact, key_less, key_less_of, first_kept, none_kept, last_kept, last_of}
use Rattle.hot_log.proofs.Places.{not_lt_true, not_lt_of, pair_or_not}

abbrev pub Entry : Type 0
Entry = Key × RecordData

abbrev pub Map : Type 0
Map = List Entry

pub entry_at : (m : Map) → IsStrictlySortedBy key_cmp (keys_of m) → (key : Key) (o : Option RecordData) → o ≡ lookup (is_at (key_cmp key)) m → IsUnderKey m key o
entry_at m ordered key None e = λ redo h. let found : lookup (is_at (key_cmp key)) m ≡ Some redo = (held_at key_cmp keys_exact m ordered key redo).1 h in cc
entry_at m ordered key (Some redo) e = (held_at key_cmp keys_exact m ordered key redo).0 (sym e)

-- a new key and its record join the entries
pub joins_entry : (old new : Map) (key : Key) (redo : RecordData) → IsUnderKey old key None → new ≡ insert_entry key_cmp old key redo → GainsEntry old key redo new
joins_entry old new key redo is gains e = subst (λ (l : List Entry). Contains l e ↔ (Contains old e ⊎ (e ≡ (key, redo)))) (sym gains)
    (joins key_cmp old key redo (λ y h q. is y.1 (subst (λ (k : Key). Contains old (k, y.1)) ((at_key key_cmp keys_exact key y.0).0 q) h)) e)

pub entries_lose : (old new : Map) (key : Key) → IsStrictlySortedBy key_cmp (keys_of old) → new ≡ remove_entry (is_at (key_cmp key)) old → LosesEntry old key new
entries_lose old new key ordered is e =
    let moved = shrunk key_cmp keys_exact old key ordered e in (
      λ h. let u = moved.0 (subst (λ (l : List Entry). Contains l e) is h) in (u.1, u.0),
      λ h. subst (λ (l : List Entry). Contains l e) (sym is) (moved.1 (h.1, h.0)),
    )

pub none_above : (m : Map) (after : Key) → filter (λ (e : Entry). range_contains key_cmp (Excluded after) Unbounded e.0) m ≡ [] → IsLeastKey m (Some after) None
none_above m after is e n redo h up =
    none_kept (λ (e : Entry). range_contains key_cmp (Excluded after) Unbounded e.0) m is (key_in e n, redo) h (lt_of (key_cmp after (key_in e n)) (key_less_of after (key_in e n) up))

pub next_above : (m : Map) (after : Key) (x : Entry) (t : List Entry) → IsStrictlySortedBy key_cmp (keys_of m) → filter (λ (e : Entry). range_contains key_cmp (Excluded after) Unbounded e.0) m ≡ x ∷ t → IsLeastKey m (Some after) (Some x.0)
next_above m after x t ordered is =
    let f = first_kept (λ (x y : Entry). key_cmp x.0 y.0 ≡ Less) (λ (e : Entry). range_contains key_cmp (Excluded after) Unbounded e.0) m x t (rising_entries key_cmp m ordered) is in (
      (x.1, f.0, key_less after x.0 (lt_true (key_cmp after x.0) f.1)),
      λ e n redo h up. ⊎_elim
          (λ (u : x ≡ (key_in e n, redo)). inl (ap (λ (y : Entry). y.0.epoch) (sym u), ap (λ (y : Entry). y.0.number) (sym u)))
          (λ (u : key_cmp x.0 (key_in e n) ≡ Less). inr (key_less x.0 (key_in e n) u))
          (f.2 (key_in e n, redo) h (lt_of (key_cmp after (key_in e n)) (key_less_of after (key_in e n) up))),
    )

pub no_first : (m : Map) → m ≡ [] → IsLeastKey m None None
no_first m is e n redo h up = none_in (key_in e n, redo) (subst (λ (l : List Entry). Contains l (key_in e n, redo)) is h)

pub first_of : (m : Map) (x : Entry) (t : List Entry) → IsStrictlySortedBy key_cmp (keys_of m) → m ≡ x ∷ t → IsLeastKey m None (Some x.0)
first_of m x t ordered is =
    let rising : IsRising (λ (x y : Entry). key_cmp x.0 y.0 ≡ Less) (x ∷ t) = subst (IsRising (λ (x y : Entry). key_cmp x.0 y.0 ≡ Less)) is (rising_entries key_cmp m ordered) in (
      (x.1, subst (λ (l : List Entry). Contains l x) (sym is) (here x t), tt),
      λ e n redo h up. ⊎_elim
          (λ (u : x ≡ (key_in e n, redo)). inl (ap (λ (y : Entry). y.0.epoch) (sym u), ap (λ (y : Entry). y.0.number) (sym u)))
          (λ (u : Contains t (key_in e n, redo)). inr (key_less x.0 (key_in e n) (each (λ (y : Entry). key_cmp x.0 y.0 ≡ Less) t (key_in e n, redo) rising.0 u)))
          (which x t (key_in e n, redo) (subst (λ (l : List Entry). Contains l (key_in e n, redo)) is h)),
    )

-- the keys up to one
kept_to : (to : Key) (e n : ℕ) → (KeyBefore to (key_in e n) → ⊥) → range_contains key_cmp Unbounded (Included to) (key_in e n) ≡ true
kept_to to e n not = not_lt_of (key_cmp to (key_in e n)) (λ b. not (key_less to (key_in e n) b))

pub none_to : (m : Map) (to : Key) → filter (λ (e : Entry). range_contains key_cmp Unbounded (Included to) e.0) m ≡ [] → IsGreatestKey m to None
none_to m to is e n redo h =
    ⊎_elim
    (λ (p : KeyBefore to (key_in e n)). p)
    (λ (q : KeyBefore to (key_in e n) → ⊥). absurd (none_kept (λ (e : Entry). range_contains key_cmp Unbounded (Included to) e.0) m is (key_in e n, redo) h (kept_to to e n q)))
    (pair_or_not to.epoch to.number e n)

pub last_to : (m : Map) (to : Key) (x : Entry) (t : List Entry) → IsStrictlySortedBy key_cmp (keys_of m) → filter (λ (e : Entry). range_contains key_cmp Unbounded (Included to) e.0) m ≡ t ++ x ∷ [] → IsGreatestKey m to (Some x.0)
last_to m to x t ordered is =
    let f = last_kept (λ (x y : Entry). key_cmp x.0 y.0 ≡ Less) (λ (e : Entry). range_contains key_cmp Unbounded (Included to) e.0) m x t (rising_entries key_cmp m ordered) is in (
      (x.1, f.0, λ p. not_lt_true (key_cmp to x.0) f.1 (key_less_of to x.0 p)),
      λ e n redo h not. ⊎_elim
          (λ (u : x ≡ (key_in e n, redo)). inl (ap (λ (y : Entry). y.0.epoch) (sym u), ap (λ (y : Entry). y.0.number) (sym u)))
          (λ (u : key_cmp (key_in e n) x.0 ≡ Less). inr (key_less (key_in e n) x.0 u))
          (f.2 (key_in e n, redo) h (kept_to to e n not)),
    )

pub greatest_of : (m : Map) (x : Entry) (t : List Entry) → IsStrictlySortedBy key_cmp (keys_of m) → m ≡ t ++ x ∷ [] → IsGreatestOf m (Some x.0)
greatest_of m x t ordered is =
    let last = last_of (λ (x y : Entry). key_cmp x.0 y.0 ≡ Less) m x t (rising_entries key_cmp m ordered) is in (
      (x.1, last.0),
      λ e n redo h. ⊎_elim
          (λ (u : x ≡ (key_in e n, redo)). inl (ap (λ (y : Entry). y.0.epoch) (sym u), ap (λ (y : Entry). y.0.number) (sym u)))
          (λ (u : key_cmp (key_in e n) x.0 ≡ Less). inr (key_less (key_in e n) x.0 u))
          (last.1 (key_in e n, redo) h),
    )

-- the entries above a key
pub are_above : (m : Map) (after : Key) (es : List Entry) → IsStrictlySortedBy key_cmp (keys_of m) → filter (λ (e : Entry). range_contains key_cmp (Excluded after) Unbounded e.0) m ≡ es → AreAbove m after es
are_above m after es ordered is =
    let test : Entry → Bool = λ e. range_contains key_cmp (Excluded after) Unbounded e.0 in
    let Below : Entry → Entry → Type 0 = λ x y. key_cmp x.0 y.0 ≡ Less in record {
      each = λ e. (
        λ h. let f = filtered test m e (subst (λ (l : List Entry). Contains l e) (sym is) h) in (f.0, key_less after e.0 (lt_true (key_cmp after e.0) f.1)),
        λ h. subst (λ (l : List Entry). Contains l e) is (passed test m e (lt_of (key_cmp after e.0) (key_less_of after e.0 h.1)) h.0),
      );
      rising = subst (IsRising Below) is (rising_filter Below test m (rising_entries key_cmp m ordered));
    }
