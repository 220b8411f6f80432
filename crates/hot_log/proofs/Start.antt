-- The index by segment backlink, from its start on.
use Rattle.std.proofs.Common.{◌≡◌, ℕ, ◌<◌, ◌≤◌, ◌⊎◌, ◌↔◌, inl, inr, ⊎_elim, List, refl, sym, ◌∙◌, ap, subst, arith, Bool, true, false, not, ◌&&◌, IsTrue, rules}
use Rattle.std.proofs.lemmas.Bool.{cases_lt, false≢true}
use Rattle.std.specs.List.{Contains, filter}
use Rattle.std.specs.Ordering.{is_le}
use Rattle.std.specs.declared.cmp.Ordering.{Ordering}
use Rattle.std.specs.declared.cmp.Ordering.TheVariants.{Greater}
use Rattle.std.specs.declared.ops.Bound.TheVariants.{Excluded, Unbounded}
use Rattle.std.specs.BTreeMap.Range.{range_contains}
use Rattle.std.specs.Map.{keys_of}
use Rattle.redo_core.specs.Data.{RecordData}
use Rattle.redo_core.specs.Keys.{key_in}
use Rattle.redo_core.specs.declared.keys.Key.{Key}
use Rattle.redo_core.proofs.Members.{filtered, passed}
use Rattle.hot_log.specs.Held.{IsHeld, HasKey}
use Rattle.hot_log.specs.Indexing.{IndexData, IsFrom, GainsKey, LosesKey, RaisesStart}
use Rattle.hot_log.specs.Paged.{place_cmp}
use Rattle.hot_log.proofs.Indexed.{one_key}
use Rattle.hot_log.proofs.Maps.{keys_filter}
use Rattle.hot_log.proofs.Places.{Place, not_above_zero, group_le}

pub not_below : (back start : ℕ) → (IsTrue false ↔ (back < start)) → start ≤ back
not_below back start h =
    ⊎_elim (λ (l : back < start). absurd (let no : IsTrue false = h.1 l in false≢true no)) (λ (u : start ≤ back). u) (cases_lt back start)

-- a key of a group that the index leaves out does not join it
pub gains_none : (i : IndexData) (group : ℕ) (key : Key) → group < i.start → GainsKey i group key i
gains_none i group key low = record {
  start = refl;
  keys = λ p. (λ h. inl h, λ h. ⊎_elim (λ (u : Contains i.keys p). u) (λ (u : (i.start ≤ group) × (p ≡ (group, key))). absurd (let le : i.start ≤ group = u.0 in omega (arith, le, low))) h);
}

pub gains_key : (i : IndexData) (more : List Place) (group : ℕ) (key : Key) → i.start ≤ group → ((p : Place) → Contains more p ↔ (Contains i.keys p ⊎ (p ≡ (group, key)))) → GainsKey i group key (record { start = i.start; keys = more })
gains_key i more group key low gains = record {
  start = refl;
  keys = λ p. (
    λ h. ⊎_elim (λ (u : Contains i.keys p). inl u) (λ (u : p ≡ (group, key)). inr (low, u)) ((gains p).0 h),
    λ h. (gains p).1 (⊎_elim (λ (u : Contains i.keys p). inl u) (λ (u : (i.start ≤ group) × (p ≡ (group, key))). inr u.1) h),
  );
}

pub from_gained : (i more : IndexData) (group : ℕ) (key : Key) → IsFrom i.start i.keys → GainsKey i group key more → IsFrom i.start more.keys
from_gained i more group key from gains p h =
    ⊎_elim
    (λ (u : Contains i.keys p). from p u)
    (λ (u : (i.start ≤ group) × (p ≡ (group, key))). subst (λ (x : ℕ). i.start ≤ x) (sym (ap (λ (q : Place). q.0) u.1)) u.0)
    ((gains.keys p).0 h)

pub from_lost : (i less : IndexData) (group : ℕ) (key : Key) → IsFrom i.start i.keys → LosesKey i group key less → IsFrom i.start less.keys
from_lost i less group key from loses p h = from p ((loses.keys p).0 h).0

-- the index starts as high
pub raises_none : (i : IndexData) (group : ℕ) → group ≤ i.start → IsFrom i.start i.keys → RaisesStart i group i
raises_none i group high from = record {
  start = omega arith;
  keys = λ p. (λ h. (h, let low = from p h in omega (arith, low, high)), λ h. h.0);
}

-- the range of the groups below one
abbrev pub stays : ℕ → Key → Place → Bool
stays group least p = not (range_contains place_cmp Unbounded (Excluded (group, least)) p)

not_le_true : (o : Ordering) → not (true && not (is_le o)) ≡ true → o ≡ Greater → ⊥
not_le_true o h e = cc

not_le_of : (o : Ordering) → (o ≡ Greater → ⊥) → not (true && not (is_le o)) ≡ true
not_le_of o h = search rules

cut_below : (keys less : List Place) (group : ℕ) → less ≡ filter (stays group (key_in 0 0)) keys → (p : Place) → Contains less p ↔ (Contains keys p × (group ≤ p.0))
cut_below keys less group is p = (
  λ h.
      let t = filtered (stays group (key_in 0 0)) keys p (subst (λ (l : List Place). Contains l p) is h) in
      (t.0, group_le group p (not_le_true (place_cmp (group, key_in 0 0) p) t.1)),
  λ h. subst (λ (l : List Place). Contains l p) (sym is)
      (passed (stays group (key_in 0 0)) keys p (not_le_of (place_cmp (group, key_in 0 0) p) (not_above_zero group p.0 p.1.epoch p.1.number h.1)) h.0),
)

-- the same of the entries of the index
pub cut_keys : (m less : List (Place × Unit {0})) (group : ℕ) (least : Key) → least ≡ key_in 0 0 → less ≡ filter (λ (e : Place × Unit {0}). stays group least e.0) m → (p : Place) → Contains (keys_of less) p ↔ (Contains (keys_of m) p × (group ≤ p.0))
cut_keys m less group least zero is =
    let all : keys_of less ≡ filter (stays group least) (keys_of m) = ap (λ (l : List (Place × Unit {0})). keys_of l) is ∙ keys_filter (stays group least) m in
    cut_below (keys_of m) (keys_of less) group (subst (λ (k : Key). keys_of less ≡ filter (stays group k) (keys_of m)) zero all)

pub raises_cut : (i : IndexData) (less : List Place) (group : ℕ) → i.start < group → ((p : Place) → Contains less p ↔ (Contains i.keys p × (group ≤ p.0))) → RaisesStart i group (record { start = group; keys = less })
raises_cut i less group low cut = record { start = omega arith; keys = cut }

-- the record of a key alone decides which backlink it has
pub back_at : (held : List RecordData) (key : Key) (r : RecordData) (back : ℕ) → IsHeld held → Contains held r → HasKey key r → (r.back ≡ back) ↔ ((s : RecordData) × Contains held s × HasKey key s × (s.back ≡ back))
back_at held key r back form h k = (
  λ e. (r, h, k, e),
  λ t. subst (λ (s : RecordData). s.back ≡ back) (one_key held form.rising t.0 r t.1 h (t.2.0 ∙ sym k.0) (t.2.1 ∙ sym k.1)) t.3,
)
