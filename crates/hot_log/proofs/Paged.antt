-- Records by page and key, and the same in the order of their keys.
use Rattle.std.proofs.Common.{◌≡◌, ℕ, ◌+◌, ◌<◌, ◌⊎◌, ◌↔◌, inl, inr, ⊎_elim, List, [], ◌∷◌, length, refl, sym, ◌∙◌, ap, subst, arith, Bool, true, false, cond, None, rules}
use Rattle.std.proofs.lemmas.Grind.{common_steps}
use Rattle.std.specs.List.{Contains}
use Rattle.std.specs.declared.cmp.Ordering.TheVariants.{Less, Equal}
use Rattle.std.specs.BTreeMap.{is_at, insert_entry}
use Rattle.std.specs.Map.{keys_of, remove_entry}
use Rattle.std.specs.List.Sorted.{IsStrictlySortedBy}
use Rattle.redo_core.specs.Data.{RecordData}
use Rattle.redo_core.specs.Keys.{key_in, key_of}
use Rattle.redo_core.specs.declared.keys.Key.{Key}
use Rattle.redo_core.specs.Shape.{record_fault}
use Rattle.redo_core.specs.Order.{IsRising, RecordBefore}
use Rattle.redo_core.proofs.Members.{none_in, here, there, which, each, all_of}
use Rattle.redo_core.proofs.Pairs.{pair_order, record_trans}
use Rattle.hot_log.specs.Held.{IsHeld, HasKey, IsRecordAt}
use Rattle.hot_log.specs.Indexing.{IsIndexBy}
use Rattle.hot_log.specs.Removing.{Removes}
use Rattle.hot_log.specs.Paged.{place_cmp, place_of, records_in, is_below, insert_by_key, by_key, IsPaged}
use Rattle.hot_log.proofs.Maps.{key_listed, value_of, rising_entries, at_key, joins, shrunk}
use Rattle.hot_log.proofs.Orders.{places_exact}
use Rattle.hot_log.proofs.Places.{Place}

abbrev pub Entry : Type 0
Entry = Place × RecordData

abbrev pub Map : Type 0
Map = List Entry

-- the records of a map, seen in the order of their keys
abbrev pub seen : Map → List RecordData
seen m = by_key (records_in m)

-- the order by key has the same members, and as many
branch : (r s x : RecordData) (ss : List RecordData) (b : Bool) → (Contains (insert_by_key r ss) x ↔ ((r ≡ x) ⊎ Contains ss x)) → Contains (cond b (r ∷ s ∷ ss) (s ∷ insert_by_key r ss)) x ↔ ((r ≡ x) ⊎ Contains (s ∷ ss) x)
branch r s x ss true same = (
  λ h. which r (s ∷ ss) x h,
  λ h. ⊎_elim (λ (u : r ≡ x). subst (Contains (r ∷ s ∷ ss)) u (here r (s ∷ ss))) (λ (u : Contains (s ∷ ss) x). there r (s ∷ ss) x u) h,
)
branch r s x ss false same = (
  λ h. ⊎_elim
      (λ (u : s ≡ x). inr (subst (Contains (s ∷ ss)) u (here s ss)))
      (λ (u : Contains (insert_by_key r ss) x). ⊎_elim (λ (v : r ≡ x). inl v) (λ (v : Contains ss x). inr (there s ss x v)) (same.0 u))
      (which s (insert_by_key r ss) x h),
  λ h. ⊎_elim
      (λ (u : r ≡ x). there s (insert_by_key r ss) x (same.1 (inl u)))
      (λ (u : Contains (s ∷ ss) x). ⊎_elim
      (λ (v : s ≡ x). subst (Contains (s ∷ insert_by_key r ss)) v (here s (insert_by_key r ss)))
      (λ (v : Contains ss x). there s (insert_by_key r ss) x (same.1 (inr v)))
      (which s ss x u))
      h,
)

inserted : (r : RecordData) (ss : List RecordData) (x : RecordData) → Contains (insert_by_key r ss) x ↔ ((r ≡ x) ⊎ Contains ss x)
inserted r [] x = (λ h. which r [] x h, λ h. ⊎_elim (λ (u : r ≡ x). subst (Contains (r ∷ [])) u (here r [])) (λ (u : Contains [] x). absurd (none_in x u)) h)
inserted r (s ∷ ss) x = branch r s x ss (is_below r s) (inserted r ss x)

pub in_order : (rs : List RecordData) (x : RecordData) → Contains (by_key rs) x ↔ Contains rs x
in_order [] x = (λ h. h, λ h. h)
in_order (r ∷ rs) x = (
  λ h. ⊎_elim
      (λ (u : r ≡ x). subst (Contains (r ∷ rs)) u (here r rs))
      (λ (u : Contains (by_key rs) x). there r rs x ((in_order rs x).0 u))
      ((inserted r (by_key rs) x).0 h),
  λ h. (inserted r (by_key rs) x).1 (⊎_elim (λ (u : r ≡ x). inl u) (λ (u : Contains rs x). inr ((in_order rs x).1 u)) (which r rs x h)),
)

one_longer : (r : RecordData) (ss : List RecordData) → length (insert_by_key r ss) ≡ length ss + 1
one_longer r [] = refl
one_longer r (s ∷ ss) = either (is_below r s) (one_longer r ss)
  where
    either : (b : Bool) → length (insert_by_key r ss) ≡ length ss + 1 → length (cond b (r ∷ s ∷ ss) (s ∷ insert_by_key r ss)) ≡ length (s ∷ ss) + 1
    either true e = omega arith
    either false e = omega (arith, e)

pub as_long : (rs : List RecordData) → length (by_key rs) ≡ length rs
as_long [] = refl
as_long (r ∷ rs) = let more : length (insert_by_key r (by_key rs)) ≡ length (by_key rs) + 1 = one_longer r (by_key rs) in let same : length (by_key rs) ≡ length rs = as_long rs in omega arith

count_in : (es : List Entry) → length (records_in es) ≡ length es
count_in es = grind (arith, common_steps)

pub seen_long : (m : Map) → length (seen m) ≡ length m
seen_long m = as_long (records_in m) ∙ count_in m

below_of : (r s : RecordData) → is_below r s ≡ true → RecordBefore r s
below_of r s h = grind arith

not_below : (r s : RecordData) → is_below r s ≡ false → RecordBefore r s → ⊥
not_below r s h p = grind arith

-- a record is where it is apart from each of them
rising_insert : (r : RecordData) (ss : List RecordData) → IsRising RecordBefore ss → ((s : RecordData) → Contains ss s → RecordBefore r s ⊎ RecordBefore s r) → IsRising RecordBefore (insert_by_key r ss)
rising_insert r [] rising apart = (tt, tt)
rising_insert r (s ∷ ss) rising apart = either (is_below r s) refl (rising_insert r ss rising.1 (λ x h. apart x (there s ss x h)))
  where
    either : (b : Bool) → is_below r s ≡ b → IsRising RecordBefore (insert_by_key r ss) → IsRising RecordBefore (cond b (r ∷ s ∷ ss) (s ∷ insert_by_key r ss))
    either true e rest = (
      all_of (RecordBefore r) (s ∷ ss) (λ x h. ⊎_elim
          (λ (u : s ≡ x). subst (RecordBefore r) u (below_of r s e))
          (λ (u : Contains ss x). record_trans r s x (below_of r s e) (each (RecordBefore s) ss x rising.0 u))
          (which s ss x h)),
      rising,
    )
    either false e rest = (
      all_of (RecordBefore s) (insert_by_key r ss) (λ x h. ⊎_elim
          (λ (u : r ≡ x). subst (RecordBefore s) u (⊎_elim (λ (p : RecordBefore r s). absurd (not_below r s e p)) (λ (p : RecordBefore s r). p) (apart s (here s ss))))
          (λ (u : Contains ss x). each (RecordBefore s) ss x rising.0 u)
          ((inserted r ss x).0 h)),
      rest,
    )

pub record_in : (es : List Entry) (e : Entry) → Contains es e → Contains (records_in es) e.1
record_in es e h = grind (arith, common_steps)

pub entry_of : (es : List Entry) (r : RecordData) → Contains (records_in es) r → (k : Place) × Contains es (k, r)
entry_of [] r h = absurd (none_in r h)
entry_of (f ∷ es) r h =
    ⊎_elim
    (λ (u : f.1 ≡ r). (f.0, subst (λ (x : RecordData). Contains (f ∷ es) (f.0, x)) u (here f es)))
    (λ (u : Contains (records_in es) r). let t = entry_of es r u in (t.0, there f es (t.0, r) t.1))
    (which f.1 (records_in es) r h)

pub place_as : (g e n h a b : ℕ) → g ≡ h → e ≡ a → n ≡ b → ◌≡◌ {A = Place} (g, key_in e n) (h, key_in a b)
place_as g e n h a b p q r = cc

-- records with different positions and no key twice, in the order of their keys
pub record IsApart (es : List Entry) : Type 0 where
  pub rising : IsRising (λ (x y : Entry). place_cmp x.0 y.0 ≡ Less) es
  pub placed : (e : Entry) → Contains es e → e.0 ≡ place_of e.1
  pub apart : (r s : RecordData) → Contains (records_in es) r → Contains (records_in es) s → r.epoch ≡ s.epoch → r.number ≡ s.number → r.page ≡ s.page

pub rising_seen : (es : List Entry) → IsApart es → IsRising RecordBefore (by_key (records_in es))
rising_seen [] is = tt
rising_seen (f ∷ es) is = rising_insert f.1 (by_key (records_in es)) (rising_seen es rest) other
  where
    rest : IsApart es
    rest = record {
      rising = is.rising.1;
      placed = λ e h. is.placed e (there f es e h);
      apart = λ r s h k. is.apart r s (there f.1 (records_in es) r h) (there f.1 (records_in es) s k);
    }

    other : (s : RecordData) → Contains (by_key (records_in es)) s → RecordBefore f.1 s ⊎ RecordBefore s f.1
    other s h =
        let among = (in_order (records_in es) s).0 h in
        let t = entry_of es s among in
        let low : place_cmp f.0 t.0 ≡ Less = each (λ (y : Entry). place_cmp f.0 y.0 ≡ Less) es (t.0, s) is.rising.0 t.1 in
        let not = λ (e : f.1.epoch ≡ s.epoch) (n : f.1.number ≡ s.number).
        let page : f.1.page ≡ s.page = is.apart f.1 s (here f.1 (records_in es)) (there f.1 (records_in es) s among) e n in
        let same : f.0 ≡ t.0 = is.placed f (here f es) ∙ place_as f.1.page f.1.epoch f.1.number s.page s.epoch s.number page e n ∙ sym (is.placed (t.0, s) (there f es (t.0, s) t.1)) in
        let equal : place_cmp f.0 t.0 ≡ Equal = subst (λ (p : Place). place_cmp f.0 p ≡ Equal) same (places_exact.same f.0) in
        let no : ⊥ = cc in
        no in
        ⊎_elim
        (λ (p : RecordBefore f.1 s). inl p)
        (λ (p : ((f.1.epoch ≡ s.epoch) × (f.1.number ≡ s.number)) ⊎ RecordBefore s f.1). ⊎_elim
        (λ (q : (f.1.epoch ≡ s.epoch) × (f.1.number ≡ s.number)). absurd (not q.0 q.1))
        (λ (q : RecordBefore s f.1). inr q)
        p)
        (pair_order f.1.epoch f.1.number s.epoch s.number)

pub held_of : (m : Map) → IsPaged m → IsHeld (seen m)
held_of m is = record {
  rising = rising_seen m (record { rising = rising_entries place_cmp m is.ordered; placed = is.placed; apart = is.apart });
  shaped = λ r h. is.shaped r ((in_order (records_in m) r).0 h);
}

-- each record is stored under its page and key
pub own_entry : (m : Map) → IsPaged m → (r : RecordData) → Contains (seen m) r → Contains m (place_of r, r)
own_entry m is r h =
    let t = entry_of m r ((in_order (records_in m) r).0 h) in
    subst (λ (k : Place). Contains m (k, r)) (is.placed (t.0, r) t.1) t.1

pub seen_in : (m : Map) (e : Entry) → Contains m e → Contains (seen m) e.1
seen_in m e h = (in_order (records_in m) e.1).1 (record_in m e h)

pub page_index : (m : Map) → IsPaged m → IsIndexBy (λ r. r.page) (seen m) (keys_of m)
page_index m is = record {
  listed = λ r h. key_listed m (place_of r, r) (own_entry m is r h);
  backed = λ g e n h.
      let t = value_of m (g, key_in e n) h in
      let k : (g, key_in e n) ≡ place_of t.0 = is.placed ((g, key_in e n), t.0) t.1 in (
        t.0,
        seen_in m ((g, key_in e n), t.0) t.1,
        sym (ap (λ (p : Place). p.0) k),
        (sym (ap (λ (p : Place). p.1.epoch) k), sym (ap (λ (p : Place). p.1.number) k)),
      );
}

-- the entries of a map that gains a record under its free key
pub record Grows (old new : Map) (redo : RecordData) : Type 0 where
  pub was : IsPaged old
  pub ordered : IsStrictlySortedBy place_cmp (keys_of new)
  pub free : IsRecordAt (seen old) (key_of redo) None
  pub shaped : record_fault redo ≡ None
  pub fits : redo.page < 65536
  pub at : new ≡ insert_entry place_cmp old (place_of redo) redo

-- no entry is at its position
gains : (old new : Map) (redo : RecordData) → Grows old new redo → (e : Entry) → Contains new e ↔ (Contains old e ⊎ (e ≡ (place_of redo, redo)))
gains old new redo g e =
    subst (λ (l : List Entry). Contains l e ↔ (Contains old e ⊎ (e ≡ (place_of redo, redo)))) (sym g.at)
    (joins place_cmp old (place_of redo) redo (λ (y : Entry) h q.
    let at : place_of y.1 ≡ place_of redo = sym (g.was.placed y h) ∙ (at_key place_cmp places_exact (place_of redo) y.0).0 q in
    g.free y.1 (seen_in old y h) (ap (λ (x : Place). x.1.epoch) at, ap (λ (x : Place). x.1.number) at)) e)

pub grown_members : (old new : Map) (redo : RecordData) → Grows old new redo → (r : RecordData) → Contains (seen new) r ↔ (Contains (seen old) r ⊎ (r ≡ redo))
grown_members old new redo g r = (
  λ h.
      let t = entry_of new r ((in_order (records_in new) r).0 h) in
      ⊎_elim
      (λ (u : Contains old (t.0, r)). inl (seen_in old (t.0, r) u))
      (λ (u : (t.0, r) ≡ (place_of redo, redo)). inr (ap (λ (x : Entry). x.1) u))
      ((gains old new redo g (t.0, r)).0 t.1),
  λ h. ⊎_elim
      (λ (u : Contains (seen old) r). seen_in new (place_of r, r) ((gains old new redo g (place_of r, r)).1 (inl (own_entry old g.was r u))))
      (λ (u : r ≡ redo). subst (Contains (seen new)) (sym u) (seen_in new (place_of redo, redo) ((gains old new redo g (place_of redo, redo)).1 (inr refl))))
      h,
)

grown_apart : (old new : Map) (redo : RecordData) → Grows old new redo → (r s : RecordData) → Contains (seen old) r ⊎ (r ≡ redo) → Contains (seen old) s ⊎ (s ≡ redo) → r.epoch ≡ s.epoch → r.number ≡ s.number → r.page ≡ s.page
grown_apart old new redo g r s h k e n =
    ⊎_elim
    (λ (u : Contains (seen old) r). ⊎_elim
    (λ (v : Contains (seen old) s). g.was.apart r s ((in_order (records_in old) r).0 u) ((in_order (records_in old) s).0 v) e n)
    (λ (v : s ≡ redo). absurd (g.free r u (e ∙ ap (λ (x : RecordData). x.epoch) v, n ∙ ap (λ (x : RecordData). x.number) v)))
    k)
    (λ (u : r ≡ redo). ⊎_elim
    (λ (v : Contains (seen old) s). absurd (g.free s v (sym e ∙ ap (λ (x : RecordData). x.epoch) u, sym n ∙ ap (λ (x : RecordData). x.number) u)))
    (λ (v : s ≡ redo). ap (λ (x : RecordData). x.page) (u ∙ sym v))
    k)
    h

pub grown_paged : (old new : Map) (redo : RecordData) → Grows old new redo → IsPaged new
grown_paged old new redo g = record {
  ordered = g.ordered;
  placed = λ e h. ⊎_elim
      (λ (u : Contains old e). g.was.placed e u)
      (λ (u : e ≡ (place_of redo, redo)). subst (λ (x : Entry). x.0 ≡ place_of x.1) (sym u) refl)
      ((gains old new redo g e).0 h);
  shaped = λ r h. ⊎_elim
      (λ (u : Contains (seen old) r). g.was.shaped r ((in_order (records_in old) r).0 u))
      (λ (u : r ≡ redo). subst (λ (x : RecordData). record_fault x ≡ None) (sym u) g.shaped)
      (was r h);
  fits = λ r h. ⊎_elim
      (λ (u : Contains (seen old) r). g.was.fits r ((in_order (records_in old) r).0 u))
      (λ (u : r ≡ redo). subst (λ (x : RecordData). x.page < 65536) (sym u) g.fits)
      (was r h);
  apart = λ r s h k. grown_apart old new redo g r s (was r h) (was s k);
}
  where
    was : (r : RecordData) → Contains (records_in new) r → Contains (seen old) r ⊎ (r ≡ redo)
    was r h = (grown_members old new redo g r).0 ((in_order (records_in new) r).1 h)

-- the entries of a map that loses a position
pub record Shrinks (old new : Map) (page : ℕ) (key : Key) : Type 0 where
  pub was : IsPaged old
  pub ordered : IsStrictlySortedBy place_cmp (keys_of new)
  pub at : new ≡ remove_entry (is_at (place_cmp (page, key))) old

sheds : (old new : Map) (page : ℕ) (key : Key) → Shrinks old new page key → (e : Entry) → Contains new e ↔ ((e.0 ≡ (page, key) → ⊥) × Contains old e)
sheds old new page key s e =
    subst (λ (l : List Entry). Contains l e ↔ ((e.0 ≡ (page, key) → ⊥) × Contains old e)) (sym s.at)
    (shrunk place_cmp places_exact old (page, key) s.was.ordered e)

pub shrunk_members : (old new : Map) (page : ℕ) (key : Key) → Shrinks old new page key → Removes (λ r. (r.page ≡ page) × HasKey key r) (seen old) (seen new)
shrunk_members old new page key s r = (
  λ h.
      let t = entry_of new r ((in_order (records_in new) r).0 h) in
      let u = (sheds old new page key s (t.0, r)).0 t.1 in (
        seen_in old (t.0, r) u.1,
        λ k. u.0 (s.was.placed (t.0, r) u.1 ∙ place_as r.page r.epoch r.number page key.epoch key.number k.0 k.1.0 k.1.1),
      ),
  λ h. seen_in new (place_of r, r) ((sheds old new page key s (place_of r, r)).1 (
    λ e. h.1 (ap (λ (x : Place). x.0) e, (ap (λ (x : Place). x.1.epoch) e, ap (λ (x : Place). x.1.number) e)),
    own_entry old s.was r h.0,
  )),
)

pub shrunk_paged : (old new : Map) (page : ℕ) (key : Key) → Shrinks old new page key → IsPaged new
shrunk_paged old new page key s = record {
  ordered = s.ordered;
  placed = λ e h. s.was.placed e ((sheds old new page key s e).0 h).1;
  shaped = λ r h. s.was.shaped r (was r h);
  fits = λ r h. s.was.fits r (was r h);
  apart = λ r t h k. s.was.apart r t (was r h) (was t k);
}
  where
    was : (r : RecordData) → Contains (records_in new) r → Contains (records_in old) r
    was r h = (in_order (records_in old) r).0 ((shrunk_members old new page key s r).0 ((in_order (records_in new) r).1 h)).0

pub same_paged : (m n : Map) → IsPaged m → IsStrictlySortedBy place_cmp (keys_of n) → n ≡ m → IsPaged n
same_paged m n is ordered e = search rules
