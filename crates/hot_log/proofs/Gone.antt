-- Removals that go up by key, or take out a range of keys.
use Rattle.std.proofs.Common.{◌≡◌, ℕ, ◌<◌, ◌≤◌, ◌↔◌, ⊎_elim, List, refl, sym, subst, arith, Bool, true, false, not, min, max}
use Rattle.std.specs.List.{Contains, filter}
use Rattle.std.specs.Map.{keys_of}
use Rattle.std.specs.BTreeMap.Range.{range_contains}
use Rattle.std.specs.List.Sorted.{IsStrictlySortedBy}
use Rattle.std.specs.declared.ops.Bound.TheVariants.{Included, Excluded}
use Rattle.std.proofs.lemmas.Bool.{cases_lt}
use Rattle.redo_core.specs.Data.{RecordData}
use Rattle.redo_core.specs.Keys.{key_in, key_of, KeyBefore}
use Rattle.redo_core.specs.declared.keys.Key.{Key}
use Rattle.redo_core.proofs.Members.{filtered, passed}
use Rattle.redo_core.proofs.Pairs.{pair_trans}
use Rattle.epoch_book.specs.Book.{BookData}
use Rattle.hot_log.specs.Held.{IsHeld, HasKey}
use Rattle.hot_log.specs.Alive.{IsAliveBetween, PartsAtKey}
use Rattle.hot_log.specs.Indexing.{IndexData, IsIndexOf, RaisesStart}
use Rattle.hot_log.specs.Paged.{place_cmp, place_of, records_in, IsPaged}
use Rattle.hot_log.specs.Removing.{IsBetween, IsFolded, Removes}
use Rattle.hot_log.proofs.Chain.{back_below}
use Rattle.hot_log.proofs.Keys.{pair_up_to}
use Rattle.hot_log.proofs.Paged.{Entry, Map, seen, in_order, entry_of, own_entry, seen_in}
use Rattle.hot_log.proofs.Places.{Place, pair_or_not}
use Rattle.hot_log.proofs.Ranges.{InPage, in_page, in_range}

-- those with P of keys at or below one are gone
abbrev pub Gone : (RecordData → Type 0) → Key → List RecordData → List RecordData → Type 0
Gone P at old now = Removes (λ r. P r × (KeyBefore at (key_of r) → ⊥)) old now

pub gone_none : (P : RecordData → Type 0) (at : Key) (held : List RecordData) → ((r : RecordData) → Contains held r → P r → KeyBefore at (key_of r)) → Gone P at held held
gone_none P at held up r = (λ h. (h, λ k. k.1 (up r h k.0)), λ h. h.0)

pub gone_next : (P Q : RecordData → Type 0) (at key : Key) (old now after : List RecordData) → Gone P at old now → Removes Q now after → KeyBefore at key → ((r : RecordData) → Contains now r → P r → KeyBefore at (key_of r) → (KeyBefore key (key_of r) → ⊥) → Q r) → ((r : RecordData) → Contains now r → Q r → P r × (KeyBefore key (key_of r) → ⊥)) → Gone P key old after
gone_next P Q at key old now after gone removes up to fro r = (
  λ h.
      let k = (removes r).0 h in
      let g = (gone r).0 k.0 in
      (g.0, λ p. ⊎_elim (λ (u : KeyBefore at (key_of r)). k.1 (to r k.0 p.0 u p.1)) (λ (u : KeyBefore at (key_of r) → ⊥). g.1 (p.0, u)) (pair_or_not at.epoch at.number r.epoch r.number)),
  λ h.
      let still = (gone r).1 (h.0, λ p. h.1 (p.0, λ u. p.1 (pair_trans at.epoch at.number key.epoch key.number r.epoch r.number up u))) in
      (removes r).1 (still, λ q. h.1 (fro r still q)),
)

pub gone_all : (P : RecordData → Type 0) (at : Key) (old now : List RecordData) → Gone P at old now → ((r : RecordData) → Contains now r → P r → KeyBefore at (key_of r) → ⊥) → Removes P old now
gone_all P at old now gone none r = (
  λ h.
      let g = (gone r).0 h in
      (g.0, λ p. ⊎_elim (λ (u : KeyBefore at (key_of r)). none r h p u) (λ (u : KeyBefore at (key_of r) → ⊥). g.1 (p, u)) (pair_or_not at.epoch at.number r.epoch r.number)),
  λ h. (gone r).1 (h.0, λ p. h.1 p.0),
)

-- the alive records of a page up to an LSN, run by run
pub folded_none : (b : BookData) (page version point : ℕ) (at : Key) (held : List RecordData) → ((r : RecordData) → Contains held r → 0 < r.number) → PartsAtKey b 0 at → Gone (IsFolded b page version point) at held held
folded_none b page version point at held positive parts = gone_none (IsFolded b page version point) at held (λ r h p. (parts r.epoch r.number p.0).0 (positive r h))

pub folded_next : (b : BookData) (page version point to : ℕ) (at end last : Key) (old now after : List RecordData) → PartsAtKey b to end → to ≤ version → to ≤ point → Gone (IsFolded b page version point) at old now → Removes (IsAliveBetween b now page at last) now after → ((r : RecordData) × IsAliveBetween b now page at end r × HasKey last r) → Gone (IsFolded b page version point) last old after
folded_next b page version point to at end last old now after parts low small gone removes found =
    gone_next (IsFolded b page version point) (IsAliveBetween b now page at last) at last old now after gone removes
    (subst (λ (e : ℕ). KeyBefore at (key_in e last.number)) found.2.0 (subst (λ (n : ℕ). KeyBefore at (key_in found.0.epoch n)) found.2.1 found.1.1))
    (λ r h p up over. ((h, p.0, p.1), up, over))
    (λ r h q.
    let le : r.number ≤ to = ⊎_elim
    (λ (l : to < r.number). absurd (below r q.2 ((parts r.epoch r.number q.0.1).0 l)))
    (λ (l : r.number ≤ to). l)
    (cases_lt to r.number) in
    let one : r.number ≤ version = omega (arith, le, low) in
    let two : r.number ≤ point = omega (arith, le, small) in
    ((q.0.1, q.0.2, one, two), q.2))
  where
    below : (r : RecordData) → (KeyBefore last (key_of r) → ⊥) → KeyBefore end (key_of r) → ⊥
    below r least up =
        let over : KeyBefore end last → ⊥ = subst (λ (e : ℕ). KeyBefore end (key_in e last.number) → ⊥) found.2.0 (subst (λ (n : ℕ). KeyBefore end (key_in found.0.epoch n) → ⊥) found.2.1 found.1.2) in
        over (pair_up_to end.epoch end.number last.epoch last.number r.epoch r.number up least)

pub folded_all : (b : BookData) (page version point to : ℕ) (at end : Key) (old now : List RecordData) → PartsAtKey b to end → ((n : ℕ) → n ≤ version → n ≤ point → n ≤ to) → Gone (IsFolded b page version point) at old now → ((r : RecordData) → IsAliveBetween b now page at end r → ⊥) → Removes (IsFolded b page version point) old now
folded_all b page version point to at end old now parts least gone none =
    gone_all (IsFolded b page version point) at old now gone
    (λ r h p up. none r (
      (h, p.0, p.1),
      up,
      λ over.
          let l : to < r.number = (parts r.epoch r.number p.0).1 over in
          let le : r.number ≤ to = least r.number p.2 p.3 in
          omega (arith, l, le),
    ))

-- the point is above the backlinks of the records that are gone
pub index_cut : (b : BookData) (page to point : ℕ) (old new : List RecordData) (was now : IndexData) → to ≤ point → IsHeld old → IsIndexOf old was → RaisesStart was point now → Removes (IsFolded b page to to) old new → IsIndexOf new now
index_cut b page to point old new was now small form is raises removes = record {
  listed = λ r h low.
      let top : now.start ≡ max was.start point = raises.start in
      (raises.keys (r.back, key_of r)).1 (is.listed r ((removes r).0 h).0 (omega (arith, low, top)), omega (arith, low, top));
  backed = λ g e n h.
      let t = (raises.keys (g, key_in e n)).0 h in
      let u = is.backed g e n t.0 in
      let up : u.0.back < u.0.number = back_below u.0 (form.shaped u.0 u.1) in
      (u.0, (removes u.0).1 (u.1, λ f. let high : u.0.number ≤ to = f.2 in let at : u.0.back ≡ g = u.2 in let low : point ≤ g = t.1 in omega (arith, up, high, at, low, small)), u.2, u.3);
}

pub folded_to : (b : BookData) (page version point to : ℕ) (old new : List RecordData) → to ≡ min version point → Removes (IsFolded b page to to) old new → Removes (IsFolded b page version point) old new
folded_to b page version point to old new is removes r = (
  λ h. let t = (removes r).0 h in (t.0, λ (f : IsFolded b page version point r). let low : r.number ≤ to = let one : r.number ≤ version = f.2 in let two : r.number ≤ point = f.3 in omega (arith, one, two, is) in t.1 (f.0, f.1, low, low)),
  λ h. (removes r).1 (h.0, λ f. let low : r.number ≤ to = f.2 in h.1 (f.0, f.1, omega (arith, low, is), omega (arith, low, is))),
)

-- a map without a range of keys of a page
pub record Cuts (old new : Map) (page : ℕ) (above to : Key) : Type 0 where
  pub was : IsPaged old
  pub ordered : IsStrictlySortedBy place_cmp (keys_of new)
  pub at : new ≡ filter (λ (e : Entry). not (range_contains place_cmp (Excluded (page, above)) (Included (page, to)) e.0)) old

cut : (old new : Map) (page : ℕ) (above to : Key) → Cuts old new page above to → (e : Entry) → Contains new e ↔ (Contains old e × (InPage page above to e.0 → ⊥))
cut old new page above to is e = (
  λ h.
      let t = filtered test old e (subst (λ (l : List Entry). Contains l e) is.at h) in
      (t.0, λ p. no (inside e.0) t.1 (in_range page above to e.0 p)),
  λ h. subst (λ (l : List Entry). Contains l e) (sym is.at) (passed test old e (yes (inside e.0) (λ t. h.1 (in_page page above to e.0 t))) h.0),
)
  where
    inside : Place → Bool
    inside q = range_contains place_cmp (Excluded (page, above)) (Included (page, to)) q

    test : Entry → Bool
    test f = not (range_contains place_cmp (Excluded (page, above)) (Included (page, to)) f.0)

    no : (b : Bool) → not b ≡ true → b ≡ true → ⊥
    no true f g = cc
    no false f g = cc

    yes : (b : Bool) → (b ≡ true → ⊥) → not b ≡ true
    yes true f = absurd (f refl)
    yes false f = refl

pub cut_members : (old new : Map) (page : ℕ) (above to : Key) → Cuts old new page above to → Removes (IsBetween page above to) (seen old) (seen new)
cut_members old new page above to is r = (
  λ h.
      let t = entry_of new r ((in_order (records_in new) r).0 h) in
      let u = (cut old new page above to is (t.0, r)).0 t.1 in
      let at : t.0 ≡ place_of r = is.was.placed (t.0, r) u.0 in
      (seen_in old (t.0, r) u.0, λ k. u.1 (subst (InPage page above to) (sym at) (record { page = k.0; above = k.1; up_to = k.2 }))),
  λ h. seen_in new (place_of r, r) ((cut old new page above to is (place_of r, r)).1 (own_entry old is.was r h.0, λ p. h.1 (p.page, p.above, p.up_to))),
)

pub cut_paged : (old new : Map) (page : ℕ) (above to : Key) → Cuts old new page above to → IsPaged new
cut_paged old new page above to is = record {
  ordered = is.ordered;
  placed = λ e h. is.was.placed e ((cut old new page above to is e).0 h).0;
  shaped = λ r h. is.was.shaped r (was r h);
  fits = λ r h. is.was.fits r (was r h);
  apart = λ r s h k. is.was.apart r s (was r h) (was s k);
}
  where
    was : (r : RecordData) → Contains (records_in new) r → Contains (records_in old) r
    was r h = (in_order (records_in old) r).0 ((cut_members old new page above to is r).0 ((in_order (records_in new) r).1 h)).0
