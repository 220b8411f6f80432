-- The first run of alive records of a page, which a walk removes from the lists of keys.
use Rattle.std.proofs.Common.{◌≡◌, ℕ, ◌⊎◌, ◌↔◌, inl, inr, ⊎_elim, List, [], ◌∷◌, ◌++◌, refl, sym, ◌∙◌, ap, subst, arith, Bool, true, not, ◌==◌, ◌&&◌, Option, Some, None, rules}
use Rattle.std.specs.List.{Contains, filter}
use Rattle.std.specs.BTreeMap.Range.{range_contains}
use Rattle.std.specs.declared.cmp.Ordering.TheVariants.{Less}
use Rattle.std.specs.declared.ops.Bound.TheVariants.{Included, Excluded}
use Rattle.std.proofs.lemmas.List.{map-append}
use Rattle.std.proofs.lemmas.List.Elements.{Contains-append_left, Contains-append_right, Contains-append_cases}
use Rattle.redo_core.specs.Data.{RecordData}
use Rattle.redo_core.specs.Keys.{key_in, key_of, KeyBefore}
use Rattle.redo_core.specs.declared.keys.Key.{Key}
use Rattle.redo_core.specs.Order.{IsRising, PairBefore, RecordBefore}
use Rattle.redo_core.specs.Standing.{IsAlive}
use Rattle.redo_core.proofs.Members.{none_in, here, which, each, filtered, passed}
use Rattle.redo_core.proofs.Pairs.{pair_apart, pair_trans}
use Rattle.epoch_book.specs.Book.{BookData}
use Rattle.hot_log.specs.Held.{IsHeld, HasKey}
use Rattle.hot_log.specs.Indexing.{IsKeyRecords, LosesEntry}
use Rattle.hot_log.specs.Paged.{place_cmp, place_of, records_in, IsPaged}
use Rattle.hot_log.specs.Removing.{IsBetween, IsRow, ListsWithout, Removes, RemovesRow, UnlistsRow}
use Rattle.hot_log.proofs.Indexed.{one_key, entries_shrink}
use Rattle.hot_log.proofs.Keys.{pair_not_same, pair_up_to}
use Rattle.hot_log.proofs.Paged.{Entry, Map, entry_of, held_of, own_entry, record_in, seen, seen_in}
use Rattle.hot_log.proofs.Places.{Place, pair_or_not}
use Rattle.hot_log.proofs.Ranges.{IsRange, joined, range_of, same_page}

-- stored records without that of a key
abbrev other_key : ℕ → ℕ → RecordData → Bool
other_key e n r = not (r.epoch == e && r.number == n)

abbrev without : ℕ → ℕ → List RecordData → List RecordData
without e n held = filter (other_key e n) held

other_is : (e n : ℕ) (r : RecordData) → other_key e n r ≡ true → HasKey (key_in e n) r → ⊥
other_is e n r h k = grind arith

is_other : (e n : ℕ) (r : RecordData) → (HasKey (key_in e n) r → ⊥) → other_key e n r ≡ true
is_other e n r h = grind arith

without_one : (e n : ℕ) (held : List RecordData) → Removes (HasKey (key_in e n)) held (without e n held)
without_one e n held r = (
  λ h. let t = filtered (other_key e n) held r h in (t.0, other_is e n r t.1),
  λ h. passed (other_key e n) held r (is_other e n r h.1) h.0,
)

-- the same records are listed in the same way
entries_same : (old new : List RecordData) (keys : List (Key × RecordData)) → ((r : RecordData) → Contains old r ↔ Contains new r) → IsKeyRecords old keys → IsKeyRecords new keys
entries_same old new keys same is = record {
  listed = λ r h. is.listed r ((same r).1 h);
  backed = λ e n r h. let t = is.backed e n r h in ((same r).0 t.0, t.1);
}

-- what is listed are the stored records without those with P
pub record Left (P : RecordData → Type 0) (held : List RecordData) (keys : List (Key × RecordData)) : Type 0 where
  pub left : List RecordData
  pub removes : Removes P held left
  pub pages : IsKeyRecords left keys

left_as : (P Q : RecordData → Type 0) (held : List RecordData) (keys : List (Key × RecordData)) → ((r : RecordData) → Contains held r → P r ↔ Q r) → Left P held keys → Left Q held keys
left_as P Q held keys same is = record {
  left = is.left;
  removes = λ r. (
    λ h. let t = (is.removes r).0 h in (t.0, λ q. t.1 ((same r t.0).1 q)),
    λ h. (is.removes r).1 (h.0, λ p. h.1 ((same r h.0).0 p)),
  );
  pages = is.pages;
}

-- one more of them leaves
left_more : (P Q : RecordData → Type 0) (held : List RecordData) (keys less : List (Key × RecordData)) (x : RecordData) (e n : ℕ) → IsHeld held → Left P held keys → Contains held x → ((r : RecordData) → Contains held r → Q r ↔ (P r ⊎ (r ≡ x))) → e ≡ x.epoch → n ≡ x.number → LosesEntry keys (key_in e n) less → Left Q held less
left_more P Q held keys less x e n form is among more q s loses =
    let removes = without_one e n is.left in
    record {
      left = without e n is.left;
      removes = λ r. (
        λ h.
            let t = (removes r).0 h in
            let u = (is.removes r).0 t.0 in
            (u.0, λ k. ⊎_elim (λ (v : P r). u.1 v) (λ (v : r ≡ x). t.1 (ap (λ (y : RecordData). y.epoch) v ∙ sym q, ap (λ (y : RecordData). y.number) v ∙ sym s)) ((more r u.0).0 k)),
        λ h. (removes r).1 (
          (is.removes r).1 (h.0, λ v. h.1 ((more r h.0).1 (inl v))),
          λ k. h.1 ((more r h.0).1 (inr (one_key held form.rising r x h.0 among (k.0 ∙ q) (k.1 ∙ s)))),
        ),
      );
      pages = entries_shrink is.left (without e n is.left) keys less e n is.pages removes loses;
    }

left_lists : (P : RecordData → Type 0) (held : List RecordData) (keys : List (Key × RecordData)) → Left P held keys → ListsWithout P held keys
left_lists P held keys is left removes =
    entries_same is.left left keys (λ r. (λ h. (removes r).1 ((is.removes r).0 h), λ h. (is.removes r).1 ((removes r).0 h))) is.pages

-- a walk over the records of a page between two keys: those passed, and those left
pub record Walk (m : Map) (page : ℕ) (above to : Key) (xs ys : List Entry) : Type 0 where
  pub paged : IsPaged m
  pub range : IsRange m page above to (xs ++ ys)

pub walk_of : (m : Map) (page : ℕ) (above to : Key) (es xs ys : List Entry) → IsPaged m → es ≡ filter (λ (e : Entry). range_contains place_cmp (Excluded (page, above)) (Included (page, to)) e.0) m → es ≡ xs ++ ys → Walk m page above to xs ys
walk_of m page above to es xs ys paged is split = record { paged = paged; range = subst (IsRange m page above to) split (range_of m page above to es paged is) }

walked : (m : Map) (page : ℕ) (above to : Key) (xs ys : List Entry) → Walk m page above to xs ys → (r : RecordData) → Contains (records_in (xs ++ ys)) r → Contains (seen m) r × IsBetween page above to r
walked m page above to xs ys w r h =
    let t = entry_of (xs ++ ys) r h in
    let k = (w.range.members (t.0, r)).0 t.1 in
    let at : t.0 ≡ place_of r = w.paged.placed (t.0, r) k.0 in
    let P : Place → Type 0 = λ p. KeyBefore above p.1 in
    let Q : Place → Type 0 = λ p. KeyBefore to p.1 → ⊥ in
    (seen_in m (t.0, r) k.0, (sym (ap (λ (p : Place). p.0) at) ∙ k.1.page, subst P at k.1.above, subst Q at k.1.up_to))

passes : (m : Map) (page : ℕ) (above to : Key) (xs ys : List Entry) → Walk m page above to xs ys → (r : RecordData) → Contains (seen m) r → IsBetween page above to r → Contains (records_in xs) r ⊎ Contains (records_in ys) r
passes m page above to xs ys w r h is =
    Contains-append_cases (records_in xs) (records_in ys) r (subst (λ (l : List RecordData). Contains l r) (map-append (λ (e : Entry). e.1) xs ys)
    (record_in (xs ++ ys) (place_of r, r) ((w.range.members (place_of r, r)).1 (own_entry m w.paged r h, record { page = is.0; above = is.1; up_to = is.2 }))))

passed_in : (xs ys : List Entry) (r : RecordData) → Contains (records_in xs) r → Contains (records_in (xs ++ ys)) r
passed_in xs ys r h = subst (λ (l : List RecordData). Contains l r) (sym (map-append (λ (e : Entry). e.1) xs ys)) (Contains-append_left (records_in xs) (records_in ys) r h)

come_in : (xs ys : List Entry) (r : RecordData) → Contains (records_in ys) r → Contains (records_in (xs ++ ys)) r
come_in xs ys r h = subst (λ (l : List RecordData). Contains l r) (sym (map-append (λ (e : Entry). e.1) xs ys)) (Contains-append_right (records_in xs) (records_in ys) r h)

before_come : {X : Type 0} (Before : X → X → Type 0) (xs ys : List X) (x y : X) → IsRising Before (xs ++ ys) → Contains xs x → Contains ys y → Before x y
before_come Before [] ys x y rising h k = absurd (none_in x h)
before_come {X} Before (z ∷ xs) ys x y rising h k =
    ⊎_elim
    (λ (u : z ≡ x). subst (λ (w : X). Before w y) u (each (Before z) (xs ++ ys) y rising.0 (Contains-append_right xs ys y k)))
    (λ (u : Contains xs x). before_come Before xs ys x y rising.1 u k)
    (which z xs x h)

front : (m : Map) (page : ℕ) (above to : Key) (xs ys : List Entry) → Walk m page above to xs ys → (r s : RecordData) → Contains (records_in xs) r → Contains (records_in ys) s → RecordBefore r s
front m page above to xs ys w r s h k =
    let Before : Entry → Entry → Type 0 = λ x y. place_cmp x.0 y.0 ≡ Less in
    let t = entry_of xs r h in
    let u = entry_of ys s k in
    let a = (w.range.members (t.0, r)).0 (Contains-append_left xs ys (t.0, r) t.1) in
    let b = (w.range.members (u.0, s)).0 (Contains-append_right xs ys (u.0, s) u.1) in
    same_page page t.0 u.0 r s (w.paged.placed (t.0, r) a.0) (w.paged.placed (u.0, s) b.0) a.1.page b.1.page
    (before_come Before xs ys (t.0, r) (u.0, s) w.range.rising t.1 u.1)

-- the last of the run so far; none of those passed is above it, or none of a run has been reached
abbrev pub EndsRow : List Entry → Key → Option Key → Type 0
EndsRow xs start None = (r : RecordData) → Contains (records_in xs) r → KeyBefore start (key_of r) → ⊥
EndsRow xs start (Some last) =
    ((r : RecordData) × Contains (records_in xs) r × KeyBefore start (key_of r) × HasKey last r)
    × ((r : RecordData) → Contains (records_in xs) r → KeyBefore last (key_of r) → ⊥)

abbrev pub InRow : List Entry → Key → RecordData → Type 0
InRow xs start r = Contains (records_in xs) r × KeyBefore start (key_of r)

-- what the walk knows: the alive of those passed are those above a key, and they are no longer listed
pub record Rowed (b : BookData) (held : List RecordData) (above : Key) (xs : List Entry) (start : Key) (last : Option Key) (keys : List (Key × RecordData)) : Type 0 where
  pub low : (start ≡ above) ⊎ ((r : RecordData) × Contains (records_in xs) r × HasKey start r)
  pub up : (r : RecordData) → Contains (records_in xs) r → IsAlive b.cuts b.complete r.epoch r.number → KeyBefore start (key_of r)
  pub alive : (r : RecordData) → InRow xs start r → IsAlive b.cuts b.complete r.epoch r.number
  pub ends : EndsRow xs start last
  pub left : Left (InRow xs start) held keys

pub rowed_none : (b : BookData) (held : List RecordData) (above : Key) (keys : List (Key × RecordData)) → IsKeyRecords held keys → Rowed b held above [] above None keys
rowed_none b held above keys is = search rules

-- an alive record is one more of the run
pub rowed_alive : (b : BookData) (m : Map) (page : ℕ) (above to : Key) (xs rest : List Entry) (x : Entry) (start : Key) (last : Option Key) (keys less : List (Key × RecordData)) (e n : ℕ) → Walk m page above to xs (x ∷ rest) → Rowed b (seen m) above xs start last keys
    → IsAlive b.cuts b.complete x.1.epoch x.1.number → e ≡ x.1.epoch → n ≡ x.1.number → LosesEntry keys (key_in e n) less → Rowed b (seen m) above (xs ++ x ∷ []) start (Some (key_in e n)) less
rowed_alive b m page above to xs rest x start last keys less e n w is alive q s loses = record {
  low = ⊎_elim (λ (u : start ≡ above). inl u) (λ u. inr (u.0, (joined xs x u.0).1 (inl u.1), u.2)) is.low;
  up = λ r h a. ⊎_elim (λ (u : Contains (records_in xs) r). is.up r u a) (λ (u : r ≡ x.1). subst (λ (y : RecordData). KeyBefore start (key_of y)) (sym u) over) ((joined xs x r).0 h);
  alive = λ r h. ⊎_elim (λ (u : Contains (records_in xs) r). is.alive r (u, h.1)) (λ (u : r ≡ x.1). subst (λ (y : RecordData). IsAlive b.cuts b.complete y.epoch y.number) (sym u) alive) ((joined xs x r).0 h.0);
  ends = (
    (x.1, (joined xs x x.1).1 (inr refl), over, (sym q, sym s)),
    λ r h k. ⊎_elim
        (λ (u : Contains (records_in xs) r). pair_apart r.epoch r.number x.1.epoch x.1.number (behind r u) (subst (λ (y : ℕ). KeyBefore (key_in y x.1.number) (key_of r)) q (subst (λ (y : ℕ). KeyBefore (key_in e y) (key_of r)) s k)))
        (λ (u : r ≡ x.1). pair_not_same e n r.epoch r.number k (q ∙ ap (λ (y : RecordData). y.epoch) (sym u)) (s ∙ ap (λ (y : RecordData). y.number) (sym u)))
        ((joined xs x r).0 h),
  );
  left = left_more (InRow xs start) (InRow (xs ++ x ∷ []) start) (seen m) keys less x.1 e n (held_of m w.paged) is.left found.0
      (λ r h. (
        λ k. ⊎_elim (λ (u : Contains (records_in xs) r). inl (u, k.1)) (λ (u : r ≡ x.1). inr u) ((joined xs x r).0 k.0),
        λ k. ⊎_elim
            (λ (u : InRow xs start r). ((joined xs x r).1 (inl u.0), u.1))
            (λ (u : r ≡ x.1). ((joined xs x r).1 (inr u), subst (λ (y : RecordData). KeyBefore start (key_of y)) (sym u) over))
            k,
      ))
      q s loses;
}
  where
    behind : (r : RecordData) → Contains (records_in xs) r → RecordBefore r x.1
    behind r h = front m page above to xs (x ∷ rest) w r x.1 h (record_in (x ∷ rest) x (here x rest))

    found : Contains (seen m) x.1 × IsBetween page above to x.1
    found = walked m page above to xs (x ∷ rest) w x.1 (come_in xs (x ∷ rest) x.1 (record_in (x ∷ rest) x (here x rest)))

    over : KeyBefore start (key_of x.1)
    over = ⊎_elim
        (λ (u : start ≡ above). subst (λ (k : Key). KeyBefore k (key_of x.1)) (sym u) found.1.1)
        (λ u. subst (λ (y : ℕ). KeyBefore (key_in y start.number) (key_of x.1)) u.2.0 (subst (λ (y : ℕ). KeyBefore (key_in u.0.epoch y) (key_of x.1)) u.2.1 (behind u.0 u.1)))
        is.low

-- one that is not alive, before the run
pub rowed_dead : (b : BookData) (m : Map) (page : ℕ) (above to : Key) (xs rest : List Entry) (x : Entry) (start : Key) (keys : List (Key × RecordData)) (e n : ℕ) → Walk m page above to xs (x ∷ rest) → Rowed b (seen m) above xs start None keys
    → (IsAlive b.cuts b.complete x.1.epoch x.1.number → ⊥) → e ≡ x.1.epoch → n ≡ x.1.number → Rowed b (seen m) above (xs ++ x ∷ []) (key_in e n) None keys
rowed_dead b m page above to xs rest x start keys e n w is dead q s = record {
  low = inr (x.1, (joined xs x x.1).1 (inr refl), (sym q, sym s));
  up = λ r h a. absurd (⊎_elim
      (λ (u : Contains (records_in xs) r). is.ends r u (is.up r u a))
      (λ (u : r ≡ x.1). dead (subst (λ (y : RecordData). IsAlive b.cuts b.complete y.epoch y.number) u a))
      ((joined xs x r).0 h));
  alive = λ r h. absurd (none_up r h.0 h.1);
  ends = none_up;
  left = left_as (InRow xs start) (InRow (xs ++ x ∷ []) (key_in e n)) (seen m) keys (λ r h. (λ k. absurd (is.ends r k.0 k.1), λ k. absurd (none_up r k.0 k.1))) is.left;
}
  where
    none_up : (r : RecordData) → Contains (records_in (xs ++ x ∷ [])) r → KeyBefore (key_in e n) (key_of r) → ⊥
    none_up r h k = ⊎_elim
        (λ (u : Contains (records_in xs) r). pair_apart r.epoch r.number x.1.epoch x.1.number (front m page above to xs (x ∷ rest) w r x.1 u (record_in (x ∷ rest) x (here x rest))) (subst (λ (y : ℕ). KeyBefore (key_in y x.1.number) (key_of r)) q (subst (λ (y : ℕ). KeyBefore (key_in e y) (key_of r)) s k)))
        (λ (u : r ≡ x.1). pair_not_same e n r.epoch r.number k (q ∙ ap (λ (y : RecordData). y.epoch) (sym u)) (s ∙ ap (λ (y : RecordData). y.number) (sym u)))
        ((joined xs x r).0 h)

-- the walk ends in front of a record that is not alive, or where none is left
pub rowed_some : (b : BookData) (m : Map) (page : ℕ) (above to : Key) (xs ys : List Entry) (start last : Key) (keys : List (Key × RecordData)) → Walk m page above to xs ys → Rowed b (seen m) above xs start (Some last) keys → UnlistsRow b (seen m) page above to keys (Some (start, last))
rowed_some b m page above to xs ys start last keys w is = (
  record {
    low = λ u. ⊎_elim
        (λ (v : start ≡ above). pair_not_same start.epoch start.number above.epoch above.number u (ap (λ (k : Key). k.epoch) v) (ap (λ (k : Key). k.number) v))
        (λ v. pair_apart start.epoch start.number above.epoch above.number u (key_above v.0 start v.2 (among v.0 v.1).1.1))
        is.low;
    first = λ r h. h.2 (is.up r (inside r h.0.0 h.0.2 h.1 (λ p. h.2 (pair_trans start.epoch start.number end.0.epoch end.0.number r.epoch r.number end.2 p))) h.0.1);
    alive = λ r h k. is.alive r (own r h k, k.1);
    ends = (end.0, (((among end.0 end.1).0, is.alive end.0 (end.1, end.2), (among end.0 end.1).1.0), (among end.0 end.1).1.1, (among end.0 end.1).1.2), end.3);
  },
  left_lists (IsBetween page start last) (seen m) keys (left_as (InRow xs start) (IsBetween page start last) (seen m) keys (λ r h. (
    λ k. ((among r k.0).1.0, k.1, is.ends.1 r k.0),
    λ k. (own r h k, k.1),
  )) is.left),
)
  where
    end : (r : RecordData) × Contains (records_in xs) r × KeyBefore start (key_of r) × HasKey last r
    end = is.ends.0

    among : (r : RecordData) → Contains (records_in xs) r → Contains (seen m) r × IsBetween page above to r
    among r h = walked m page above to xs ys w r (passed_in xs ys r h)

    key_above : (r : RecordData) (k : Key) → HasKey k r → KeyBefore above (key_of r) → KeyBefore above k
    key_above r k h p = subst (λ (y : ℕ). KeyBefore above (key_in y k.number)) h.0 (subst (λ (y : ℕ). KeyBefore above (key_in r.epoch y)) h.1 p)

    over : (r : RecordData) → KeyBefore start (key_of r) → KeyBefore above (key_of r)
    over r p = ⊎_elim
        (λ (u : start ≡ above). subst (λ (k : Key). KeyBefore k (key_of r)) u p)
        (λ u. pair_trans above.epoch above.number start.epoch start.number r.epoch r.number (key_above u.0 start u.2 (among u.0 u.1).1.1) p)
        is.low

    inside : (r : RecordData) → Contains (seen m) r → r.page ≡ page → KeyBefore above (key_of r) → (RecordBefore end.0 r → ⊥) → Contains (records_in xs) r
    inside r h p up down = ⊎_elim
        (λ (u : Contains (records_in xs) r). u)
        (λ (u : Contains (records_in ys) r). absurd (down (front m page above to xs ys w end.0 r end.1 u)))
        (passes m page above to xs ys w r h (p, up, λ past. (among end.0 end.1).1.2 (pair_up_to to.epoch to.number end.0.epoch end.0.number r.epoch r.number past down)))

    own : (r : RecordData) → Contains (seen m) r → IsBetween page start last r → Contains (records_in xs) r
    own r h k = inside r h k.0 (over r k.1) (λ p. k.2 (subst (λ (y : ℕ). KeyBefore (key_in y last.number) (key_of r)) end.3.0 (subst (λ (y : ℕ). KeyBefore (key_in end.0.epoch y) (key_of r)) end.3.1 p)))

pub rowed_all : (b : BookData) (m : Map) (page : ℕ) (above to : Key) (xs : List Entry) (start : Key) (keys : List (Key × RecordData)) → Walk m page above to xs [] → Rowed b (seen m) above xs start None keys → UnlistsRow b (seen m) page above to keys None
rowed_all b m page above to xs start keys w is = (
  λ r h. ⊎_elim
      (λ (u : Contains (records_in xs) r). is.ends r u (is.up r u h.0.1))
      (λ (u : Contains [] r). none_in r u)
      (passes m page above to xs [] w r h.0.0 (h.0.2, h.1, h.2)),
  left_lists (InRow xs start) (seen m) keys is.left (seen m) (λ r. (λ h. (h, λ k. is.ends r k.0 k.1), λ h. h.0)),
)

-- without the records of the run
pub row_gone : (b : BookData) (page : ℕ) (above to start last : Key) (old new : List RecordData) → IsRow b old page above to start last → Removes (IsBetween page start last) old new → RemovesRow b page above to old new (Some last)
row_gone b page above to start last old new row removes = (
  λ r. (
    λ h.
        let t = (removes r).0 h in (
          t.0,
          λ k. ⊎_elim
              (λ (u : KeyBefore start (key_of r)). t.1 (k.0.2, u, k.2))
              (λ (u : KeyBefore start (key_of r) → ⊥). row.first r (k.0, k.1, u))
              (pair_or_not start.epoch start.number r.epoch r.number),
        ),
    λ h. (removes r).1 (h.0, λ k. h.1 ((h.0, row.alive r h.0 k, k.0), raised above.epoch above.number start.epoch start.number r.epoch r.number row.low k.1, k.2)),
  ),
  row.ends,
)
  where
    raised : (a b c d e n : ℕ) → (PairBefore c d a b → ⊥) → PairBefore c d e n → PairBefore a b e n
    raised a b c d e n p q = grind arith
