-- The entries of ranges of a map by page and key.
use Rattle.std.proofs.Common.{◌≡◌, ℕ, ◌+◌, ◌<◌, ◌≤◌, ◌⊎◌, ◌↔◌, inl, inr, ⊎_elim, List, [], ◌∷◌, ◌++◌, sym, ◌∙◌, ap, subst, arith, Bool, true, Option, Some, None, rules}
use Rattle.std.proofs.lemmas.List.{map-append}
use Rattle.std.proofs.lemmas.Grind.{common_steps}
use Rattle.std.specs.List.{Contains, filter}
use Rattle.std.specs.declared.cmp.Ordering.TheVariants.{Less}
use Rattle.std.specs.declared.ops.Bound.TheVariants.{Included, Excluded, Unbounded}
use Rattle.std.specs.BTreeMap.Range.{range_contains}
use Rattle.std.specs.Map.{keys_of}
use Rattle.redo_core.specs.Data.{RecordData}
use Rattle.redo_core.specs.Keys.{key_in, key_of, KeyBefore}
use Rattle.redo_core.specs.declared.keys.Key.{Key}
use Rattle.redo_core.specs.Order.{IsRising, Lists, BeforeByNumber, RecordBefore}
use Rattle.redo_core.specs.Standing.{IsAlive}
use Rattle.std.proofs.lemmas.List.Elements.{Contains-append_left, Contains-append_right}
use Rattle.redo_core.proofs.Members.{here, filtered, passed}
use Rattle.redo_core.proofs.Listing.{lists_push, lists_as}
use Rattle.redo_core.proofs.Rising.{rising_filter}
use Rattle.epoch_book.specs.Book.{BookData, IsBook}
use Rattle.hot_log.specs.Alive.{IsAliveBetween}
use Rattle.hot_log.specs.Found.{IsPageAbove, IsPageAfter}
use Rattle.hot_log.specs.Indexing.{IsNextRecord, IsLastRecord, IsNextHeld, IsLastHeld}
use Rattle.hot_log.specs.Paged.{place_cmp, place_of, records_in, IsPaged}
use Rattle.hot_log.proofs.Maps.{keys_range, key_listed, rising_entries, before_join}
use Rattle.hot_log.proofs.Orders.{rises, joins_last}
use Rattle.hot_log.proofs.Places.{Place, next_none, next_some, next_other, last_none, last_some, last_other, group_none, group_some, IsGroup}
use Rattle.hot_log.proofs.Indexed.{next_held, last_held}
use Rattle.hot_log.proofs.Views.{view_of, number_before}
use Rattle.hot_log.proofs.Paged.{Entry, Map, seen, in_order, record_in, entry_of, own_entry, seen_in, page_index}

entry_in : (p : Place → Bool) (m : Map) (es : List Entry) (x : Entry) → filter (λ (e : Entry). p e.0) m ≡ es → Contains es x → Contains m x
entry_in p m es x is h = (filtered (λ (e : Entry). p e.0) m x (subst (λ (l : List Entry). Contains l x) (sym is) h)).0

own_key : (m : Map) (x : Entry) → IsPaged m → Contains m x → x.0.1 ≡ key_of x.1
own_key m x is h = ap (λ (p : Place). p.1) (is.placed x h)

pub no_next : (m : Map) (page : ℕ) (after : Key) → IsPaged m → filter (λ (e : Entry). range_contains place_cmp (Excluded (page, after)) Unbounded e.0) m ≡ [] → IsNextRecord (seen m) page after None
no_next m page after paged is =
    next_held (λ r. r.page) (seen m) (keys_of m) page after None (page_index m paged)
    (next_none (keys_of m) page after (keys_range (range_contains place_cmp (Excluded (page, after)) Unbounded) m [] is))

pub next_is : (m : Map) (page : ℕ) (after : Key) (x : Entry) (t : List Entry) → IsPaged m → filter (λ (e : Entry). range_contains place_cmp (Excluded (page, after)) Unbounded e.0) m ≡ x ∷ t → x.0.0 ≡ page → IsNextRecord (seen m) page after (Some x.1)
next_is m page after x t paged is same =
    let test : Place → Bool = range_contains place_cmp (Excluded (page, after)) Unbounded in
    let among : Contains m x = entry_in test m (x ∷ t) x is (here x t) in
    let found : IsNextHeld (λ r. r.page) (seen m) page after (Some x.0.1) =
    next_held (λ r. r.page) (seen m) (keys_of m) page after (Some x.0.1) (page_index m paged)
    (next_some (keys_of m) page after x.0 (keys_of t) (rises place_cmp (keys_of m) paged.ordered) (keys_range test m (x ∷ t) is) same) in
    (seen_in m x among, subst (λ (k : Key). IsNextHeld (λ r. r.page) (seen m) page after (Some k)) (own_key m x paged among) found)

pub next_elsewhere : (m : Map) (page : ℕ) (after : Key) (x : Entry) (t : List Entry) → IsPaged m → filter (λ (e : Entry). range_contains place_cmp (Excluded (page, after)) Unbounded e.0) m ≡ x ∷ t → (x.0.0 ≡ page → ⊥) → IsNextRecord (seen m) page after None
next_elsewhere m page after x t paged is other =
    next_held (λ r. r.page) (seen m) (keys_of m) page after None (page_index m paged)
    (next_other (keys_of m) page after x.0 (keys_of t) (rises place_cmp (keys_of m) paged.ordered) (keys_range (range_contains place_cmp (Excluded (page, after)) Unbounded) m (x ∷ t) is) other)

pub no_last : (m : Map) (page : ℕ) (to : Key) → IsPaged m → filter (λ (e : Entry). range_contains place_cmp Unbounded (Included (page, to)) e.0) m ≡ [] → IsLastRecord (seen m) page to None
no_last m page to paged is =
    last_held (λ r. r.page) (seen m) (keys_of m) page to None (page_index m paged)
    (last_none (keys_of m) page to (keys_range (range_contains place_cmp Unbounded (Included (page, to))) m [] is))

keys_end : (t : List Entry) (x : Entry) → keys_of (t ++ x ∷ []) ≡ keys_of t ++ x.0 ∷ []
keys_end t x = grind (arith, common_steps)

at_end : (t : List Entry) (x : Entry) → Contains (t ++ x ∷ []) x
at_end t x = Contains-append_right t (x ∷ []) x (here x [])

pub last_is : (m : Map) (page : ℕ) (to : Key) (x : Entry) (t : List Entry) → IsPaged m → filter (λ (e : Entry). range_contains place_cmp Unbounded (Included (page, to)) e.0) m ≡ t ++ x ∷ [] → x.0.0 ≡ page → IsLastRecord (seen m) page to (Some x.1)
last_is m page to x t paged is same =
    let test : Place → Bool = range_contains place_cmp Unbounded (Included (page, to)) in
    let among : Contains m x = entry_in test m (t ++ x ∷ []) x is (at_end t x) in
    let found : IsLastHeld (λ r. r.page) (seen m) page to (Some x.0.1) =
    last_held (λ r. r.page) (seen m) (keys_of m) page to (Some x.0.1) (page_index m paged)
    (last_some (keys_of m) page to x.0 (keys_of t) (rises place_cmp (keys_of m) paged.ordered) (keys_range test m (t ++ x ∷ []) is ∙ keys_end t x) same) in
    (seen_in m x among, subst (λ (k : Key). IsLastHeld (λ r. r.page) (seen m) page to (Some k)) (own_key m x paged among) found)

pub last_elsewhere : (m : Map) (page : ℕ) (to : Key) (x : Entry) (t : List Entry) → IsPaged m → filter (λ (e : Entry). range_contains place_cmp Unbounded (Included (page, to)) e.0) m ≡ t ++ x ∷ [] → (x.0.0 ≡ page → ⊥) → IsLastRecord (seen m) page to None
last_elsewhere m page to x t paged is other =
    last_held (λ r. r.page) (seen m) (keys_of m) page to None (page_index m paged)
    (last_other (keys_of m) page to x.0 (keys_of t) (rises place_cmp (keys_of m) paged.ordered) (keys_range (range_contains place_cmp Unbounded (Included (page, to))) m (t ++ x ∷ []) is ∙ keys_end t x) other)

-- a page is above the one given where it is from another on
abbrev pub Above_from : Option ℕ → ℕ → Type 0
Above_from after from = (p : ℕ) → (IsPageAbove after p → from ≤ p) × (from ≤ p → IsPageAbove after p)

pub no_page : (m : Map) (after : Option ℕ) (from : ℕ) → IsPaged m → Above_from after from → filter (λ (e : Entry). range_contains place_cmp (Included (from, key_in 0 0)) Unbounded e.0) m ≡ [] → IsPageAfter (seen m) after None
no_page m after from paged up is r h above =
    group_none (keys_of m) from (keys_range (range_contains place_cmp (Included (from, key_in 0 0)) Unbounded) m [] is) (place_of r)
    (key_listed m (place_of r, r) (own_entry m paged r h)) ((up r.page).0 above)

pub page_is : (m : Map) (after : Option ℕ) (from : ℕ) (x : Entry) (t : List Entry) → IsPaged m → Above_from after from → filter (λ (e : Entry). range_contains place_cmp (Included (from, key_in 0 0)) Unbounded e.0) m ≡ x ∷ t → IsPageAfter (seen m) after (Some x.0.0)
page_is m after from x t paged up is =
    let test : Place → Bool = range_contains place_cmp (Included (from, key_in 0 0)) Unbounded in
    let among : Contains m x = entry_in test m (x ∷ t) x is (here x t) in
    let found : IsGroup (keys_of m) from x.0 = group_some (keys_of m) from x.0 (keys_of t) (rises place_cmp (keys_of m) paged.ordered) (keys_range test m (x ∷ t) is) in (
      (x.1, seen_in m x among, sym (ap (λ (p : Place). p.0) (paged.placed x among)), (up x.0.0).1 found.from),
      λ r h above. found.least (place_of r) (key_listed m (place_of r, r) (own_entry m paged r h)) ((up r.page).0 above),
    )

pub past_pages : (m : Map) (page : ℕ) → IsPaged m → (page + 1 < 65536 → ⊥) → IsPageAfter (seen m) (Some page) None
past_pages m page paged over r h above = over (let fits : r.page < 65536 = paged.fits r ((in_order (records_in m) r).0 h) in let up : page < r.page = above in omega arith)

pub record InPage (group : ℕ) (low high : Key) (q : Place) : Type 0 where
  pub page : q.0 ≡ group
  pub above : KeyBefore low q.1
  pub up_to : KeyBefore high q.1 → ⊥

pub in_page : (page : ℕ) (above to : Key) (q : Place) → range_contains place_cmp (Excluded (page, above)) (Included (page, to)) q ≡ true → InPage page above to q
in_page page above to q h = search rules

pub in_range : (page : ℕ) (above to : Key) (q : Place) → InPage page above to q → range_contains place_cmp (Excluded (page, above)) (Included (page, to)) q ≡ true
in_range page above to q is = search rules

-- the entries of a map in such a range
pub record IsRange (m : Map) (page : ℕ) (above to : Key) (es : List Entry) : Type 0 where
  pub rising : IsRising (λ (x y : Entry). place_cmp x.0 y.0 ≡ Less) es
  pub members : (e : Entry) → Contains es e ↔ (Contains m e × InPage page above to e.0)

pub range_of : (m : Map) (page : ℕ) (above to : Key) (es : List Entry) → IsPaged m → es ≡ filter (λ (e : Entry). range_contains place_cmp (Excluded (page, above)) (Included (page, to)) e.0) m → IsRange m page above to es
range_of m page above to es paged is =
    let test : Entry → Bool = λ e. range_contains place_cmp (Excluded (page, above)) (Included (page, to)) e.0 in
    let Before : Entry → Entry → Type 0 = λ x y. place_cmp x.0 y.0 ≡ Less in
    record {
      rising = subst (IsRising Before) (sym is) (rising_filter Before test m (rising_entries place_cmp m paged.ordered));
      members = λ e. (
        λ h. let t = filtered test m e (subst (λ (l : List Entry). Contains l e) is h) in (t.0, in_page page above to e.0 t.1),
        λ h. subst (λ (l : List Entry). Contains l e) (sym is) (passed test m e (in_range page above to e.0 h.1) h.0),
      );
    }

-- the alive of the records of some entries
abbrev pub AliveIn : BookData → List Entry → RecordData → Type 0
AliveIn b es r = Contains (records_in es) r × IsAlive b.cuts b.complete r.epoch r.number

abbrev pub ListsAlive : BookData → List Entry → List RecordData → Type 0
ListsAlive b es ys = Lists BeforeByNumber (AliveIn b es) ys

pub alive_none : (b : BookData) (ys : List RecordData) → ys ≡ [] → ListsAlive b [] ys
alive_none b ys none = search rules

pub joined : (xs : List Entry) (x : Entry) (r : RecordData) → Contains (records_in (xs ++ x ∷ [])) r ↔ (Contains (records_in xs) r ⊎ (r ≡ x.1))
joined xs x r = rw map-append (joins_last (records_in xs) x.1 r)

-- within one page, a position below another is that of a record with a lower key
pub same_page : (page : ℕ) (p q : Place) (r s : RecordData) → p ≡ place_of r → q ≡ place_of s → p.0 ≡ page → q.0 ≡ page → place_cmp p q ≡ Less → RecordBefore r s
same_page page p q r s at bt e f low = search rules

-- a walk through a range that has reached an entry
pub record Walks (m : Map) (page : ℕ) (above to : Key) (xs : List Entry) (x : Entry) : Type 0 where
  pub es : List Entry
  pub rest : List Entry
  pub range : IsRange m page above to es
  pub split : es ≡ xs ++ x ∷ rest
  pub paged : IsPaged m

pub in_front : (m : Map) (page : ℕ) (above to : Key) (xs : List Entry) (x : Entry) → Walks m page above to xs x → (r : RecordData) → Contains (records_in xs) r → RecordBefore r x.1
in_front m page above to xs x w r h =
    let t = entry_of xs r h in
    let member = λ (e : Entry) (k : Contains (xs ++ x ∷ w.rest) e). (w.range.members e).0 (subst (λ (l : List Entry). Contains l e) (sym w.split) k) in
    let left = member (t.0, r) (Contains-append_left xs (x ∷ w.rest) (t.0, r) t.1) in
    let right = member x (Contains-append_right xs (x ∷ w.rest) x (here x w.rest)) in
    let Before : Entry → Entry → Type 0 = λ x y. place_cmp x.0 y.0 ≡ Less in
    same_page page t.0 x.0 r x.1 (w.paged.placed (t.0, r) left.0) (w.paged.placed x right.0) left.1.page right.1.page
    (before_join Before xs w.rest x (t.0, r) (subst (IsRising Before) w.split w.range.rising) t.1)

pub alive_more : (b : BookData) (m : Map) (page : ℕ) (above to : Key) (xs : List Entry) (x : Entry) (ys : List RecordData) → IsBook b → Walks m page above to xs x → ListsAlive b xs ys → IsAlive b.cuts b.complete x.1.epoch x.1.number → ListsAlive b (xs ++ x ∷ []) (ys ++ x.1 ∷ [])
alive_more b m page above to xs x ys book w lists alive =
    lists_push BeforeByNumber (AliveIn b xs) (AliveIn b (xs ++ x ∷ [])) ys x.1 lists
    (λ r h. number_before b.cuts b.complete (view_of b book) r x.1 h.1 alive (in_front m page above to xs x w r h.0))
    (λ r. (
      λ h. ⊎_elim (λ (u : Contains (records_in xs) r). inl (u, h.1)) (λ (u : r ≡ x.1). inr u) ((joined xs x r).0 h.0),
      λ h. ⊎_elim
          (λ (u : AliveIn b xs r). ((joined xs x r).1 (inl u.0), u.1))
          (λ (u : r ≡ x.1). ((joined xs x r).1 (inr u), subst (λ (s : RecordData). IsAlive b.cuts b.complete s.epoch s.number) (sym u) alive))
          h,
    ))

pub alive_left : (b : BookData) (xs : List Entry) (x : Entry) (ys : List RecordData) → ListsAlive b xs ys → (IsAlive b.cuts b.complete x.1.epoch x.1.number → ⊥) → ListsAlive b (xs ++ x ∷ []) ys
alive_left b xs x ys lists dead =
    lists_as BeforeByNumber (AliveIn b xs) (AliveIn b (xs ++ x ∷ [])) ys
    (λ r. (
      λ h. ((joined xs x r).1 (inl h.0), h.1),
      λ h. ⊎_elim
          (λ (u : Contains (records_in xs) r). (u, h.1))
          (λ (u : r ≡ x.1). absurd (dead (subst (λ (s : RecordData). IsAlive b.cuts b.complete s.epoch s.number) u h.1)))
          ((joined xs x r).0 h.0),
    ))
    lists

-- the alive of a range are the alive records between its keys
pub between_is : (b : BookData) (m : Map) (page : ℕ) (above to : Key) (es : List Entry) → IsPaged m → IsRange m page above to es → (r : RecordData) → AliveIn b es r ↔ IsAliveBetween b (seen m) page above to r
between_is b m page above to es paged range r = (
  λ h.
      let t = entry_of es r h.0 in
      let k = (range.members (t.0, r)).0 t.1 in
      let at : t.0 ≡ place_of r = paged.placed (t.0, r) k.0 in
      let P : Place → Type 0 = λ p. KeyBefore above p.1 in
      let Q : Place → Type 0 = λ p. KeyBefore to p.1 → ⊥ in (
        (seen_in m (t.0, r) k.0, h.1, sym (ap (λ (p : Place). p.0) at) ∙ k.1.page),
        subst P at k.1.above,
        subst Q at k.1.up_to,
      ),
  λ h.
      let own = own_entry m paged r h.0.0 in
      let there_in = (range.members (place_of r, r)).1 (own, record { page = h.0.2; above = h.1; up_to = h.2 }) in
      (record_in es (place_of r, r) there_in, h.0.1),
)

pub alive_all : (b : BookData) (m : Map) (page : ℕ) (above to : Key) (es : List Entry) (ys : List RecordData) → IsPaged m → IsRange m page above to es → ListsAlive b es ys → Lists BeforeByNumber (IsAliveBetween b (seen m) page above to) ys
alive_all b m page above to es ys paged range lists = search (rules, lists_as, between_is)
