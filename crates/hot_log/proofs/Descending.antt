-- What a walk down a range has passed, and where it may end.
use Rattle.std.proofs.Common.{◌≡◌, ℕ, ◌<◌, ◌≤◌, ◌⊎◌, ◌↔◌, inl, inr, ⊎_elim, List, [], ◌∷◌, ◌++◌, map, reverse, true, refl, sym, ap, ◌∙◌, subst, arith, rules, length, length-append}
use Rattle.std.specs.List.{Contains}
use Rattle.std.proofs.lemmas.List.{append_assoc, map-append, reverse-append}
use Rattle.std.proofs.lemmas.List.Elements.{Contains-append_right, Contains-append_cases}
use Rattle.redo_core.specs.Data.{RecordData}
use Rattle.redo_core.specs.declared.keys.Key.{Key}
use Rattle.redo_core.specs.Order.{IsRising, Lists, BeforeByNumber, RecordBefore}
use Rattle.redo_core.specs.Standing.{IsAlive}
use Rattle.redo_core.proofs.Members.{here, there, which, each, all_of}
use Rattle.redo_core.proofs.Listing.{lists_as}
use Rattle.epoch_book.specs.Book.{BookData, IsBook}
use Rattle.hot_log.specs.Alive.{IsAliveBetween}
use Rattle.hot_log.specs.Anew.{ListsAnew}
use Rattle.hot_log.specs.Paged.{place_cmp, records_in, IsPaged}
use Rattle.hot_log.proofs.Paged.{Entry, Map, seen, record_in, entry_of}
use Rattle.hot_log.proofs.Ranges.{IsRange, AliveIn, ListsAlive, Walks, same_page, in_front, between_is, alive_all}
use Rattle.hot_log.proofs.Views.{view_of, number_before}
use Rattle.std.specs.declared.cmp.Ordering.TheVariants.{Less}

-- the same things under another name
pub anew_as : (P Q : RecordData → Type 0) (xs : List RecordData) → ((r : RecordData) → P r ↔ Q r) → ListsAnew P xs → ListsAnew Q xs
anew_as P Q xs same lists = ⊎_elim
    (λ (all : Lists BeforeByNumber P xs). inl (lists_as BeforeByNumber P Q xs same all))
    (λ (from : (r : RecordData) × P r × (r.init ≡ true) × Lists BeforeByNumber (λ x. P x × (r.number ≤ x.number)) xs). inr (
      from.0,
      (same from.0).0 from.1,
      from.2,
      lists_as BeforeByNumber (λ x. P x × (from.0.number ≤ x.number)) (λ x. Q x × (from.0.number ≤ x.number)) xs
          (λ x. (λ h. ((same x).0 h.0, h.1), λ h. ((same x).1 h.0, h.1))) from.3,
    ))
    lists

-- one more in front of a list
lists_front : {X : Type 0} (Before : X → X → Type 0) (P Q : X → Type 0) (xs : List X) (x : X) → Lists Before P xs → ((y : X) → P y → Before x y)
    → ((y : X) → Q y ↔ ((y ≡ x) ⊎ P y)) → Lists Before Q (x ∷ xs)
lists_front Before P Q xs x lists up same = search (rules, all_of, there)

rising_behind : {X : Type 0} (Before : X → X → Type 0) (xs ys : List X) → IsRising Before (xs ++ ys) → IsRising Before ys
rising_behind Before [] ys rises = rises
rising_behind Before (x ∷ xs) ys rises = rising_behind Before xs ys rises.1

-- what a walk down has passed is above the entry that it has reached
behind : (m : Map) (page : ℕ) (above to : Key) (xs : List Entry) (x : Entry) (w : Walks m page above to xs x) (r : RecordData)
    → Contains (records_in w.rest) r → RecordBefore x.1 r
behind m page above to xs x w r h =
    let Before : Entry → Entry → Type 0 = λ x y. place_cmp x.0 y.0 ≡ Less in
    let t = entry_of w.rest r h in
    let member = λ (e : Entry) (k : Contains (xs ++ x ∷ w.rest) e). (w.range.members e).0 (subst (λ (l : List Entry). Contains l e) (sym w.split) k) in
    let left = member x (Contains-append_right xs (x ∷ w.rest) x (here x w.rest)) in
    let right = member (t.0, r) (Contains-append_right xs (x ∷ w.rest) (t.0, r) (there x w.rest (t.0, r) t.1)) in
    same_page page x.0 t.0 x.1 r (w.paged.placed x left.0) (w.paged.placed (t.0, r) right.0) left.1.page right.1.page
    (each (Before x) w.rest (t.0, r) (rising_behind Before xs (x ∷ w.rest) (subst (IsRising Before) w.split w.range.rising)).0 t.1)

pub alive_front : (b : BookData) (m : Map) (page : ℕ) (above to : Key) (xs : List Entry) (x : Entry) (ys : List RecordData) → IsBook b
    → (w : Walks m page above to xs x) → ListsAlive b w.rest ys → IsAlive b.cuts b.complete x.1.epoch x.1.number → ListsAlive b (x ∷ w.rest) (x.1 ∷ ys)
alive_front b m page above to xs x ys book w lists alive =
    lists_front BeforeByNumber (AliveIn b w.rest) (AliveIn b (x ∷ w.rest)) ys x.1 lists
    (λ r h. number_before b.cuts b.complete (view_of b book) x.1 r alive h.1 (behind m page above to xs x w r h.0))
    (λ r. (
      λ h. ⊎_elim (λ (u : x.1 ≡ r). inl (sym u)) (λ (u : Contains (records_in w.rest) r). inr (u, h.1)) (which x.1 (records_in w.rest) r h.0),
      λ h. ⊎_elim
          (λ (u : r ≡ x.1). (
            subst (λ (s : RecordData). Contains (s ∷ records_in w.rest) r) u (here r (records_in w.rest)),
            subst (λ (s : RecordData). IsAlive b.cuts b.complete s.epoch s.number) (sym u) alive,
          ))
          (λ (u : AliveIn b w.rest r). (there x.1 (records_in w.rest) r u.0, u.1))
          h,
    ))

pub alive_skipped : (b : BookData) (x : Entry) (passed : List Entry) (ys : List RecordData) → ListsAlive b passed ys
    → (IsAlive b.cuts b.complete x.1.epoch x.1.number → ⊥) → ListsAlive b (x ∷ passed) ys
alive_skipped b x passed ys lists dead =
    lists_as BeforeByNumber (AliveIn b passed) (AliveIn b (x ∷ passed)) ys
    (λ r. (
      λ h. (there x.1 (records_in passed) r h.0, h.1),
      λ h. ⊎_elim
          (λ (u : x.1 ≡ r). absurd (dead (subst (λ (s : RecordData). IsAlive b.cuts b.complete s.epoch s.number) (sym u) h.1)))
          (λ (u : Contains (records_in passed) r). (u, h.1))
          (which x.1 (records_in passed) r h.0),
    ))
    lists

-- where the walk ends at a record with `init`, what it has found are the alive records from that one on
pub ends_anew : (b : BookData) (m : Map) (page : ℕ) (above to : Key) (xs : List Entry) (x : Entry) (ys : List RecordData) → IsBook b
    → (w : Walks m page above to xs x) → ListsAlive b (x ∷ w.rest) ys → IsAlive b.cuts b.complete x.1.epoch x.1.number → x.1.init ≡ true
    → ListsAnew (IsAliveBetween b (seen m) page above to) ys
ends_anew b m page above to xs x ys book w lists alive anew =
    let between = between_is b m page above to w.es w.paged w.range in
    let v = view_of b book in
    let among : (r : RecordData) → Contains (records_in (x ∷ w.rest)) r → Contains (records_in w.es) r = λ r h.
    let t = entry_of (x ∷ w.rest) r h in
    record_in w.es (t.0, r) (subst (λ (l : List Entry). Contains l (t.0, r)) (sym w.split) (Contains-append_right xs (x ∷ w.rest) (t.0, r) t.1)) in
    inr (
      x.1,
      (between x.1).0 (among x.1 (here x.1 (records_in w.rest)), alive),
      anew,
      lists_as BeforeByNumber (AliveIn b (x ∷ w.rest)) (λ r. IsAliveBetween b (seen m) page above to r × (x.1.number ≤ r.number)) ys
          (λ r. (
            λ h. (
              (between r).0 (among r h.0, h.1),
              ⊎_elim
                  (λ (u : x.1 ≡ r). let t : x.1.number ≡ r.number = ap (λ (s : RecordData). s.number) u in omega arith)
                  (λ (u : Contains (records_in w.rest) r). let t : x.1.number < r.number = number_before b.cuts b.complete v x.1 r alive h.1 (behind m page above to xs x w r u) in omega arith)
                  (which x.1 (records_in w.rest) r h.0),
            ),
            λ h.
                let u = (between r).1 h.0 in
                let t = entry_of w.es r u.0 in
                ⊎_elim
                (λ (k : Contains xs (t.0, r)).
                let low : r.number < x.1.number = number_before b.cuts b.complete v r x.1 u.1 alive (in_front m page above to xs x w r (record_in xs (t.0, r) k)) in
                let up : x.1.number ≤ r.number = h.1 in absurd (omega arith))
                (λ (k : Contains (x ∷ w.rest) (t.0, r)). (record_in (x ∷ w.rest) (t.0, r) k, u.1))
                (Contains-append_cases xs (x ∷ w.rest) (t.0, r) (subst (λ (l : List Entry). Contains l (t.0, r)) w.split t.1)),
          ))
          lists,
    )

reverse_push : {X : Type 0} (xs : List X) (x : X) → reverse (xs ++ x ∷ []) ≡ x ∷ reverse xs
reverse_push xs x = reverse-append xs (x ∷ [])

map_reverse : {X Y : Type 0} (f : X → Y) (xs : List X) → map f (reverse xs) ≡ reverse (map f xs)
map_reverse f [] = refl
map_reverse f (x ∷ xs) =
    ap (map f) (reverse-append (x ∷ []) xs) ∙ map-append f (reverse xs) (x ∷ []) ∙ ap (λ l. l ++ f x ∷ []) (map_reverse f xs) ∙ sym (reverse-append (f x ∷ []) (map f xs))

-- what was pushed last is first
pub turned : {X : Type 0} (f : X → RecordData) (before pushed list : List X) (x : X) → pushed ≡ before ++ x ∷ [] → list ≡ reverse pushed
    → map f list ≡ f x ∷ reverse (map f before)
turned f before pushed list x more is = search (rules, reverse_push, map_reverse)

pub turned_all : {X : Type 0} (f : X → RecordData) (found list : List X) → list ≡ reverse found → map f list ≡ reverse (map f found)
turned_all f found list is = ap (map f) is ∙ map_reverse f found

-- the progress of a walk down: what it has passed, and the alive of that in falling order
pub record Descends (b : BookData) (es left : List Entry) (falling : List RecordData) : Type 0 where
  pub passed : List Entry
  pub split : es ≡ left ++ passed
  pub lists : ListsAlive b passed (reverse falling)

pub starts : (b : BookData) (es : List Entry) (falling : List RecordData) → falling ≡ [] → Descends b es es falling
starts b es falling none = search rules

pub one_fewer : (left rest : List Entry) (x : Entry) → left ≡ rest ++ x ∷ [] → length rest < length left
one_fewer left rest x is = let same = ap (λ l. length l) is in let more = length-append rest (x ∷ []) in omega arith

-- one step down
abbrev pub walks_down : (m : Map) (page : ℕ) (above to : Key) (b : BookData) (es left rest : List Entry) (falling : List RecordData) (x : Entry) → IsPaged m
    → IsRange m page above to es → left ≡ rest ++ x ∷ [] → Descends b es left falling
    → (w : Walks m page above to rest x) × ListsAlive b w.rest (reverse falling) × (w.es ≡ es)
walks_down m page above to b es left rest falling x paged range step at = (
  record {
    es = es;
    rest = at.passed;
    range = range;
    split = at.split ∙ ap (λ (l : List Entry). l ++ at.passed) step ∙ append_assoc rest (x ∷ []) at.passed;
    paged = paged;
  },
  at.lists,
  refl,
)

pub steps_down : (m : Map) (page : ℕ) (above to : Key) (b : BookData) (es left rest : List Entry) (falling more : List RecordData) (x : Entry) → IsPaged m
    → IsBook b → IsRange m page above to es → left ≡ rest ++ x ∷ [] → Descends b es left falling → IsAlive b.cuts b.complete x.1.epoch x.1.number
    → more ≡ falling ++ x.1 ∷ [] → Descends b es rest more
steps_down m page above to b es left rest falling more x paged book range step at alive is =
    let t = walks_down m page above to b es left rest falling x paged range step at in
    record {
      passed = x ∷ at.passed;
      split = t.0.split;
      lists = subst (λ (l : List RecordData). ListsAlive b (x ∷ at.passed) l) (sym (ap reverse is ∙ reverse_push falling x.1))
          (alive_front b m page above to rest x (reverse falling) book t.0 t.1 alive);
    }

pub passes_down : (b : BookData) (es left rest : List Entry) (falling : List RecordData) (x : Entry) → left ≡ rest ++ x ∷ [] → Descends b es left falling
    → (IsAlive b.cuts b.complete x.1.epoch x.1.number → ⊥) → Descends b es rest falling
passes_down b es left rest falling x step at dead = record {
  passed = x ∷ at.passed;
  split = at.split ∙ ap (λ (l : List Entry). l ++ at.passed) step ∙ append_assoc rest (x ∷ []) at.passed;
  lists = alive_skipped b x at.passed (reverse falling) at.lists dead;
}

-- where the walk ends with nothing left, it has found all
pub ends_all : (m : Map) (page : ℕ) (above to : Key) (b : BookData) (es left : List Entry) (falling : List RecordData) → IsPaged m
    → IsRange m page above to es → left ≡ [] → Descends b es left falling → ListsAnew (IsAliveBetween b (seen m) page above to) (reverse falling)
ends_all m page above to b es left falling paged range none at =
    inl (alive_all b m page above to es (reverse falling) paged range
    (subst (λ (l : List Entry). ListsAlive b l (reverse falling)) (sym (at.split ∙ ap (λ (l : List Entry). l ++ at.passed) none)) at.lists))
