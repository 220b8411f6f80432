-- Two logs scanned side by side: what the one lacks of the other, by key.
use Rattle.std.proofs.Common.{◌≡◌, ℕ, ◌⊎◌, ◌↔◌, inl, inr, ⊎_elim, List, [], ◌∷◌, ◌++◌, Option, Some, None, Bor, refl, sym, ◌∙◌, ap, subst, arith, rules, option_map}
use Rattle.std.specs.List.{Contains, cons_option}
use Rattle.std.specs.Map.Iter.{TakesFirst, deref_pair}
use Rattle.std.specs.declared.cmp.Ordering.TheVariants.{Less}
use Rattle.std.proofs.lemmas.Bool.Decides.{nat_tests}
use Rattle.std.proofs.lemmas.List.Elements.{Contains-append_right}
use Rattle.redo_core.specs.Data.{RecordData}
use Rattle.redo_core.specs.Keys.{key_of, key_cmp}
use Rattle.redo_core.specs.declared.keys.Key.{Key}
use Rattle.redo_core.specs.Order.{IsRising, Lists, RecordBefore}
use Rattle.redo_core.proofs.Members.{none_in, here, there, which, each}
use Rattle.redo_core.proofs.Listing.{lists_push, lists_as}
use Rattle.epoch_book.specs.Book.{BookData}
use Rattle.hot_log.specs.Missing.{IsMissing}
use Rattle.hot_log.specs.Scanning.{EntryBefore, StandsNext, IsStoredEntry, AreEntries, IsKeptInBoth, StoresKept}
use Rattle.hot_log.proofs.Keyed.{Entry, Map}
use Rattle.hot_log.proofs.Maps.{before_join}
use Rattle.hot_log.proofs.Orders.{joins_last, key_less}

-- what a reference to an entry shows
abbrev pub Seat : Type 0
Seat = Bor Key × Bor RecordData

abbrev pub shown : Option Seat → Option Entry
shown o = option_map deref_pair o

-- ---- the order of keys
abbrev pub Below : Key → Key → Type 0
Below p q = key_cmp p q ≡ Less

pub not_below_itself : (p : Key) → Below p p → ⊥
not_below_itself p h = grind (arith, nat_tests)

pub below_trans : (p q r : Key) → Below p q → Below q r → Below p r
below_trans p q r h k = search rules

pub not_both : (p q : Key) → Below p q → Below q p → ⊥
not_both p q h k = not_below_itself p (below_trans p q p h k)

-- ---- the own entries: some are passed, and one of the others is next
-- what is taken off a list, and what is left, are the list
pub taken : (old : Map) (first : Option Seat) (new : Map) → TakesFirst deref_pair old first new → cons_option (shown first) new ≡ old
taken old None new takes = takes.1 ∙ sym takes.0
taken old (Some x) new takes = sym takes

pub ahead_of : (old : Map) (first : Option Seat) (new : Map) → TakesFirst deref_pair old first new → IsRising EntryBefore old → StandsNext (shown first) new
ahead_of old None new takes rising = search rules
ahead_of old (Some x) new takes rising = search rules

-- what is left is of all own entries, and what is passed is before a key
pub record Passes (all : Map) (x : Key) (next : Option Entry) (rest : Map) : Type 0 where
  pub ahead : StandsNext next rest
  pub among : (e : Entry) → Contains (cons_option next rest) e → Contains all e
  pub before : (e : Entry) → Contains all e → Contains (cons_option next rest) e ⊎ Below e.0 x

pub passes_one : (all : Map) (x : Key) (own : Entry) (rest : Map) (first : Option Seat) (left : Map)
    → Passes all x (Some own) rest → Below own.0 x → TakesFirst deref_pair rest first left → Passes all x (shown first) left
passes_one all x own rest first left passes low takes =
    let is = taken rest first left takes in record {
      ahead = ahead_of rest first left takes passes.ahead.rising.1;
      among = λ e h. passes.among e (there own rest e (subst (λ (l : Map). Contains l e) is h));
      before = λ e h. ⊎_elim
          (λ (u : Contains (own ∷ rest) e). ⊎_elim
          (λ (v : own ≡ e). inr (subst (λ (y : Entry). Below y.0 x) v low))
          (λ (v : Contains rest e). inl (subst (λ (l : Map). Contains l e) (sym is) v))
          (which own rest e u))
          (λ (p : Below e.0 x). inr p)
          (passes.before e h);
    }

-- where none is before an entry, it is among them exactly where it is next
pub is_next : (all : Map) (x own : Entry) (rest : Map) → own ∷ rest ≡ all → IsRising EntryBefore (own ∷ rest)
    → ((e : Entry) → Contains all e → Below e.0 x.0 → ⊥) → (own ≡ x) ↔ Contains all x
is_next all x own rest is rising none_before = (
  λ e. subst (λ (l : Map). Contains l x) is (subst (Contains (own ∷ rest)) e (here own rest)),
  λ h. ⊎_elim
      (λ (u : own ≡ x). u)
      (λ (u : Contains rest x). absurd (none_before own (subst (λ (l : Map). Contains l own) is (here own rest)) (each (EntryBefore own) rest x rising.0 u)))
      (which own rest x (subst (λ (l : Map). Contains l x) (sym is) h)),
)

-- where the one that is next is not before a key, none that is left is
pub passed_all : (all : Map) (x : Key) (own : Entry) (rest : Map) → Passes all x (Some own) rest → (Below own.0 x → ⊥)
    → (e : Entry) → Contains (own ∷ rest) e ↔ (Contains all e × (Below e.0 x → ⊥))
passed_all all x own rest passes not_before e = (
  λ h. (
    passes.among e h,
    λ p. ⊎_elim
        (λ (u : own ≡ e). not_before (subst (λ (y : Entry). Below y.0 x) (sym u) p))
        (λ (u : Contains rest e). not_before (below_trans own.0 e.0 x (each (EntryBefore own) rest e passes.ahead.rising.0 u) p))
        (which own rest e h),
  ),
  λ h. ⊎_elim (λ (u : Contains (own ∷ rest) e). u) (λ (u : Below e.0 x). absurd (h.1 u)) (passes.before e h.0),
)

-- ---- what a log stores, as entries
-- those scanned are before the one that the walk has reached
pub before_next : (held : List RecordData) (m xs ys : Map) (x : Entry) → AreEntries held m → m ≡ xs ++ x ∷ ys → (f : Entry) → Contains xs f → Below f.0 x.0
before_next held m xs ys x is split f h = before_join EntryBefore xs ys x f (subst (IsRising EntryBefore) split is.rising) h

pub joined : (xs ys : Map) (x : Entry) → Contains (xs ++ x ∷ ys) x
joined xs ys x = Contains-append_right xs (x ∷ ys) x (here x ys)

pub of_split : (held : List RecordData) (m xs ys : Map) (x : Entry) → AreEntries held m → m ≡ xs ++ x ∷ ys → IsStoredEntry held x
of_split held m xs ys x is split = (is.each x).0 (subst (λ (l : Map). Contains l x) (sym split) (joined xs ys x))

-- ---- what is left of the own entries: those that none of the others scanned is after
abbrev pub LeftOf : List RecordData → Map → Map → Type 0
LeftOf held so_far left = (e : Entry) → Contains left e ↔ (IsStoredEntry held e × ((f : Entry) → Contains so_far f → Below e.0 f.0 → ⊥))

pub left_first : (held : List RecordData) (m : Map) → AreEntries held m → LeftOf held [] m
left_first held m is e = (λ h. ((is.each e).0 h, λ f k. absurd (none_in f k)), λ h. (is.each e).1 h.0)

pub left_next : (held : List RecordData) (so_far own left : Map) (x : Entry) → LeftOf held so_far own
    → ((e : Entry) → Contains left e ↔ (Contains own e × (Below e.0 x.0 → ⊥))) → LeftOf held (so_far ++ x ∷ []) left
left_next held so_far own left x was goes e = (
  λ h.
      let k = (goes e).0 h in
      let w = (was e).0 k.0 in (
        w.0,
        λ f q p. ⊎_elim
            (λ (u : Contains so_far f). w.1 f u p)
            (λ (u : f ≡ x). k.1 (subst (λ (y : Entry). Below e.0 y.0) u p))
            ((joins_last so_far x f).0 q),
      ),
  λ h. (goes e).1 (
    (was e).1 (h.0, λ f q. h.1 f ((joins_last so_far x f).1 (inl q))),
    h.1 x ((joins_last so_far x x).1 (inr refl)),
  ),
)

-- an entry above those scanned is stored exactly if it is left
pub held_left : (held : List RecordData) (so_far own left : Map) (x : Entry) → LeftOf held so_far own
    → ((e : Entry) → Contains left e ↔ (Contains own e × (Below e.0 x.0 → ⊥))) → ((f : Entry) → Contains so_far f → Below f.0 x.0)
    → x.0 ≡ key_of x.1 → Contains held x.1 ↔ Contains left x
held_left held so_far own left x was goes before placed = (
  λ h. (goes x).1 ((was x).1 ((placed, h), λ f k p. not_both x.0 f.0 p (before f k)), not_below_itself x.0),
  λ h. ((was x).0 ((goes x).0 h).0).0.1,
)

-- ---- the records that are not stored, in the order of the other log
abbrev pub LacksOf : List RecordData → Map → List RecordData → Type 0
LacksOf held so_far missing = Lists RecordBefore (λ r. Contains so_far (key_of r, r) × (Contains held r → ⊥)) missing

pub lacks_none : (held missing : List RecordData) → missing ≡ [] → LacksOf held [] missing
lacks_none held missing is = search rules

at_own : (x : Entry) (r : RecordData) → x.0 ≡ key_of x.1 → (◌≡◌ {A = Entry} (key_of r, r) x) ↔ (r ≡ x.1)
at_own x r placed = (
  λ h. ap (λ (e : Entry). e.1) h,
  λ h. subst (λ (p : Key). ◌≡◌ {A = Entry} (key_of r, r) (p, x.1)) (sym placed) (ap {A = RecordData} {B = Entry} (λ (s : RecordData). (key_of s, s)) h),
)

pub lacks_more : (held : List RecordData) (so_far : Map) (missing : List RecordData) (x : Entry) → LacksOf held so_far missing
    → ((f : Entry) → Contains so_far f → Below f.0 x.0) → x.0 ≡ key_of x.1 → (Contains held x.1 → ⊥) → LacksOf held (so_far ++ x ∷ []) (missing ++ x.1 ∷ [])
lacks_more held so_far missing x lists before placed lacks =
    lists_push RecordBefore (λ r. Contains so_far (key_of r, r) × (Contains held r → ⊥)) (λ r. Contains (so_far ++ x ∷ []) (key_of r, r) × (Contains held r → ⊥)) missing x.1 lists
    (λ r h. key_less (key_of r) (key_of x.1) (subst (Below (key_of r)) placed (before (key_of r, r) h.0)))
    (λ r. (
      λ h. ⊎_elim
          (λ (u : Contains so_far (key_of r, r)). inl (u, h.1))
          (λ (u : ◌≡◌ {A = Entry} (key_of r, r) x). inr ((at_own x r placed).0 u))
          ((joins_last so_far x (key_of r, r)).0 h.0),
      λ h. ⊎_elim
          (λ (u : Contains so_far (key_of r, r) × (Contains held r → ⊥)). ((joins_last so_far x (key_of r, r)).1 (inl u.0), u.1))
          (λ (u : r ≡ x.1). ((joins_last so_far x (key_of r, r)).1 (inr ((at_own x r placed).1 u)), subst (λ (s : RecordData). Contains held s → ⊥) (sym u) lacks))
          h,
    ))

pub lacks_known : (held : List RecordData) (so_far : Map) (missing : List RecordData) (x : Entry) → LacksOf held so_far missing → Contains held x.1
    → LacksOf held (so_far ++ x ∷ []) missing
lacks_known held so_far missing x lists known =
    lists_as RecordBefore (λ r. Contains so_far (key_of r, r) × (Contains held r → ⊥)) (λ r. Contains (so_far ++ x ∷ []) (key_of r, r) × (Contains held r → ⊥)) missing
    (λ r. (
      λ h. ((joins_last so_far x (key_of r, r)).1 (inl h.0), h.1),
      λ h. ⊎_elim
          (λ (u : Contains so_far (key_of r, r)). (u, h.1))
          (λ (u : ◌≡◌ {A = Entry} (key_of r, r) x). absurd (h.1 (subst (Contains held) (ap (λ (e : Entry). e.1) (sym u)) known)))
          ((joins_last so_far x (key_of r, r)).0 h.0),
    ))
    lists

pub lacks_all : (held other : List RecordData) (m so_far : Map) (missing : List RecordData) → AreEntries other m → m ≡ so_far → LacksOf held so_far missing
    → Lists RecordBefore (IsMissing held other) missing
lacks_all held other m so_far missing is all lists =
    lists_as RecordBefore (λ r. Contains so_far (key_of r, r) × (Contains held r → ⊥)) (IsMissing held other) missing
    (λ r. (
      λ h. (((is.each (key_of r, r)).0 (subst (λ (l : Map). Contains l (key_of r, r)) (sym all) h.0)).1, h.1),
      λ h. (subst (λ (l : Map). Contains l (key_of r, r)) all ((is.each (key_of r, r)).1 (refl, h.0)), h.1),
    ))
    lists

-- ---- the records that both views keep are stored so far
abbrev pub StoredIn : BookData → List RecordData → ℕ → BookData → ℕ → Map → Type 0
StoredIn book held point low base so_far = (e : Entry) → Contains so_far e → IsKeptInBoth book point low base e.0 → Contains held e.1

pub stored_none : (book : BookData) (held : List RecordData) (point : ℕ) (low : BookData) (base : ℕ) → StoredIn book held point low base []
stored_none book held point low base e h = absurd (none_in e h)

pub stored_more : (book : BookData) (held : List RecordData) (point : ℕ) (low : BookData) (base : ℕ) (so_far : Map) (x : Entry) → StoredIn book held point low base so_far
    → (IsKeptInBoth book point low base x.0 → Contains held x.1) → StoredIn book held point low base (so_far ++ x ∷ [])
stored_more book held point low base so_far x was one e h kept =
    ⊎_elim
    (λ (u : Contains so_far e). was e u kept)
    (λ (u : e ≡ x). subst (λ (y : Entry). Contains held y.1) (sym u) (one (subst (λ (y : Entry). IsKeptInBoth book point low base y.0) u kept)))
    ((joins_last so_far x e).0 h)

pub stored_all : (book : BookData) (held : List RecordData) (point : ℕ) (low : BookData) (lower : List RecordData) (base : ℕ) (m so_far : Map) → AreEntries lower m → m ≡ so_far
    → StoredIn book held point low base so_far → StoresKept book held point low lower base
stored_all book held point low lower base m so_far is all stored r h kept =
    stored (key_of r, r) (subst (λ (l : Map). Contains l (key_of r, r)) all ((is.each (key_of r, r)).1 (refl, h))) kept

-- one that both keep and that is not left is not stored
pub lacks_one : (book : BookData) (held : List RecordData) (point : ℕ) (low : BookData) (lower : List RecordData) (base : ℕ) (left : Map) (x : Entry) → IsStoredEntry lower x
    → Contains held x.1 ↔ Contains left x → IsKeptInBoth book point low base x.0 × (Contains left x → ⊥) → StoresKept book held point low lower base → ⊥
lacks_one book held point low lower base left x of there lacks stored =
    lacks.1 (there.0 (stored x.1 of.1 (subst (λ (p : Key). IsKeptInBoth book point low base p) of.0 lacks.0)))
