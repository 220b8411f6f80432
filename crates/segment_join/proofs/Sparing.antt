-- What a state stores after a loop over the other state's stored records, and which images a loop has picked.
use Rattle.std.proofs.Common.{◌≡◌, ◌↔◌, ℕ, ◌+◌, ◌<◌, ◌≤◌, ◌⊎◌, inl, inr, ⊎_elim, List, [], ◌∷◌, ◌++◌, length, get_or, take, Some, refl, sym, ap, subst, ◌∙◌, rules, arith}
use Rattle.std.specs.List.{Contains}
use Rattle.std.proofs.lemmas.List.{take_more, take_all}
use Rattle.std.proofs.lemmas.List.Elements.{Contains-append_left, Contains-append_right, Contains-append_cases}
use Rattle.redo_core.specs.Data.{RecordData}
use Rattle.redo_core.specs.Keys.{key_of}
use Rattle.redo_core.specs.declared.keys.Key.{Key}
use Rattle.redo_core.specs.Order.{IsRising, RecordBefore}
use Rattle.redo_core.proofs.Members.{none_in, here, which}
use Rattle.redo_core.specs.Standing.{IsDead}
use Rattle.segment_theorems.specs.Means.{IsInImage}
use Rattle.hot_log.specs.Held.{HasKey, IsRecordAt}
use Rattle.segment_theorems.specs.State.{State, SameBase}
use Rattle.segment_core.specs.Uniting.{HoldsRecord}
use Rattle.segment_core.specs.Refusing.{HoldsOther}
use Rattle.segment_join.specs.Holding.{InOtherImage, IsNeedless, IsSpared, HoldsRest}
use Rattle.segment_join.specs.Knowing.{HoldsAt}
use Rattle.segment_core.proofs.Keys.{one_of_key}
use Rattle.segment_join.proofs.Alike.{settled_record}
use Rattle.redo_core.proofs.Rising.{up_to, front_to}

-- the one there is, or one of those before it
last_or : {X : Type 0} (xs : List X) (i : ℕ) (x r : X) → i < length xs → x ≡ get_or xs i x → Contains (take (i + 1) xs) r → Contains (take i xs) r ⊎ (r ≡ x)
last_or xs i x r lt is has = ⊎_elim (λ (e : x ≡ r). inr (sym e)) (λ (h : Contains (take i xs) r). inl h) (front_to xs i x r lt is has)

-- ---- one key

-- a record that waits in the state's view is needed
pub waits_needed : (s other : State) (r : RecordData) → s.book.complete < r.epoch → IsNeedless s other r → ⊥
waits_needed s other r waits needless =
    ⊎_elim
    (λ (dead : IsDead s.book.cuts s.book.complete r.epoch r.number). omega (arith, waits, dead.0))
    (λ in_image. ⊎_elim (λ (own : IsInImage s r). omega (arith, waits, own.0)) (λ (others : InOtherImage s other r). omega (arith, waits, others.0)) in_image)
    needless

pub holds_spared : (s other : State) (key : Key) (redo : RecordData) → IsRising RecordBefore other.held → IsRecordAt other.held key (Some redo)
    → IsNeedless s other redo → HoldsAt s other key s
holds_spared s other key redo rising at spared = record {
  book = refl;
  rest = record { base = refl; store = refl };
  before = λ r h. h;
  more = λ r h. inl h;
  each = λ r has is.
      let same : redo ≡ r = one_of_key other.held redo r rising at.0 has (at.1.0 ∙ sym is.0) (at.1.1 ∙ sym is.1) in
      inr (inr (subst (IsNeedless s other) same spared));
}

pub holds_copy : (s other : State) (key : Key) (redo : RecordData) (t : State) → IsRising RecordBefore other.held → IsRecordAt other.held key (Some redo)
    → (IsNeedless s other redo → ⊥) → HoldsRecord s redo t → HoldsAt s other key t
holds_copy s other key redo t rising at needed holds = record {
  book = holds.book;
  rest = holds.rest;
  before = holds.before;
  more = λ r h. ⊎_elim
      (λ (x : Contains s.held r). inl x)
      (λ (x : r ≡ redo). inr (subst (Contains other.held) (sym x) at.0, λ no. needed (subst (IsNeedless s other) x no)))
      (holds.more r h);
  each = λ r has is.
      let same : redo ≡ r = one_of_key other.held redo r rising at.0 has (at.1.0 ∙ sym is.0) (at.1.1 ∙ sym is.1) in
      ⊎_elim
      (λ (x : Contains t.held redo). inl (subst (Contains t.held) same x))
      (λ (x : HoldsOther s redo). inr (inl (subst (HoldsOther s) same x)))
      holds.held;
}

-- ---- the first of the records that the state lacks
pub record HoldsFirst (missing : List RecordData) (i : ℕ) (old other new : State) : Type 0 where
  pub book : new.book ≡ old.book
  pub rest : SameBase old new
  pub before : (r : RecordData) → Contains old.held r → Contains new.held r
  pub more : (r : RecordData) → Contains new.held r → Contains old.held r ⊎ (Contains other.held r × (IsNeedless old other r → ⊥))
  pub each : (r : RecordData) → Contains (take i missing) r → Contains new.held r ⊎ IsSpared old other r

-- in another state of the same book and images it is needless too
needless_by : (s t other : State) (r : RecordData) → t.book ≡ s.book → SameBase s t → IsNeedless s other r → IsNeedless t other r
needless_by s t other r same rest h = search rules

-- the same the other way round
same_back : (s t : State) → SameBase s t → SameBase t s
same_back s t rest = record { base = sym rest.base; store = sym rest.store }

-- another one under its key is not of the other state's stored records, so the old state stored it
spared_before : (old other mid : State) (r : RecordData) → IsRising RecordBefore other.held → Contains other.held r
    → ((x : RecordData) → Contains mid.held x → Contains old.held x ⊎ (Contains other.held x × (IsNeedless old other x → ⊥))) → mid.book ≡ old.book
    → SameBase old mid → IsSpared mid other r → IsSpared old other r
spared_before old other mid r rising has more same rest spared =
    ⊎_elim
    (λ (h : HoldsOther mid r). ⊎_elim
    (λ (x : Contains old.held h.0). inl (h.0, x, h.2, h.3, h.4))
    (λ (x : Contains other.held h.0 × (IsNeedless old other h.0 → ⊥)). absurd (h.4 (one_of_key other.held h.0 r rising x.0 has h.2 h.3)))
    (more h.0 h.1))
    (λ (h : IsNeedless mid other r). inr (needless_by mid old other r (sym same) (same_back old mid rest) h))
    spared

pub first_next : (missing : List RecordData) (i : ℕ) (old other mid new : State) (x : RecordData) → IsRising RecordBefore other.held
    → i < length missing → x ≡ get_or missing i x → Contains other.held x
    → HoldsFirst missing i old other mid → HoldsAt mid other (key_of x) new → HoldsFirst missing (i + 1) old other new
first_next missing i old other mid new x rising lt is has first holds = record {
  book = holds.book ∙ first.book;
  rest = record { base = holds.rest.base ∙ first.rest.base; store = holds.rest.store ∙ first.rest.store };
  before = λ r h. holds.before r (first.before r h);
  more = λ r h. ⊎_elim
      (λ (y : Contains mid.held r). first.more r y)
      (λ (y : Contains other.held r × (IsNeedless mid other r → ⊥)). inr (y.0, λ no. y.1 (needless_by old mid other r first.book first.rest no)))
      (holds.more r h);
  each = λ r h.
      ⊎_elim
      (λ (y : Contains (take i missing) r). ⊎_elim (λ (z : Contains mid.held r). inl (holds.before r z)) (λ (z : IsSpared old other r). inr z) (first.each r y))
      (λ (y : r ≡ x).
      let there : Contains other.held r = subst (Contains other.held) (sym y) has in
      ⊎_elim
      (λ (z : Contains new.held r). inl z)
      (λ (z : IsSpared mid other r). inr (spared_before old other mid r rising there first.more first.book first.rest z))
      (holds.each r there (ap (λ (z : RecordData). z.epoch) y, ap (λ (z : RecordData). z.number) y)))
      (last_or missing i x r lt is h);
}

pub first_all : (missing : List RecordData) (i : ℕ) (old other new : State) → ((r : RecordData) → Contains other.held r → Contains old.held r ⊎ Contains missing r)
    → length missing ≤ i → HoldsFirst missing i old other new → HoldsRest old other new
first_all missing i old other new known end first = record {
  book = first.book;
  rest = first.rest;
  before = first.before;
  more = first.more;
  each = λ r h. ⊎_elim
      (λ (own : Contains old.held r). inl (first.before r own))
      (λ (lacks : Contains missing r). first.each r (subst (λ rs. Contains rs r) (sym (take_all i missing end)) lacks))
      (known r h);
}

-- ---- the things with P among the first of a list
abbrev pub Picks : {X : Type 0} (P : X → Type 0) → List X → ℕ → List X → Type 0
Picks {X} P xs i picked = (y : X) → Contains picked y ↔ (Contains (take i xs) y × P y)

pub picks_none : {X : Type 0} (P : X → Type 0) (xs : List X) → Picks P xs 0 []
picks_none P xs y = (λ h. absurd (none_in y h), λ h. absurd (none_in y h.0))

seen_next : {X : Type 0} (xs : List X) (i : ℕ) (x y : X) → i < length xs → Contains (take i xs) y → Contains (take (i + 1) xs) y
seen_next xs i x y lt h = subst (λ ys. Contains ys y) (sym (take_more xs i x lt)) (Contains-append_left (take i xs) (get_or xs i x ∷ []) y h)

pub picks_more : {X : Type 0} (P : X → Type 0) (xs picked : List X) (i : ℕ) (x : X) → i < length xs → x ≡ get_or xs i x → P x
    → Picks P xs i picked → Picks P xs (i + 1) (picked ++ x ∷ [])
picks_more P xs picked i x lt is p picks y = (
  λ h. ⊎_elim
      (λ (z : Contains picked y). let s = (picks y).0 z in (seen_next xs i x y lt s.0, s.1))
      (λ (z : Contains (x ∷ []) y). ⊎_elim
      (λ (e : x ≡ y). (subst (Contains (take (i + 1) xs)) e (up_to xs i x lt is), subst P e p))
      (λ (e : Contains [] y). absurd (none_in y e)) (which x [] y z))
      (Contains-append_cases picked (x ∷ []) y h),
  λ h. ⊎_elim
      (λ (z : Contains (take i xs) y). Contains-append_left picked (x ∷ []) y ((picks y).1 (z, h.1)))
      (λ (z : y ≡ x). Contains-append_right picked (x ∷ []) y (subst (Contains (x ∷ [])) (sym z) (here x [])))
      (last_or xs i x y lt is h.0),
)

pub picks_left : {X : Type 0} (P : X → Type 0) (xs picked : List X) (i : ℕ) (x : X) → i < length xs → x ≡ get_or xs i x → (P x → ⊥)
    → Picks P xs i picked → Picks P xs (i + 1) picked
picks_left P xs picked i x lt is not picks y = (
  λ h. let s = (picks y).0 h in (seen_next xs i x y lt s.0, s.1),
  λ h. ⊎_elim
      (λ (z : Contains (take i xs) y). (picks y).1 (z, h.1))
      (λ (z : y ≡ x). absurd (not (subst P z h.1)))
      (last_or xs i x y lt is h.0),
)

pub picks_all : {X : Type 0} (P : X → Type 0) (xs picked : List X) (i : ℕ) → length xs ≤ i → Picks P xs i picked → (y : X) → Contains picked y ↔ (Contains xs y × P y)
picks_all P xs picked i end picks y = subst (λ ys. Contains picked y ↔ (Contains ys y × P y)) (take_all i xs end) (picks y)

-- under a stored key nothing comes in: it is the same record, or another one that spares it
pub holds_known : (s other : State) (key : Key) (own : RecordData) → Contains s.held own × HasKey key own → HoldsAt s other key s
holds_known s other key own at = record {
  book = refl;
  rest = record { base = refl; store = refl };
  before = λ r h. h;
  more = λ r h. inl h;
  each = λ r h has. ⊎_elim
      (λ (e : own ≡ r). inl (subst (Contains s.held) e at.0))
      (λ (no : own ≡ r → ⊥). inr (inl (own, at.0, at.1.0 ∙ sym has.0, at.1.1 ∙ sym has.1, no)))
      (settled_record own r);
}
