-- A scan of the keys above one, and what is kept of them.
use Rattle.std.proofs.Common.{◌↔◌, ◌≡◌, ℕ, ◌<◌, ◌≤◌, inl, inr, ⊎_elim, List, [], ◌∷◌, ◌++◌, map, refl, sym, ap, ◌∙◌, subst, arith, rules}
use Rattle.std.proofs.lemmas.Grind.{common_steps}
use Rattle.std.specs.List.{Contains, filter}
use Rattle.std.specs.declared.cmp.Ordering.TheVariants.{Less}
use Rattle.std.specs.declared.ops.Bound.TheVariants.{Excluded, Unbounded}
use Rattle.std.specs.List.Sorted.{IsStrictlySortedBy}
use Rattle.std.specs.Map.{keys_of}
use Rattle.std.specs.BTreeMap.Range.{range_contains}
use Rattle.redo_core.specs.Data.{RecordData}
use Rattle.redo_core.specs.Keys.{key_in, key_of, key_cmp, KeyBefore}
use Rattle.redo_core.specs.declared.keys.Key.{Key}
use Rattle.redo_core.specs.Order.{IsRising, Lists, RecordBefore}
use Rattle.redo_core.specs.Standing.{IsAlive, IsWaiting}
use Rattle.redo_core.proofs.Members.{none_in, here, there, which, each, all_of, filtered, passed}
use Rattle.redo_core.proofs.Listing.{lists_push, lists_as}
use Rattle.redo_core.proofs.Rising.{rising_filter}
use Rattle.epoch_book.specs.Book.{BookData}
use Rattle.hot_log.specs.Alive.{PartsAt}
use Rattle.hot_log.specs.Indexing.{IsKeyRecords}
use Rattle.hot_log.specs.Kept.{KeepsKey, IsKeptAbove, IsKeptUnlisted, ListsKeysOf, IsKeyKept}
use Rattle.hot_log.proofs.Indexed.{one_key}
use Rattle.hot_log.proofs.Keyed.{Entry, Map}
use Rattle.hot_log.proofs.Maps.{rising_entries, before_join, lt_true, lt_of}
use Rattle.hot_log.proofs.Orders.{key_less, key_less_of, joins_last}

-- ---- the walk over the entries of a range

-- of some entries the keys that wait, or are alive above a point
abbrev pub KeptIn : BookData → ℕ → List Entry → Key → Type 0
KeptIn b point xs k = ((r : RecordData) × Contains xs (k, r)) × KeepsKey b point k

abbrev pub ListsKept : BookData → ℕ → List Entry → List Key → Type 0
ListsKept b point xs keys = Lists KeyBefore (KeptIn b point xs) keys

pub kept_none : (b : BookData) (point : ℕ) (keys : List Key) → keys ≡ [] → ListsKept b point [] keys
kept_none b point keys none = search rules

-- the entries in front of one in a range have lower keys
in_front : (m : Map) (above : Key) (es xs rest : List Entry) (x : Entry) → IsStrictlySortedBy key_cmp (keys_of m)
    → es ≡ filter (λ (e : Entry). range_contains key_cmp (Excluded above) Unbounded e.0) m → es ≡ xs ++ x ∷ rest
    → (k : Key) (r : RecordData) → Contains xs (k, r) → KeyBefore k x.0
in_front m above es xs rest x ordered is split k r h =
    let Before : Entry → Entry → Type 0 = λ x y. key_cmp x.0 y.0 ≡ Less in
    let test = λ (e : Entry). range_contains key_cmp (Excluded above) Unbounded e.0 in
    let rising : IsRising Before (xs ++ x ∷ rest) = subst (IsRising Before) (sym is ∙ split) (rising_filter Before test m (rising_entries key_cmp m ordered)) in
    key_less k x.0 (before_join Before xs rest x (k, r) rising h)

pub kept_more : (b : BookData) (point : ℕ) (m : Map) (above : Key) (es xs rest : List Entry) (x : Entry) (keys : List Key) → IsStrictlySortedBy key_cmp (keys_of m)
    → es ≡ filter (λ (e : Entry). range_contains key_cmp (Excluded above) Unbounded e.0) m → es ≡ xs ++ x ∷ rest
    → ListsKept b point xs keys → KeepsKey b point x.0 → ListsKept b point (xs ++ x ∷ []) (keys ++ x.0 ∷ [])
kept_more b point m above es xs rest x keys ordered is split lists keeps =
    lists_push KeyBefore (KeptIn b point xs) (KeptIn b point (xs ++ x ∷ [])) keys x.0 lists
    (λ k h. in_front m above es xs rest x ordered is split k h.0.0 h.0.1)
    (λ k. (
      λ h. ⊎_elim
          (λ (u : Contains xs (k, h.0.0)). inl ((h.0.0, u), h.1))
          (λ (u : (k, h.0.0) ≡ x). inr (ap (λ (e : Entry). e.0) u))
          ((joins_last xs x (k, h.0.0)).0 h.0.1),
      λ h. ⊎_elim
          (λ (u : KeptIn b point xs k). ((u.0.0, (joins_last xs x (k, u.0.0)).1 (inl u.0.1)), u.1))
          (λ (u : k ≡ x.0). subst (KeptIn b point (xs ++ x ∷ [])) (sym u) ((x.1, (joins_last xs x x).1 (inr refl)), keeps))
          h,
    ))

pub kept_left : (b : BookData) (point : ℕ) (xs : List Entry) (x : Entry) (keys : List Key) → ListsKept b point xs keys → (KeepsKey b point x.0 → ⊥)
    → ListsKept b point (xs ++ x ∷ []) keys
kept_left b point xs x keys lists not =
    lists_as KeyBefore (KeptIn b point xs) (KeptIn b point (xs ++ x ∷ [])) keys
    (λ k. (
      λ h. ((h.0.0, (joins_last xs x (k, h.0.0)).1 (inl h.0.1)), h.1),
      λ h. ⊎_elim
          (λ (u : Contains xs (k, h.0.0)). ((h.0.0, u), h.1))
          (λ (u : (k, h.0.0) ≡ x). absurd (not (subst (KeepsKey b point) (ap (λ (e : Entry). e.0) u) h.1)))
          ((joins_last xs x (k, h.0.0)).0 h.0.1),
    ))
    lists

-- at the end of the range they are all
pub kept_all : (b : BookData) (point : ℕ) (m : Map) (above : Key) (es : List Entry) (keys : List Key)
    → es ≡ filter (λ (e : Entry). range_contains key_cmp (Excluded above) Unbounded e.0) m → ListsKept b point es keys
    → Lists KeyBefore (IsKeyKept b m above point) keys
kept_all b point m above es keys is lists =
    let test = λ (e : Entry). range_contains key_cmp (Excluded above) Unbounded e.0 in
    lists_as KeyBefore (KeptIn b point es) (IsKeyKept b m above point) keys
    (λ k. (
      λ h.
          let t = filtered test m (k, h.0.0) (subst (λ (l : List Entry). Contains l (k, h.0.0)) is h.0.1) in
          ((h.0.0, t.0), key_less above k (lt_true (key_cmp above k) t.1), h.1),
      λ h. (
        (
          h.0.0,
          subst (λ (l : List Entry). Contains l (k, h.0.0)) (sym is)
              (passed test m (k, h.0.0) (lt_of (key_cmp above k) (key_less_of above k h.1)) h.0.1),
        ),
        h.2,
      ),
    ))
    lists

-- a stored record is kept and unlisted where its key is
pub unlisted_of : (b : BookData) (held : List RecordData) (point : ℕ) (keys : List Key) (key : Key) (r : RecordData) → Contains held r → key ≡ key_of r
    → (KeepsKey b point key × (Contains keys key → ⊥)) ↔ IsKeptUnlisted b held point keys r
unlisted_of b held point keys key r stored is = (
  λ h. ((stored, subst (KeepsKey b point) is h.0), subst (λ (k : Key). Contains keys k → ⊥) is h.1),
  λ h. (subst (KeepsKey b point) (sym is) h.0.1, subst (λ (k : Key). Contains keys k → ⊥) (sym is) h.1),
)

-- ---- the records of keys

-- the records with P that have these keys
record OfKeys (P : RecordData → Type 0) (keys : List Key) : Type 0 where
  records : List RecordData
  keys_are : keys ≡ map key_of records
  each_has : (r : RecordData) → Contains records r → P r

of_keys : (P : RecordData → Type 0) (keys : List Key) → ((k : Key) → Contains keys k → (r : RecordData) × P r × (k ≡ key_of r)) → OfKeys P keys
of_keys P [] has = record { records = []; keys_are = refl; each_has = λ r h. absurd (none_in r h) }
of_keys P (k ∷ ks) has =
    let own = has k (here k ks) in
    let rest = of_keys P ks (λ l h. has l (there k ks l h)) in
    record {
      records = own.0 ∷ rest.records;
      keys_are = ap (λ (l : Key). l ∷ ks) own.2 ∙ ap (λ (l : List Key). key_of own.0 ∷ l) rest.keys_are;
      each_has = λ r h. ⊎_elim (λ (u : own.0 ≡ r). subst P u own.1) (λ (u : Contains rest.records r). rest.each_has r u) (which own.0 rest.records r h);
    }

key_among : (rs : List RecordData) (r : RecordData) → Contains rs r → Contains (map key_of rs) (key_of r)
key_among rs r h = grind (arith, common_steps)

record_among : (rs : List RecordData) (k : Key) → Contains (map key_of rs) k → (r : RecordData) × Contains rs r × (key_of r ≡ k)
record_among [] k h = absurd (none_in k h)
record_among (x ∷ rs) k h = ⊎_elim
    (λ (u : key_of x ≡ k). (x, here x rs, u))
    (λ (u : Contains (map key_of rs) k). let t = record_among rs k u in (t.0, there x rs t.0 t.1, t.2))
    (which (key_of x) (map key_of rs) k h)

-- records rise where their keys do
records_rise : (rs : List RecordData) → IsRising KeyBefore (map key_of rs) → IsRising RecordBefore rs
records_rise [] rising = tt
records_rise (r ∷ rs) rising = (
  all_of (RecordBefore r) rs (λ s h. each (KeyBefore (key_of r)) (map key_of rs) (key_of s) rising.0 (key_among rs s h)),
  records_rise rs rising.1,
)

-- what waits, or is alive above a point, has a key above the one that parts the alive records there
pub past_parts : (b : BookData) (point epoch : ℕ) (k : Key) → PartsAt b point epoch → epoch ≤ b.complete → KeepsKey b point k → KeyBefore (key_in epoch point) k
past_parts b point epoch k parts known keeps = ⊎_elim
    (λ (waits : IsWaiting b.complete k.epoch). inl (omega (arith, waits, known)))
    (λ (alive : IsAlive b.cuts b.complete k.epoch k.number × (point < k.number)). (parts.0 k.epoch k.number alive.0).0 alive.1)
    keeps

pub kept_records : (b : BookData) (held : List RecordData) (entries : List Entry) (point epoch : ℕ) (keys : List Key) → IsRising RecordBefore held
    → IsKeyRecords held entries → PartsAt b point epoch → epoch ≤ b.complete → Lists KeyBefore (IsKeyKept b entries (key_in epoch point) point) keys
    → ListsKeysOf (IsKeptAbove b held point) keys
kept_records b held entries point epoch keys rising pages parts known lists =
    let of = of_keys (IsKeptAbove b held point) keys (λ k h. record_of k ((lists.members k).0 h)) in
    record {
      kept = of.records;
      lists = record {
        rising = records_rise of.records (subst (IsRising KeyBefore) of.keys_are lists.rising);
        members = λ r. (
          λ h. of.each_has r h,
          λ h.
              let among = (lists.members (key_of r)).1 ((r, pages.listed r h.0), past_parts b point epoch (key_of r) parts known h.1, h.1) in
              let t = record_among of.records (key_of r) (subst (λ (l : List Key). Contains l (key_of r)) of.keys_are among) in
              let same : t.0 ≡ r = one_key held rising t.0 r (of.each_has t.0 t.1).0 h.0 (ap (λ (k : Key). k.epoch) t.2) (ap (λ (k : Key). k.number) t.2) in
              subst (Contains of.records) same t.1,
        );
      };
      keys_are = of.keys_are;
    }
  where
    record_of : (k : Key) → IsKeyKept b entries (key_in epoch point) point k → (r : RecordData) × IsKeptAbove b held point r × (k ≡ key_of r)
    record_of k h =
        let t = pages.backed k.epoch k.number h.0.0 h.0.1 in
        let one : ℕ → Key = λ e. key_in e k.number in
        let two : ℕ → Key = λ n. key_in h.0.0.epoch n in
        let own : k ≡ key_of h.0.0 = ap one (sym t.1.0) ∙ ap two (sym t.1.1) in
        (h.0.0, (t.0, subst (KeepsKey b point) own h.2), own)
