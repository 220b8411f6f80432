-- Maps whose order is exact: their entries where a key joins or leaves them.
use Rattle.std.proofs.Common.{◌≡◌, ◌⊎◌, ◌↔◌, inl, inr, ⊎_elim, List, [], ◌∷◌, ◌++◌, refl, sym, ◌∙◌, ap, subst, Bool, true, false, not, ◌&&◌, cond, Some, None, rules, arith}
use Rattle.std.proofs.lemmas.Grind.{common_steps}
use Rattle.std.specs.List.{Contains, AllZip, filter}
use Rattle.std.specs.List.Sorted.{IsStrictlySortedBy}
use Rattle.std.specs.Ordering.{is_eq, is_lt}
use Rattle.std.specs.Cmp.{IsTotalOrder, eq_by_cmp_equiv}
use Rattle.std.proofs.lemmas.Map.Keys.{IsDistinct-from_sorted}
use Rattle.std.specs.declared.cmp.Ordering.{Ordering}
use Rattle.std.specs.declared.cmp.Ordering.TheVariants.{Less, Equal, Greater}
use Rattle.std.specs.Ordering.{match_ordering}
use Rattle.std.specs.BTreeMap.{is_at, insert_entry}
use Rattle.std.specs.Map.{keys_of, lookup, remove_entry}
use Rattle.std.proofs.lemmas.Map.Views.{Contains-from_lookup, lookup-from_Contains, tells_apart}
use Rattle.std.proofs.lemmas.Map.Lookups.{CmpEqualImpliesEq}
use Rattle.redo_core.specs.Order.{IsRising}
use Rattle.redo_core.proofs.Members.{none_in, here, there, which, each, all_of}

pub key_listed : {K X : Type 0} (es : List (K × X)) (e : K × X) → Contains es e → Contains (keys_of es) e.0
key_listed es e h = grind (arith, common_steps)

pub value_of : {K X : Type 0} (es : List (K × X)) (k : K) → Contains (keys_of es) k → (v : X) × Contains es (k, v)
value_of [] k h = absurd (none_in k h)
value_of {K} {X} (f ∷ es) k h =
    ⊎_elim
    (λ (u : f.0 ≡ k). (f.1, subst (λ (x : K). Contains (f ∷ es) (x, f.1)) u (here f es)))
    (λ (u : Contains (keys_of es) k). let t = value_of es k u in (t.0, there f es (k, t.0) t.1))
    (which f.0 (keys_of es) k h)

pub rising_entries : {K X : Type 0} (c : K → K → Ordering) (es : List (K × X)) → IsStrictlySortedBy c (keys_of es) → IsRising (λ (x y : K × X). c x.0 y.0 ≡ Less) es
unfolding IsStrictlySortedBy
rising_entries c [] s = tt
rising_entries {K} {X} c (f ∷ es) s = (
  all_of (λ (y : K × X). c f.0 y.0 ≡ Less) es (λ e h. each (λ (y : K). c f.0 y ≡ Less) (keys_of es) e.0 s.0 (key_listed es e h)),
  rising_entries c es s.1,
)

-- a filter by the keys
pub keys_filter : {K X : Type 0} (p : K → Bool) (es : List (K × X)) → keys_of (filter (λ (e : K × X). p e.0) es) ≡ filter p (keys_of es)
keys_filter p [] = refl
keys_filter {K} {X} p (e ∷ es) = either (p e.0) (keys_filter p es)
  where
    either : (b : Bool) → keys_of (filter (λ (e : K × X). p e.0) es) ≡ filter p (keys_of es) → keys_of (cond b (e ∷ filter (λ (e : K × X). p e.0) es) (filter (λ (e : K × X). p e.0) es)) ≡ cond b (e.0 ∷ filter p (keys_of es)) (filter p (keys_of es))
    either true h = ap (λ (l : List K). e.0 ∷ l) h
    either false h = h

-- a range of the entries is that range of their keys
pub keys_range : {K X : Type 0} (p : K → Bool) (m es : List (K × X)) → filter (λ (e : K × X). p e.0) m ≡ es → filter p (keys_of m) ≡ keys_of es
keys_range {K} {X} p m es is = sym (keys_filter p m) ∙ ap (λ (l : List (K × X)). keys_of l) is

-- the entries in front of one are below it
at_join : {K X : Type 0} (xs ys : List (K × X)) (x : K × X) → Contains (xs ++ x ∷ ys) x
at_join [] ys x = here x ys
at_join (z ∷ xs) ys x = there z (xs ++ x ∷ ys) x (at_join xs ys x)

pub before_join : {K X : Type 0} (Before : K × X → K × X → Type 0) (xs ys : List (K × X)) (x y : K × X) → IsRising Before (xs ++ x ∷ ys) → Contains xs y → Before y x
before_join Before [] ys x y rising h = absurd (none_in y h)
before_join {K} {X} Before (z ∷ xs) ys x y rising h =
    ⊎_elim
    (λ (u : z ≡ y). subst (λ (w : K × X). Before w x) u (each (Before z) (xs ++ x ∷ ys) x rising.0 (at_join xs ys x)))
    (λ (u : Contains xs y). before_join Before xs ys x y rising.1 u)
    (which z xs y h)

-- the copies of a list's items, where each is equal to its item
pub zipped : {X : Type 0} (Copy : X → X → Type 0) (xs ys : List X) → ((x y : X) → Copy x y → y ≡ x) → AllZip Copy xs ys → ys ≡ xs
zipped Copy [] [] same h = refl
zipped Copy [] (y ∷ ys) same h = absurd h
zipped Copy (x ∷ xs) [] same h = absurd h
zipped {X} Copy (x ∷ xs) (y ∷ ys) same h = ap (λ (z : X). z ∷ ys) (same x y h.0) ∙ ap (λ (l : List X). x ∷ l) (zipped Copy xs ys same h.1)

-- an order of keys in which exactly the equal ones compare as such
pub record IsExact {K : Type 0} (c : K → K → Ordering) : Type 0 where
  pub total : IsTotalOrder c
  pub exact : CmpEqualImpliesEq c
  pub same : (k : K) → c k k ≡ Equal

pub at_key : {K : Type 0} (c : K → K → Ordering) → IsExact c → (p q : K) → (c p q ≡ Equal) ↔ (q ≡ p)
at_key {K} c is p q = (λ h. sym (is.exact p q h), λ h. subst (λ (x : K). c p x ≡ Equal) (sym h) (is.same p))

pub held_at : {K X : Type 0} (c : K → K → Ordering) → IsExact c → (es : List (K × X)) → IsStrictlySortedBy c (keys_of es) → (k : K) (v : X) → (lookup (is_at (c k)) es ≡ Some v) ↔ Contains es (k, v)
held_at c is es ordered k v = (
  λ h. Contains-from_lookup (tells_apart is.exact) k v es h,
  λ h. lookup-from_Contains (eq_by_cmp_equiv is.total) k v es (IsDistinct-from_sorted c (keys_of es) ordered) h,
)

-- a new key and its value join the entries
joins_at : {E : Type 0} (o : Ordering) (p x y : E) (es more : List E) → (o ≡ Equal → ⊥) → ((e : E) → Contains more e ↔ (Contains es e ⊎ (e ≡ p))) → (e : E) → Contains (match_ordering o (p ∷ x ∷ es) (y ∷ es) (x ∷ more)) e ↔ (Contains (x ∷ es) e ⊎ (e ≡ p))
joins_at Less p x y es more off all e = (
  λ h. ⊎_elim (λ (u : p ≡ e). inr (sym u)) (λ (u : Contains (x ∷ es) e). inl u) (which p (x ∷ es) e h),
  λ h. ⊎_elim (λ (u : Contains (x ∷ es) e). there p (x ∷ es) e u) (λ (u : e ≡ p). subst (Contains (p ∷ x ∷ es)) (sym u) (here p (x ∷ es))) h,
)
joins_at Equal p x y es more off all e = absurd (off refl)
joins_at Greater p x y es more off all e = (
  λ h. ⊎_elim
      (λ (u : x ≡ e). inl (subst (Contains (x ∷ es)) u (here x es)))
      (λ (u : Contains more e). ⊎_elim (λ (v : Contains es e). inl (there x es e v)) (λ (v : e ≡ p). inr v) ((all e).0 u))
      (which x more e h),
  λ h. ⊎_elim
      (λ (u : Contains (x ∷ es) e). ⊎_elim
      (λ (v : x ≡ e). subst (Contains (x ∷ more)) v (here x more))
      (λ (v : Contains es e). there x more e ((all e).1 (inl v)))
      (which x es e u))
      (λ (u : e ≡ p). there x more e ((all e).1 (inr u)))
      h,
)

pub joins : {K X : Type 0} (cmp : K → K → Ordering) (es : List (K × X)) (k : K) (v : X) → ((e : K × X) → Contains es e → cmp k e.0 ≡ Equal → ⊥) → (e : K × X) → Contains (insert_entry cmp es k v) e ↔ (Contains es e ⊎ (e ≡ (k, v)))
joins cmp [] k v free e = (
  λ h. ⊎_elim (λ u. inr (sym u)) (λ u. absurd (none_in e u)) (which (k, v) [] e h),
  λ h. ⊎_elim (λ u. absurd (none_in e u)) (λ u. subst (Contains ((k, v) ∷ [])) (sym u) (here (k, v) [])) h,
)
joins cmp (x ∷ es) k v free e = joins_at (cmp k x.0) (k, v) x (x.0, v) es (insert_entry cmp es k v) (free x (here x es)) (joins cmp es k v (λ y h. free y (there x es y h))) e

-- a key, new or not, is among the keys once it has a value
keyed_at : {K X : Type 0} (o : Ordering) (k : K) (v : X) (x : K × X) (es more : List (K × X)) → (o ≡ Equal → x.0 ≡ k) → ((q : K) → Contains (keys_of more) q ↔ (Contains (keys_of es) q ⊎ (q ≡ k))) → (q : K)
    → Contains (keys_of (match_ordering o ((k, v) ∷ x ∷ es) ((x.0, v) ∷ es) (x ∷ more))) q ↔ (Contains (keys_of (x ∷ es)) q ⊎ (q ≡ k))
keyed_at Less k v x es more same all q = (
  λ h. ⊎_elim (λ (u : k ≡ q). inr (sym u)) (λ (u : Contains (keys_of (x ∷ es)) q). inl u) (which k (keys_of (x ∷ es)) q h),
  λ h. ⊎_elim (λ (u : Contains (keys_of (x ∷ es)) q). there k (keys_of (x ∷ es)) q u) (λ (u : q ≡ k). subst (Contains (k ∷ keys_of (x ∷ es))) (sym u) (here k (keys_of (x ∷ es)))) h,
)
keyed_at Equal k v x es more same all q = (
  λ h. inl h,
  λ h. ⊎_elim (λ (u : Contains (keys_of (x ∷ es)) q). u) (λ (u : q ≡ k). subst (Contains (keys_of (x ∷ es))) (same refl ∙ sym u) (here x.0 (keys_of es))) h,
)
keyed_at Greater k v x es more same all q = (
  λ h. ⊎_elim
      (λ (u : x.0 ≡ q). inl (subst (Contains (keys_of (x ∷ es))) u (here x.0 (keys_of es))))
      (λ (u : Contains (keys_of more) q). ⊎_elim (λ (w : Contains (keys_of es) q). inl (there x.0 (keys_of es) q w)) (λ (w : q ≡ k). inr w) ((all q).0 u))
      (which x.0 (keys_of more) q h),
  λ h. ⊎_elim
      (λ (u : Contains (keys_of (x ∷ es)) q). ⊎_elim
      (λ (w : x.0 ≡ q). subst (Contains (x.0 ∷ keys_of more)) w (here x.0 (keys_of more)))
      (λ (w : Contains (keys_of es) q). there x.0 (keys_of more) q ((all q).1 (inl w)))
      (which x.0 (keys_of es) q u))
      (λ (u : q ≡ k). there x.0 (keys_of more) q ((all q).1 (inr u)))
      h,
)

pub gained : {K X : Type 0} (c : K → K → Ordering) → IsExact c → (es : List (K × X)) (k : K) (v : X) (q : K) → Contains (keys_of (insert_entry c es k v)) q ↔ (Contains (keys_of es) q ⊎ (q ≡ k))
gained c is [] k v q = (
  λ h. ⊎_elim (λ (u : k ≡ q). inr (sym u)) (λ u. absurd (none_in q u)) (which k [] q h),
  λ h. ⊎_elim (λ u. absurd (none_in q u)) (λ (u : q ≡ k). subst (Contains (k ∷ [])) (sym u) (here k [])) h,
)
gained c is (x ∷ es) k v q = keyed_at (c k x.0) k v x es (insert_entry c es k v) (λ e. (at_key c is k x.0).0 e) (gained c is es k v) q

-- an entry of another key stays in front
stays : {K X : Type 0} (c : K → K → Ordering) → IsExact c → (k : K) (x : K × X) (es less : List (K × X)) → (x.0 ≡ k → ⊥) → ((e : K × X) → Contains less e ↔ ((e.0 ≡ k → ⊥) × Contains es e)) → (e : K × X)
    → Contains (x ∷ less) e ↔ ((e.0 ≡ k → ⊥) × Contains (x ∷ es) e)
stays {K} {X} c is k x es less other all e = (
  λ h. ⊎_elim
      (λ (u : x ≡ e). (λ same. other (ap (λ (y : K × X). y.0) u ∙ same), subst (Contains (x ∷ es)) u (here x es)))
      (λ (u : Contains less e). let w = (all e).0 u in (w.0, there x es e w.1))
      (which x less e h),
  λ h. ⊎_elim
      (λ (u : x ≡ e). subst (Contains (x ∷ less)) u (here x less))
      (λ (u : Contains es e). there x less e ((all e).1 (h.0, u)))
      (which x es e h.1),
)

-- a key leaves the entries
leaves_at : {K X : Type 0} (c : K → K → Ordering) → IsExact c → (o : Ordering) (k : K) (x : K × X) (es less : List (K × X)) → c k x.0 ≡ o → IsStrictlySortedBy c (keys_of (x ∷ es))
    → ((e : K × X) → Contains less e ↔ ((e.0 ≡ k → ⊥) × Contains es e)) → (e : K × X) → Contains (cond (is_eq o) es (x ∷ less)) e ↔ ((e.0 ≡ k → ⊥) × Contains (x ∷ es) e)
leaves_at {K} {X} c is Equal k x es less o ordered all e = (
  λ h. (λ same. apart (each (λ (y : K × X). c x.0 y.0 ≡ Less) es e (rising_entries c (x ∷ es) ordered).0 h) same, there x es e h),
  λ h. ⊎_elim (λ (u : x ≡ e). absurd (h.0 (ap (λ (y : K × X). y.0) (sym u) ∙ at))) (λ (u : Contains es e). u) (which x es e h.1),
)
  where
    at : x.0 ≡ k
    at = (at_key c is k x.0).0 o

    apart : c x.0 e.0 ≡ Less → e.0 ≡ k → ⊥
    apart low same =
        let equal : c x.0 e.0 ≡ Equal = (at_key c is x.0 e.0).1 (same ∙ sym at) in
        let no : ⊥ = cc in
        no
leaves_at {K} {X} c is Less k x es less o ordered all e = stays c is k x es less (λ same. let equal : c k x.0 ≡ Equal = (at_key c is k x.0).1 same in let no : ⊥ = cc in no) all e
leaves_at {K} {X} c is Greater k x es less o ordered all e = stays c is k x es less (λ same. let equal : c k x.0 ≡ Equal = (at_key c is k x.0).1 same in let no : ⊥ = cc in no) all e

pub shrunk : {K X : Type 0} (c : K → K → Ordering) → IsExact c → (es : List (K × X)) (k : K) → IsStrictlySortedBy c (keys_of es) → (e : K × X) → Contains (remove_entry (is_at (c k)) es) e ↔ ((e.0 ≡ k → ⊥) × Contains es e)
unfolding IsStrictlySortedBy
shrunk c is [] k ordered e = (λ h. absurd (none_in e h), λ h. absurd (none_in e h.1))
shrunk c is (x ∷ es) k ordered e = leaves_at c is (c k x.0) k x es (remove_entry (is_at (c k)) es) refl ordered (shrunk c is es k ordered.1) e

pub lost : {K X : Type 0} (c : K → K → Ordering) → IsExact c → (es : List (K × X)) (k : K) → IsStrictlySortedBy c (keys_of es) → (q : K) → Contains (keys_of (remove_entry (is_at (c k)) es)) q ↔ (Contains (keys_of es) q × (q ≡ k → ⊥))
lost c is es k ordered q = (
  λ h.
      let t = value_of (remove_entry (is_at (c k)) es) q h in
      let u = (shrunk c is es k ordered (q, t.0)).0 t.1 in
      (key_listed es (q, t.0) u.1, u.0),
  λ h.
      let t = value_of es q h.0 in
      key_listed (remove_entry (is_at (c k)) es) (q, t.0) ((shrunk c is es k ordered (q, t.0)).1 (h.1, t.1)),
)

-- where no entry has the key, none leaves
pub none_leaves : {K X : Type 0} (test : K → Bool) (es : List (K × X)) → lookup test es ≡ None → remove_entry test es ≡ es
none_leaves test [] h = refl
none_leaves {K} {X} test (e ∷ es) h = either (test e.0) h (none_leaves test es)
  where
    either : (b : Bool) → cond b (Some e.1) (lookup test es) ≡ None → (lookup test es ≡ None → remove_entry test es ≡ es) → cond b es (e ∷ remove_entry test es) ≡ e ∷ es
    either true h more = cc
    either false h more = ap (λ (l : List (K × X)). e ∷ l) (more h)

-- tests of a range's ends
pub lt_true : (o : Ordering) → (is_lt o && not false) ≡ true → o ≡ Less
lt_true o h = search rules

pub lt_of : (o : Ordering) → o ≡ Less → (is_lt o && not false) ≡ true
lt_of o h = subst (λ (p : Ordering). (is_lt p && not false) ≡ true) (sym h) refl
