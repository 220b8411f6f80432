-- The images of a cache, one by one.
use Rattle.std.proofs.Common.{◌≡◌, ◌≢◌, ℕ, Bool, true, false, ◌⊎◌, inl, inr, List, [], ◌∷◌, Contains, nat_eq, Some, Result, Ok, Err, OnOk, OnErr, refl, sym, subst, rules}
use Rattle.std.specs.List.{IsDistinct, AllByRecursion}
use Rattle.std.specs.Map.{keys_of, lookup, remove_entry}
use Rattle.std.proofs.lemmas.Map.Keys.{IsDistinct-head, IsDistinct-tail}
use Rattle.std.proofs.lemmas.Bool.{eqb-true, eqb-false}
use Rattle.lru.specs.LruCache.{lru_cache, put_entries}
use Rattle.lru.proofs.Splits.{Contains-cons, Contains-nil}
use Rattle.lru.proofs.CallerLemmas.{Contains-lookup, Contains-remove_entry, Contains-put_entries}
use Rattle.read_cache.specs.declared.kept.KeptImage.{KeptImage}
use Rattle.read_cache.specs.Images.{Images, CachesOnly}

-- a key among keys that all fail a test fails it
fails : (test : ℕ → Bool) (es : List (ℕ × KeptImage)) (e : ℕ × KeptImage) → AllByRecursion (λ k. test k ≡ false) (keys_of es) → Contains es e
    → test e.0 ≡ false
fails test [] e all at = absurd (Contains-nil e at)
fails test (f ∷ es) e all at = elim (Contains-cons f es e at) [
  | inl same ↦ subst (λ (p : ℕ × KeptImage). test p.0 ≡ false) same all.0
  | inr on ↦ fails test es e all.1 on
]

-- where the pages are distinct, none is left of a page whose image went
gone : (page : ℕ) (es : List (ℕ × KeptImage)) → IsDistinct nat_eq (keys_of es) → (e : ℕ × KeptImage) → Contains (remove_entry (nat_eq page) es) e
    → nat_eq page e.0 ≡ false
gone page [] d e at = absurd (Contains-nil e at)
gone page (f ∷ es) d e at = (elim (nat_eq page f.0) as (λ y. nat_eq page f.0 ≡ y → nat_eq page e.0 ≡ false) [
  | true ↦ λ t. subst (λ k. nat_eq k e.0 ≡ false) (sym (eqb-true page f.0 t)) (fails (nat_eq f.0) es e (IsDistinct-head nat_eq f.0 (keys_of es) d) (rw t at at))
  | false ↦ λ t. elim (Contains-cons f (remove_entry (nat_eq page) es) e (rw t at at)) [
    | inl same ↦ subst (λ (p : ℕ × KeptImage). nat_eq page p.0 ≡ false) same t
    | inr on ↦ gone page es (IsDistinct-tail nat_eq f.0 (keys_of es) d) e on
  ]
]) refl

pub forgets : (page : ℕ) (es : List (ℕ × KeptImage)) → IsDistinct nat_eq (keys_of es) → (e : ℕ × KeptImage) → Contains (remove_entry (nat_eq page) es) e
    → Contains es e × (e.0 ≢ page)
forgets page es d e at = (Contains-remove_entry (nat_eq page) es e at, λ same. eqb-false page e.0 (gone page es d e at) (sym same))

-- what is found under a page is kept there
pub found : (page : ℕ) (es : List (ℕ × KeptImage)) (kept : KeptImage) → lookup (nat_eq page) es ≡ Some kept → Contains es (page, kept)
found page es kept is = search (rules, Contains-lookup)

pub put_one : (old : Images) (page : ℕ) (kept : KeptImage) (e : ℕ × KeptImage) → Contains (put_entries nat_eq old page kept) e
    → Contains old.entries e ⊎ (e ≡ (page, kept))
put_one old page kept e at = elim (Contains-put_entries nat_eq old page kept e at) [
  | inl was ↦ inl was
  | inr new ↦ elim new.1 [
    | inl key ↦ inr (let k : e.0 ≡ page = key in let v : e.1 ≡ kept = new.0 in pair e page kept k v)
    | inr same ↦ inr (pair e page kept (sym (eqb-true page e.0 same.2)) new.0)
  ]
]
  where
    pair : (e : ℕ × KeptImage) (page : ℕ) (kept : KeptImage) → e.0 ≡ page → e.1 ≡ kept → e ≡ (page, kept)
    pair e page kept k v = λ i. (k i, v i)

-- where memory runs out, nothing changes
pub keeps : {A B : Type 0} (r : Result A B) (old new : Images) (page : ℕ) (kept : KeptImage)
    → OnOk r (new ≡ lru_cache (put_entries nat_eq old page kept) old.cap) → OnErr r (new ≡ old) → CachesOnly old page kept new
keeps (Ok v) old new page kept put same e at = put_one old page kept e (subst (λ (i : Images). Contains i.entries e) put at)
keeps (Err v) old new page kept put same e at = inl (subst (λ (i : Images). Contains i.entries e) same at)
