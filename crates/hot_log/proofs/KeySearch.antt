-- What a binary search finds among rising keys.
use Rattle.std.proofs.Common.{◌≡◌, ◌↔◌, ℕ, ◌-◌, ◌<◌, ◌≤◌, ◌⊎◌, ⊎_elim, List, length, get_or, take, drop, refl, sym, ap, ◌∙◌, subst, arith, Bool, true, false, eqb, ◌&&◌, IsTrue, Result, Ok, Err, rules}
use Rattle.std.proofs.lemmas.Grind.{common_steps}
use Rattle.std.specs.List.{All, Contains}
use Rattle.std.specs.List.Sorted.{IsSearchInRange, IsBinarySearchResult, IsNonDecreasingBy}
use Rattle.std.specs.Ordering.{ordering_index, MatchOrdering}
use Rattle.std.specs.Result.{is_ok}
use Rattle.redo_core.specs.Order.{IsRising}
use Rattle.redo_core.specs.Keys.{key_in, key_cmp, KeyBefore}
use Rattle.std.proofs.lemmas.Bool.Decides.{nat_tests}
use Rattle.redo_core.specs.declared.keys.Key.{Key}
use Rattle.redo_core.proofs.Pairs.{pair_apart, pair_trans}
use Rattle.std.proofs.lemmas.List.{get_or-take, get_or_default}
use Rattle.std.proofs.lemmas.List.Elements.{All-contains}
use Rattle.redo_core.proofs.Rising.{rising_by, rising_at, side}
use Rattle.epoch_book.proofs.Places.{rank_le, at_less, at_equal, at_greater}

pub same_key : (k l : Key) → k.epoch ≡ l.epoch → k.number ≡ l.number → k ≡ l
same_key k l e n = ap (λ x. key_in x k.number) e ∙ ap (λ x. key_in l.epoch x) n

-- two keys that compare as equal are one
both : (p q : Bool) → (p && q) ≡ true → (p ≡ true) × (q ≡ true)
both p q h = search rules

pub are_one : (k l : Key) → (eqb k.epoch l.epoch && eqb k.number l.number) ≡ true → k ≡ l
are_one k l same = search rules

pub equal_keys : (k l : Key) → k ≡ l → (eqb k.epoch l.epoch && eqb k.number l.number) ≡ true
equal_keys k l same = let e : k.epoch ≡ l.epoch = ap (λ (x : Key). x.epoch) same in let n : k.number ≡ l.number = ap (λ (x : Key). x.number) same in grind (arith, nat_tests)

key_ranked : (k l : Key) → MatchOrdering (key_cmp k l) (KeyBefore k l) (k ≡ l) (KeyBefore l k)
key_ranked k l = search rules

pub apart : (k l : Key) → KeyBefore k l → KeyBefore l k → ⊥
apart k l a b = pair_apart k.epoch k.number l.epoch l.number a b

keys_ranked : (ks : List Key) (x : Key) → IsRising KeyBefore ks → IsNonDecreasingBy (λ k. ordering_index (key_cmp k x)) ks
keys_ranked ks x rise = rising_by KeyBefore (λ k. ordering_index (key_cmp k x)) ks
    (λ k l h. rank_le (key_cmp k x) (key_cmp l x) _ _ _ _ _ _ (key_ranked k x) (key_ranked l x)
    (λ (q : k ≡ x) (s : KeyBefore l x). apart k l h (subst (KeyBefore l) (sym q) s))
    (λ (q : KeyBefore x k) (s : KeyBefore l x). apart k l h (pair_trans l.epoch l.number x.epoch x.number k.epoch k.number s q))
    (λ (q : KeyBefore x k) (s : l ≡ x). apart k l h (subst (λ y. KeyBefore y k) (sym s) q)))
    rise

never : (k : Key) → KeyBefore k k → ⊥
never k h = apart k k h h

-- a key is found exactly where it is among them
pub key_found : (ks : List Key) (x : Key) (r : Result ℕ ℕ) → IsRising KeyBefore ks → IsSearchInRange r (length ks)
    → IsBinarySearchResult (λ k. key_cmp k x) ks r → IsTrue (is_ok r) ↔ Contains ks x
key_found ks x (Ok i) rise l h = (
  λ _. (i, l, at_equal (key_cmp (get_or ks i x) x) _ _ _ (key_ranked (get_or ks i x) x) (h x)),
  λ _. refl,
)
key_found ks x (Err i) rise l h =
    let parted = h (keys_ranked ks x rise) in (
      λ (no : false ≡ true). absurd (cc),
      λ has. absurd (⊎_elim
          (λ (low : has.0 < i). never x (subst (λ k. KeyBefore k x) has.2
          (at_less (key_cmp (get_or ks has.0 x) x) _ _ _ (key_ranked (get_or ks has.0 x) x) (parted.0 has.0 x (omega arith) low))))
          (λ (high : i ≤ has.0). never x (subst (λ k. KeyBefore x k) has.2
          (at_greater (key_cmp (get_or ks has.0 x) x) _ _ _ (key_ranked (get_or ks has.0 x) x) (parted.1 has.0 x high has.1))))
          (let t : (has.0 < i) ⊎ (i ≤ has.0) = grind arith in t)),
    )

-- rising keys before an index are below what the last of them is below
pub all_below : (ks : List Key) (i : ℕ) (x e : Key) → IsRising KeyBefore ks → 0 < i → i ≤ length ks → KeyBefore (get_or ks (i - 1) e) x → All (λ k. KeyBefore k x) (take i ks)
all_below ks i x e rise some le last = search (rules, get_or-take, rising_at, get_or_default)

-- rising keys from an index on are above what the first of them is above
pub all_above : (ks : List Key) (i : ℕ) (x e : Key) → IsRising KeyBefore ks → i < length ks → KeyBefore x (get_or ks i e) → All (KeyBefore x) (drop i ks)
all_above ks i x e rise some first = grind (arith, common_steps, rising_at)

-- a key between both is none of them
pub not_among : (ks : List Key) (i : ℕ) (x : Key) → All (λ k. KeyBefore k x) (take i ks) → All (KeyBefore x) (drop i ks) → Contains ks x → ⊥
not_among ks i x low high has = ⊎_elim
    (λ u. never x (All-contains (λ k. KeyBefore k x) (take i ks) x low u))
    (λ u. never x (All-contains (KeyBefore x) (drop i ks) x high u))
    (side i ks x has)
