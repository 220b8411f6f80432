-- What the ends of a range of keys in groups are.
use Rattle.std.proofs.Common.{◌≡◌, ℕ, ◌<◌, ◌≤◌, ◌⊎◌, inl, inr, ⊎_elim, List, [], ◌∷◌, ◌++◌, ◌∙◌, refl, sym, ap, subst, arith, Bool, true, false, not, ◌&&◌, Some, None, rules}
use Rattle.std.proofs.lemmas.Grind.{common_steps}
use Rattle.std.specs.List.{Contains, filter}
use Rattle.std.specs.Ordering.{is_lt, is_le}
use Rattle.std.specs.declared.cmp.Ordering.{Ordering}
use Rattle.std.specs.declared.cmp.Ordering.TheVariants.{Less, Greater}
use Rattle.std.specs.declared.ops.Bound.TheVariants.{Included, Excluded, Unbounded}
use Rattle.std.specs.BTreeMap.Range.{range_contains}
use Rattle.redo_core.specs.Order.{IsRising, PairBefore}
use Rattle.redo_core.specs.Keys.{key_in, KeyBefore}
use Rattle.redo_core.specs.declared.keys.Key.{Key}
use Rattle.hot_log.specs.Indexing.{InGroup, IsNextKey, IsLastKey}
use Rattle.hot_log.specs.Paged.{place_cmp}
use Rattle.redo_core.proofs.Members.{none_in, here, there, which, each, filtered, passed}
use Rattle.redo_core.proofs.Rising.{rising_filter}
use Rattle.redo_core.proofs.Pairs.{pair_trans}
use Rattle.hot_log.proofs.Maps.{lt_true, lt_of}
use Rattle.hot_log.proofs.Orders.{place_less, place_less_of, first_kept, none_kept, last_kept}

abbrev pub Place : Type 0
Place = ℕ × Key

abbrev pub Below : Place → Place → Type 0
Below x y = place_cmp x y ≡ Less

pub not_lt_true : (o : Ordering) → (true && not (is_lt o)) ≡ true → o ≡ Less → ⊥
not_lt_true o h e = cc

pub not_lt_of : (o : Ordering) → (o ≡ Less → ⊥) → (true && not (is_lt o)) ≡ true
not_lt_of o h = search rules

le_true : (o : Ordering) → (is_le o && not false) ≡ true → o ≡ Greater → ⊥
le_true o h e = cc

le_of : (o : Ordering) → (o ≡ Greater → ⊥) → (is_le o && not false) ≡ true
le_of o h = search rules

-- a key of the group above another, in terms of the order of positions
in_group_above : (g a b e n : ℕ) → PairBefore a b e n → Below (g, key_in a b) (g, key_in e n)
in_group_above g a b e n p = place_less_of (g, key_in a b) (g, key_in e n) (inr (refl, p))

group_and_key : (x y : Place) → x.0 ≡ y.0 → Below x y → KeyBefore x.1 y.1
group_and_key x y e b = search rules

pub next_none : (keys : List Place) (g : ℕ) (after : Key) → filter (range_contains place_cmp (Excluded (g, after)) Unbounded) keys ≡ [] → IsNextKey keys g after None
next_none keys g after is e n h p =
    none_kept (range_contains place_cmp (Excluded (g, after)) Unbounded) keys is (g, key_in e n) h (lt_of (place_cmp (g, after) (g, key_in e n)) (in_group_above g after.epoch after.number e n p))

pub next_some : (keys : List Place) (g : ℕ) (after : Key) (x : Place) (t : List Place) → IsRising Below keys → filter (range_contains place_cmp (Excluded (g, after)) Unbounded) keys ≡ x ∷ t → x.0 ≡ g → IsNextKey keys g after (Some x.1)
next_some keys g after x t rising is same = search (rules, first_kept, in_group_above)

pub next_other : (keys : List Place) (g : ℕ) (after : Key) (x : Place) (t : List Place) → IsRising Below keys → filter (range_contains place_cmp (Excluded (g, after)) Unbounded) keys ≡ x ∷ t → (x.0 ≡ g → ⊥) → IsNextKey keys g after None
next_other keys g after x t rising is other e n h p =
    let test : Place → Bool = range_contains place_cmp (Excluded (g, after)) Unbounded in
    let f = first_kept Below test keys x t rising is in
    let above : Below (g, after) x = lt_true (place_cmp (g, after) x) f.1 in
    let up : g < x.0 = ⊎_elim (λ (l : g < x.0). l) (λ (q : (g ≡ x.0) × KeyBefore after x.1). absurd (other (sym q.0))) (place_less (g, after) x above) in
    ⊎_elim
    (λ (q : x ≡ (g, key_in e n)). other (ap (λ (y : Place). y.0) q))
    (λ (b : Below x (g, key_in e n)). ⊎_elim (λ (l : x.0 < g). omega arith) (λ (q : (x.0 ≡ g) × KeyBefore x.1 (key_in e n)). other q.0) (place_less x (g, key_in e n) b))
    (f.2 (g, key_in e n) h (lt_of (place_cmp (g, after) (g, key_in e n)) (in_group_above g after.epoch after.number e n p)))

-- the keys after the first of a range
module _ (keys : List Place) (g : ℕ) (after : Key) (x : Place) (t : List Place) (rising : IsRising Below keys) (is : filter (range_contains place_cmp (Excluded (g, after)) Unbounded) keys ≡ x ∷ t) (same : x.0 ≡ g) where
  abbrev test : Place → Bool
  test = range_contains place_cmp (Excluded (g, after)) Unbounded

  in_order : IsRising Below (x ∷ t)
  in_order = subst (IsRising Below) is (rising_filter Below test keys rising)

  behind : (e n : ℕ) → InGroup keys g e n → KeyBefore x.1 (key_in e n) → Contains t (g, key_in e n)
  behind e n h p =
      let f = first_kept Below test keys x t rising is in
      let above : KeyBefore after x.1 = group_and_key (g, after) x (sym same) (lt_true (place_cmp (g, after) x) f.1) in
      let up = pair_trans after.epoch after.number x.1.epoch x.1.number e n above p in
      ⊎_elim
      (λ (q : x ≡ (g, key_in e n)). absurd (let k = ap (λ (y : Place). y.1.epoch) q in let m = ap (λ (y : Place). y.1.number) q in grind arith))
      (λ (u : Contains t (g, key_in e n)). u)
      (which x t (g, key_in e n) (subst (λ (l : List Place). Contains l (g, key_in e n)) is (passed test keys (g, key_in e n) (lt_of (place_cmp (g, after) (g, key_in e n)) (in_group_above g after.epoch after.number e n up)) h)))

  pub second_none : t ≡ [] → IsNextKey keys g x.1 None
  second_none none e n h p = none_in (g, key_in e n) (subst (λ (l : List Place). Contains l (g, key_in e n)) none (behind e n h p))

  module _ (y : Place) (u : List Place) (next : t ≡ y ∷ u) where
    below : Below x y
    below = each (Below x) t y in_order.0 (subst (λ (l : List Place). Contains l y) (sym next) (here y u))

    later : (z : Place) → Contains t z → (y ≡ z) ⊎ Below y z
    later z h = grind (arith, common_steps, in_order)

    pub second_some : y.0 ≡ g → IsNextKey keys g x.1 (Some y.1)
    second_some also =
        let among : Contains keys y = (filtered test keys y (subst (λ (l : List Place). Contains l y) (sym is) (there x t y (subst (λ (l : List Place). Contains l y) (sym next) (here y u))))).0 in (
          subst (λ (h : ℕ). Contains keys (h, y.1)) also among,
          group_and_key x y (same ∙ sym also) below,
          λ e n h p. ⊎_elim
              (λ (q : y ≡ (g, key_in e n)). inl (ap (λ (z : Place). z.1.epoch) (sym q), ap (λ (z : Place). z.1.number) (sym q)))
              (λ (b : Below y (g, key_in e n)). inr (group_and_key y (g, key_in e n) also b))
              (later (g, key_in e n) (behind e n h p)),
        )

    pub second_other : (y.0 ≡ g → ⊥) → IsNextKey keys g x.1 None
    second_other other e n h p =
        let up : g < y.0 = ⊎_elim (λ (l : x.0 < y.0). omega arith) (λ (q : (x.0 ≡ y.0) × KeyBefore x.1 y.1). absurd (other (sym q.0 ∙ same))) (place_less x y below) in
        ⊎_elim
        (λ (q : y ≡ (g, key_in e n)). other (ap (λ (z : Place). z.0) q))
        (λ (b : Below y (g, key_in e n)). ⊎_elim (λ (l : y.0 < g). omega arith) (λ (q : (y.0 ≡ g) × KeyBefore y.1 (key_in e n)). other q.0) (place_less y (g, key_in e n) b))
        (later (g, key_in e n) (behind e n h p))

-- the range up to a key of a group
up_to_group : (g e n : ℕ) (to : Key) → (KeyBefore to (key_in e n) → ⊥) → range_contains place_cmp Unbounded (Included (g, to)) (g, key_in e n) ≡ true
up_to_group g e n to not = not_lt_of (place_cmp (g, to) (g, key_in e n)) (λ b. not (group_and_key (g, to) (g, key_in e n) refl b))

pub pair_or_not : (a b c d : ℕ) → PairBefore a b c d ⊎ (PairBefore a b c d → ⊥)
pair_or_not a b c d = grind arith

pub last_none : (keys : List Place) (g : ℕ) (to : Key) → filter (range_contains place_cmp Unbounded (Included (g, to))) keys ≡ [] → IsLastKey keys g to None
last_none keys g to is e n h =
    ⊎_elim
    (λ (p : KeyBefore to (key_in e n)). p)
    (λ (q : KeyBefore to (key_in e n) → ⊥). absurd (none_kept (range_contains place_cmp Unbounded (Included (g, to))) keys is (g, key_in e n) h (up_to_group g e n to q)))
    (pair_or_not to.epoch to.number e n)

pub last_some : (keys : List Place) (g : ℕ) (to : Key) (x : Place) (t : List Place) → IsRising Below keys → filter (range_contains place_cmp Unbounded (Included (g, to))) keys ≡ t ++ x ∷ [] → x.0 ≡ g → IsLastKey keys g to (Some x.1)
last_some keys g to x t rising is same = search (rules, last_kept)

pub last_other : (keys : List Place) (g : ℕ) (to : Key) (x : Place) (t : List Place) → IsRising Below keys → filter (range_contains place_cmp Unbounded (Included (g, to))) keys ≡ t ++ x ∷ [] → (x.0 ≡ g → ⊥) → IsLastKey keys g to None
last_other keys g to x t rising is other e n h = search (rules, last_kept)

-- the range from the start of a group
pub not_above_zero : (group g e n : ℕ) → group ≤ g → place_cmp (group, key_in 0 0) (g, key_in e n) ≡ Greater → ⊥
not_above_zero group g e n le h = grind arith

pub group_le : (group : ℕ) (x : Place) → (place_cmp (group, key_in 0 0) x ≡ Greater → ⊥) → group ≤ x.0
group_le group x not = grind arith

pub group_none : (keys : List Place) (group : ℕ) → filter (range_contains place_cmp (Included (group, key_in 0 0)) Unbounded) keys ≡ [] → (x : Place) → Contains keys x → group ≤ x.0 → ⊥
group_none keys group is x h le =
    none_kept (range_contains place_cmp (Included (group, key_in 0 0)) Unbounded) keys is x h (le_of (place_cmp (group, key_in 0 0) x) (not_above_zero group x.0 x.1.epoch x.1.number le))

-- the least group from one on that has a key
pub record IsGroup (keys : List Place) (group : ℕ) (x : Place) : Type 0 where
  pub among : Contains keys x
  pub from : group ≤ x.0
  pub least : (y : Place) → Contains keys y → group ≤ y.0 → x.0 ≤ y.0

pub group_some : (keys : List Place) (group : ℕ) (x : Place) (t : List Place) → IsRising Below keys → filter (range_contains place_cmp (Included (group, key_in 0 0)) Unbounded) keys ≡ x ∷ t → IsGroup keys group x
group_some keys group x t rising is =
    let test : Place → Bool = range_contains place_cmp (Included (group, key_in 0 0)) Unbounded in
    let f = first_kept Below test keys x t rising is in
    record {
      among = f.0;
      from = group_le group x (le_true (place_cmp (group, key_in 0 0) x) f.1);
      least = λ y h le. ⊎_elim
          (λ (u : x ≡ y). let same : x.0 ≡ y.0 = ap (λ (z : Place). z.0) u in omega arith)
          (λ (b : Below x y). ⊎_elim (λ (l : x.0 < y.0). omega arith) (λ (v : (x.0 ≡ y.0) × KeyBefore x.1 y.1). omega arith) (place_less x y b))
          (f.2 y h (le_of (place_cmp (group, key_in 0 0) y) (not_above_zero group y.0 y.1.epoch y.1.number le)));
    }
