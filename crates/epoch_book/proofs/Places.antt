-- What a binary search finds in the lists of a book.
use Rattle.std.proofs.Common.{◌≡◌, ℕ, ◌<◌, ◌≤◌, List, length, get_or, refl, sym, subst, arith, Result, Ok, Err, IfOk, IfErr, Ordering, Less, Equal, Greater, rules}
use Rattle.std.specs.List.{Contains, HoldsAt}
use Rattle.std.specs.List.Sorted.{IsSearchInRange, IsBinarySearchResult, IsNonDecreasingBy, IsPartitionPoint}
use Rattle.std.specs.Ordering.{nat_cmp, ordering_then, ordering_index, MatchOrdering}
use Rattle.std.proofs.lemmas.Cmp.{ranked}
use Rattle.redo_core.specs.Data.{CutData, AdvanceData}
use Rattle.redo_core.specs.Order.{IsRising, CutBefore, AdvanceBefore}
use Rattle.redo_core.proofs.Pairs.{advance_apart, advance_trans, same_advance}
use Rattle.redo_core.proofs.Rising.{rising_by}

-- an order against one element rises with it
pub rank_le : (o p : Ordering) (P Q R S T U : Type 0) → MatchOrdering o P Q R → MatchOrdering p S T U → (Q → S → ⊥) → (R → S → ⊥) → (R → T → ⊥)
    → ordering_index o ≤ ordering_index p
rank_le o p P Q R S T U h k qs rs rt = search rules

pub at_less : (o : Ordering) (P Q R : Type 0) → MatchOrdering o P Q R → o ≡ Less → P
at_less o P Q R h e = subst (λ v. MatchOrdering v P Q R) e h

pub at_equal : (o : Ordering) (P Q R : Type 0) → MatchOrdering o P Q R → o ≡ Equal → Q
at_equal o P Q R h e = subst (λ v. MatchOrdering v P Q R) e h

pub at_greater : (o : Ordering) (P Q R : Type 0) → MatchOrdering o P Q R → o ≡ Greater → R
at_greater o P Q R h e = subst (λ v. MatchOrdering v P Q R) e h

-- truncations by epoch
epoch_ranked : (c : CutData) (e : ℕ) → MatchOrdering (nat_cmp c.epoch e) (c.epoch < e) (c.epoch ≡ e) (e < c.epoch)
epoch_ranked c e = ranked c.epoch e (nat_cmp c.epoch e) refl

epochs_rise : (cs : List CutData) (e : ℕ) → IsRising CutBefore cs → IsNonDecreasingBy (λ c. ordering_index (nat_cmp c.epoch e)) cs
epochs_rise cs e r = rising_by CutBefore (λ c. ordering_index (nat_cmp c.epoch e)) cs
    (λ c d b. rank_le (nat_cmp c.epoch e) (nat_cmp d.epoch e) _ _ _ _ _ _ (epoch_ranked c e) (epoch_ranked d e)
    (λ (q : c.epoch ≡ e) (s : d.epoch < e). omega (arith, b)) (λ (q : e < c.epoch) (s : d.epoch < e). omega (arith, b))
    (λ (q : e < c.epoch) (s : d.epoch ≡ e). omega (arith, b))) r

pub epoch_found : (cs : List CutData) (e : ℕ) (r : Result ℕ ℕ) → IsSearchInRange r (length cs) → IsBinarySearchResult (λ c. nat_cmp c.epoch e) cs r
    → IfOk r (λ i. (i < length cs) × HoldsAt (λ c. c.epoch ≡ e) cs i)
epoch_found cs e r l h = search rules

pub epoch_absent : (cs : List CutData) (e : ℕ) (r : Result ℕ ℕ) → IsRising CutBefore cs → IsSearchInRange r (length cs)
    → IsBinarySearchResult (λ c. nat_cmp c.epoch e) cs r → IfErr r (λ i. (i ≤ length cs) × IsPartitionPoint (λ c. c.epoch < e) (λ c. e < c.epoch) cs i)
epoch_absent cs e (Ok i) rise l h = tt
epoch_absent cs e (Err i) rise l h =
    let parted = h (epochs_rise cs e rise) in (
      l,
      (
        λ k d a b. at_less (nat_cmp (get_or cs k d).epoch e) _ _ _ (epoch_ranked (get_or cs k d) e) (parted.0 k d a b),
        λ k d a b. at_greater
            (nat_cmp (get_or cs k d).epoch e) _ _ _ (epoch_ranked (get_or cs k d) e) (parted.1 k d a b),
      ),
    )

-- advances by epoch, reader and point
abbrev pub advance_cmp : AdvanceData → AdvanceData → Ordering
advance_cmp a b = ordering_then (ordering_then (nat_cmp a.epoch b.epoch) (nat_cmp a.reader b.reader)) (nat_cmp a.point b.point)

advance_ranked : (a b : AdvanceData) → MatchOrdering (advance_cmp a b) (AdvanceBefore a b) (((a.epoch ≡ b.epoch) × (a.reader ≡ b.reader)) × (a.point ≡ b.point))
    (AdvanceBefore b a)
advance_ranked a b = search rules

same_key : (a b : AdvanceData) → ((a.epoch ≡ b.epoch) × (a.reader ≡ b.reader)) × (a.point ≡ b.point) → a ≡ b
same_key a b q = same_advance a b q.0.0 q.0.1 q.1

advances_rise : (ws : List AdvanceData) (x : AdvanceData) → IsRising AdvanceBefore ws → IsNonDecreasingBy (λ a. ordering_index (advance_cmp a x)) ws
advances_rise ws x r = rising_by AdvanceBefore (λ a. ordering_index (advance_cmp a x)) ws
    (λ a b h. rank_le (advance_cmp a x) (advance_cmp b x) _ _ _ _ _ _ (advance_ranked a x) (advance_ranked b x)
    (λ q s. advance_apart a b h (subst (AdvanceBefore b) (sym (same_key a x q)) s))
    (λ (q : AdvanceBefore x a) (s : AdvanceBefore b x). advance_apart a b h (advance_trans b x a s q))
    (λ q s. advance_apart a b h (subst (λ y. AdvanceBefore y a) (sym (same_key b x s)) q)))
    r

pub advance_found : (ws : List AdvanceData) (x : AdvanceData) (r : Result ℕ ℕ) → IsSearchInRange r (length ws)
    → IsBinarySearchResult (λ a. advance_cmp a x) ws r → IfOk r (λ i. Contains ws x)
advance_found ws x (Ok i) l h =
    let q = at_equal (advance_cmp (get_or ws i x) x) _ _ _ (advance_ranked (get_or ws i x) x) (h x) in
    (i, l, same_key (get_or ws i x) x q)
advance_found ws x (Err i) l h = tt

pub advance_at : (ws : List AdvanceData) (x : AdvanceData) (r : Result ℕ ℕ) → IsSearchInRange r (length ws) → IsBinarySearchResult (λ a. advance_cmp a x) ws r
    → IfOk r (λ i. (i < length ws) × HoldsAt (λ a. a ≡ x) ws i)
advance_at ws x r l h = search rules

pub advance_absent : (ws : List AdvanceData) (x : AdvanceData) (r : Result ℕ ℕ) → IsRising AdvanceBefore ws → IsSearchInRange r (length ws)
    → IsBinarySearchResult (λ a. advance_cmp a x) ws r
    → IfErr r (λ i. (i ≤ length ws) × IsPartitionPoint (λ a. AdvanceBefore a x) (λ a. AdvanceBefore x a) ws i)
advance_absent ws x (Ok i) rise l h = tt
advance_absent ws x (Err i) rise l h =
    let parted = h (advances_rise ws x rise) in (
      l,
      (
        λ k d a b. at_less (advance_cmp (get_or ws k d) x) _ _ _ (advance_ranked (get_or ws k d) x) (parted.0 k d a b),
        λ k d a b. at_greater
            (advance_cmp (get_or ws k d) x) _ _ _ (advance_ranked (get_or ws k d) x) (parted.1 k d a b),
      ),
    )
