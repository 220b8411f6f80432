-- Facts of the log's places, in larger sets and longer lists.
use Rattle.std.proofs.Common.{◌≡◌, ℕ, zero, suc, ◌-◌, List, [], ◌∷◌, ◌++◌, sym, subst, Some, rules}
use Rattle.std.specs.Prelude.{slice_get}
use Rattle.std.specs.List.{Contains}
use Rattle.redo_core.specs.Sets.{IsPart}
use Rattle.redo_core.specs.declared.facts.Fact.{Fact}
use Rattle.redo_core.proofs.Members.{here, there}
use Rattle.named_log.specs.Places.{fact_at}
use Rattle.node_lock.specs.Trail.{Entry, Receipt, HasReceipts}
use Rattle.node_cell.specs.Settling.{entry_place, found_at}
use Rattle.node_cell.specs.Kept.{HasPlace, HasPlaces}

stands : (xs : List Fact) (k : ℕ) (f : Fact) → slice_get xs k ≡ Some f → Contains xs f
stands [] k f e = absurd cc
stands (x ∷ xs) zero f e = let q : x ≡ f = cc in subst (λ z. Contains (z ∷ xs) f) (sym q) (here f xs)
stands (x ∷ xs) (suc k) f e = there x xs f (stands xs k f e)

-- a fact at a place of the log is one of the log
pub in_log : (log : List Fact) (place : ℕ) (f : Fact) → fact_at log place ≡ Some f → Contains log f
in_log log place f e = search (rules, stands)

pub wider : (log F G : List Fact) (es : List (ℕ × ℕ)) → IsPart F G → HasPlaces log F es → HasPlaces log G es
wider log F G [] p h = tt
wider log F G (e ∷ es) p h = ((h.0.0, h.0.1, p h.0.0 h.0.2), wider log F G es p h.1)

pub longer : (log F : List Fact) (es : List (ℕ × ℕ)) (e : ℕ × ℕ) → HasPlaces log F es → HasPlace log F e.1 → HasPlaces log F (es ++ e ∷ [])
longer log F [] e h last = (last, tt)
longer log F (x ∷ xs) e h last = (h.0, longer log F xs e h.1 last)

at_index : (log F : List Fact) (trail : List Entry) (i : ℕ) (e : Entry) → HasPlaces log F trail → slice_get trail i ≡ Some e → HasPlace log F e.1
at_index log F [] i e h at = absurd cc
at_index log F (x ∷ xs) zero e h at = let q : x ≡ e = cc in subst (λ (z : ℕ × ℕ). HasPlace log F z.1) q h.0
at_index log F (x ∷ xs) (suc i) e h at = at_index log F xs i e h.1 at

-- what has the facts of a trail has those of the receipts in it
pub of_receipts : (log F : List Fact) (trail : List Entry) (pass : ℕ) (list : List Receipt) → HasPlaces log F trail → HasReceipts trail pass list
    → HasPlaces log F list
of_receipts log F trail pass [] h has = tt
of_receipts log F trail pass (r ∷ rs) h has =
    (at_index log F trail (r.0 - 1) (pass, r.1) h has.0.1, of_receipts log F trail pass rs h has.1)

at_place : (log F : List Fact) (trail : List Entry) (k p : ℕ) → HasPlaces log F trail → entry_place (slice_get trail k) ≡ Some p → HasPlace log F p
at_place log F [] k p h at = absurd cc
at_place log F (x ∷ xs) zero p h at = let q : x.1 ≡ p = cc in subst (HasPlace log F) q h.0
at_place log F (x ∷ xs) (suc k) p h at = at_place log F xs k p h.1 at

-- and that of what is found at a place
pub found : (log F : List Fact) (trail : List Entry) (place p : ℕ) → HasPlaces log F trail → found_at trail place ≡ Some p → HasPlace log F p
found log F trail place p h at = search (rules, at_place)
