-- The effective truncations of a log.
use Rattle.std.proofs.Common.{◌≡◌, ◌≢◌, ℕ, zero, suc, ◌<◌, ◌≤◌, ◌↔◌, ⊎_elim, List, [], ◌∷◌, length, get_or, take, refl, sym, ap, ◌∙◌, subst, arith, Bool, true, not}
use Rattle.std.specs.Prelude.{◌==◌}
use Rattle.std.specs.List.{Contains, All, filter, filter_map}
use Rattle.std.proofs.lemmas.List.Elements.{All-contains}
use Rattle.std.proofs.lemmas.Bool.Decides.{nat_tests}
use Rattle.redo_core.specs.Data.{RecordData, CutData}
use Rattle.redo_core.specs.Sets.{cuts, advances, as_cut}
use Rattle.redo_core.specs.CompleteEpoch.{HasCutsTo, IsCompleteEpoch}
use Rattle.redo_core.specs.Standing.{IsAlive}
use Rattle.redo_core.specs.Past.{ArePast}
use Rattle.redo_core.specs.Sound.{first_cuts, counted, Law2}
use Rattle.redo_core.specs.declared.facts.Fact.{Fact}
use Rattle.redo_core.specs.declared.facts.Fact.TheVariants.{Record, Cut, Advance}
use Rattle.redo_core.proofs.Members.{none_in, here, there, which, filtered, passed}
use Rattle.redo_core.proofs.FactParts.{cut_in}
use Rattle.redo_core.proofs.SoundFacts.{first_within, first_of_epoch}
use Rattle.redo_core.proofs.CompleteEpochs.{has_cuts}
use Rattle.reference_model.proofs.Scanned.{IsOther, IsSparedIfCounted, IsAboveIfCounted}

-- an effective truncation is one of the log's
pub counted_fact : (log : List Fact) (c : CutData) → Contains (counted log) c → Contains log (Cut c)
unfolding counted
counted_fact log c h = (cut_in log c).0 (first_within (cuts log) c h)

-- the first truncation of each epoch is only one
first_unique : (cs : List CutData) (c d : CutData) → Contains (first_cuts cs) c → Contains (first_cuts cs) d → c.epoch ≡ d.epoch → c ≡ d
first_unique [] c d hc hd e = absurd (none_in c hc)
first_unique (x ∷ xs) c d hc hd e =
    let p : CutData → Bool = λ y. not (y.epoch == x.epoch) in
    let differs : (y : CutData) → Contains (filter p (first_cuts xs)) y → y.epoch ≢ x.epoch = λ y h. let t : not (y.epoch == x.epoch) ≡ true =
    (filtered p (first_cuts xs) y h).1 in grind (arith, nat_tests) in
    ⊎_elim
    (λ (q : x ≡ c). ⊎_elim (λ (r : x ≡ d). sym q ∙ r) (λ (h : Contains (filter p (first_cuts xs)) d). absurd (differs d h (sym e ∙ ap (λ y. y.epoch) (sym q))))
    (which x _ d hd))
    (λ (h : Contains (filter p (first_cuts xs)) c). ⊎_elim (λ (r : x ≡ d). absurd (differs c h (e ∙ ap (λ y. y.epoch) (sym r))))
    (λ (g : Contains (filter p (first_cuts xs)) d). first_unique xs c d (filtered p (first_cuts xs) c h).0 (filtered p (first_cuts xs) d g).0 e)
    (which x _ d hd))
    (which x _ c hc)

pub counted_unique : (log : List Fact) (c d : CutData) → Contains (counted log) c → Contains (counted log) d → c.epoch ≡ d.epoch → c ≡ d
unfolding counted
counted_unique log c d hc hd e = first_unique (cuts log) c d hc hd e

-- a truncation is effective where none of its epoch is before it
pub counted_at : (log : List Fact) (i : ℕ) (c : CutData) → i < length log → get_or log i (Cut c) ≡ Cut c → All (IsOther c.epoch) (take i log)
    → Contains (counted log) c
unfolding counted cuts
counted_at [] i c l e all = absurd (omega (arith, l))
counted_at (f ∷ fs) zero c l e all = subst (λ x. Contains (first_cuts (filter_map as_cut (x ∷ fs))) c) (sym e) (here c _)
counted_at (Record r ∷ fs) (suc i) c l e all = counted_at fs i c (omega (arith, l)) e (λ k d q. all (suc k) d (omega (arith, q)))
counted_at (Advance a ∷ fs) (suc i) c l e all = counted_at fs i c (omega (arith, l)) e (λ k d q. all (suc k) d (omega (arith, q)))
counted_at (Cut d ∷ fs) (suc i) c l e all =
    let apart : d.epoch ≢ c.epoch = all 0 (Cut d) (omega arith) in
    let test : not (c.epoch == d.epoch) ≡ true = grind (arith, nat_tests) in
    there d _ c (passed (λ y. not (y.epoch == d.epoch)) _ c test (counted_at fs i c (omega (arith, l)) e (λ k d' q. all (suc k) d' (omega (arith, q)))))

-- the truncation that a scan has read
pub read_cut : (log : List Fact) (i : ℕ) (f : Fact) (c : CutData) → i < length log → f ≡ get_or log i f → f ≡ Cut c → get_or log i (Cut c) ≡ Cut c
read_cut log i f c l e q = subst (λ x. get_or log i x ≡ x) q (sym e)

pub none_counted : (log : List Fact) (c : CutData) → All (IsOther c.epoch) log → Contains (counted log) c → ⊥
none_counted log c all h = All-contains (IsOther c.epoch) log (Cut c) all (counted_fact log c h) refl

-- a record is alive where each effective truncation spares it
pub all_counted_spare : (log : List Fact) (v e n : ℕ) → e ≤ v → All (IsSparedIfCounted log v e n) log → IsAlive (counted log) v e n
all_counted_spare log v e n l all = record {
  known = l;
  begun = λ c h q. (All-contains (IsSparedIfCounted log v e n) log (Cut c) all (counted_fact log c h) h).0 q;
  spared = λ c h q m. (All-contains (IsSparedIfCounted log v e n) log (Cut c) all (counted_fact log c h) h).1 q m;
}

pub all_counted_above : (roster : ℕ) (log : List Fact) (e p : ℕ) → All (IsAboveIfCounted roster log e p) log → (c : CutData) → Contains (counted log) c
    → e < c.epoch → ArePast roster (advances log) c → p ≤ c.lo
all_counted_above roster log e p all c h l past = All-contains (IsAboveIfCounted roster log e p) log (Cut c) all (counted_fact log c h) h l past

-- an epoch has begun where it is not above the complete epoch
pub begun : (log : List Fact) (k e : ℕ) → IsCompleteEpoch (cuts log) k → e ≤ k → HasCutsTo (counted log) e
unfolding counted
begun log k e is l n low high =
    let cut = has_cuts (cuts log) k is n low (omega arith) in
    let first = first_of_epoch (cuts log) cut.0 cut.1 in
    (first.0, first.1, first.2 ∙ cut.2)

pub not_begun : (log : List Fact) (k e : ℕ) → IsCompleteEpoch (cuts log) k → k < e → HasCutsTo (counted log) e → ⊥
unfolding counted
not_begun log k e is l has =
    let top : e ≤ k = is.1 e (λ n low high. let cut = has n low high in (cut.0, first_within (cuts log) cut.0 cut.1, cut.2)) in
    omega (arith, top)

-- law 2 of a record whose epoch has begun: it is alive in the view of its own epoch
pub alive_in_own : (log : List Fact) (r : RecordData) (e n : ℕ) → e ≡ r.epoch → n ≡ r.number → HasCutsTo (counted log) e
    → IsAlive (counted log) e e n ↔ Law2 log (Record r)
alive_in_own log r e n p q has = (
  λ a. (subst (HasCutsTo (counted log)) p has, λ c h s. let l : c.hi < n = a.begun c h (s ∙ sym p) in omega arith),
  λ l. record {
    known = omega arith;
    begun = λ c h s. let m : c.hi < r.number = l.1 c h (s ∙ p) in omega arith;
    spared = λ c h x y. absurd (omega arith);
  },
)
