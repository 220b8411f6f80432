-- Receipts that are in a trail.
use Rattle.std.proofs.Common.{◌≡◌, ◌∙◌, ℕ, zero, suc, List, [], ◌∷◌, ◌++◌, map, ap, sym, subst, append_assoc, append-nil, length, arith, Option, Some, Result, Ok, Err}
use Rattle.std.proofs.lemmas.List.{map-append}
use Rattle.redo_core.specs.declared.refusal.Refused.{Refused}
use Rattle.named_log.specs.Places.{PlacedFact}
use Rattle.node_threads.specs.Work.{receipts_in}
use Rattle.std.specs.Prelude.{slice_get}
use Rattle.std.specs.List.{AllByRecursion}
use Rattle.node_lock.specs.Trail.{Entry, Receipt, HasReceipts}
use Rattle.node_cell.specs.Receipt.{ReceiptData}
use Rattle.node_cell.specs.Settling.{Stands, IsFirstStranger}
use Rattle.node_cell.specs.Laws.{receipt_of, ReceiptsStand}

stands_at : (trail : List Entry) (rs : List ReceiptData) → AllByRecursion (λ e. Stands trail (receipt_of e)) (map (λ (r : ReceiptData). (r.place, r.log_place)) rs)
    → (i : ℕ) (r : ReceiptData) → slice_get rs i ≡ Some r → Stands trail r
stands_at trail [] all i r e = absurd cc
stands_at trail (x ∷ xs) all zero r e = let same : x ≡ r = cc in subst (Stands trail) same all.0
stands_at trail (x ∷ xs) all (suc i) r e = stands_at trail xs all.1 i r e

-- where a trail has the receipts of a pass, none of them is a stranger
pub none_strange : (trail : List Entry) (pass : ℕ) (list all : List Receipt) (rs shown : List ReceiptData) (found : Option ℕ) → ReceiptsStand → HasReceipts trail pass list → list ≡ all
    → map (λ (r : ReceiptData). (r.place, r.log_place)) rs ≡ all → shown ≡ rs → IsFirstStranger trail shown found → ⊥
none_strange trail pass list all rs shown found law has is same as_shown s =
    let pairs : list ≡ map (λ (r : ReceiptData). (r.place, r.log_place)) shown = is ∙ (sym same ∙ ap (λ l. map (λ (r : ReceiptData). (r.place, r.log_place)) l) (sym as_shown)) in
    let stand = subst (AllByRecursion (λ e. Stands trail (receipt_of e))) pairs (law trail pass list has) in
    s.4.1 (s.4.0 ∙ stands_at trail shown stand s.0 s.1 s.3)

-- where the receipts so far, and those among the answers to come, are all: one answer more is a receipt
pub one_receipt : {F : Type 0} (rs rs' : List ReceiptData) (r : ReceiptData) (old rest : List (Result ReceiptData (Refused PlacedFact F))) (all : List Receipt)
    → map (λ (r : ReceiptData). (r.place, r.log_place)) rs ++ receipts_in old ≡ all → old ≡ Ok r ∷ rest → rs' ≡ rs ++ r ∷ [] → map (λ (r : ReceiptData). (r.place, r.log_place)) rs' ++ receipts_in rest ≡ all
unfolding receipts_in
one_receipt rs rs' r old rest all i o n =
    ap (λ l. map (λ (r : ReceiptData). (r.place, r.log_place)) l ++ receipts_in rest) n
    ∙ (ap (λ l. l ++ receipts_in rest) (map-append (λ (r : ReceiptData). (r.place, r.log_place)) rs (r ∷ []))
    ∙ (append_assoc (map (λ (r : ReceiptData). (r.place, r.log_place)) rs) ((r.place, r.log_place) ∷ []) (receipts_in rest)
    ∙ (ap (λ a. map (λ (r : ReceiptData). (r.place, r.log_place)) rs ++ receipts_in a) (sym o) ∙ i)))

-- or it is a refusal
pub one_refusal : {F : Type 0} (rs : List ReceiptData) (e : Refused PlacedFact F) (old rest : List (Result ReceiptData (Refused PlacedFact F))) (all : List Receipt)
    → map (λ (r : ReceiptData). (r.place, r.log_place)) rs ++ receipts_in old ≡ all → old ≡ Err e ∷ rest → map (λ (r : ReceiptData). (r.place, r.log_place)) rs ++ receipts_in rest ≡ all
unfolding receipts_in
one_refusal rs e old rest all i o = ap (λ a. map (λ (r : ReceiptData). (r.place, r.log_place)) rs ++ receipts_in a) (sym o) ∙ i

-- or there is none
pub all_receipts : {F : Type 0} (rs : List ReceiptData) (old : List (Result ReceiptData (Refused PlacedFact F))) (all : List Receipt)
    → map (λ (r : ReceiptData). (r.place, r.log_place)) rs ++ receipts_in old ≡ all → length old ≡ 0 → map (λ (r : ReceiptData). (r.place, r.log_place)) rs ≡ all
unfolding receipts_in
all_receipts rs [] all i none = sym (append-nil (map (λ (r : ReceiptData). (r.place, r.log_place)) rs)) ∙ i
all_receipts rs (a ∷ old) all i none = absurd (omega (arith, none))
