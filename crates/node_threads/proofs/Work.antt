-- What workers have done after one step more.
use Rattle.std.proofs.Common.{◌≡◌, List, [], ◌∷◌, ◌++◌, refl, sym, ap, ◌∙◌, append_assoc, append-nil, subst, Result, map}
use Rattle.std.proofs.lemmas.List.{map-append}
use Rattle.named_log.specs.Places.{PlacedFact}
use Rattle.intake_queue.specs.Parcel.{ParcelData, parcel_facts}
use Rattle.redo_core.specs.declared.refusal.Refused.{Refused}
use Rattle.node_cell.specs.Receipt.{ReceiptData}
use Rattle.node_lock.specs.Passes.{PassData}
use Rattle.intake_queue.specs.Ends.{SenderData, TakerData}
use Rattle.node_threads.specs.Work.{Offered, Answered, answered_place, receipt_in, receipts_in}

-- nothing more was accepted
pub offered_same : (old : SenderData) (facts : List PlacedFact) (s s' : SenderData) (rest rest' : List PlacedFact) → Offered old facts s rest → s' ≡ s → rest' ≡ rest → Offered old facts s' rest'
offered_same old facts s s' rest rest' o is same = subst (λ u. Offered old facts u rest') (sym is) (subst (Offered old facts s) (sym same) o)

-- a fact is put back
pub put_back : (facts rest new : List PlacedFact) (f f' : PlacedFact) → facts ≡ rest ++ f ∷ [] → new ≡ rest ++ f' ∷ [] → f' ≡ f → new ≡ facts
put_back facts rest new f f' was is same = is ∙ (ap (λ x. rest ++ x ∷ []) same ∙ sym was)

-- one fact more was accepted
pub offered_more : (old : SenderData) (facts : List PlacedFact) (s : SenderData) (rest : List PlacedFact) (s' : SenderData) (rest' : List PlacedFact) (p : ParcelData) → Offered old facts s rest
    → rest ≡ p.fact ∷ rest' → s' ≡ record s { accepted = s.accepted ++ p ∷ [] } → Offered old facts s' rest'
offered_more old facts s rest s' rest' p o left is = record {
  same = is ∙ (ap (λ (u : SenderData). record u { accepted = s.accepted ++ p ∷ [] }) o.same ∙ ap (λ x. record old { accepted = x }) (sym (ap (λ (u : SenderData). u.accepted) is)));
  done = o.done ++ p.fact ∷ [];
  all = o.all ∙ (ap (λ r. o.done ++ r) left ∙ sym (append_assoc o.done (p.fact ∷ []) rest'));
  accepted = ap (λ (u : SenderData). parcel_facts u.accepted) is ∙ (map-append (λ (x : ParcelData). x.fact) s.accepted (p ∷ []) ∙ (ap (λ fs. fs ++ p.fact ∷ []) o.accepted ∙ append_assoc (parcel_facts old.accepted) o.done (p.fact ∷ [])));
}

receipts_in-push : {F : Type 0} (answers : List (Result ReceiptData (Refused PlacedFact F))) (a : Result ReceiptData (Refused PlacedFact F)) → receipts_in (answers ++ a ∷ []) ≡ receipts_in answers ++ receipt_in a
unfolding receipts_in
receipts_in-push [] a = append-nil (receipt_in a)
receipts_in-push (x ∷ xs) a = ap (λ rs. receipt_in x ++ rs) (receipts_in-push xs a) ∙ sym (append_assoc (receipt_in x) (receipts_in xs) (receipt_in a))

pub answered_none : {F : Type 0} (t : TakerData) (p : PassData) (answers : List (Result ReceiptData (Refused PlacedFact F))) → answers ≡ [] → Answered t t p p answers
unfolding receipts_in
answered_none t p answers is = subst (Answered t t p p) (sym is) (record {
  taken = [];
  taker = ap (λ x. record t { taken = x }) (sym (append-nil t.taken));
  places = refl;
  receipts = ap (λ x. record p { list = x }) (sym (append-nil p.list));
})

-- one parcel more was taken, and answered
pub answered_more : {F : Type 0} (old : TakerData) (was : PassData) (t : TakerData) (p : PassData) (answers : List (Result ReceiptData (Refused PlacedFact F)))
    (x : ParcelData) (t' : TakerData) (p' : PassData) (a : Result ReceiptData (Refused PlacedFact F)) (answers' : List (Result ReceiptData (Refused PlacedFact F)))
    → Answered old t was p answers → t' ≡ record t { taken = t.taken ++ x ∷ [] } → answers' ≡ answers ++ a ∷ [] → answered_place a ≡ x.fact.place
    → p' ≡ record p { list = p.list ++ receipt_in a } → Answered old t' was p' answers'
answered_more old was t p answers x t' p' a answers' done more push place list = record {
  taken = done.taken ++ x ∷ [];
  taker = more ∙ (ap (λ (u : TakerData). record u { taken = u.taken ++ x ∷ [] }) done.taker ∙ ap (λ xs. record old { taken = xs }) (append_assoc old.taken done.taken (x ∷ [])));
  places = ap (λ xs. map answered_place xs) push ∙ (map-append answered_place answers (a ∷ []) ∙ (ap (λ ns. ns ++ answered_place a ∷ []) done.places ∙ (ap (λ n. map (λ (y : ParcelData). y.fact.place) done.taken ++ n ∷ []) place
      ∙ sym (map-append (λ (y : ParcelData). y.fact.place) done.taken (x ∷ [])))));
  receipts = list ∙ (ap (λ (u : PassData). record u { list = u.list ++ receipt_in a }) done.receipts ∙ ap (λ rs. record was { list = rs })
      (append_assoc was.list (receipts_in answers) (receipt_in a) ∙ ap (λ rs. was.list ++ rs) (sym (ap receipts_in push ∙ receipts_in-push answers a))));
}
