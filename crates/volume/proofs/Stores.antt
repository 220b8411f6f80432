-- The requests that bring records to a node, one record after another.
use Rattle.std.proofs.Common.{◌≡◌, ℕ, ◌+◌, ◌<◌, List, [], ◌∷◌, ◌++◌, length, get_or, take, sym, ap, ◌∙◌, append_assoc}
use Rattle.std.proofs.lemmas.List.{append-nil, take_more}
use Rattle.redo_core.specs.Data.{RecordData}
use Rattle.volume.specs.declared.actions.Action.{Action}
use Rattle.volume.specs.declared.errands.Errand.TheVariants.{Store}
use Rattle.volume.specs.Asking.{asks_of}
use Rattle.volume.specs.Writing.{stores_of}

stores_more : (node generation birth : ℕ) (rs : List RecordData) (r : RecordData)
    → stores_of node generation birth (rs ++ r ∷ []) ≡ stores_of node generation birth rs ++ asks_of node generation birth (Store r)
stores_more node generation birth [] r = append-nil (asks_of node generation birth (Store r))
stores_more node generation birth (s ∷ rs) r =
    ap (λ xs. asks_of node generation birth (Store s) ++ xs) (stores_more node generation birth rs r)
    ∙ sym (append_assoc (asks_of node generation birth (Store s)) (stores_of node generation birth rs) (asks_of node generation birth (Store r)))

pub one_stored_more : (old now new : List Action) (node generation birth : ℕ) (records : List RecordData) (i : ℕ) (r : RecordData) → i < length records
    → r ≡ get_or records i r → now ≡ old ++ stores_of node generation birth (take i records) → new ≡ now ++ asks_of node generation birth (Store r)
    → new ≡ old ++ stores_of node generation birth (take (i + 1) records)
one_stored_more old now new node generation birth records i r lt is before here =
    let sent = asks_of node generation birth (Store r) in
    let all : stores_of node generation birth (take (i + 1) records) ≡ stores_of node generation birth (take i records) ++ sent =
    ap (stores_of node generation birth) (take_more records i r lt) ∙ ap (λ (x : RecordData). stores_of node generation birth (take i records ++ x ∷ [])) (sym is)
    ∙ stores_more node generation birth (take i records) r in
    here ∙ ap (λ xs. xs ++ sent) before ∙ append_assoc old (stores_of node generation birth (take i records)) sent
    ∙ ap (λ xs. old ++ xs) (sym all)
