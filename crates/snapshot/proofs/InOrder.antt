-- Pieces that are in order contain records by rising keys.
use Rattle.std.proofs.Common.{◌≡◌, ℕ, zero, suc, ◌<◌, ◌⊎◌, inl, inr, ⊎_elim, List, [], ◌∷◌, length, Option, Some, None, refl, sym, ap, ◌∙◌, subst, arith, rules}
use Rattle.std.specs.List.{Contains}
use Rattle.std.proofs.lemmas.Bool.{cases_eq}
use Rattle.redo_core.specs.Book.{BookData}
use Rattle.redo_core.specs.Data.{RecordData}
use Rattle.redo_core.specs.Meaning.{ImageData}
use Rattle.redo_core.specs.Order.{RecordBefore}
use Rattle.redo_core.proofs.Members.{here}
use Rattle.redo_core.proofs.Pairs.{record_trans}
use Rattle.messages.specs.Pieces.{PieceData, max_batch}
use Rattle.messages.specs.declared.pieces.PieceContent.{PieceContent}
use Rattle.messages.specs.declared.pieces.PieceContent.TheVariants.{Head, Page, Records}
use Rattle.snapshot.specs.Stagings.{StagingData, piece_at, IsStaging}
use Rattle.snapshot.specs.Placing.{CanFollow, CanStand, HasHead, PageFollows, RecordsFollow, IsInOrder}

-- each piece is below the total
pub within : (st : StagingData) (i : ℕ) (p : PieceData) → IsStaging st → piece_at st i ≡ Some p → i < st.total
within st i p form is =
    let own = form i p is in
    ⊎_elim (λ (e : p.total ≡ st.total). omega (arith, own.0, own.2.index, e)) (λ ne. absurd (own.1 (inr ne))) (cases_eq p.total st.total)

pub stands : (st : StagingData) (i : ℕ) → IsInOrder st → i < st.total → (CanStand st i → ⊥) → ⊥
stands st i order lt apart = order.1 i (lt, apart)

-- an order of keys is known where its contrary is absurd
known_before : (q r : RecordData) → ((RecordBefore q r → ⊥) → ⊥) → RecordBefore q r
known_before q r h = search rules

-- a piece of an index has these records
abbrev pub HasRecords : StagingData → ℕ → List RecordData → Type 0
HasRecords st i rs = (p : PieceData) × (piece_at st i ≡ Some p) × (p.content ≡ Records rs)

same_content : (st : StagingData) (i : ℕ) (p q : PieceData) → piece_at st i ≡ Some p → piece_at st i ≡ Some q → p.content ≡ q.content
same_content st i p q is its = let e : p ≡ q = cc in ap (λ (x : PieceData). x.content) e

no_head : (st : StagingData) (i : ℕ) (p : PieceData) (book : BookData) (anchor : ℕ) → piece_at st (suc i) ≡ Some p → p.content ≡ Head book anchor
    → CanStand st (suc i) → ⊥
no_head st i p book anchor is e can = search rules

page_follows : (st : StagingData) (i : ℕ) (p : PieceData) (image : ImageData) → piece_at st (suc i) ≡ Some p → p.content ≡ Page image
    → (can : CanStand st (suc i)) → PageFollows can.2.content image
page_follows st i p image is e can = search rules

records_follow : (st : StagingData) (i : ℕ) (p : PieceData) (rs : List RecordData) → piece_at st (suc i) ≡ Some p → p.content ≡ Records rs
    → (can : CanStand st (suc i)) → RecordsFollow can.2.content rs
records_follow st i p rs is e can = search rules

-- each piece below the total is there
there_at : (st : StagingData) (i : ℕ) (o : Option PieceData) → IsInOrder st → i < st.total → piece_at st i ≡ o → (p : PieceData) × (piece_at st i ≡ Some p)
there_at st i None order lt e = absurd (order.0 i (inl lt, e))
there_at st i (Some p) order lt e = (p, e)

pub there : (st : StagingData) (i : ℕ) → IsInOrder st → i < st.total → (p : PieceData) × (piece_at st i ≡ Some p)
there st i order lt = there_at st i (piece_at st i) order lt refl

-- after a piece of records there are records alone
behind_of : (st : StagingData) (j : ℕ) (p : PieceData) (rs : List RecordData) (content : PieceContent) → IsInOrder st → suc j < st.total → HasRecords st j rs
    → piece_at st (suc j) ≡ Some p → p.content ≡ content → (qs : List RecordData) × HasRecords st (suc j) qs
behind_of st j p rs (Head book anchor) order lt at is e = absurd (stands st (suc j) order lt (no_head st j p book anchor is e))
behind_of st j p rs (Page image) order lt at is e = absurd (stands st (suc j) order lt (λ can.
    subst (λ content. PageFollows content image) (same_content st j can.2 at.0 can.5 at.1 ∙ at.2) (page_follows st j p image is e can)))
behind_of st j p rs (Records qs) order lt at is e = (qs, (p, is, e))

behind : (st : StagingData) (j : ℕ) (rs : List RecordData) → IsInOrder st → suc j < st.total → HasRecords st j rs
    → (qs : List RecordData) × HasRecords st (suc j) qs
behind st j rs order lt at =
    let p = there st (suc j) order lt in behind_of st j p.0 rs p.0.content order lt at p.1 refl

up : (i j : ℕ) → i < suc j → (i ≡ j) ⊎ (i < j)
up i j lt = grind (arith, lt)

after_records : (st : StagingData) (i j : ℕ) (rs : List RecordData) → IsInOrder st → HasRecords st i rs → i < j → j < st.total
    → (qs : List RecordData) × HasRecords st j qs
after_records st i zero rs order at lt in' = absurd (omega (arith, lt))
after_records st i (suc j) rs order at lt in' =
    ⊎_elim
    (λ (e : i ≡ j). behind st j rs order in' (subst (λ k. HasRecords st k rs) e at))
    (λ (l : i < j). let before = after_records st i j rs order at l (omega (arith, in')) in behind st j before.0 order in' before.1)
    (up i j lt)

-- and their keys are all higher
first_of_full : (ms : List RecordData) → length ms ≡ max_batch → (m : RecordData) × Contains ms m
first_of_full [] e = absurd (omega (arith, e))
first_of_full (m ∷ ms) e = (m, here m ms)

pub batch_before : (st : StagingData) (i j : ℕ) (rs qs : List RecordData) → IsInOrder st → HasRecords st i rs → HasRecords st j qs → i < j → j < st.total
    → (r q : RecordData) → Contains rs r → Contains qs q → RecordBefore r q
batch_before st i zero rs qs order at to lt in' r q hr hq = absurd (omega (arith, lt))
batch_before st i (suc j) rs qs order at to lt in' r q hr hq =
    known_before r q (λ apart. stands st (suc j) order in' (λ can.
    let follow = records_follow st j to.0 qs to.1 to.2 can in
    apart (⊎_elim
    (λ (e : i ≡ j).
    let own : HasRecords st j rs = subst (λ k. HasRecords st k rs) e at in
    (subst (λ content. RecordsFollow content qs) (same_content st j can.2 own.0 can.5 own.1 ∙ own.2) follow).1 r q hr hq)
    (λ (l : i < j).
    let between = after_records st i j rs order at l (omega (arith, in')) in
    let full = subst (λ content. RecordsFollow content qs) (same_content st j can.2 between.1.0 can.5 between.1.1 ∙ between.1.2) follow in
    let m = first_of_full between.0 full.0 in
    record_trans r m.0 q (batch_before st i j rs between.0 order at between.1 l (omega (arith, in')) r m.0 hr m.1) (full.1 m.0 q m.1 hq))
    (up i j lt))))

-- at base 0 there are no pages
pub no_page : (st : StagingData) (i : ℕ) (p : PieceData) (book : BookData) (anchor : ℕ) (image : ImageData) → IsStaging st → IsInOrder st
    → HasHead st book anchor → piece_at st i ≡ Some p → p.content ≡ Page image → 0 < anchor
no_page st zero p book anchor image form order head is e =
    absurd (let f : Head book anchor ≡ Page image = sym head.2 ∙ same_content st 0 head.0 p head.1 is ∙ e in cc)
no_page st (suc i) p book anchor image form order head is e =
    ⊎_elim (λ (z : anchor ≡ 0). absurd (stands st (suc i) order (within st (suc i) p form is) (λ can.
    let heads : Head can.0 can.1 ≡ Head book anchor = sym can.4.2 ∙ same_content st 0 can.4.0 head.0 can.4.1 head.1 ∙ head.2 in
    let anchors : can.1 ≡ anchor = cc in
    let follow = subst (CanFollow can.0 can.1 can.2.content) (same_content st (suc i) can.3 p can.6 is ∙ e) can.7 in
    omega (arith, follow.0, anchors, z)))) (λ (l : 0 < anchor). l)
    (let t : (anchor ≡ 0) ⊎ (0 < anchor) = grind arith in t)
