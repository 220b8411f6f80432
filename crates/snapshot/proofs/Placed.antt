-- Whether a record is kept, and which pieces are in place.
use Rattle.std.proofs.Common.{◌≡◌, ℕ, zero, suc, ◌+◌, ◌<◌, ◌≤◌, inr, ⊎_elim, List, Option, Some, None, refl, sym, ◌∙◌, subst, arith, rules}
use Rattle.std.proofs.lemmas.Option.{none-some}
use Rattle.std.specs.List.{All}
use Rattle.redo_core.specs.Data.{CutData, AdvanceData, RecordData}
use Rattle.redo_core.specs.Book.{BookData, book_of}
use Rattle.redo_core.specs.Standing.{IsAlive, SparesIn}
use Rattle.redo_core.proofs.Members.{all_members}
use Rattle.epoch_book.specs.Contradicted.{IsContradicted}
use Rattle.hot_log.specs.Found.{IsLeast}
use Rattle.messages.specs.Pieces.{PieceData}
use Rattle.snapshot.specs.Stagings.{StagingData, piece_at, IsStaging}
use Rattle.snapshot.specs.Placing.{IsKeptFor, HasHead, CanFollow, CanStand, IsComplete, IsMisplaced}
use Rattle.snapshot.proofs.InOrder.{within}

-- a record that does not wait is kept where it is above the anchor and all truncations spare it
pub kept : (book : BookData) (anchor : ℕ) (r : RecordData) → r.epoch ≤ book.complete → anchor < r.number
    → All (SparesIn book.complete r.epoch r.number) book.cuts → IsKeptFor book anchor r
kept book anchor r known above all = search rules

pub spared : (book : BookData) (anchor : ℕ) (r : RecordData) → r.epoch ≤ book.complete → IsKeptFor book anchor r
    → All (SparesIn book.complete r.epoch r.number) book.cuts
spared book anchor r known h =
    ⊎_elim
    (λ (w : book.complete < r.epoch). absurd (omega (arith, w, known)))
    (λ (a : IsAlive book.cuts book.complete r.epoch r.number × (anchor < r.number)).
    all_members (SparesIn book.complete r.epoch r.number) book.cuts (λ c h. (a.0.begun c h, a.0.spared c h)))
    h

-- after this head, a piece above 0 is in place where it can follow the one before
pub stands : (st : StagingData) (book : BookData) (anchor k index : ℕ) (before here : PieceData) → HasHead st book anchor → k + 1 ≡ index
    → piece_at st k ≡ Some before → piece_at st index ≡ Some here → CanFollow book anchor before.content here.content → CanStand st index
stands st book anchor k zero before here head e b h can = absurd (omega (arith, e))
stands st book anchor k (suc n) before here head e b h can =
    (book, anchor, before, here, head, subst (λ i. piece_at st i ≡ Some before) (omega (arith, e)) b, h, can)

pub follows : (st : StagingData) (book : BookData) (anchor k index : ℕ) (before here : PieceData) → HasHead st book anchor → k + 1 ≡ index
    → piece_at st k ≡ Some before → piece_at st index ≡ Some here → CanStand st index → CanFollow book anchor before.content here.content
follows st book anchor k index before here head e b h can = search rules

-- where there is no piece before, or none there, none is in place
pub none_before : (st : StagingData) (k index : ℕ) → k + 1 ≡ index → piece_at st k ≡ None → CanStand st index → ⊥
none_before st k zero e none can = omega (arith, e)
none_before st k (suc n) e none can = none-some can.2 (sym (subst (λ i. piece_at st i ≡ None) (omega (arith, e)) none) ∙ can.5)

pub none_there : (st : StagingData) (index : ℕ) → 1 ≤ index → piece_at st index ≡ None → CanStand st index → ⊥
none_there st zero above none can = omega (arith, above)
none_there st (suc n) above none can = none-some can.3 (sym none ∙ can.6)

-- one more piece is in place
pub one_place_more : (st : StagingData) (n : ℕ) → ((below : ℕ) → below < n → IsMisplaced st below → ⊥) → CanStand st n → (below : ℕ) → below < n + 1
    → IsMisplaced st below → ⊥
one_place_more st n before can below lt bad = search rules

-- where no piece is missing there is a head, and so the total is not 0
some_at : (st : StagingData) (o : Option PieceData) → IsStaging st → IsComplete st → piece_at st 0 ≡ o → 0 < st.total
some_at st None form whole e = absurd (whole 0 (inr refl, e))
some_at st (Some p) form whole e = within st 0 p form e

pub some_total : (st : StagingData) → IsStaging st → IsComplete st → 0 < st.total
some_total st form whole = some_at st (piece_at st 0) form whole refl

-- a head that is not in place is the first that is not
pub head_bad : (st : StagingData) → 0 < st.total → (CanStand st 0 → ⊥) → IsLeast (IsMisplaced st) (Some 0)
head_bad st some cannot = ((some, cannot), λ m bad. omega arith)

-- a book that is given by its parts
pub of_parts : (cs ds : List CutData) (k j : ℕ) (ps qs : List ℕ) (vs ws : List AdvanceData) → cs ≡ ds → k ≡ j → ps ≡ qs → vs ≡ ws
    → IsContradicted (book_of cs k ps vs) → IsContradicted (book_of ds j qs ws)
of_parts cs ds k j ps qs vs ws a b c d h = search rules

-- the head of a book that contradicts itself is not in place
pub head_cannot : (st : StagingData) (book : BookData) (anchor : ℕ) → HasHead st book anchor → IsContradicted book → CanStand st 0 → ⊥
head_cannot st book anchor head wrong can = search rules
