-- A state that is made of what pieces in order contain.
use Rattle.std.proofs.Common.{◌≡◌, ℕ, ◌≤◌, List, [], ◌∷◌, refl, sym, ◌∙◌, subst, arith}
use Rattle.std.specs.List.{Contains}
use Rattle.redo_core.specs.Book.{BookData}
use Rattle.redo_core.specs.Data.{RecordData}
use Rattle.redo_core.specs.Meaning.{ImageData}
use Rattle.redo_core.specs.Order.{Lists, RecordBefore}
use Rattle.redo_core.specs.Roster.{least}
use Rattle.redo_core.proofs.Members.{here}
use Rattle.messages.specs.Pieces.{IsContent}
use Rattle.messages.specs.declared.pieces.PieceContent.TheVariants.{Head}
use Rattle.page_base.specs.Adopting.{first_given}
use Rattle.segment_theorems.specs.State.{State}
use Rattle.segment_core.specs.Restoring.{IsMadeOf}
use Rattle.snapshot.specs.Stagings.{StagingData, IsStaging}
use Rattle.snapshot.specs.Placing.{HasHead, IsInOrder}
use Rattle.snapshot.specs.Hydrating.{Hydrates, BringsPage, BringsRecord, IsBrought}
use Rattle.snapshot.proofs.InOrder.{no_page}

-- the anchor of a head is not above its minimum read point
pub low_anchor : (st : StagingData) (own book : BookData) (anchor : ℕ) → IsStaging st → HasHead st book anchor → own ≡ book → anchor ≤ least own.points
low_anchor st own book anchor form head e =
    let content : IsContent (Head book anchor) = subst IsContent head.2 (form 0 head.0 head.1).2.content in
    subst (λ (b : BookData). anchor ≤ least b.points) (sym e) content.1

-- at base 0 there are no pages
pub none_at_0 : (st : StagingData) (book : BookData) (anchor : ℕ) (gs : List (ℕ × List ℕ)) → IsStaging st → IsInOrder st → HasHead st book anchor
    → ((g : ℕ × List ℕ) → Contains gs g → (image : ImageData) × BringsPage st image) → anchor ≡ 0 → gs ≡ []
none_at_0 st book anchor [] form order head only z = refl
none_at_0 st book anchor (g ∷ gs) form order head only z =
    let b = only g (here g gs) in absurd (omega (arith, no_page st b.1.0 b.1.1 book anchor b.0 form order head b.1.2 b.1.3, z))

pub hydrated : (st : StagingData) (own book : BookData) (anchor : ℕ) (rs : List RecordData) (gs : List (ℕ × List ℕ)) (s : State) → HasHead st book anchor
    → own ≡ book → Lists RecordBefore (BringsRecord st) rs → ((page : ℕ) → IsBrought st page (first_given gs page)) → IsMadeOf own rs anchor gs s
    → Hydrates st s
hydrated st own book anchor rs gs s head e lists pages made = record {
  head = subst (λ (b : BookData). HasHead st b s.base) (sym (made.book_is ∙ e)) (subst (HasHead st book) (sym made.base_is) head);
  versions = λ page. made.versions page ∙ sym made.base_is;
  images = λ page. subst (IsBrought st page) (sym (made.images page)) (pages page);
  held = λ r. (λ h. (lists.members r).0 ((made.held r).0 h), λ b. (made.held r).1 ((lists.members r).1 b));
}
