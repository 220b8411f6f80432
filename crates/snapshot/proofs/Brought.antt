-- What the pieces below an index contain together.
use Rattle.std.proofs.Common.{◌≡◌, ℕ, ◌+◌, ◌<◌, ◌≤◌, ◌⊎◌, ◌↔◌, inl, inr, ⊎_elim, List, [], ◌∷◌, ◌++◌, Bool, true, false, Some, ◌==◌, if◌then◌else◌, refl, sym, ap, ◌∙◌, subst, arith, rules}
use Rattle.std.specs.List.{Contains}
use Rattle.std.proofs.lemmas.Bool.Decides.{Decides-eqb}
use Rattle.std.proofs.lemmas.List.Elements.{Contains-append_left, Contains-append_right, Contains-append_cases}
use Rattle.redo_core.specs.Data.{RecordData}
use Rattle.redo_core.specs.Meaning.{ImageData}
use Rattle.redo_core.specs.Order.{IsRising, Lists, RecordBefore}
use Rattle.redo_core.specs.Writing.{zeros}
use Rattle.redo_core.proofs.Members.{none_in, here, there, which}
use Rattle.redo_core.proofs.Listing.{rising_append}
use Rattle.page_base.specs.Adopting.{first_given}
use Rattle.messages.specs.Pieces.{PieceData, IsContent}
use Rattle.messages.specs.declared.pieces.PieceContent.{PieceContent}
use Rattle.messages.specs.declared.pieces.PieceContent.TheVariants.{Page, Records}
use Rattle.snapshot.specs.Stagings.{StagingData, piece_at, IsStaging}
use Rattle.snapshot.specs.Placing.{IsInOrder}
use Rattle.snapshot.specs.Hydrating.{records_of, pages_of, BringsRecord, BringsPage, IsBrought}
use Rattle.snapshot.proofs.InOrder.{within, batch_before}

-- a piece below the index contains it
abbrev pub IsBelow : {X : Type 0} → (PieceContent → List X) → StagingData → ℕ → X → Type 0
IsBelow of st n x = (i : ℕ) × (i < n) × (p : PieceData) × (piece_at st i ≡ Some p) × Contains (of p.content) x

-- the list has just what the pieces below the index contain
abbrev pub AreBelow : {X : Type 0} → (PieceContent → List X) → StagingData → ℕ → List X → Type 0
AreBelow {X} of st n xs = (x : X) → Contains xs x ↔ IsBelow of st n x

pub below_none : {X : Type 0} (of : PieceContent → List X) (st : StagingData) → AreBelow of st 0 []
below_none of st x = (λ h. absurd (none_in x h), λ b. absurd (omega (arith, b.1)))

pub below_more : {X : Type 0} (of : PieceContent → List X) (st : StagingData) (n : ℕ) (xs : List X) (p : PieceData) → piece_at st n ≡ Some p
    → AreBelow of st n xs → AreBelow of st (n + 1) (xs ++ of p.content)
below_more {X} of st n xs p is all x = (
  λ h. ⊎_elim
      (λ (q : Contains xs x). let b = (all x).0 q in (b.0, omega (arith, b.1), b.2, b.3, b.4))
      (λ (q : Contains (of p.content) x). (n, omega arith, p, is, q))
      (Contains-append_cases xs (of p.content) x h),
  λ b. ⊎_elim
      (λ (l : b.0 < n). Contains-append_left xs (of p.content) x ((all x).1 (b.0, l, b.2, b.3, b.4)))
      (λ (e : b.0 ≡ n).
      let at : piece_at st n ≡ Some b.2 = subst (λ k. piece_at st k ≡ Some b.2) e b.3 in
      let same : b.2 ≡ p = cc in
      Contains-append_right xs (of p.content) x (subst (λ (q : PieceData). Contains (of q.content) x) same b.4))
      (let l : b.0 < n + 1 = b.1 in let t : (b.0 < n) ⊎ (b.0 ≡ n) = grind (arith, l) in t),
)

batch_rises : (content : PieceContent) → IsContent content → IsRising RecordBefore (records_of content)
batch_rises content form = search rules

of_batch : (content : PieceContent) (r : RecordData) → Contains (records_of content) r → (rs : List RecordData) × (content ≡ Records rs) × Contains rs r
of_batch content r h = search rules

of_page : (content : PieceContent) (g : ℕ × List ℕ) → Contains (pages_of content) g
    → (image : ImageData) × (content ≡ Page image) × (g ≡ (image.page, image.bytes))
of_page content g h = search rules

-- the records of one piece more
pub rises_more : (st : StagingData) (n : ℕ) (xs : List RecordData) (p : PieceData) → IsStaging st → IsInOrder st → piece_at st n ≡ Some p
    → AreBelow records_of st n xs → IsRising RecordBefore xs → IsRising RecordBefore (xs ++ records_of p.content)
rises_more st n xs p form order is all rising =
    rising_append RecordBefore xs (records_of p.content) rising (batch_rises p.content (form n p is).2.content) (λ r q hr hq.
    let lower = (all r).0 hr in
    let low = of_batch lower.2.content r lower.4 in
    let high = of_batch p.content q hq in
    batch_before st lower.0 n low.0 high.0 order (lower.2, lower.3, low.1) (p, is, high.1) lower.1 (within st n p form is) r q low.2 high.2)

-- the pieces up to the total are all
pub lists_all : (st : StagingData) (n : ℕ) (xs : List RecordData) → IsStaging st → st.total ≤ n → AreBelow records_of st n xs → IsRising RecordBefore xs
    → Lists RecordBefore (BringsRecord st) xs
lists_all st n xs form le all rising = record {
  rising = rising;
  members = λ r. (
    λ h. let b = (all r).0 h in let o = of_batch b.2.content r b.4 in (b.0, b.2, o.0, b.3, o.1, o.2),
    λ b. (all r).1 (b.0, omega (arith, within st b.0 b.1 form b.3, le), b.1, b.3, subst (λ content. Contains (records_of content) r) (sym b.4) b.5),
  );
}

-- the first image that is given of a page, or zeros where none is
abbrev IsFirstOf : List (ℕ × List ℕ) → ℕ → List ℕ → Type 0
IsFirstOf gs page bytes =
    ((g : ℕ × List ℕ) × Contains gs g × (g.0 ≡ page) × (bytes ≡ g.1)) ⊎ (((g : ℕ × List ℕ) → Contains gs g → g.0 ≡ page → ⊥) × (bytes ≡ zeros))

first_at : (g : ℕ × List ℕ) (gs : List (ℕ × List ℕ)) (page : ℕ) (b : Bool) → (g.0 == page) ≡ b → IsFirstOf gs page (first_given gs page)
    → IsFirstOf (g ∷ gs) page (if b then g.1 else first_given gs page)
first_at g gs page true e rest = inl (g, here g gs, (Decides-eqb g.0 page).0 e, refl)
first_at g gs page false e rest =
    ⊎_elim
    (λ (f : (x : ℕ × List ℕ) × Contains gs x × (x.0 ≡ page) × (first_given gs page ≡ x.1)). inl (f.0, there g gs f.0 f.1, f.2, f.3))
    (λ (f : ((x : ℕ × List ℕ) → Contains gs x → x.0 ≡ page → ⊥) × (first_given gs page ≡ zeros)). inr (
      λ x h at. ⊎_elim
          (λ (q : g ≡ x). absurd (let yes : (g.0 == page) ≡ true = (Decides-eqb g.0 page).1 (ap (λ (y : ℕ × List ℕ). y.0) q ∙ at) in cc))
          (λ (q : Contains gs x). f.0 x q at)
          (which g gs x h),
      f.1,
    ))
    rest

first_is : (gs : List (ℕ × List ℕ)) (page : ℕ) → IsFirstOf gs page (first_given gs page)
first_is [] page = inr (λ g h at. none_in g h, refl)
first_is (g ∷ gs) page = first_at g gs page (g.0 == page) refl (first_is gs page)

pub only_brought : (st : StagingData) (n : ℕ) (gs : List (ℕ × List ℕ)) → AreBelow pages_of st n gs → (g : ℕ × List ℕ) → Contains gs g
    → (image : ImageData) × BringsPage st image × (g ≡ (image.page, image.bytes))
only_brought st n gs all g h = let b = (all g).0 h in let o = of_page b.2.content g b.4 in (o.0, (b.0, b.2, b.3, o.1), o.2)

all_brought : (st : StagingData) (n : ℕ) (gs : List (ℕ × List ℕ)) → IsStaging st → st.total ≤ n → AreBelow pages_of st n gs → (image : ImageData)
    → BringsPage st image → Contains gs (image.page, image.bytes)
all_brought st n gs form le all image b =
    let g : ℕ × List ℕ = (image.page, image.bytes) in
    (all g).1 (b.0, omega (arith, within st b.0 b.1 form b.2, le), b.1, b.2, subst (λ content. Contains (pages_of content) g) (sym b.3) (here g []))

pub brought : (st : StagingData) (n : ℕ) (gs : List (ℕ × List ℕ)) → IsStaging st → st.total ≤ n → AreBelow pages_of st n gs → (page : ℕ)
    → IsBrought st page (first_given gs page)
brought st n gs form le all page =
    ⊎_elim
    (λ (f : (g : ℕ × List ℕ) × Contains gs g × (g.0 ≡ page) × (first_given gs page ≡ g.1)).
    let o = only_brought st n gs all f.0 f.1 in
    inl (o.0, o.1, sym (ap (λ (g : ℕ × List ℕ). g.0) o.2) ∙ f.2, sym (f.3 ∙ ap (λ (g : ℕ × List ℕ). g.1) o.2)))
    (λ (f : ((g : ℕ × List ℕ) → Contains gs g → g.0 ≡ page → ⊥) × (first_given gs page ≡ zeros)).
    inr (λ i b at. f.0 (i.page, i.bytes) (all_brought st n gs form le all i b) at, f.1))
    (first_is gs page)
