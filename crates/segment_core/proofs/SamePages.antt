-- What two states show of a page.
use Rattle.std.proofs.Common.{◌≡◌, ℕ, ◌↔◌, List, [], Bool, IsTrue, None, refl, sym, ap, ◌∙◌, subst, arith}
use Rattle.redo_core.specs.Data.{RecordData}
use Rattle.redo_core.specs.Order.{Lists, BeforeByNumber}
use Rattle.redo_core.specs.Writing.{after_records}
use Rattle.redo_core.proofs.Members.{none_in, lists_unique}
use Rattle.epoch_book.specs.Book.{BookData}
use Rattle.hot_log.specs.Alive.{IsHeldOf}
use Rattle.hot_log.specs.Found.{IsLeastRecord}
use Rattle.segment_theorems.specs.State.{State, state_of, Store, version_of, image_of}
use Rattle.segment_theorems.specs.Shows.{IsApplied, Shows}
use Rattle.segment_core.specs.Comparing.{ReportsSamePage}

-- a state shows one page at a point
pub shows_one : (s : State) (page q : ℕ) (i j : List ℕ) → Shows s page q i → Shows s page q j → i ≡ j
shows_one s page q i j a b =
    let same : a.written ≡ b.written = lists_unique BeforeByNumber (λ x y lt gt. omega (arith, lt, gt)) (IsApplied s page q) (IsApplied s page q)
    (λ r. (λ h. h, λ h. h)) a.written b.written a.lists b.lists in
    a.result ∙ (ap (after_records (image_of s.store page)) same ∙ sym b.result)

-- where no record is applied to its image, the page is the image
pub shows_image : (b : BookData) (hs : List RecordData) (base : ℕ) (store : Store) (page version q : ℕ)
    → version ≡ version_of store page → IsLeastRecord (IsHeldOf b hs page version q) None
    → Shows (state_of b hs base store) page q (image_of store page)
shows_image b hs base store page version q same none =
    record { written = []; lists = subst (λ v. Lists BeforeByNumber (IsHeldOf b hs page v q) []) same nothing; result = refl }
  where
    nothing : Lists BeforeByNumber (IsHeldOf b hs page version q) []
    nothing = record { rising = tt; members = λ r. (λ h. absurd (none_in r h), λ h. absurd (none r h)) }

-- a test of the shown pages returns whether they are one
pub tells_same : (s t : State) (point other_point page : ℕ) (own others : List ℕ) (same : Bool)
    → Shows s page point own → Shows t page other_point others
    → IsTrue same ↔ (own ≡ others) → ReportsSamePage s point t other_point page same
tells_same s t point other_point page own others same first second test image shown a b =
    let one : own ≡ image = shows_one s page point own image first a in
    let two : others ≡ shown = shows_one t page other_point others shown second b in
    (λ h. sym one ∙ (test.0 h ∙ two), λ e. test.1 (one ∙ (e ∙ sym two)))
