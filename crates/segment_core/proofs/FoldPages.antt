-- Folding the pages of all stored records, one after the other.
use Rattle.std.proofs.Common.{◌≡◌, ◌≢◌, ℕ, ◌<◌, ◌≤◌, ◌⊎◌, inr, ⊎_elim, List, Option, Some, None, sym, ap, ◌∙◌, subst, arith, max, rules}
use Rattle.std.specs.List.{Contains}
use Rattle.redo_core.specs.Data.{RecordData}
use Rattle.hot_log.specs.Found.{IsPageAfter}
use Rattle.page_base.specs.Stored.{stored}
use Rattle.page_base.specs.Raising.{SamePage, Raises}
use Rattle.page_base.proofs.Merged.{raised_list, raised_floor}
use Rattle.segment_theorems.specs.State.{State, Store, StoredImage, version_of, image_of}
use Rattle.segment_theorems.specs.Shows.{Shows}
use Rattle.segment_theorems.specs.HasMeaning.{HasAnchor}
use Rattle.segment_theorems.specs.Promises.{KeepsMeaning, IsFinalPage}
use Rattle.segment_theorems.proofs.Shed.{anchor_page_is_final}
use Rattle.segment_core.specs.Forgetting.{with_store, FoldsImages, FoldsAll}
use Rattle.segment_core.specs.declared.fold_plan.Folded.{Folded}
use Rattle.segment_core.proofs.OneView.{one_anchor}
use Rattle.segment_core.proofs.Pages.{IsPassed, none_passed, passed_to, is_passed}
use Rattle.segment_core.proofs.Committing.{commits_of, commits_keeps}

-- the next page has a stored record
abbrev pub IsHeldPage : List RecordData → Option ℕ → Type 0
IsHeldPage held None = Unit {0}
IsHeldPage held (Some page) = (r : RecordData) × Contains held r × (r.page ≡ page)

pub next_held : (held : List RecordData) (after next : Option ℕ) → IsPageAfter held after next → IsHeldPage held next
next_held held after next is = search rules

-- the pages of stored records that are passed are folded to the anchor
pub record FoldsTo (s : State) (anchor : ℕ) (next : Option ℕ) (store : Store) : Type 0 where
  pub at : IsHeldPage s.held next
  pub keeps : KeepsMeaning s (with_store s store)
  pub versions : (r : RecordData) → Contains s.held r → IsPassed next r.page → version_of store r.page ≡ max (version_of s.store r.page) anchor
  pub shown : (r : RecordData) → Contains s.held r → IsPassed next r.page → Shows s r.page anchor (image_of store r.page)
  pub others : (page : ℕ) → ((r : RecordData) → Contains s.held r → r.page ≡ page → IsPassed next page → ⊥) → SamePage s.store store page
  pub listed : (i : StoredImage) → Contains store.images i → Contains s.store.images i ⊎ ((r : RecordData) × Contains s.held r × (r.page ≡ i.page))
  pub floor : store.floor ≡ s.store.floor

pub folds_none : (s : State) (anchor : ℕ) (next : Option ℕ) → IsPageAfter s.held None next → FoldsTo s anchor next s.store
folds_none s anchor next after = search (rules, none_passed)

-- what a raise to the anchor makes of the page itself, whose image was the state's own
raised_page : (s : State) (page anchor : ℕ) (image : List ℕ) (old new : Store) → SamePage s.store old page → Raises old page anchor image new
    → Shows s page anchor image
    → (version_of new page ≡ max (version_of s.store page) anchor) × Shows s page anchor (image_of new page)
raised_page s page anchor image old new same raises shows = search rules

-- another page stays
raised_other : (old new : Store) (page anchor g : ℕ) (image : List ℕ) → Raises old page anchor image new → g ≢ page → SamePage old new g
raised_other old new page anchor g image raises differs = search rules

-- ---- one page more
-- the page is folded to the anchor, and raised in the store
pub record FoldsOne (s : State) (anchor page : ℕ) (next : Option ℕ) (old : Store) (image : List ℕ) (new : Store) : Type 0 where
  pub own : HasAnchor s anchor
  pub after : IsPageAfter s.held (Some page) next
  pub before : FoldsTo s anchor (Some page) old
  pub raises : Raises old page anchor image new
  pub shows : Shows s page anchor image

-- no page is passed before its turn
own_page : (s : State) (anchor page : ℕ) (old : Store) → FoldsTo s anchor (Some page) old → SamePage s.store old page
own_page s anchor page old before = before.others page (λ r h e passed. let lt : page < page = passed in omega arith)

more_versions : (s : State) (anchor page : ℕ) (next : Option ℕ) (old : Store) (image : List ℕ) (new : Store) → FoldsOne s anchor page next old image new
    → (r : RecordData) → Contains s.held r → IsPassed next r.page
    → (version_of new r.page ≡ max (version_of s.store r.page) anchor) × Shows s r.page anchor (image_of new r.page)
more_versions s anchor page next old image new one r h passed =
    let le : r.page ≤ page = passed_to s.held page next r one.after h passed in
    ⊎_elim
    (λ (lt : r.page < page).
    let same = raised_other old new page anchor r.page image one.raises (λ e. omega arith) in
    (same.0 ∙ one.before.versions r h lt, subst (Shows s r.page anchor) (sym same.1) (one.before.shown r h lt)))
    (λ (e : page ≡ r.page).
    subst (λ g. (version_of new g ≡ max (version_of s.store g) anchor) × Shows s g anchor (image_of new g)) e
    (raised_page s page anchor image old new (own_page s anchor page old one.before) one.raises one.shows))
    (let t : (r.page < page) ⊎ (page ≡ r.page) = grind arith in t)

more_keeps : (s : State) (anchor page : ℕ) (next : Option ℕ) (old : Store) (image : List ℕ) (new : Store) → FoldsOne s anchor page next old image new
    → KeepsMeaning s (with_store s new)
more_keeps s anchor page next old image new one roster log F sound a =
    let folded : Folded = record { page = page; version = anchor; image = image } in
    let final : IsFinalPage roster log page anchor image = anchor_page_is_final log F s anchor page image sound a one.own one.shows in
    commits_keeps (with_store s old) (with_store s new) folded anchor one.own (omega arith) (commits_of s old new folded one.raises) roster log F sound final
    (one.before.keeps roster log F sound a)

pub folds_more : (s : State) (anchor page : ℕ) (next : Option ℕ) (old : Store) (image : List ℕ) (new : Store)
    → FoldsOne s anchor page next old image new → FoldsTo s anchor next new
folds_more s anchor page next old image new one =
    let held = one.before.at in
    record {
      at = next_held s.held (Some page) next one.after;
      keeps = more_keeps s anchor page next old image new one;
      versions = λ r h passed. (more_versions s anchor page next old image new one r h passed).0;
      shown = λ r h passed. (more_versions s anchor page next old image new one r h passed).1;
      others = λ g none.
          let differs : g ≢ page = λ e. none held.0 held.1 (held.2 ∙ sym e) (is_passed s.held page next g one.after (omega (arith, e))) in
          let now = raised_other old new page anchor g image one.raises differs in
          let was = one.before.others g (λ r h e passed. none r h e (let lt : g < page = passed in is_passed s.held page next g one.after (omega arith))) in
          (now.0 ∙ was.0, now.1 ∙ was.1);
      listed = λ i h.
          ⊎_elim
          (λ (q : Contains old.images i). one.before.listed i q)
          (λ (e : i ≡ stored page anchor image). inr (held.0, held.1, held.2 ∙ ap (λ (x : StoredImage). x.page) (sym e)))
          (raised_list old new page anchor image one.raises i h);
      floor = raised_floor old new page anchor image one.raises ∙ one.before.floor;
    }

-- a raise of a folded page is one to the anchor
pub raises_folded : (old new : Store) (folded : Folded) (page anchor : ℕ) → folded.page ≡ page → folded.version ≡ anchor
    → Raises old folded.page folded.version folded.image new → Raises old page anchor folded.image new
raises_folded old new folded page anchor e f raises = search rules

pub folds_all : (s : State) (anchor : ℕ) (store : Store) → HasAnchor s anchor → FoldsTo s anchor None store
    → FoldsAll s store
folds_all s anchor store own done = record {
  keeps = done.keeps;
  images = λ other has. subst (λ n. FoldsImages s n store) (one_anchor s anchor other own has) (record {
    versions = λ r h. done.versions r h tt;
    shown = λ r h. done.shown r h tt;
    others = λ page none. done.others page (λ r h e passed. none r h e);
    listed = done.listed;
    floor = done.floor;
  });
}
