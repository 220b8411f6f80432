-- What a state and another one know together, when each fact that the other exports was taken.
use Rattle.std.proofs.Common.{◌≡◌, ℕ, ◌<◌, ◌≤◌, ◌⊎◌, ◌↔◌, inl, inr, ⊎_elim, List, max, sym, ap, ◌∙◌, subst, arith, rules}
use Rattle.std.specs.List.{Contains}
use Rattle.redo_core.specs.Data.{RecordData}
use Rattle.redo_core.specs.Standing.{IsDead}
use Rattle.redo_core.specs.Book.{roster_of}
use Rattle.redo_core.specs.declared.facts.Fact.{Fact}
use Rattle.redo_core.specs.declared.facts.Fact.TheVariants.{Record}
use Rattle.log_theorems.proofs.Deciding.{settled_eq, some_or_none}
use Rattle.log_theorems.proofs.Storing.{stored_images}
use Rattle.page_base.specs.Raising.{SamePage}
use Rattle.page_base.specs.Merging.{IsTaken, IsFloored, Merges}
use Rattle.segment_theorems.specs.State.{State, StoredImage, min_of, version_of, image_of}
use Rattle.segment_theorems.specs.Means.{Matters, IsInImage}
use Rattle.segment_theorems.specs.HasMeaning.{IsKeptBy}
use Rattle.segment_theorems.specs.Joining.{Joins}
use Rattle.segment_core.specs.Form.{IsSegment}
use Rattle.segment_core.specs.Refusing.{HoldsOther}
use Rattle.segment_core.specs.Uniting.{Unites}
use Rattle.segment_core.specs.Exported.{AreExported}
use Rattle.segment_core.specs.InOrder.{TakesEach}
use Rattle.segment_join.specs.Joining.{IsBroughtIn, JoinsInto}
use Rattle.segment_join.specs.Holding.{InOtherImage, IsNeedless, IsSpared, HoldsRest}
use Rattle.segment_join.specs.Newer.{AreNewer}
use Rattle.segment_core.proofs.Keys.{one_of_key}
use Rattle.segment_core.proofs.TakingAll.{LeavesAll}
use Rattle.segment_core.proofs.ToldFacts.{told_cut, told_advance, told_record}
use Rattle.segment_core.proofs.BookTaken.{late_of, HasBook, all, book_joined, least_fits}
use Rattle.segment_join.proofs.Bringing.{brings_told}

-- a state has taken what the other exports
pub record IsTold (old other taken : State) (facts : List Fact) : Type 0 where
  pub own : IsSegment old
  pub shown : IsSegment other
  pub one_roster : roster_of old.book ≡ roster_of other.book
  pub told : AreExported other facts
  pub takes : TakesEach old facts taken

-- and stores the rest, and the new state is what the two know together
pub record IsUnion (old other taken joined : State) (facts : List Fact) (images : List StoredImage) (new : State) : Type 0 where
  pub first : IsTold old other taken facts
  pub holds : HoldsRest taken other joined
  pub newer : AreNewer old.store other.store images
  pub unites : Unites joined other.base other.store.floor images new

-- what another state exports is its book's
module _ (old other taken : State) (facts : List Fact) (d : IsTold old other taken facts) where
  pub of_told : HasBook old other.book facts taken
  of_told = search (rules, late_of, told_cut, told_advance)

  told_all : LeavesAll old facts taken
  told_all = all old taken other.book facts of_told

  -- the other's base point is at most the least point of what took the facts and stores the rest
  pub base_fits_joined : (joined : State) → HoldsRest taken other joined → other.base ≤ min_of joined
  base_fits_joined joined holds = search (rules, least_fits, of_told)

-- ---- images
-- an image that is stored is its page's
pub shown_image : (s : State) → IsSegment s → (i : StoredImage) → Contains s.store.images i
    → (version_of s.store i.page ≡ i.version) × (image_of s.store i.page ≡ i.bytes)
shown_image s form i h = (stored_images s.store form.store.rising).0 i h

module _ (old other taken joined new : State) (facts : List Fact) (images : List StoredImage) (u : IsUnion old other taken joined facts images new) where
  merges : Merges old.store other.store.floor images new.store
  merges =
      subst (λ store. Merges store other.store.floor images new.store)
      (u.holds.rest.store ∙ (told_all old other taken facts u.first).store) u.unites.store

  -- an image of the other that a page of a lower version lacks is taken in
  image_up : (i : StoredImage) → Contains other.store.images i → i.version ≤ version_of new.store i.page
  image_up i h = search (rules, merges)

  newest_of : (g : ℕ) → version_of other.store g ≤ version_of new.store g
  newest_of g =
      ⊎_elim
      (λ (s : (i : StoredImage) × Contains other.store.images i × (i.page ≡ g)).
      let e : version_of other.store s.0.page ≡ s.0.version = (shown_image other u.first.shown s.0 s.1).0 in
      let x : s.0.version ≤ version_of new.store s.0.page = image_up s.0 s.1 in
      subst (λ p. version_of other.store p ≤ version_of new.store p) s.2 (omega (arith, e, x)))
      (λ (none : (i : StoredImage) → Contains other.store.images i → i.page ≡ g → ⊥).
      let e : version_of other.store g ≡ other.store.floor = ((stored_images other.store u.first.shown.store.rising).1 g none).0 in
      let x : other.store.floor ≤ version_of new.store g = merges.floored g in
      omega (arith, e, x))
      (some_or_none (λ (i : StoredImage). i.page ≡ g) (λ i. settled_eq i.page g) other.store.images)

  -- a page that is zeros at the default version has no image in the other
  floored_of : (g : ℕ) → version_of old.store g < version_of new.store g → IsFloored other.store.floor images new.store g
      → (version_of new.store g ≡ version_of other.store g) × (image_of new.store g ≡ image_of other.store g)
  floored_of g up floored =
      let none = (stored_images other.store u.first.shown.store.rising).1 g (λ i h e.
      let high : other.store.floor ≤ i.version = u.first.shown.store.high i h in
      let is : version_of new.store g ≡ other.store.floor = floored.1 in
      let above : version_of old.store i.page < i.version = subst (λ p. version_of old.store p < i.version) (sym e) (omega (arith, up, high, is)) in
      let low : i.version < other.store.floor = floored.0 i ((u.newer i).1 (h, above)) e in
      omega (arith, low, high)) in
      (floored.1 ∙ sym none.0, floored.2 ∙ sym none.1)

  taken_of : (g : ℕ) → IsTaken images new.store g → (version_of new.store g ≡ version_of other.store g) × (image_of new.store g ≡ image_of other.store g)
  taken_of g t =
      let own = shown_image other u.first.shown t.0 ((u.newer t.0).0 t.1).0 in
      (t.3 ∙ sym own.0 ∙ ap (λ p. version_of other.store p) t.2, t.4 ∙ sym own.1 ∙ ap (λ p. image_of other.store p) t.2)

  images_joined : (g : ℕ) → SamePage old.store new.store g
      ⊎ ((version_of old.store g < version_of new.store g) × SamePage other.store new.store g)
  images_joined g = search (rules, taken_of, floored_of, merges)

  -- ---- base point and records
  base_is : new.base ≡ max old.base other.base
  base_is =
      u.unites.base_is ∙ ap (λ b. max b other.base) (u.holds.rest.base ∙ (told_all old other taken facts u.first).base)

  base_joined : ((new.base ≡ old.base) ⊎ (new.base ≡ other.base)) × (old.base ≤ new.base) × (other.base ≤ new.base)
  base_joined = search (rules, base_is)

  held_is : (r : RecordData) → Contains joined.held r ↔ Contains new.held r
  held_is r = (λ h. subst (λ hs. Contains hs r) (sym u.unites.held) h, λ h. subst (λ hs. Contains hs r) u.unites.held h)

  -- what is stored after the facts comes from a side
  from_sides : (r : RecordData) → Contains taken.held r → Contains old.held r ⊎ Contains other.held r
  from_sides r h =
      ⊎_elim
      (λ (x : Contains old.held r). inl x)
      (λ (x : Contains facts (Record r)). inr ((told_record other facts u.first.told r).0 x).0)
      ((told_all old other taken facts u.first).more r h)

  -- another record of its key was stored before
  held_before : (r : RecordData) → Contains other.held r → HoldsOther taken r → HoldsOther old r
  held_before r h o =
      ⊎_elim
      (λ (x : Contains old.held o.0). (o.0, x, o.2, o.3, o.4))
      (λ (x : Contains other.held o.0). absurd (o.4 (one_of_key other.held o.0 r u.first.shown.held.rising x h o.2 o.3)))
      (from_sides o.0 o.1)

  book_is : new.book ≡ taken.book
  book_is = u.unites.book ∙ u.holds.book

  -- what was dead when the facts were taken is dead, and an image that lacked a record lacks it
  still_dead : (r : RecordData) → IsDead new.book.cuts new.book.complete r.epoch r.number → IsDead taken.book.cuts taken.book.complete r.epoch r.number
  still_dead r dead = subst (λ b. IsDead b.cuts b.complete r.epoch r.number) book_is dead

  still_in_image : (r : RecordData) → InOtherImage new other r → InOtherImage taken other r
  still_in_image r image = (subst (λ b. r.epoch ≤ b.complete) book_is image.0, image.1, image.2)

  -- what is exported was kept by the other, and what the rest brings in is not needless
  brought_told : (r : RecordData) → Contains taken.held r → Contains old.held r ⊎ IsBroughtIn other new r
  brought_told r h =
      let told = u.first.told in
      ⊎_elim
      (λ (x : Contains old.held r). inl x)
      (λ (x : Contains told.kept r × (IsDead taken.book.cuts taken.book.complete r.epoch r.number → ⊥)).
      let kept : IsKeptBy other told.anchor r = (told.kept_are.members r).0 x.0 in
      inr (kept.0, λ dead. x.1 (still_dead r dead), inl (told.anchor, told.anchor_is, kept)))
      (brings_told old other.book told.kept taken (late_of old u.first.own)
      (subst (λ fs. TakesEach old fs taken) told.facts_are u.first.takes) r h)

  brought_in : (r : RecordData) → Contains new.held r → Contains old.held r ⊎ IsBroughtIn other new r
  brought_in r h =
      ⊎_elim
      (brought_told r)
      (λ (x : Contains other.held r × (IsNeedless taken other r → ⊥)).
      inr (x.0, λ dead. x.1 (inl (still_dead r dead)), inr (λ image. x.1 (inr (inr (still_in_image r image))))))
      (u.holds.more r ((held_is r).1 h))

  own_joined : (r : RecordData) → Contains old.held r → Contains new.held r
  own_joined r h = (held_is r).0 (u.holds.before r ((told_all old other taken facts u.first).before r h))

  older_of : (g : ℕ) → version_of old.store g ≤ version_of new.store g
  older_of g =
      ⊎_elim
      (λ (s : SamePage old.store new.store g). let e : version_of new.store g ≡ version_of old.store g = s.0 in omega (arith, e))
      (λ x. let lt : version_of old.store g < version_of new.store g = x.0 in omega (arith, lt))
      (images_joined g)

  -- what is not dead and needless after the facts is in the new state's image
  needless_joined : (r : RecordData) → Matters new.book.cuts new.book.complete r → IsNeedless taken other r → IsInImage new r
  needless_joined r mat needless =
      let left = told_all old other taken facts u.first in
      let same : taken.base ≡ old.base = left.base in
      let own : version_of taken.store r.page ≡ version_of old.store r.page = ap (λ s. version_of s r.page) left.store in
      let older = older_of r.page in let newest = newest_of r.page in
      ⊎_elim
      (λ (dead : IsDead taken.book.cuts taken.book.complete r.epoch r.number). absurd (⊎_elim
      (λ (w : taken.book.complete < r.epoch). omega (arith, w, dead.0)) dead.1 (subst (λ b. Matters b.cuts b.complete r) book_is mat)))
      (λ in_image. ⊎_elim
      (λ (x : IsInImage taken r).
      (subst (λ b. r.epoch ≤ b.complete) (sym book_is) x.0, omega (arith, x.1, same, base_joined.1), omega (arith, x.2, own, older)))
      (λ (x : InOtherImage taken other r).
      (subst (λ b. r.epoch ≤ b.complete) (sym book_is) x.0, omega (arith, x.1, base_joined.2), omega (arith, x.2, newest)))
      in_image)
      needless

  others_joined : (r : RecordData) → Contains other.held r → Matters new.book.cuts new.book.complete r
      → Contains new.held r ⊎ (IsInImage new r ⊎ HoldsOther old r)
  others_joined r h mat =
      ⊎_elim
      (λ (x : Contains joined.held r). inl ((held_is r).0 x))
      (λ (x : IsSpared taken other r). inr (⊎_elim
      (λ (o : HoldsOther taken r). inr (held_before r h o))
      (λ (n : IsNeedless taken other r). inl (needless_joined r mat n))
      x))
      (u.holds.each r h)

  pub joins_both : JoinsInto old other new
  joins_both = search (rules, book_is, book_joined, of_told, base_joined, own_joined, others_joined, brought_in, images_joined, newest_of)

-- no two different records have one key
abbrev pub HaveOneRecordAKey : State → State → Type 0
HaveOneRecordAKey s t =
    (r q : RecordData) → Contains s.held r → Contains t.held q → r.epoch ≡ q.epoch → r.number ≡ q.number → r ≡ q

-- where no two records of them have one key, that is what the two know together
pub joins_whole : (old other new : State) → JoinsInto old other new → HaveOneRecordAKey old other → Joins old other new
joins_whole old other new j one = record {
  book = j.book;
  base = j.base;
  of_both = λ r h. ⊎_elim (λ (x : Contains old.held r). inl x) (λ (x : IsBroughtIn other new r). inr x.0) (j.of_both r h);
  kept = λ r h mat. ⊎_elim (λ (x : Contains old.held r). inl (j.own r x)) (λ (x : Contains other.held r). from_other r x mat) h;
  images = λ g. ⊎_elim (λ (x : SamePage old.store new.store g). inl x) (λ x. inr x.1) (j.images g);
  newest = λ g. (not_older g, j.newest g);
}
  where
    from_other : (r : RecordData) → Contains other.held r → Matters new.book.cuts new.book.complete r → Contains new.held r ⊎ IsInImage new r
    from_other r x mat =
        ⊎_elim
        (λ (y : Contains new.held r). inl y)
        (λ rest. ⊎_elim (λ (y : IsInImage new r). inr y) (λ (o : HoldsOther old r). absurd (o.4 (one o.0 r o.1 x o.2 o.3))) rest)
        (j.others r x mat)

    not_older : (g : ℕ) → version_of old.store g ≤ version_of new.store g
    not_older g =
        ⊎_elim
        (λ (x : SamePage old.store new.store g). let e : version_of new.store g ≡ version_of old.store g = x.0 in omega (arith, e))
        (λ x. let lt : version_of old.store g < version_of new.store g = x.0 in omega (arith, lt))
        (j.images g)
