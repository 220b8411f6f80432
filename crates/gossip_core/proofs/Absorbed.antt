-- What a state is after it has taken what a delta exports, with the delta's pages.
use Rattle.std.proofs.Common.{◌≡◌, ℕ, ◌<◌, ◌≤◌, ◌⊎◌, inl, inr, ⊎_elim, map, max, refl, sym, ap, ◌∙◌, subst, arith, rules}
use Rattle.std.specs.List.{Contains}
use Rattle.redo_core.specs.Data.{RecordData}
use Rattle.redo_core.specs.Meaning.{ImageData}
use Rattle.redo_core.specs.Book.{roster_of}
use Rattle.redo_core.specs.declared.facts.Fact.TheVariants.{Record}
use Rattle.log_theorems.proofs.Meanings.{in_map, from_map}
use Rattle.page_base.specs.Raising.{SamePage}
use Rattle.page_base.specs.Merging.{IsTaken, IsFloored, Merges}
use Rattle.messages.specs.Deltas.{DeltaData, IsDelta}
use Rattle.segment_theorems.specs.State.{State, StoredImage, min_of, version_of, image_of}
use Rattle.segment_theorems.specs.Means.{Matters, IsInImage}
use Rattle.segment_theorems.specs.Joining.{JoinsBooks}
use Rattle.segment_theorems.specs.Gossip.{HasImage, JoinsDelta}
use Rattle.segment_core.specs.Form.{IsSegment}
use Rattle.segment_core.specs.Uniting.{Unites}
use Rattle.segment_core.specs.Exported.{exported_facts}
use Rattle.segment_core.specs.InOrder.{TakesEach}
use Rattle.segment_core.proofs.TakingAll.{IsLate, LeavesAll, leaves_all}
use Rattle.segment_core.proofs.ToldFacts.{listed_cut, listed_advance, listed_record}
use Rattle.segment_core.proofs.BookTaken.{HasBook, all, book_joined, least_fits, late_of}
use Rattle.gossip_core.specs.Absorbing.{filling_of, based_image, AbsorbsInto}

-- the state has taken what the delta exports
pub record HasDelta (s : State) (d : DeltaData) (taken : State) : Type 0 where
  pub form : IsSegment s
  pub shape : IsDelta d
  pub one_roster : roster_of s.book ≡ roster_of d.book
  pub takes : TakesEach s (exported_facts d.book d.records) taken

module _ (s : State) (d : DeltaData) (taken : State) (h : HasDelta s d taken) where
  has_book : HasBook s d.book (exported_facts d.book d.records) taken
  has_book = record {
    own = late_of s h.form;
    epoch = h.shape.book.complete;
    one_roster = h.one_roster;
    cut = listed_cut d.book d.records (exported_facts d.book d.records) refl;
    advance = listed_advance d.book d.records (exported_facts d.book d.records) refl;
    takes = h.takes;
  }

  left : LeavesAll s (exported_facts d.book d.records) taken
  left = all s taken d.book (exported_facts d.book d.records) has_book

  pub base_fits : d.base ≤ min_of taken
  base_fits = search (rules, least_fits, has_book)

module _ (s : State) (d : DeltaData) (taken new : State) (h : HasDelta s d taken)
    (unites : Unites taken d.base d.base (map (based_image d.base) d.pages) new) where
  merges : Merges s.store d.base (map (based_image d.base) d.pages) new.store
  merges = subst (λ store. Merges store d.base (map (based_image d.base) d.pages) new.store) (left s d taken h).store unites.store

  -- a page that was given shows it at the base
  taken_of : (g : ℕ) → IsTaken (map (based_image d.base) d.pages) new.store g
      → (version_of new.store g ≡ d.base) × HasImage (filling_of d) g (image_of new.store g)
  taken_of g t =
      let from = from_map (based_image d.base) d.pages t.0 t.1 in
      let p : ImageData = from.0 in
      let page : p.page ≡ g = ap (λ (i : StoredImage). i.page) from.2 ∙ t.2 in
      let version : d.base ≡ t.0.version = ap (λ (i : StoredImage). i.version) from.2 in
      let bytes : p.bytes ≡ image_of new.store g = ap (λ (i : StoredImage). i.bytes) from.2 ∙ sym t.4 in
      (t.3 ∙ sym version, inl (p, from.1, page, bytes))

  floored_of : (g : ℕ) → IsFloored d.base (map (based_image d.base) d.pages) new.store g
      → (version_of new.store g ≡ d.base) × HasImage (filling_of d) g (image_of new.store g)
  floored_of g f = (
    f.1,
    inr (
      λ i has e. let low : d.base < d.base = f.0 (based_image d.base i) (in_map (based_image d.base) d.pages i has) e in omega (arith, low),
      f.2,
    ),
  )

  images : (g : ℕ) → ((d.base ≤ version_of s.store g) × SamePage s.store new.store g)
      ⊎ ((version_of s.store g < d.base) × (version_of new.store g ≡ d.base) × HasImage (filling_of d) g (image_of new.store g))
  images g = search (rules, merges, taken_of, floored_of)

  pub absorbs : AbsorbsInto s d new
  absorbs = record {
    one_roster = h.one_roster;
    taken = taken;
    takes = h.takes;
    book = (
      unites.book,
      subst (JoinsBooks s.book d.book) (sym unites.book) (book_joined s taken d.book (exported_facts d.book d.records) (has_book s d taken h)),
    );
    held = unites.held;
    base = unites.base_is ∙ ap (λ b. max b d.base) (left s d taken h).base;
    images = images;
  }

-- ---- what the two know together, where each exported record that is not dead is stored or in its page's image
module _ (s : State) (d : DeltaData) (new : State) (late : IsLate s) (a : AbsorbsInto s d new)
    (told : (r : RecordData) → Contains d.records r → Matters a.taken.book.cuts a.taken.book.complete r → Contains a.taken.held r ⊎ IsInImage a.taken r) where
  all_left : LeavesAll s (exported_facts d.book d.records) a.taken
  all_left = leaves_all s (exported_facts d.book d.records) a.taken late a.takes

  base_known : ((d.base ≤ s.base) × (new.base ≡ s.base)) ⊎ ((s.base < d.base) × (new.base ≡ d.base) × ((g : ℕ) → d.base ≤ version_of new.store g))
  base_known = search rules

  images_known : (g : ℕ) → ((version_of new.store g ≡ version_of s.store g) × (image_of new.store g ≡ image_of s.store g))
      ⊎ ((version_of s.store g ≤ d.base) × (version_of new.store g ≡ d.base) × HasImage (filling_of d) g (image_of new.store g))
  images_known g = search rules

  held_now : (r : RecordData) → Contains a.taken.held r → Contains new.held r
  held_now r x = subst (λ hs. Contains hs r) (sym a.held) x

  of_both : (r : RecordData) → Contains new.held r → Contains s.held r ⊎ Contains d.records r
  of_both r x =
      ⊎_elim
      (λ (y : Contains s.held r). inl y)
      (λ (y : Contains (exported_facts d.book d.records) (Record r)). inr ((listed_record d.book d.records (exported_facts d.book d.records) refl r).0 y))
      (all_left.more r (subst (λ hs. Contains hs r) a.held x))

  in_image : (r : RecordData) → IsInImage a.taken r → IsInImage new r
  in_image r f = search (rules, all_left)

  kept : (r : RecordData) → Contains s.held r ⊎ Contains d.records r → Matters new.book.cuts new.book.complete r → Contains new.held r ⊎ IsInImage new r
  kept r has mat =
      ⊎_elim
      (λ (x : Contains s.held r). inl (held_now r (all_left.before r x)))
      (λ (x : Contains d.records r). ⊎_elim
      (λ (y : Contains a.taken.held r). inl (held_now r y))
      (λ (y : IsInImage a.taken r). inr (in_image r y))
      (told r x (subst (λ b. Matters b.cuts b.complete r) a.book.0 mat)))
      has

  pub known_together : JoinsDelta s (filling_of d) new
  known_together = record { book = a.book.1; base = base_known; images = images_known; of_both = of_both; kept = kept }
