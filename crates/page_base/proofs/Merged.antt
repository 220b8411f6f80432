-- The images of a store after images were raised one after another.
use Rattle.std.proofs.Common.{◌≡◌, ℕ, ◌<◌, ◌≤◌, ◌⊎◌, inl, inr, ⊎_elim, List, [], ◌∷◌, sym, ap, ◌∙◌, subst, arith, max, rules}
use Rattle.std.specs.List.{Contains}
use Rattle.redo_core.proofs.Members.{none_in, here, there, which}
use Rattle.redo_core.specs.Store.{Store, StoredImage, version_of, image_of}
use Rattle.page_base.specs.Stored.{stored}
use Rattle.page_base.specs.Raising.{SamePage, Raises}
use Rattle.page_base.specs.Adopting.{Adopts, StoresJust, IsGivenAt, RaisesEachTo}
use Rattle.page_base.specs.Merging.{IsTaken, IsFloored, Merges, RaisesEach}

-- ---- one raise

-- a raise lowers no version
pub raises_up : (old new : Store) (page version : ℕ) (image : List ℕ) → Raises old page version image new → (g : ℕ) → version_of old g ≤ version_of new g
raises_up old new page version image raises g = search rules

-- and its page has the version at least
pub raises_to : (old new : Store) (page version : ℕ) (image : List ℕ) → Raises old page version image new → version ≤ version_of new page
raises_to old new page version image raises = search rules

pub raised_floor : (old new : Store) (page version : ℕ) (image : List ℕ) → Raises old page version image new → new.floor ≡ old.floor
raised_floor old new page version image raises = search rules

-- it stores no image but its own
pub raised_list : (old new : Store) (page version : ℕ) (image : List ℕ) → Raises old page version image new → (i : StoredImage)
    → Contains new.images i → Contains old.images i ⊎ (i ≡ stored page version image)
raised_list old new page version image raises i h =
    ⊎_elim
    (λ (low : version ≤ version_of old page). inl (subst (λ (s : Store). Contains s.images i) (raises.lower low) h))
    (λ (high : version_of old page < version).
    ⊎_elim (λ (e : i ≡ stored page version image). inr e) (λ q. inl q.0) (((raises.higher high).stored_as.members i).0 h))
    (let t : (version ≤ version_of old page) ⊎ (version_of old page < version) = grind arith in t)

-- ---- all of them

record RaisedBy (old : Store) (given : List StoredImage) (new : Store) : Type 0 where
  page : (page : ℕ) → SamePage old new page ⊎ ((version_of old page < version_of new page) × IsTaken given new page)
  not_older : (page : ℕ) → version_of old page ≤ version_of new page
  not_below : (i : StoredImage) → Contains given i → i.version ≤ version_of new i.page
  floor : new.floor ≡ old.floor
  listed : (i : StoredImage) → Contains new.images i → Contains old.images i ⊎ Contains given i

taken_later : (x : StoredImage) (xs : List StoredImage) (new : Store) (page : ℕ) → IsTaken xs new page → IsTaken (x ∷ xs) new page
taken_later x xs new page t = (t.0, there x xs t.0 t.1, t.2, t.3, t.4)

page_more : (x : StoredImage) (xs : List StoredImage) (old between new : Store) (page : ℕ) → Raises old x.page x.version x.bytes between
    → RaisedBy between xs new → SamePage old new page ⊎ ((version_of old page < version_of new page) × IsTaken (x ∷ xs) new page)
page_more x xs old between new page first rest = search (rules, taken_later)

raised_by : (given : List StoredImage) (old new : Store) → RaisesEach old given new → RaisedBy old given new
raised_by [] old new same = record {
  page = λ page. inl (ap (λ s. version_of s page) same, ap (λ s. image_of s page) same);
  not_older = λ page. let e : version_of new page ≡ version_of old page = ap (λ s. version_of s page) same in omega arith;
  not_below = λ i h. absurd (none_in i h);
  floor = ap (λ (s : Store). s.floor) same;
  listed = λ i h. inl (subst (λ (s : Store). Contains s.images i) same h);
}
raised_by (x ∷ xs) old new raises =
    let between = raises.0 in
    let first = raises.1 in
    let rest = raised_by xs between new raises.2 in
    record {
      page = λ page. page_more x xs old between new page first rest;
      not_older = λ page.
          let a : version_of old page ≤ version_of between page = raises_up old between x.page x.version x.bytes first page in
          let b : version_of between page ≤ version_of new page = rest.not_older page in
          omega arith;
      not_below = λ i h.
          ⊎_elim
          (λ (e : x ≡ i).
          let a : x.version ≤ version_of between x.page = raises_to old between x.page x.version x.bytes first in
          let b : version_of between x.page ≤ version_of new x.page = rest.not_older x.page in
          subst (λ (y : StoredImage). y.version ≤ version_of new y.page) e (omega arith))
          (λ (q : Contains xs i). rest.not_below i q)
          (which x xs i h);
      floor = rest.floor ∙ raised_floor old between x.page x.version x.bytes first;
      listed = λ i h.
          ⊎_elim
          (λ (q : Contains between.images i). ⊎_elim
          (λ (u : Contains old.images i). inl u)
          (λ (e : i ≡ x). inr (subst (Contains (x ∷ xs)) (sym e) (here x xs)))
          (raised_list old between x.page x.version x.bytes first i q))
          (λ (q : Contains xs i). inr (there x xs i q))
          (rest.listed i h);
    }

-- then zeros replace what is below the default version
merged_page : (floor : ℕ) (given : List StoredImage) (old between new : Store) (page : ℕ) → RaisedBy old given between → Adopts between floor [] new
    → SamePage old new page ⊎ ((version_of old page < version_of new page) × (IsTaken given new page ⊎ IsFloored floor given new page))
merged_page floor given old between new page raised adopts = search rules

pub merges_of : (floor : ℕ) (given : List StoredImage) (old between new : Store) → RaisesEach old given between → Adopts between floor [] new
    → StoresJust between floor [] new → Merges old floor given new
merges_of floor given old between new raises adopts just =
    let raised = raised_by given old between raises in
    record {
      page = λ page. merged_page floor given old between new page raised adopts;
      not_older = λ page.
          let a : version_of old page ≤ version_of between page = raised.not_older page in
          let b : version_of new page ≡ max (version_of between page) floor = adopts.versions page in
          omega arith;
      not_below = λ i h.
          let a : i.version ≤ version_of between i.page = raised.not_below i h in
          let b : version_of new i.page ≡ max (version_of between i.page) floor = adopts.versions i.page in
          omega arith;
      floored = λ page. let b : version_of new page ≡ max (version_of between page) floor = adopts.versions page in omega arith;
      floor_is = adopts.floor ∙ ap (λ n. max n floor) raised.floor;
      listed = λ i h. ⊎_elim (λ (q : Contains between.images i). raised.listed i q) (λ g. absurd (none_in g.0 g.1)) (just i h);
    }

-- ---- images that are raised to one base

raised_just : (base : ℕ) (given : List (ℕ × List ℕ)) (old new : Store) → RaisesEachTo base old given new → StoresJust old base given new
raised_just base [] old new same i h = inl (subst (λ (s : Store). Contains s.images i) same h)
raised_just base (g ∷ gs) old new raises i h =
    ⊎_elim
    (λ (q : Contains raises.0.images i). ⊎_elim
    (λ (u : Contains old.images i). inl u)
    (λ (e : i ≡ stored g.0 base g.1). inr (g, here g gs, e))
    (raised_list old raises.0 g.0 base g.1 raises.1 i q))
    (λ (q : IsGivenAt base gs i). inr (q.0, there g gs q.0 q.1, q.2))
    (raised_just base gs raises.0 new raises.2 i h)

pub adopts_just : (base : ℕ) (given : List (ℕ × List ℕ)) (old between new : Store) → RaisesEachTo base old given between
    → StoresJust between base [] new → StoresJust old base given new
adopts_just base given old between new raises just i h =
    ⊎_elim (λ (q : Contains between.images i). raised_just base given old between raises i q) (λ g. absurd (none_in g.0 g.1)) (just i h)
