-- What a state sheds, it does not need.
use Rattle.std.proofs.Common.{◌≡◌, ℕ, ◌<◌, ◌≤◌, ◌⊎◌, inl, inr, ⊎_elim, List, ◌++◌, sym, subst, arith, rules}
use Rattle.std.specs.List.{Contains}
use Rattle.redo_core.specs.Data.{RecordData}
use Rattle.redo_core.specs.Sets.{IsPart, cuts}
use Rattle.redo_core.specs.Order.{BeforeByNumber}
use Rattle.redo_core.specs.Standing.{IsAlive, IsDead}
use Rattle.redo_core.specs.Linked.{IsLinked, IsLinkedRecord}
use Rattle.redo_core.specs.Position.{Position, IsPosition}
use Rattle.redo_core.specs.PageAt.{IsPageAt}
use Rattle.redo_core.specs.Sound.{IsSound}
use Rattle.redo_core.specs.declared.facts.Fact.{Fact}
use Rattle.redo_core.proofs.FactParts.{part_records}
use Rattle.log_theorems.proofs.Log.{IsLog, log_of_sound}
use Rattle.log_theorems.proofs.Views.{finality_law, anchor_is}
use Rattle.log_theorems.proofs.Fronts.{front_exists}
use Rattle.log_theorems.proofs.Meanings.{lists_as}
use Rattle.log_theorems.proofs.Union.{left, right, both}
use Rattle.segment_theorems.specs.State.{State, SameBase, version_of, image_of}
use Rattle.segment_theorems.specs.Means.{MeansAt, Means, Matters, IsInImage}
use Rattle.segment_theorems.specs.Shows.{Shows}
use Rattle.segment_theorems.specs.HasMeaning.{HasAnchor}
use Rattle.segment_theorems.specs.Promises.{KeepsMeaning, IsFinalPage, KeepsMeaningWith}
use Rattle.segment_theorems.specs.Shedding.{CommitsImage, RemovesFolded, RemovesDead}
use Rattle.segment_theorems.proofs.Reading.{alive_in_facts, pages_law}
use Rattle.segment_theorems.proofs.Joining.{page_final}
use Rattle.segment_theorems.proofs.Same.{anchor_as}

-- a page up to the anchor of a part is that of a larger part
page_before : {roster : ℕ} (log F U : List Fact) (p u : Position) → IsLog roster log → IsPart F U → IsPart U log → IsPosition roster F p → IsPosition roster U u
    → (page v : ℕ) (i : List ℕ) → v ≤ p.anchor → IsPageAt U u.epoch page v i → IsPageAt F p.epoch page v i
page_before log F U p u l part inside at above page v i le shown =
    let fin = (finality_law log F U p u l part inside at above).1 in
    record {
      written = shown.written;
      lists = lists_as BeforeByNumber (λ r. IsLinkedRecord U u.epoch r × (r.page ≡ page) × (r.number ≤ v))
          (λ r. IsLinkedRecord F p.epoch r × (r.page ≡ page) × (r.number ≤ v))
          (λ r. (
            λ h. let t : r.number ≤ v = h.2 in ((fin r (omega arith)).1 h.0, h.1, h.2),
            λ h. let t : r.number ≤ v = h.2 in
                ((fin r (omega arith)).0 h.0, h.1, h.2),
          ))
          shown.written shown.lists;
      result = shown.result;
    }

final_page : {roster : ℕ} (log F : List Fact) (p : Position) → IsLog roster log → IsPart F log → IsPosition roster F p → (page version : ℕ) (image : List ℕ)
    → version ≤ p.anchor → IsFinalPage roster log page version image → IsPageAt F p.epoch page version image
final_page {roster} log F p l inside at page version image le final =
    let G = final.facts in
    let all : IsPart (final.facts ++ F) log = both final.facts F log final.part inside in
    let u = front_exists roster (final.facts ++ F) (λ r h. (l.backs r (part_records (final.facts ++ F) log all r h)).1) in
    page_before log F (final.facts ++ F) p u.0 l (right final.facts F) all at u.1 page version image le
    (page_final log final.facts (final.facts ++ F) final.p u.0 l (left final.facts F) all final.position u.1 page version image final.settled final.shown)

pub final_pages : {roster : ℕ} (log F : List Fact) (p : Position) (s : State) (page version : ℕ) (image : List ℕ) → IsSound roster log
    → MeansAt roster log F p s → version ≤ p.anchor → IsFinalPage roster log page version image → IsPageAt F p.epoch page version image
final_pages log F p s page version image sound m le final = final_page log F p (log_of_sound _ log sound) m.part m.position page version image le final

pub anchor_page_is_final : {roster : ℕ} (log F : List Fact) (s : State) (anchor page : ℕ) (image : List ℕ) → IsSound roster log → Means roster log F s
    → HasAnchor s anchor → Shows s page anchor image → IsFinalPage roster log page anchor image
anchor_page_is_final log F s anchor page image sound a top shows =
    let l = log_of_sound _ log sound in
    let t = anchor_as log F a.0 s l a.1 anchor top in
    let le : a.0.anchor ≤ a.0.complete = a.1.position.complete.1 a.0.anchor (anchor_is F a.0 a.1.position).0 in
    let here' : Shows s page a.0.anchor image = subst (λ n. Shows s page n image) t shows in
    record {
      facts = F;
      part = a.1.part;
      p = a.0;
      position = a.1.position;
      settled = omega (arith, t);
      shown = subst (λ n. IsPageAt F a.0.epoch page n image) (sym t) ((pages_law log F a.0 s page a.0.anchor image l a.1 (omega arith) le).0 here');
    }

-- other stored records, base point and images
pub with_others : {roster : ℕ} (log F : List Fact) (p : Position) (old new : State) → MeansAt roster log F p old → new.book ≡ old.book
    → IsLinked F p.epoch new.base × (new.base ≤ p.anchor)
    → ((r : RecordData) → Contains new.held r → Contains old.held r)
    → ((r : RecordData) → Matters (cuts F) p.epoch r → Contains old.held r ⊎ IsInImage old r → Contains new.held r ⊎ IsInImage new r)
    → ((page : ℕ) → (version_of new.store page ≤ p.anchor) × IsPageAt F p.epoch page (version_of new.store page) (image_of new.store page))
    → MeansAt roster log F p new
with_others log F p old new m book based fewer rest pages = search rules

-- a commit

committed : (F : List Fact) (p : Position) (old new : State) (page version : ℕ) (image : List ℕ) → CommitsImage old page version image new → version ≤ p.anchor
    → IsPageAt F p.epoch page version image
    → ((g : ℕ) → (version_of old.store g ≤ p.anchor) × IsPageAt F p.epoch g (version_of old.store g) (image_of old.store g))
    → (g : ℕ) → (version_of new.store g ≤ p.anchor) × IsPageAt F p.epoch g (version_of new.store g) (image_of new.store g)
committed F p old new page version image commits le shown before g = search rules

newer_versions : (old new : State) (page version : ℕ) (image : List ℕ) → CommitsImage old page version image new → (g : ℕ)
    → version_of old.store g ≤ version_of new.store g
newer_versions old new page version image commits g = search rules

pub commit_keeps : (old new : State) (anchor page version : ℕ) (image : List ℕ) → HasAnchor old anchor → version ≤ anchor
    → CommitsImage old page version image new → KeepsMeaningWith old page version image new
commit_keeps old new anchor page version image top le commits roster log F sound final a =
    let l = log_of_sound _ log sound in
    let m = a.1 in
    let t : anchor ≡ a.0.anchor = anchor_as log F a.0 old l a.1 anchor top in
    let low : version ≤ a.0.anchor = omega arith in (
      a.0,
      with_others log F a.0 old new a.1 commits.book
          (subst (λ b. IsLinked F a.0.epoch b × (b ≤ a.0.anchor)) (sym commits.base) m.base)
          (λ r x. subst (λ rs. Contains rs r) commits.held x)
          (λ r mat x. ⊎_elim
          (λ (u : Contains old.held r). inl (subst (λ rs. Contains rs r) (sym commits.held) u))
          (λ (u : IsInImage old r).
          let v : r.number ≤ version_of old.store r.page = u.2 in
          let w = newer_versions old new page version image commits r.page in
          let y : r.number ≤ old.base = u.1 in
          let z : new.base ≡ old.base = commits.base in
          inr (subst (λ b. r.epoch ≤ b.complete) (sym commits.book) u.0, omega arith, omega arith))
          x)
          (committed F a.0 old new page version image commits low (final_page log F a.0 l m.part m.position page version image low final)
          (λ g. (m.versions g, m.images g))),
    )

pub fold_keeps : (old new : State) (anchor page : ℕ) (image : List ℕ) → HasAnchor old anchor → Shows old page anchor image
    → CommitsImage old page anchor image new → KeepsMeaning old new
fold_keeps old new anchor page image top shows commits roster log F sound a = search (rules, commit_keeps, anchor_page_is_final)

-- a discard

same_images : (F : List Fact) (p : Position) (old new : State) → new.store ≡ old.store
    → ((g : ℕ) → (version_of old.store g ≤ p.anchor) × IsPageAt F p.epoch g (version_of old.store g) (image_of old.store g)) → (g : ℕ)
    → (version_of new.store g ≤ p.anchor) × IsPageAt F p.epoch g (version_of new.store g) (image_of new.store g)
same_images F p old new e before g = subst (λ t. (version_of t g ≤ p.anchor) × IsPageAt F p.epoch g (version_of t g) (image_of t g)) (sym e) (before g)

pub discard_keeps : (old new : State) → RemovesFolded old new → KeepsMeaning old new
discard_keeps old new drops roster log F sound a =
    let l = log_of_sound _ log sound in
    let m = a.1 in
    let e : new.base ≡ a.0.anchor = anchor_as log F a.0 old l a.1 new.base drops.base in (
      a.0,
      with_others log F a.0 old new a.1 drops.book
          (subst (IsLinked F a.0.epoch) (sym e) (anchor_is F a.0 m.position).0, omega arith)
          drops.held
          (λ r mat x. ⊎_elim
          (λ (u : Contains old.held r). drops.kept r u)
          (λ (u : IsInImage old r).
          let y : r.number ≤ old.base = u.1 in
          let z : old.base ≤ a.0.anchor = m.base.1 in
          inr (subst (λ b. r.epoch ≤ b.complete) (sym drops.book) u.0, omega arith, subst (λ st. r.number ≤ version_of st r.page) (sym drops.store) u.2))
          x)
          (same_images F a.0 old new drops.store (λ g. (m.versions g, m.images g))),
    )

-- a removal of dead records

in_same_image : (old new : State) (r : RecordData) → new.book ≡ old.book → SameBase old new → IsInImage old r → IsInImage new r
in_same_image old new r book same u = search rules

pub removal_keeps : (old new : State) → RemovesDead old new → KeepsMeaning old new
removal_keeps old new drops roster log F sound a =
    let l = log_of_sound _ log sound in
    let m = a.1 in (
      a.0,
      with_others log F a.0 old new a.1 drops.book
          (subst (λ b. IsLinked F a.0.epoch b × (b ≤ a.0.anchor)) (sym drops.rest.base) m.base)
          drops.held
          (λ r mat x. ⊎_elim
          (λ (u : Contains old.held r). ⊎_elim (λ (v : Contains new.held r). inl v)
          (λ (v : IsDead old.book.cuts old.book.complete r.epoch r.number). absurd (not_dead r mat v))
          (drops.kept r u))
          (λ (u : IsInImage old r). inr (in_same_image old new r drops.book drops.rest u))
          x)
          (same_images F a.0 old new drops.rest.store (λ g. (m.versions g, m.images g))),
    )
  where
    not_dead : (r : RecordData) → Matters (cuts F) a.0.epoch r → IsDead old.book.cuts old.book.complete r.epoch r.number → ⊥
    not_dead r mat dead =
        ⊎_elim
        (λ (w : a.0.epoch < r.epoch). omega (arith, a.1.epoch, dead.0, w))
        (λ (v : IsAlive (cuts F) a.0.epoch r.epoch r.number). dead.1 ((alive_in_facts log F a.0 old a.1 r.epoch r.number).1 v))
        mat
