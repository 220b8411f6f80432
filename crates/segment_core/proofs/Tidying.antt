-- What a tidy leaves.
use Rattle.std.proofs.Common.{◌≡◌, ℕ, ◌<◌, ◌≤◌, ◌⊎◌, ◌↔◌, inl, inr, ⊎_elim, sym, ◌∙◌, subst, arith, max, rules}
use Rattle.std.specs.List.{Contains}
use Rattle.redo_core.specs.Data.{RecordData}
use Rattle.redo_core.specs.Standing.{IsAlive, IsDead, IsWaiting}
use Rattle.log_theorems.proofs.Log.{log_of_sound}
use Rattle.log_theorems.proofs.Fronts.{settled_alive}
use Rattle.epoch_book.specs.Book.{BookData}
use Rattle.segment_theorems.specs.State.{State, Store, SameBase, version_of}
use Rattle.segment_theorems.specs.HasMeaning.{HasAnchor, IsKeptBy}
use Rattle.segment_theorems.specs.Promises.{KeepsMeaning}
use Rattle.segment_theorems.specs.Shedding.{RemovesDead}
use Rattle.segment_theorems.proofs.Same.{anchor_as, kept_as}
use Rattle.segment_theorems.proofs.Shed.{removal_keeps}
use Rattle.segment_core.specs.Forgetting.{with_store, IsFoldedBelow, DiscardsJust, FoldsImages, FoldsAll, Tidies, HoldsJustKept}

-- just the dead records are gone
pub record RemovesJustDead (old new : State) : Type 0 where
  pub book : new.book ≡ old.book
  pub held : (r : RecordData) → Contains new.held r ↔ (Contains old.held r × (IsDead old.book.cuts old.book.complete r.epoch r.number → ⊥))
  pub rest : SameBase old new

-- a record waits, is alive or is dead
standing : (s : State) (r : RecordData) → IsWaiting s.book.complete r.epoch
    ⊎ (IsAlive s.book.cuts s.book.complete r.epoch r.number ⊎ IsDead s.book.cuts s.book.complete r.epoch r.number)
standing s r =
    ⊎_elim
    (λ (w : s.book.complete < r.epoch). inl w)
    (λ (known : r.epoch ≤ s.book.complete). ⊎_elim (λ (a : IsAlive s.book.cuts s.book.complete r.epoch r.number). inr (inl a))
    (λ (no : IsAlive s.book.cuts s.book.complete r.epoch r.number → ⊥). inr (inr (known, no))) (settled_alive s.book.cuts s.book.complete r.epoch r.number))
    (let t : (s.book.complete < r.epoch) ⊎ (r.epoch ≤ s.book.complete) = grind arith in t)

removal_of : (old new : State) → RemovesJustDead old new → RemovesDead old new
removal_of old new just = record {
  book = just.book;
  held = λ r h. ((just.held r).0 h).0;
  kept = λ r h.
      ⊎_elim
      (λ (w : IsWaiting old.book.complete r.epoch). inl ((just.held r).1 (h, λ dead. omega (arith, w, dead.0))))
      (λ t. ⊎_elim (λ (a : IsAlive old.book.cuts old.book.complete r.epoch r.number). inl ((just.held r).1 (h, λ dead. dead.1 a)))
      (λ (d : IsDead old.book.cuts old.book.complete r.epoch r.number). inr d) t)
      (standing old r);
  rest = just.rest;
}

pub removals_keep : (old new : State) → RemovesJustDead old new → KeepsMeaning old new
removals_keep old new just roster log F sound a = search (rules, removal_keeps, removal_of)

-- with every page folded to the anchor, what is neither folded nor dead is kept
kept_by : (s : State) (anchor : ℕ) (store : Store) (r : RecordData) → (Contains s.held r → anchor ≤ version_of store r.page)
    → (Contains s.held r × (IsFoldedBelow (with_store s store) anchor r → ⊥) × (IsDead s.book.cuts s.book.complete r.epoch r.number → ⊥)) ↔ IsKeptBy s anchor r
kept_by s anchor store r reached = (
  λ h. (
    h.0,
    ⊎_elim
        (λ (w : IsWaiting s.book.complete r.epoch). inl w)
        (λ t. ⊎_elim
        (λ (a : IsAlive s.book.cuts s.book.complete r.epoch r.number). inr (
          a,
          ⊎_elim
              (λ (high : anchor < r.number). high)
              (λ (low : r.number ≤ anchor). let up : anchor ≤ version_of store r.page = reached h.0 in absurd (h.1 (a, low, omega arith)))
              (let u : (anchor < r.number) ⊎ (r.number ≤ anchor) = grind arith in u),
        ))
        (λ (d : IsDead s.book.cuts s.book.complete r.epoch r.number). absurd (h.2 d))
        t)
        (standing s r),
  ),
  λ h. (
    h.0,
    λ folded. ⊎_elim
        (λ (w : s.book.complete < r.epoch). omega (arith, w, folded.0.known))
        (λ (a : IsAlive s.book.cuts s.book.complete r.epoch r.number × (anchor < r.number)). let high : anchor < r.number = a.1 in let low : r.number ≤ anchor =
        folded.1 in omega arith)
        h.1,
    λ dead. ⊎_elim
        (λ (w : s.book.complete < r.epoch). omega (arith, w, dead.0))
        (λ (a : IsAlive s.book.cuts s.book.complete r.epoch r.number × (anchor < r.number)). dead.1 a.0)
        h.1,
  ),
)

-- a folded page has reached the anchor
reached_by : (s : State) (anchor : ℕ) (store : Store) → FoldsImages s anchor store → (r : RecordData) → Contains s.held r → anchor ≤ version_of store r.page
reached_by s anchor store images r h = let e : version_of store r.page ≡ max (version_of s.store r.page) anchor = images.versions r h in omega arith

-- fold all, discard, and remove the dead
pub tidies_of : (s discarded new : State) (store : Store) → FoldsAll s store → DiscardsJust (with_store s store) discarded → RemovesJustDead discarded new
    → Tidies s new
tidies_of s discarded new store folds d m =
    let anchor : HasAnchor s discarded.base = d.base in
    let images = folds.images discarded.base anchor in
    record {
      book = m.book ∙ d.book;
      base = subst (HasAnchor s) (sym m.rest.base) anchor;
      images = subst (FoldsImages s new.base) (sym (m.rest.store ∙ d.store)) (subst (λ b. FoldsImages s b store) (sym m.rest.base) images);
      held = λ r.
          let t = kept_by s discarded.base store r (reached_by s discarded.base store images r) in
          let Dead : BookData → Type 0 = λ b. IsDead b.cuts b.complete r.epoch r.number in
          subst (λ b. Contains new.held r ↔ IsKeptBy s b r) (sym m.rest.base) (
            λ h.
                let u = (m.held r).0 h in
                let v = (d.held r).0 u.0 in
                t.0 (v.0, v.1, subst (λ b. Dead b → ⊥) d.book u.1),
            λ h.
                let v = t.1 h in
                (m.held r).1 ((d.held r).1 (v.0, v.1), subst (λ b. Dead b → ⊥) (sym d.book) v.2),
          );
    }

-- what is stored then is what the facts keep
pub holds_kept : (old new : State) → Tidies old new → HoldsJustKept old new
holds_kept old new t roster log F p r sound m =
    let e = anchor_as log F p old (log_of_sound roster log sound) m new.base t.base in
    let own : Contains new.held r ↔ IsKeptBy old p.anchor r = subst (λ b. Contains new.held r ↔ IsKeptBy old b r) e (t.held r) in
    let kept = kept_as log F p old m r in
    (λ h. kept.0 (own.0 h), λ h. own.1 (kept.1 h))

pub keeps_on : (a b c : State) → KeepsMeaning a b → KeepsMeaning b c → KeepsMeaning a c
keeps_on a b c f g roster log F sound m = g roster log F sound (f roster log F sound m)
