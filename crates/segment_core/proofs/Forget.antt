-- What a discard drops.
use Rattle.std.proofs.Common.{◌≡◌, ℕ, ◌≤◌, ◌↔◌, inl, inr, ⊎_elim, sym, subst, rules}
use Rattle.redo_core.specs.Data.{RecordData}
use Rattle.redo_core.specs.Standing.{IsAlive}
use Rattle.log_theorems.proofs.Deciding.{Settled, settled_le, settled_and, settled_by}
use Rattle.log_theorems.proofs.Fronts.{settled_alive}
use Rattle.epoch_book.specs.Book.{BookData}
use Rattle.hot_log.specs.Removing.{IsFolded}
use Rattle.segment_theorems.specs.State.{State, Store, version_of}
use Rattle.segment_theorems.specs.Promises.{KeepsMeaning}
use Rattle.segment_theorems.specs.Shedding.{RemovesFolded}
use Rattle.segment_theorems.proofs.Shed.{discard_keeps}
use Rattle.segment_core.specs.Forgetting.{IsFoldedBelow, DiscardsJust}

-- a record of the page that its image has, at or below a point
pub folded_of : (b : BookData) (store : Store) (point page version : ℕ) → version ≡ version_of store page → (r : RecordData)
    → IsFolded b page version point r ↔ ((IsAlive b.cuts b.complete r.epoch r.number × (r.number ≤ point) × (r.number ≤ version_of store r.page))
    × (r.page ≡ page))
folded_of b store point page version same r = search rules

settled_folded : (s : State) (base : ℕ) (r : RecordData) → Settled (IsFoldedBelow s base r)
settled_folded s base r =
    settled_by (IsAlive s.book.cuts s.book.complete r.epoch r.number × ((r.number ≤ base) × (r.number ≤ version_of s.store r.page))) (IsFoldedBelow s base r)
    (λ h. (h.0, h.1.0, h.1.1)) (λ h. (h.0, (h.1, h.2)))
    (settled_and (IsAlive s.book.cuts s.book.complete r.epoch r.number) ((r.number ≤ base) × (r.number ≤ version_of s.store r.page))
    (settled_alive s.book.cuts s.book.complete r.epoch r.number)
    (λ alive. settled_and (r.number ≤ base) (r.number ≤ version_of s.store r.page) (settled_le r.number base)
    (λ low. settled_le r.number (version_of s.store r.page))))

-- what is gone is folded, so the meaning stays
discards_of : (old new : State) → DiscardsJust old new → RemovesFolded old new
discards_of old new just = record {
  book = just.book;
  base = just.base;
  held = λ r h. ((just.held r).0 h).0;
  kept = λ r h.
      ⊎_elim
      (λ (gone : IsFoldedBelow old new.base r). inr (
        subst (λ (b : BookData). r.epoch ≤ b.complete) (sym just.book) gone.0.known,
        gone.1,
        subst (λ (t : Store). r.number ≤ version_of t r.page)
            (sym just.store) gone.2,
      ))
      (λ (stays : IsFoldedBelow old new.base r → ⊥). inl ((just.held r).1 (h, stays)))
      (settled_folded old new.base r);
  store = just.store;
}

pub discards_keep : (old new : State) → DiscardsJust old new → KeepsMeaning old new
discards_keep old new just roster log F sound a = search (rules, discard_keeps, discards_of)
