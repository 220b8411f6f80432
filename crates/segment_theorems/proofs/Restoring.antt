-- A state rebuilt from what another one means, means the same.
use Rattle.std.proofs.Common.{◌≡◌, ℕ, ◌<◌, ◌≤◌, ◌⊎◌, inl, inr, ⊎_elim, List, sym, subst, arith, rules}
use Rattle.std.specs.List.{Contains}
use Rattle.redo_core.specs.Data.{RecordData}
use Rattle.redo_core.specs.Sets.{cuts}
use Rattle.redo_core.specs.Standing.{IsAlive}
use Rattle.redo_core.specs.Linked.{IsLinked}
use Rattle.redo_core.specs.Position.{Position}
use Rattle.redo_core.specs.PageAt.{IsPageAt}
use Rattle.redo_core.specs.declared.facts.Fact.{Fact}
use Rattle.log_theorems.proofs.Deciding.{settled_le}
use Rattle.log_theorems.proofs.Log.{IsLog, log_of_sound}
use Rattle.log_theorems.proofs.Views.{anchor_is}
use Rattle.segment_theorems.specs.State.{State, version_of, image_of}
use Rattle.segment_theorems.specs.Means.{MeansAt, Matters, IsInImage}
use Rattle.segment_theorems.specs.Shows.{Shows}
use Rattle.segment_theorems.specs.Promises.{KeepsMeaning}
use Rattle.segment_theorems.specs.Restoring.{Restores}
use Rattle.segment_theorems.proofs.Reading.{alive_in_facts, pages_law}
use Rattle.segment_theorems.proofs.Same.{anchor_as, waiting_as}
use Rattle.segment_theorems.proofs.Shed.{with_others}

module _ {roster : ℕ} (log F : List Fact) (p : Position) (old new : State) (l : IsLog roster log) (m : MeansAt roster log F p old) (made : Restores old new) where
  based : new.base ≡ p.anchor
  based = anchor_as log F p old l m new.base made.base

  -- each image is the page of the facts at their anchor
  image_there : (page : ℕ) → (version_of new.store page ≤ p.anchor) × IsPageAt F p.epoch page (version_of new.store page) (image_of new.store page)
  image_there page =
      let at : version_of new.store page ≡ new.base = made.versions page in
      let same = based in
      let le : p.anchor ≤ p.complete = m.position.complete.1 p.anchor (anchor_is F p m.position).0 in
      let shown : Shows old page p.anchor (image_of new.store page) = subst (λ n. Shows old page n (image_of new.store page)) same (made.images page) in
      let here : IsPageAt F p.epoch page p.anchor (image_of new.store page) =
      (pages_law log F p old page p.anchor (image_of new.store page) l m (omega arith) le).0 shown in (
        omega (arith, at, same),
        subst (λ v. IsPageAt F p.epoch page v (image_of new.store page)) (let t : p.anchor ≡ version_of new.store page = cc in t) here,
      )

  -- a record at or below the anchor that does not wait is in its page's image
  in_image : (r : RecordData) → r.epoch ≤ old.book.complete → r.number ≤ p.anchor → IsInImage new r
  in_image r known low = search (rules, based)

  -- each record that matters is kept, or in its page's image
  still_there : (r : RecordData) → Matters (cuts F) p.epoch r → Contains old.held r ⊎ IsInImage old r → Contains new.held r ⊎ IsInImage new r
  still_there r mat there =
      let base : old.base ≤ p.anchor = m.base.1 in
      let epochs : old.book.complete ≡ p.epoch = m.epoch in
      let same = based in
      ⊎_elim
      (λ (held : Contains old.held r). ⊎_elim
      (λ (w : p.epoch < r.epoch). inl ((made.held r).1 (held, inl ((waiting_as m r.epoch).1 w))))
      (λ (a : IsAlive (cuts F) p.epoch r.epoch r.number).
      let alive = (alive_in_facts log F p old m r.epoch r.number).1 a in
      ⊎_elim
      (λ (low : r.number ≤ p.anchor). inr (in_image r alive.known low))
      (λ (high : r.number ≤ p.anchor → ⊥). inl ((made.held r).1 (held, inr (alive, omega (arith, same, high)))))
      (settled_le r.number p.anchor))
      mat)
      (λ (image : IsInImage old r). let low : r.number ≤ old.base = image.1 in inr (in_image r image.0 (omega arith)))
      there

  pub restored_means : MeansAt roster log F p new
  restored_means =
      with_others log F p old new m made.book
      (subst (IsLinked F p.epoch) (sym based) (anchor_is F p m.position).0, (let same = based in omega (arith, same)))
      (λ r h. ((made.held r).0 h).0)
      still_there
      image_there

pub restore_keeps : (old new : State) → Restores old new → KeepsMeaning old new
restore_keeps old new made roster log F sound a = (a.0, restored_means log F a.0 old new (log_of_sound roster log sound) a.1 made)
