-- Inside one sound log: a state covers a summary exactly where its facts do.
use Rattle.std.proofs.Common.{◌≡◌, ℕ, ◌<◌, ◌≤◌, ◌⊎◌, ◌↔◌, inl, inr, ⊎_elim, List, Option, Some, None, refl, sym, subst, arith, rules}
use Rattle.std.specs.List.{Contains}
use Rattle.redo_core.specs.Data.{RecordData}
use Rattle.redo_core.specs.declared.keys.Key.{Key}
use Rattle.redo_core.specs.Position.{Position}
use Rattle.redo_core.specs.Sets.{cuts}
use Rattle.redo_core.specs.Sound.{IsSound}
use Rattle.redo_core.specs.Standing.{IsAlive, IsDead, IsWaiting}
use Rattle.redo_core.specs.Meaning.{IsKept}
use Rattle.redo_core.specs.declared.facts.Fact.{Fact}
use Rattle.log_theorems.proofs.Alike.{alive_by}
use Rattle.log_theorems.proofs.Deciding.{settled_lt}
use Rattle.log_theorems.proofs.Fronts.{settled_alive, same_sym}
use Rattle.log_theorems.proofs.Log.{log_of_sound}
use Rattle.messages.specs.Summaries.{SummaryData}
use Rattle.segment_theorems.specs.State.{State}
use Rattle.segment_theorems.specs.Means.{MeansAt, Matters, IsInImage}
use Rattle.segment_theorems.specs.HasMeaning.{HasAnchor}
use Rattle.segment_theorems.specs.Gossip.{IsAccounted, AnswersFor}
use Rattle.segment_theorems.proofs.Own.{anchor_law}
use Rattle.segment_core.proofs.Scanning.{of_member}
use Rattle.gossip_core.specs.Answering.{IsCovered, IsUncovered, listing_of}
use Rattle.gossip_core.specs.declared.answering.Shown.{Shown}
use Rattle.gossip_core.specs.declared.answering.Shown.TheVariants.{Anchor as OfAnchor, Key as OfKey}
use Rattle.hot_log.specs.Held.{HoldsKey}

module _ (roster : ℕ) (log F : List Fact) (f : Position) (s : State) (sound : IsSound roster log) (m : MeansAt roster log F f s) where
  -- the key waits, or is alive above the anchor
  IsWanted : Key → Type 0
  IsWanted key = IsWaiting f.epoch key.epoch ⊎ (IsAlive (cuts F) f.epoch key.epoch key.number × (f.anchor < key.number))

  kept : (key : Key) (r : RecordData) → Contains s.held r → r.epoch ≡ key.epoch → r.number ≡ key.number → IsWanted key → IsAccounted F f key
  unfolding IsWanted
  kept key r has e n wanted = search rules

  of_held : (key : Key) → HoldsKey s.held key → IsAccounted F f key
  unfolding IsWanted
  of_held key held =
      ⊎_elim
      (λ (w : f.epoch < key.epoch). kept key held.0 held.1 held.2.0 held.2.1 (inl w))
      (λ (known : f.epoch < key.epoch → ⊥). ⊎_elim
      (λ (alive : IsAlive (cuts F) f.epoch key.epoch key.number). ⊎_elim
      (λ (up : f.anchor < key.number). kept key held.0 held.1 held.2.0 held.2.1 (inr (alive, up)))
      (λ (down : f.anchor < key.number → ⊥). inr (inr (omega (arith, known), omega (arith, down))))
      (settled_lt f.anchor key.number))
      (λ (not : IsAlive (cuts F) f.epoch key.epoch key.number → ⊥). inr (inl (omega (arith, known), not)))
      (settled_alive (cuts F) f.epoch key.epoch key.number))
      (settled_lt f.epoch key.epoch)

  dead_there : (key : Key) → IsDead s.book.cuts s.book.complete key.epoch key.number → IsDead (cuts F) f.epoch key.epoch key.number
  dead_there key dead =
      let e = m.epoch in (
        omega (arith, e, dead.0),
        λ (alive : IsAlive (cuts F) f.epoch key.epoch key.number).
            dead.1 (subst (λ k. IsAlive s.book.cuts k key.epoch key.number) (sym e)
            (alive_by (cuts F) s.book.cuts (same_sym s.book.cuts (cuts F) m.book.same_cuts) f.epoch key.epoch key.number alive)),
      )

  dead_here : (key : Key) → IsDead (cuts F) f.epoch key.epoch key.number → IsDead s.book.cuts s.book.complete key.epoch key.number
  dead_here key dead =
      let e = m.epoch in (
        omega (arith, e, dead.0),
        λ (alive : IsAlive s.book.cuts s.book.complete key.epoch key.number).
            dead.1 (alive_by s.book.cuts (cuts F) m.book.same_cuts f.epoch key.epoch key.number
            (subst (λ k. IsAlive s.book.cuts k key.epoch key.number) e alive)),
      )

  -- a key that the state accounts for is one that its facts do
  accounted : (anchor : ℕ) → anchor ≡ f.anchor → (key : Key) → IsCovered s anchor key → IsAccounted F f key
  accounted anchor at key has =
      let e = m.epoch in
      ⊎_elim
      (λ (held : HoldsKey s.held key). of_held key held)
      (λ gone. inr (⊎_elim
      (λ (dead : IsDead s.book.cuts s.book.complete key.epoch key.number). inl (dead_there key dead))
      (λ (low : (key.epoch ≤ s.book.complete) × (key.number ≤ anchor)). inr (omega (arith, e, low.0), omega (arith, at, low.1)))
      gone))
      has

  -- and the other way
  covered : (anchor : ℕ) → anchor ≡ f.anchor → (key : Key) → IsAccounted F f key → IsCovered s anchor key
  covered anchor at key has =
      let e = m.epoch in
      ⊎_elim
      (λ (k : (r : RecordData) × IsKept F f r × (r.epoch ≡ key.epoch) × (r.number ≡ key.number)).
      let matters : Matters (cuts F) f.epoch k.0 = ⊎_elim
      (λ (w : IsWaiting f.epoch k.0.epoch). inl w)
      (λ (x : IsAlive (cuts F) f.epoch k.0.epoch k.0.number × (f.anchor < k.0.number)). inr x.0) k.1.1 in
      ⊎_elim
      (λ (held : Contains s.held k.0). inl (k.0, held, (k.2, k.3)))
      (λ (image : IsInImage s k.0).
      let base : s.base ≤ f.anchor = m.base.1 in
      inr (inr (omega (arith, image.0, k.2), omega (arith, image.1, k.3, base, at))))
      (m.kept k.0 k.1.0 matters))
      (λ gone. inr (⊎_elim
      (λ (dead : IsDead (cuts F) f.epoch key.epoch key.number). inl (dead_here key dead))
      (λ (low : (key.epoch ≤ f.epoch) × (key.number ≤ f.anchor)). inr (omega (arith, e, low.0), omega (arith, at, low.1)))
      gone))
      has

  pub answers_for : (summary : SummaryData) (anchor : ℕ) → HasAnchor s anchor → IsUncovered s anchor summary None → AnswersFor F f (listing_of summary)
  answers_for summary anchor above none =
      let at : anchor ≡ f.anchor = (anchor_law log F f s anchor (log_of_sound roster log sound) m above).1 in
      let low : summary.anchor ≤ anchor = none.0 in
      record {
        anchor = omega (arith, low, at);
        keys = λ key h. accounted anchor at key (of_member (IsCovered s anchor) summary.keys none.1 key h);
      }

  -- nothing is uncovered exactly where the facts answer
  pub tells_answer : (summary : SummaryData) (anchor : ℕ) → HasAnchor s anchor → (found : Option Shown) → IsUncovered s anchor summary found
      → (found ≡ None) ↔ AnswersFor F f (listing_of summary)
  tells_answer summary anchor above None none = (λ e. answers_for summary anchor above none, λ a. refl)
  tells_answer summary anchor above (Some (OfAnchor shown)) high = (
    λ (e : Some (OfAnchor shown) ≡ None). absurd (cc),
    λ a. absurd (let at : anchor ≡ f.anchor = (anchor_law log F f s anchor (log_of_sound roster log sound) m above).1 in
        omega (arith, at, high.0, high.1, a.anchor)),
  )
  tells_answer summary anchor above (Some (OfKey key)) first = (
    λ (e : Some (OfKey key) ≡ None). absurd (cc),
    λ a. absurd (let at : anchor ≡ f.anchor = (anchor_law log F f s anchor (log_of_sound roster log sound) m above).1 in
        first.1.has.1 (covered anchor at key (a.keys key first.1.has.0))),
  )
