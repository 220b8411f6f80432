-- A key of a summary that a segment covers is one that the facts that it means cover.
use Rattle.std.proofs.Common.{◌≡◌, ℕ, inl, ⊎_elim, List, [], ◌∷◌, sym, subst, arith, Some, None}
use Rattle.std.specs.List.{Contains}
use Rattle.redo_core.specs.Order.{IsFirst}
use Rattle.redo_core.specs.Keys.{KeyBefore}
use Rattle.redo_core.specs.declared.keys.Key.{Key}
use Rattle.redo_core.specs.Position.{Position}
use Rattle.redo_core.specs.Sound.{IsSound}
use Rattle.redo_core.specs.declared.facts.Fact.{Fact}
use Rattle.redo_core.proofs.Members.{here, which, none_in, all_members}
use Rattle.messages.specs.Summaries.{SummaryData}
use Rattle.segment_theorems.specs.State.{State}
use Rattle.segment_theorems.specs.Means.{MeansAt}
use Rattle.segment_theorems.specs.HasMeaning.{HasAnchor}
use Rattle.segment_theorems.specs.Gossip.{IsAccounted}
use Rattle.gossip_core.specs.Answering.{IsCovered, IsUncoveredKey}
use Rattle.gossip_core.specs.declared.answering.Shown.TheVariants.{Key as OfKey}
use Rattle.gossip_core.proofs.AnsweringFacts.{answers_for, tells_answer}

module _ (roster : ℕ) (log F : List Fact) (f : Position) (s : State) (sound : IsSound roster log) (means : MeansAt roster log F f s) (anchor : ℕ)
    (has : HasAnchor s anchor) where
  -- a summary of one key
  one : SummaryData → Key → SummaryData
  one x key = record { book = x.book; anchor = 0; keys = key ∷ [] }

  -- a key that the segment covers is covered by its facts
  pub accounted : SummaryData → (key : Key) → IsCovered s anchor key → IsAccounted F f key
  unfolding one
  accounted x key covers =
      let all = all_members (IsCovered s anchor) (key ∷ [])
      (λ y h. ⊎_elim (λ (e : key ≡ y). subst (IsCovered s anchor) e covers) (λ (none : Contains [] y). absurd (none_in y none)) (which key [] y h)) in
      (answers_for roster log F f s sound means (one x key) anchor has (omega arith, all)).keys key (here key [])

  -- and only such a key
  pub not_accounted : SummaryData → (key : Key) → (IsCovered s anchor key → ⊥) → IsAccounted F f key → ⊥
  unfolding one
  not_accounted x key not is =
      let first : IsFirst KeyBefore (IsUncoveredKey s anchor (key ∷ [])) key = record {
        has = (here key [], not);
        least = λ y h. ⊎_elim (λ (e : key ≡ y). inl (sym e)) (λ (none : Contains [] y). absurd (none_in y none)) (which key [] y h.0);
      } in
      let tells = tells_answer roster log F f s sound means (one x key) anchor has (Some (OfKey key)) (omega arith, first) in
      let never : Some (OfKey key) ≡ None = tells.1 (record {
        anchor = omega arith;
        keys = λ k h. ⊎_elim (λ (e : key ≡ k). subst (IsAccounted F f) e is) (λ none. absurd (none_in k none)) (which key [] k h);
      }) in
      absurd (cc)
