-- What of a summary a segment does not answer for is what the facts that it means do not answer for.
use Rattle.std.proofs.Common.{◌≡◌, ℕ, List, sym, ◌∙◌, subst, arith, Some, None}
use Rattle.std.specs.List.{Contains}
use Rattle.redo_core.specs.declared.keys.Key.{Key}
use Rattle.redo_core.specs.Position.{Position}
use Rattle.redo_core.specs.Meaning.{Meaning}
use Rattle.redo_core.specs.Sound.{IsSound}
use Rattle.redo_core.specs.declared.facts.Fact.{Fact}
use Rattle.log_theorems.proofs.Log.{log_of_sound}
use Rattle.messages.specs.Summaries.{SummaryData}
use Rattle.segment_theorems.specs.State.{State}
use Rattle.segment_theorems.specs.Means.{MeansAt}
use Rattle.segment_theorems.specs.HasMeaning.{HasAnchor}
use Rattle.segment_theorems.specs.Gossip.{AnswersFor}
use Rattle.segment_theorems.proofs.Own.{anchor_law}
use Rattle.gossip_core.specs.Summarizing.{IsSummaryOf}
use Rattle.gossip_core.specs.Answering.{IsUncovered, listing_of}
use Rattle.gossip_core.specs.declared.answering.Shown.{Shown}
use Rattle.gossip_core.specs.declared.answering.Shown.TheVariants.{Anchor as OfAnchor, Key as OfKey}
use Rattle.gossip_core.proofs.AnsweringFacts.{answers_for}
use Rattle.fleet_core.specs.Replies.{keys_of, summary_of_meaning, LeavesUncovered}
use Rattle.gossip_core.proofs.Uncovering.{accounted, not_accounted}

-- the summary of a meaning, as messages carry it and as the machine speaks of it
same_summary : (m : Meaning) (x : SummaryData) → IsSummaryOf m x → listing_of x ≡ summary_of_meaning m
same_summary m x of = cc

module _ (roster : ℕ) (log F : List Fact) (f : Position) (s : State) (sound : IsSound roster log) (means : MeansAt roster log F f s) (anchor : ℕ)
    (has : HasAnchor s anchor) where
  pub leaves_uncovered : (m : Meaning) (x : SummaryData) (shown : Shown) → IsSummaryOf m x → IsUncovered s anchor x (Some shown)
      → LeavesUncovered F f m shown
  leaves_uncovered m x (OfAnchor a) of is =
      let at : anchor ≡ f.anchor = (anchor_law log F f s anchor (log_of_sound roster log sound) means has).1 in
      let same : x.anchor ≡ m.anchor = of.anchor in
      (is.0 ∙ same, omega (arith, at, same, is.0, is.1))
  leaves_uncovered m x (OfKey key) of is =
      let at : anchor ≡ f.anchor = (anchor_law log F f s anchor (log_of_sound roster log sound) means has).1 in
      let same : x.anchor ≡ m.anchor = of.anchor in
      let keys : x.keys ≡ keys_of m = of.keys in (
        omega (arith, at, same, is.0),
        record {
          has = (subst (λ (ks : List Key). Contains ks key) keys is.1.has.0, not_accounted roster log F f s sound means anchor has x key is.1.has.1);
          least = λ y lacks. is.1.least y (subst (λ (ks : List Key). Contains ks y) (sym keys) lacks.0, λ covers. lacks.1 (accounted roster log F f s sound means anchor has x y covers));
        },
      )

  pub answers_meaning : (m : Meaning) (x : SummaryData) → IsSummaryOf m x → IsUncovered s anchor x None → AnswersFor F f (summary_of_meaning m)
  answers_meaning m x of is = subst (AnswersFor F f) (same_summary m x of) (answers_for roster log F f s sound means x anchor has is)
