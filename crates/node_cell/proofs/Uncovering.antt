-- What of a summary a segment does not answer for is what the facts that it means do not answer for.
use Rattle.std.proofs.Common.{◌≡◌, ℕ, List, arith, Some}
use Rattle.redo_core.specs.Position.{Position}
use Rattle.redo_core.specs.Sound.{IsSound}
use Rattle.redo_core.specs.declared.facts.Fact.{Fact}
use Rattle.log_theorems.proofs.Log.{log_of_sound}
use Rattle.messages.specs.Summaries.{SummaryData}
use Rattle.segment_theorems.specs.State.{State}
use Rattle.segment_theorems.specs.Means.{MeansAt}
use Rattle.segment_theorems.specs.HasMeaning.{HasAnchor}
use Rattle.segment_theorems.proofs.Own.{anchor_law}
use Rattle.gossip_core.specs.Answering.{IsUncovered}
use Rattle.gossip_core.specs.declared.answering.Shown.{Shown}
use Rattle.gossip_core.specs.declared.answering.Shown.TheVariants.{Anchor as OfAnchor, Key as OfKey}
use Rattle.node_cell.specs.Gossiping.{LeavesUncovered}
use Rattle.gossip_core.proofs.Uncovering.{accounted, not_accounted}

module _ (roster : ℕ) (log F : List Fact) (f : Position) (s : State) (sound : IsSound roster log) (means : MeansAt roster log F f s) (anchor : ℕ)
    (has : HasAnchor s anchor) where
  pub leaves_uncovered : (x : SummaryData) (shown : Shown) → IsUncovered s anchor x (Some shown) → LeavesUncovered F f x shown
  leaves_uncovered x (OfAnchor a) is =
      let at : anchor ≡ f.anchor = (anchor_law log F f s anchor (log_of_sound roster log sound) means has).1 in
      (is.0, omega (arith, at, is.1))
  leaves_uncovered x (OfKey key) is =
      let at : anchor ≡ f.anchor = (anchor_law log F f s anchor (log_of_sound roster log sound) means has).1 in (
        omega (arith, at, is.0),
        record {
          has = (is.1.has.0, not_accounted roster log F f s sound means anchor has x key is.1.has.1);
          least = λ y lacks. is.1.least y (lacks.0, λ covers. lacks.1 (accounted roster log F f s sound means anchor has x y covers));
        },
      )
