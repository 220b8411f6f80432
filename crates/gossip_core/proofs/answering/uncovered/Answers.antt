use Rattle.std.proofs.Common.{ℕ, List, subst}
use Rattle.redo_core.specs.Position.{Position}
use Rattle.redo_core.specs.Sound.{IsSound}
use Rattle.redo_core.specs.declared.facts.Fact.{Fact}
use Rattle.segment_theorems.specs.Means.{MeansAt}
use Rattle.segment_theorems.specs.HasMeaning.{HasAnchor}
use Rattle.gossip_core.specs.Answering.{IsUncovered}
use Rattle.gossip_core.proofs.AnsweringFacts.{tells_answer}
use Rattle.segment_core.proofs.OneView.{one_anchor}
use Rattle.gossip_core.proofs.answering.uncovered.Goals as goal

pub returns : goal.returns
returns c = record {
  facts = λ (roster : ℕ) (log F : List Fact) (p : Position) (sound : IsSound roster log) (means : MeansAt roster log F p c.args.segment.now).
      tells_answer roster log F p c.args.segment.now sound means c.args.summary.now c.anchor.result c.anchor.ensures.own c.uncovered_above.result
      c.uncovered_above.ensures;
  own = λ (anchor : ℕ) (h : HasAnchor c.args.segment.now anchor).
      subst (λ n. IsUncovered c.args.segment.now n c.args.summary.now c.uncovered_above.result)
      (one_anchor c.args.segment.now c.anchor.result anchor c.anchor.ensures.own h) c.uncovered_above.ensures;
}
