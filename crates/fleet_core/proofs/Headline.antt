-- The headline, from the laws of states.
use Rattle.std.proofs.Common.{ℕ, List, [], ◌∷◌, rules}
use Rattle.std.specs.List.{AllZip}
use Rattle.redo_core.specs.Sound.{IsSound}
use Rattle.redo_core.specs.declared.facts.Fact.{Fact}
use Rattle.log_theorems.specs.OrderOfMeanings.{LeastUpperBound, OrderByParts}
use Rattle.segment_theorems.specs.State.{State}
use Rattle.segment_theorems.specs.Means.{Means}
use Rattle.segment_theorems.specs.AnswersAs.{AnswersAs, StatesAnswer}
use Rattle.segment_theorems.proofs.Bare.{empty_means}
use Rattle.fleet_core.specs.Machine.{empty_machine}
use Rattle.fleet_core.specs.Runs.{MeansMachine}
use Rattle.fleet_core.specs.FleetState.{empty_fleet}
use Rattle.fleet_core.specs.Headline.{Headline, NodesCoverByParts}
use Rattle.fleet_core.proofs.Nodes.{none_mean}

each_answers : StatesAnswer → (roster : ℕ) (log : List Fact) → IsSound roster log
    → (nodes : List (List Fact)) (segments : List State) → AllZip (λ facts s. Means roster log facts s) nodes segments
    → AllZip (AnswersAs roster log) nodes segments
each_answers answer roster log sound [] [] all = tt
each_answers answer roster log sound [] (s ∷ ss) all = absurd all
each_answers answer roster log sound (facts ∷ nodes) [] all = absurd all
each_answers answer roster log sound (facts ∷ nodes) (s ∷ ss) all = (
  answer roster log facts s sound all.0,
  each_answers answer roster log sound nodes ss all.1,
)

begins : (roster : ℕ) (log : List Fact) (nodes : ℕ) → MeansMachine roster log (empty_machine nodes) (empty_fleet roster nodes)
begins roster log nodes = search (rules, none_mean, empty_means)

pub headline : StatesAnswer → LeastUpperBound → Headline
headline answer least = record {
  answers = λ roster log nodes steps replies new sound takes follows.
      let run = follows roster log (empty_machine nodes) sound takes (begins roster log nodes) in
      (run.0, each_answers answer roster log sound _ _ run.1.nodes);
  merging = least;
}

pub covers_by_parts : OrderByParts → NodesCoverByParts
covers_by_parts order roster log facts others y x reply sound part other means_y means_x r =
    let covers = r.tells y x means_y means_x in
    let parts = order roster log others facts x y sound other part means_x means_y in
    (r.answer, r.is, (λ yes. parts.0 (covers.0 yes), λ le. covers.1 (parts.1 le)))
