use Rattle.std.proofs.Common.{List, [], ◌∷◌, ◌++◌, ap, ◌∙◌, rules}
use Rattle.std.proofs.lemmas.List.{replicate-append-replicate}
use Rattle.segment_theorems.specs.State.{State, empty_state}
use Rattle.segment_theorems.proofs.Bare.{empty_means}
use Rattle.fleet_core.proofs.Nodes.{none_mean}
use Rattle.fleet_core.proofs.fleets.Fleet.new.Goals as goal

pub loop-preserved : goal.loop-preserved
loop-preserved c =
    let segments : List State = c.loop.segments.items in let empty = empty_state c.args.roster in
    c.in_ok-push.ensures.items ∙ ap (λ (s : State). segments ++ s ∷ []) c.in_ok-new.ensures.empty ∙ ap (λ (l : List State). l ++ empty ∷ []) c.loop.invariant
    ∙ replicate-append-replicate c.loop.counter 1 empty

pub returns-clause-means : goal.returns-clause-means
returns-clause-means c = search (rules, none_mean, empty_means)
