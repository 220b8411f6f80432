use Rattle.std.proofs.Common.{◌≡◌, List, [], sym, subst, rules}
use Rattle.redo_core.specs.declared.facts.Fact.{Fact as AnyFact}
use Rattle.segment_theorems.specs.State.{State, state_of, empty_state}
use Rattle.segment_theorems.specs.Means.{Means}
use Rattle.segment_theorems.proofs.Bare.{empty_means}
use Rattle.segment_core.proofs.DuePages.{none_due}
use Rattle.segment_core.proofs.segment.Segment.new.Goals as goal

pub returns-clause-means : goal.returns-clause-means
returns-clause-means c =
    let same : state_of c.in_ok-book.book c.new-hot.result 0 c.new-2.result ≡ empty_state c.args.roster = search (rules, c.in_ok-book.ensures.empty) in
    subst (λ (s : State). (log : List AnyFact) → Means c.args.roster log [] s) (sym same) (empty_means c.args.roster)

pub invariant_of-result : goal.invariant_of-result
invariant_of-result c = search (rules, none_due)
