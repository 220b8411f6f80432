-- What a quorum's answer says of the words.
use Rattle.std.specs.Prelude.{◌≡◌, ℕ, ◌≤◌, List}
use mathlib.Core.Option.{some}
use lib.ListN.{get_elem?}
use Rattle.redo_core.specs.declared.facts.Fact.{Fact}
use Rattle.front_board.specs.Rule.{KeepsRule}
use Rattle.front_board.specs.NthGreatest.{count_reached, IsNthGreatest}

-- Whenever the board's rule holds of its words and of the views of its seats, one of which is this view, at least `need` words have
-- reached the answer. The rule holds at every moment.
abbrev pub IsReachedBy : List Fact → ℕ → List ℕ → ℕ → Type 0
IsReachedBy log need seen answer =
    (words : List ℕ) (views : List (List ℕ)) (seat : ℕ)
    → KeepsRule log words views → get_elem? views seat ≡ some seen → need ≤ count_reached answer words

-- The `need`-th greatest of a view is such an answer.
abbrev pub QuorumHasReached : Type 0
QuorumHasReached = (log : List Fact) (need : ℕ) (seen : List ℕ) (answer : ℕ) → IsNthGreatest need seen answer → IsReachedBy log need seen answer

-- A view has one answer for each need.
abbrev pub QuorumHasOneAnswer : Type 0
QuorumHasOneAnswer = (need : ℕ) (seen : List ℕ) (answer other : ℕ) → IsNthGreatest need seen answer → IsNthGreatest need seen other → answer ≡ other
