-- What is asked of nodes.
use Rattle.std.specs.Prelude.{ℕ, zero, suc, ◌+◌, List, [], ◌∷◌, ◌++◌, map, Option, Some, None}
use Rattle.redo_core.specs.declared.facts.Fact.{Fact}
use Rattle.redo_core.specs.declared.facts.Fact.TheVariants as fact
use Rattle.replica.specs.declared.requests.Request.TheVariants as segment
use Rattle.guard.specs.declared.requests.AcceptedCut.{AcceptedCut}
use Rattle.guard.specs.declared.requests.Request.{Request}
use Rattle.guard.specs.declared.requests.Request.TheVariants as request
use Rattle.volume.specs.declared.actions.Action.{Action}
use Rattle.volume.specs.declared.actions.Action.TheVariants.{Ask}
use Rattle.volume.specs.declared.errands.Errand.{Errand}
use Rattle.volume.specs.declared.errands.Errand.TheVariants as errand
use Rattle.volume.specs.declared.errands.Query.{Query}
use Rattle.volume.specs.declared.errands.Query.TheVariants as query

-- take a fact, then report the front
abbrev pub takes_and_reports : ℕ → ℕ → Fact → List Request
takes_and_reports generation birth f =
    request.As generation birth (segment.Take f) ∷ request.As generation birth segment.Front ∷ []

-- become a member of this generation where the birth is this one, and the front is of this epoch and at or above this point
abbrev pub admission : ℕ → ℕ → ℕ → ℕ → Option AcceptedCut → Request
admission generation birth epoch complete accepted = request.Admit (record {
  generation = generation;
  birth = birth;
  epoch = epoch;
  complete = complete;
  accepted = accepted;
})

-- the requests of an errand under a generation, to a node of a birth
abbrev pub requests_of : ℕ → ℕ → Errand → List Request
requests_of generation birth (errand.Pull summary) = request.As generation birth (segment.Answer summary) ∷ []
requests_of generation birth errand.Ask = request.As generation birth segment.Ask ∷ []
requests_of generation birth (errand.Push summary delta) =
    request.As generation birth (segment.Absorb summary delta) ∷ request.As generation birth segment.Front ∷ []
requests_of generation birth (errand.Propose cut) = request.Propose generation birth cut ∷ []
requests_of generation birth (errand.Begin cut) = takes_and_reports generation birth (fact.Cut cut)
requests_of generation birth (errand.Store redo) = request.As generation birth (segment.Take (fact.Record redo)) ∷ []
requests_of generation birth (errand.Close redo) = takes_and_reports generation birth (fact.Record redo)
requests_of generation birth (errand.Raise advance) = request.As generation birth (segment.Take (fact.Advance advance)) ∷ []
requests_of generation birth errand.Report = request.As generation birth segment.Front ∷ []
requests_of generation birth errand.Found = admission generation birth 0 0 None ∷ []
requests_of generation birth (errand.Join summary delta joining) =
    request.Plain (segment.Absorb summary delta) ∷ admission generation birth joining.epoch joining.complete joining.accepted ∷ []

-- as actions, to a node
abbrev pub asks_of : ℕ → ℕ → ℕ → Errand → List Action
asks_of node generation birth e = map (λ r. Ask node r) (requests_of generation birth e)

-- the errand to each node whose birth is known, where the first birth of the list is that of this node
abbrev pub asks_from : ℕ → Errand → ℕ → List (Option ℕ) → List Action
asks_from generation e node [] = []
asks_from generation e node (None ∷ births) = asks_from generation e (node + 1) births
asks_from generation e node (Some birth ∷ births) = asks_of node generation birth e ++ asks_from generation e (node + 1) births

-- the errand to one node, if its birth is known
abbrev pub asks_at : ℕ → Errand → ℕ → Option ℕ → List Action
asks_at generation e node None = []
asks_at generation e node (Some birth) = asks_of node generation birth e

-- what a query asks
abbrev pub request_of_query : Query → Request
request_of_query query.Status = request.Status
request_of_query (query.Fence generation) = request.Fence generation

-- the query to so many nodes, from this one on
abbrev pub queries_from : Query → ℕ → ℕ → List Action
queries_from q node zero = []
queries_from q node (suc more) = Ask node (request_of_query q) ∷ queries_from q (node + 1) more

-- the query to one node
abbrev pub query_to : Query → ℕ → List Action
query_to q node = Ask node (request_of_query q) ∷ []
