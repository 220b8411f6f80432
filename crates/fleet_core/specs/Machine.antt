-- The fleet machine: its state is the set of facts that reached each node, with the messages that were made.
use Rattle.std.specs.Prelude.{ℕ, zero, suc, ◌-◌, List, [], ◌∷◌, ◌++◌, replicate, set, slice_get, slice_index_or, Option, Some, None}
use Rattle.redo_core.specs.declared.facts.Fact.{Fact}
use Rattle.script_steps.specs.Nodes.{node_of, other_of}
use Rattle.script_steps.specs.declared.steps.Step.{Step}
use Rattle.script_steps.specs.declared.steps.Step.TheVariants.{Take, Join, Wipe, Ask, Answer, Absorb}
use Rattle.fleet_core.specs.declared.replies.Reply.{Reply}
use Rattle.fleet_core.specs.declared.replies.Reply.TheVariants.{Changed, Unchanged, Joined, Wiped, Absorbed}
use Rattle.fleet_core.specs.declared.replies.Reply.TheVariants.{Message as MessageIs}

-- A message speaks of sets of facts: of those that a node asks with, or of those and the answering node's.
pub data Message : Type 0 where
  Asked : List Fact → Message
  Answered : List Fact → List Fact → Message

-- each node's set of facts, and the messages in the order in which they were made
pub record Machine : Type 0 where
  pub nodes : List (List Fact)
  pub messages : List Message

-- the machine of so many nodes that no fact has reached
abbrev pub empty_machine : ℕ → Machine
empty_machine count = record { nodes = replicate count []; messages = [] }

-- the facts of a node, counted from 1
abbrev pub node_facts : Machine → ℕ → List Fact
node_facts m node = slice_index_or m.nodes (node - 1) []

-- ---- messages by their numbers
-- the message of a number, counted from 1; none where there is none
abbrev pub numbered : {M : Type 0} → List M → ℕ → Option M
numbered messages zero = None
numbered messages (suc place) = slice_get messages place

-- the facts that a node asked with; none where there is no such question
abbrev pub asked_by : Option Message → Option (List Fact)
asked_by (Some (Asked asked)) = Some asked
asked_by message = None

abbrev pub asked_in : List Message → ℕ → Option (List Fact)
asked_in messages number = asked_by (numbered messages number)

-- the facts that a node asked with, and those of the node that answered; none where there is no such answer
abbrev pub answered_by : Option Message → Option (List Fact × List Fact)
answered_by (Some (Answered asked facts)) = Some (asked, facts)
answered_by message = None

abbrev pub answered_in : List Message → ℕ → Option (List Fact × List Fact)
answered_in messages number = answered_by (numbered messages number)

-- ---- the machine after a step
-- the facts that an answer brings
abbrev pub brought_by : Option (List Fact × List Fact) → List Fact
brought_by (Some answer) = answer.1
brought_by None = []

-- The facts of a step's node after the step and its reply, where `others` are those of the other node that it names: a take that
-- was answered brings its fact, a join what the other node has, an absorb what the answering node had, and a wipe leaves none.
abbrev pub facts_after : List Fact → List Fact → List Message → Step Fact → Reply → List Fact
facts_after facts others messages (Take node fact) Changed = facts ++ fact ∷ []
facts_after facts others messages (Take node fact) Unchanged = facts ++ fact ∷ []
facts_after facts others messages (Join node from) Joined = facts ++ others
facts_after facts others messages (Wipe node) Wiped = []
facts_after facts others messages (Absorb node message) Absorbed = facts ++ brought_by (answered_in messages message)
facts_after facts others messages step reply = facts

-- what a node with these facts answers
abbrev pub answers_to : Option (List Fact) → List Fact → List Message
answers_to (Some asked) facts = Answered asked facts ∷ []
answers_to None facts = []

-- the messages after a step and its reply: none is ever lost, and asking and answering make one, of the node's facts as they are then
abbrev pub messages_after : List Message → List Fact → Step Fact → Reply → List Message
messages_after messages facts (Ask node) (MessageIs number) = messages ++ Asked facts ∷ []
messages_after messages facts (Answer node message) (MessageIs number) = messages ++ answers_to (asked_in messages message) facts
messages_after messages facts step reply = messages

-- the machine after a step and its reply: no node changes but the step's
abbrev pub after : Machine → Step Fact → Reply → Machine
after m step reply = record {
  nodes = set m.nodes (node_of step - 1) (facts_after (node_facts m (node_of step)) (node_facts m (other_of step)) m.messages step reply);
  messages = messages_after m.messages (node_facts m (node_of step)) step reply;
}
