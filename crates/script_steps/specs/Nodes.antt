-- The nodes that a step names.
use Rattle.std.specs.Prelude.{ℕ, ◌==◌, ◌||◌, nat_lt, if◌then◌else◌, List, [], ◌∷◌, Option, Some, None}
use Rattle.script_steps.specs.declared.steps.Step.{Step}
use Rattle.script_steps.specs.declared.steps.Step.TheVariants.{Take, Fold, Discard, Front, Read, Join, Same, Covers, Wipe, Ask, Answer, Absorb}

-- the node that carries out the step
abbrev pub node_of : {F : Type 0} → Step F → ℕ
node_of (Take node fact) = node
node_of (Fold node page) = node
node_of (Discard node) = node
node_of (Front node) = node
node_of (Read node page point offset len) = node
node_of (Join node from) = node
node_of (Same node other) = node
node_of (Covers node other) = node
node_of (Wipe node) = node
node_of (Ask node) = node
node_of (Answer node message) = node
node_of (Absorb node message) = node

-- the other node that it reads: the last that it names
abbrev pub other_of : {F : Type 0} → Step F → ℕ
other_of (Take node fact) = node
other_of (Fold node page) = node
other_of (Discard node) = node
other_of (Front node) = node
other_of (Read node page point offset len) = node
other_of (Join node from) = from
other_of (Same node other) = other
other_of (Covers node other) = other
other_of (Wipe node) = node
other_of (Ask node) = node
other_of (Answer node message) = node
other_of (Absorb node message) = node

-- all nodes that it names, in the order named
abbrev pub nodes_of : {F : Type 0} → Step F → List ℕ
nodes_of (Take node fact) = node ∷ []
nodes_of (Fold node page) = node ∷ []
nodes_of (Discard node) = node ∷ []
nodes_of (Front node) = node ∷ []
nodes_of (Read node page point offset len) = node ∷ []
nodes_of (Join node from) = node ∷ from ∷ []
nodes_of (Same node other) = node ∷ other ∷ []
nodes_of (Covers node other) = node ∷ other ∷ []
nodes_of (Wipe node) = node ∷ []
nodes_of (Ask node) = node ∷ []
nodes_of (Answer node message) = node ∷ []
nodes_of (Absorb node message) = node ∷ []

-- the first node that is not among 1 to count
abbrev pub first_missing : ℕ → List ℕ → Option ℕ
first_missing count [] = None
first_missing count (node ∷ nodes) = if node == 0 || nat_lt count node then Some node else first_missing count nodes
