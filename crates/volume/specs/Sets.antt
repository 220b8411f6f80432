-- Sets of nodes, and tables by node.
use Rattle.std.specs.Prelude.{ℕ, Bool, false, List, map, replicate, Option, None, count_by, is_some, nat_le, slice_index_or}

-- whether the set has the node
abbrev pub is_marked : List Bool → ℕ → Bool
is_marked set node = slice_index_or set node false

-- the birth that is known of the node
abbrev pub birth_at : List (Option ℕ) → ℕ → Option ℕ
birth_at births node = slice_index_or births node None

-- how many nodes the set has
abbrev pub count_marked : List Bool → ℕ
count_marked set = count_by (λ b. b) set

-- the nodes of which a birth is known
abbrev pub marks_of : List (Option ℕ) → List Bool
marks_of births = map (λ b. is_some b) births

-- how many nodes have come up to the point
abbrev pub count_at_least : ℕ → List ℕ → ℕ
count_at_least point reached = count_by (λ n. nat_le point n) reached

-- no node
abbrev pub no_nodes : List Bool
no_nodes = replicate 15 false

-- no node has an entry
abbrev pub no_births : List (Option ℕ)
no_births = replicate 15 None
