-- What a seat knows of its board.
use Rattle.std.specs.Prelude.{◌≡◌, ℕ, ◌-◌, ◌<◌, ◌≤◌, List, max, replicate, slice_index, slice_set}
use Rattle.atomic_table.specs.Seated.{TableId}
use Rattle.redo_core.specs.declared.facts.Fact.{Fact}
use Rattle.front_board.specs.FrontWord.{IsFrontWord}

-- which board the seat is of, and for each word the greatest front, as a word, that the seat published there or saw
pub record SeatData : Type 0 where
  pub board : TableId
  pub seen : List ℕ

-- a seat that knows nothing yet
abbrev pub new_seat : TableId → ℕ → SeatData
new_seat board nodes = record { board = board; seen = replicate nodes 0 }

-- A node is one of a board's nodes, which count from 1; its word is at the place before.
abbrev pub IsNode : ℕ → ℕ → Type 0
IsNode nodes node = (0 < node) × (node ≤ nodes)

-- what is known of a node
abbrev pub seen_of : List ℕ → ℕ → ℕ
seen_of seen node = slice_index seen (node - 1)

-- what is known when that of one node is another
abbrev pub with_seen : List ℕ → ℕ → ℕ → List ℕ
with_seen seen node word = slice_set seen (node - 1) word

-- The seat found a front at the word, no lower than its entry. Its entry is now the greater of what it found and what it published.
pub record Publishes (log : List Fact) (old new : List ℕ) (node published : ℕ) : Type 0 where
  pub found : ℕ
  pub front : IsFrontWord log found
  pub above : seen_of old node ≤ found
  pub entry : new ≡ with_seen old node (max found published)
