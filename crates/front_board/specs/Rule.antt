-- The rule of a board, and its two kinds of atomic step, each of one seat at one word.
use Rattle.std.specs.Prelude.{◌≡◌, ℕ, ◌≤◌, List, max, length, slice_index, slice_set}
use mathlib.Core.Option.{some}
use lib.ListN.{get_elem?}
use Rattle.atomic_table.specs.Table.{Step, Me}
use Rattle.redo_core.specs.declared.facts.Fact.{Fact}
use Rattle.front_board.specs.FrontWord.{IsFrontWord, AreFronts}

-- no entry of a view is above its word
pub record IsWithin (seen words : List ℕ) : Type 0 where
  pub same : length seen ≡ length words
  pub each : (node : ℕ) → slice_index seen node ≤ slice_index words node

-- each word is a front of the log, and no entry of any seat's view is above its word
pub record KeepsRule (log : List Fact) (words : List ℕ) (views : List (List ℕ)) : Type 0 where
  pub fronts : AreFronts log words
  pub within : (seat : ℕ) (seen : List ℕ) → get_elem? views seat ≡ some seen → IsWithin seen words

-- a load: the seat's entry becomes the word
abbrev pub IsLoad : {S : Type 0} → List Fact → Step S → Me S (List ℕ) → ℕ → Me S (List ℕ) → Type 0
IsLoad log step me found new = IsFrontWord log found × (slice_index me.0 step.word ≤ found) × (new ≡ (slice_set me.0 step.word found, me.1))

-- a `fetch_max`: the word becomes the greater, and the seat's entry becomes the new word
abbrev pub IsFetchMax : {S : Type 0} → List Fact → Step S → Me S (List ℕ) → ℕ → Me S (List ℕ) → Type 0
IsFetchMax log step me found new = IsFrontWord log found × (slice_index me.0 step.word ≤ found)
    × (new ≡ (slice_set me.0 step.word (max found step.first), me.1))
