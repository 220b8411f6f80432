-- Fronts of a log, and the words that hold them.
use Rattle.std.specs.Prelude.{◌↔◌, ℕ, ◌+◌, ◌*◌, ◌/◌, ◌%◌, ◌<◌, ◌≤◌, List, slice_index}
use Rattle.redo_core.specs.LogFront.{IsLogFront, FrontAtMost}
use Rattle.redo_core.specs.declared.facts.Fact.{Fact}

-- an epoch, and a number that is linked in the view of that epoch
pub record FrontData : Type 0 where
  pub epoch : ℕ
  pub number : ℕ

-- how many numbers there are, with 0: 2^48
abbrev pub number_count : ℕ
number_count = 281474976710656

-- the word that holds a front
abbrev pub word_of : FrontData → ℕ
word_of front = front.epoch * number_count + front.number

-- the front that a word holds
abbrev pub front_of : ℕ → FrontData
front_of word = record { epoch = word / number_count; number = word % number_count }

-- the word holds a front of the log
abbrev pub IsFrontWord : List Fact → ℕ → Type 0
IsFrontWord log word = IsLogFront log (front_of word).epoch (front_of word).number

-- each of these words holds a front of the log
pub record AreFronts (log : List Fact) (words : List ℕ) : Type 0 where
  pub each : (node : ℕ) → IsFrontWord log (slice_index words node)

-- The words of fronts are in the order of the fronts: by epoch, then by number.
abbrev pub WordsInOrder : Type 0
WordsInOrder = (f g : FrontData) → f.number < number_count → g.number < number_count → (word_of f ≤ word_of g) ↔ FrontAtMost f.epoch f.number g.epoch g.number
