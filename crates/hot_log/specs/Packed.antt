-- Keys of records in one word each.
use Rattle.std.specs.Prelude.{ℕ, ◌+◌, ◌*◌, ◌/◌, ◌%◌, min, ◌≡◌}
use Rattle.std.proofs.Common.{arith}
use Rattle.redo_core.specs.Keys.{key_in}
use Rattle.redo_core.specs.Shape.{max_number}
use Rattle.redo_core.specs.declared.keys.Key.{Key}

-- the LSNs that a record may have, and 0, are below this
abbrev pub span : ℕ
span = 281474976710656

-- the key in a word: the epoch above the LSN
abbrev pub key_in_word : ℕ → Key
key_in_word word = key_in (word / span) (word % span)

-- the word of a key
abbrev pub key_word : Key → ℕ
key_word k = span * k.epoch + k.number

-- a word comes back from its key
pub word_back : (word : ℕ) → key_word (key_in_word word) ≡ word
word_back word = omega arith

-- the key of the same epoch with the LSN, or with the greatest that a record may have
abbrev pub capped : Key → Key
capped k = key_in k.epoch (min k.number max_number)
