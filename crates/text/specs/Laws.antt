-- The law of decimal numbers.
use Rattle.std.specs.Prelude.{◌≡◌, ℕ, ◌≤◌, ◌<◌, ◌^◌, ◌↔◌, List, Some}
use Rattle.std.specs.Fmt.{decimal}
use Rattle.text.specs.Number.{decimal_value}

-- The words that are numbers are just those that decimal writes.
abbrev pub NumbersAreDecimals : Type 0
NumbersAreDecimals = (limit n : ℕ) (word : List ℕ) → limit < 2 ^ 64 → (decimal_value limit word ≡ Some n) ↔ ((word ≡ decimal n) × (n ≤ limit))
