-- Decimal numbers without sign and without leading zeros.
use Rattle.std.specs.Prelude.{ℕ, ◌+◌, ◌-◌, ◌*◌, ◌==◌, ◌&&◌, nat_lt, nat_le, if◌then◌else◌, List, [], ◌∷◌, length, Option, Some, None}
use Rattle.std.specs.Char.{is_ascii_digit}
use Rattle.std.specs.Str.{all_ascii_digits}

-- the number that digits stand for, behind the digits of n
abbrev pub value_from : ℕ → List ℕ → ℕ
value_from n [] = n
value_from n (c ∷ cs) = value_from (10 * n + (c - 48)) cs

-- the number that the word's digits stand for, if it is at most limit
unfoldable pub digits_of : ℕ → List ℕ → Option ℕ
digits_of limit word = if all_ascii_digits word && nat_le (value_from 0 word) limit then Some (value_from 0 word) else None

-- the number that the word encodes, with no 0 before other digits, if it is at most limit
abbrev pub decimal_value : ℕ → List ℕ → Option ℕ
decimal_value limit [] = None
decimal_value limit (c ∷ cs) = if c == 48 && nat_lt 0 (length cs) then None else digits_of limit (c ∷ cs)

-- the number of n's digits and those in front of a text, and the text behind them; none where it is above limit
abbrev pub number_on : ℕ → ℕ → List ℕ → Option (ℕ × List ℕ)
number_on limit n [] = Some (n, [])
number_on limit n (c ∷ cs) =
    if is_ascii_digit c then (if nat_le (10 * n + (c - 48)) limit then number_on limit (10 * n + (c - 48)) cs else None)
    else Some (n, c ∷ cs)

-- the number in front of a text, a 0 alone or digits behind another one, and the text behind it; none where it is above limit
abbrev pub number_front : ℕ → List ℕ → Option (ℕ × List ℕ)
number_front limit [] = None
number_front limit (c ∷ cs) =
    if c == 48 then Some (0, cs)
    else if is_ascii_digit c && nat_le (c - 48) limit then number_on limit (c - 48) cs
    else None
