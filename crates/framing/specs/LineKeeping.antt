-- What is kept of a line that has not ended yet.
use Rattle.std.specs.Prelude.{◌≡◌, ℕ, ◌<◌, ◌≤◌, List, length}
use Rattle.framing.specs.declared.keeping.Keeping.{Keeping}
use Rattle.framing.specs.declared.keeping.Keeping.TheVariants.{Whole, Long, Lost}
use Rattle.framing.specs.declared.lines.pending.Pending.{Pending}

abbrev pub line_limit : Pending → ℕ
line_limit p = p.limit

-- all of it up to the limit, or that it is longer; nothing is known of one that was lost
abbrev pub HoldsLineBy : Keeping → List ℕ → ℕ → List ℕ → Type 0
HoldsLineBy Whole bytes limit begun = (bytes ≡ begun) × (length begun ≤ limit)
HoldsLineBy Long bytes limit begun = limit < length begun
HoldsLineBy Lost bytes limit begun = Unit {0}

-- `begun` is what has arrived of the line
abbrev pub HoldsLine : Pending → List ℕ → Type 0
HoldsLine p begun = HoldsLineBy p.keeping p.bytes.items p.limit begun
