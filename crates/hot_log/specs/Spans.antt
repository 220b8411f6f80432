-- Which keys of an epoch are kept, from one that is.
use Rattle.std.specs.Prelude.{ℕ, ◌≤◌, ◌<◌, ◌^◌, ◌↔◌}
use Rattle.redo_core.specs.Keys.{key_in}
use Rattle.epoch_book.specs.Book.{BookData}
use Rattle.hot_log.specs.Kept.{KeepsKey}
use Rattle.hot_log.specs.declared.spans.Span.{Span}

-- from its first number on, just the keys up to its last number are kept
abbrev pub IsSpan : BookData → ℕ → Span → Type 0
IsSpan b point s = (n : ℕ) → s.from ≤ n → n < 2 ^ 64 → (n ≤ s.to) ↔ KeepsKey b point (key_in s.epoch n)
