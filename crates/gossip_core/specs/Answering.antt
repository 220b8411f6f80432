-- What of a summary a state answers for (covers).
use Rattle.std.specs.Prelude.{◌≡◌, ℕ, ◌<◌, ◌≤◌, ◌⊎◌, List, Option, Some, None}
use Rattle.std.specs.List.{Contains, All}
use Rattle.redo_core.specs.Order.{IsFirst}
use Rattle.redo_core.specs.Keys.{KeyBefore}
use Rattle.redo_core.specs.declared.keys.Key.{Key}
use Rattle.redo_core.specs.Standing.{IsDead}
use Rattle.hot_log.specs.Held.{HoldsKey}
use Rattle.messages.specs.Summaries.{SummaryData}
use Rattle.segment_theorems.specs.State.{State}
use Rattle.segment_theorems.specs.Gossip.{Listing}
use Rattle.gossip_core.specs.declared.answering.Shown.{Shown}
use Rattle.gossip_core.specs.declared.answering.Shown.TheVariants.{Anchor as OfAnchor, Key as OfKey}

-- ---- a summary as the laws of states speak of it
abbrev pub listing_of : SummaryData → Listing
listing_of summary = record { anchor = summary.anchor; keys = summary.keys }

-- ---- what is uncovered
-- a state with this anchor accounts for the key: it is stored, dead, or at or below the anchor and not waiting
abbrev pub IsCovered : State → ℕ → Key → Type 0
IsCovered s anchor key =
    HoldsKey s.held key ⊎ (IsDead s.book.cuts s.book.complete key.epoch key.number ⊎ ((key.epoch ≤ s.book.complete) × (key.number ≤ anchor)))

-- the key is one that the state cannot account for
abbrev pub IsUncoveredKey : State → ℕ → List Key → Key → Type 0
IsUncoveredKey s anchor keys key = Contains keys key × (IsCovered s anchor key → ⊥)

-- the least of those keys, or none where the state accounts for each
abbrev pub IsFirstUncovered : State → ℕ → List Key → Option Key → Type 0
IsFirstUncovered s anchor keys None = All (IsCovered s anchor) keys
IsFirstUncovered s anchor keys (Some key) = IsFirst KeyBefore (IsUncoveredKey s anchor keys) key

-- the summary's anchor where it is above the state's, else the least key that the state cannot account for; none where there is neither
abbrev pub IsUncovered : State → ℕ → SummaryData → Option Shown → Type 0
IsUncovered s anchor summary None = (summary.anchor ≤ anchor) × All (IsCovered s anchor) summary.keys
IsUncovered s anchor summary (Some (OfAnchor shown)) = (shown ≡ summary.anchor) × (anchor < shown)
IsUncovered s anchor summary (Some (OfKey key)) = (summary.anchor ≤ anchor) × IsFirst KeyBefore (IsUncoveredKey s anchor summary.keys) key
