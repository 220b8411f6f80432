-- What a segment and its images keep, whatever facts reached it.
use Rattle.std.specs.Prelude.{◌≡◌, ℕ, ◌≤◌, ◌↔◌, Bool, false, IsTrue, List}
use Rattle.std.specs.List.{Contains}
use Rattle.redo_core.specs.declared.facts.Fact.{Fact}
use Rattle.redo_core.specs.declared.facts.Fact.TheVariants.{Record, Cut, Advance}
use Rattle.segment_theorems.specs.State.{State}
use Rattle.segment_theorems.specs.HasMeaning.{IsLinkedIn}
use Rattle.segment_theorems.specs.Shows.{Shows}
use Rattle.read_cache.specs.declared.kept.KeptImage.{KeptImage}

-- Each image is what the segment shows at its point, and no point is above `top`. No bound of the linked LSNs is below that.
pub record IsUpToDate (s : State) (top : ℕ) (images : List (ℕ × KeptImage)) : Type 0 where
  pub shown : (e : ℕ × KeptImage) → Contains images e → Shows s e.0 e.1.point e.1.image
  pub below : (e : ℕ × KeptImage) → Contains images e → e.1.point ≤ top
  pub linked : (bound : ℕ) → ((n : ℕ) → IsLinkedIn s n → n ≤ bound) → top ≤ bound

-- A truncation can change each page, a record those from its LSN on, an advance none.
abbrev pub Touches : Fact → ℕ → Bool → Type 0
Touches (Record r) top touches = IsTrue touches ↔ (r.number ≤ top)
Touches (Cut c) top touches = IsTrue touches
Touches (Advance a) top touches = touches ≡ false
