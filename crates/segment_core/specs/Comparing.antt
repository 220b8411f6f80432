-- When a page of one segment is that of another.
use Rattle.std.specs.Prelude.{◌≡◌, ℕ, ◌↔◌, Bool, IsTrue, List}
use Rattle.segment_theorems.specs.State.{State}
use Rattle.segment_theorems.specs.Shows.{Shows}

-- the two states show one page at their points, whatever images and records they show it from
abbrev pub ReportsSamePage : State → ℕ → State → ℕ → ℕ → Bool → Type 0
ReportsSamePage s point t other_point page same =
    (image shown : List ℕ) → Shows s page point image → Shows t page other_point shown → IsTrue same ↔ (image ≡ shown)
