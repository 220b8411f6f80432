-- What parts of a sound log have keeps to the rules about contents.
use Rattle.std.specs.Prelude.{◌≡◌, ℕ, ◌≤◌, ◌⊎◌, ◌↔◌, List}
use Rattle.std.specs.List.{Contains}
use Rattle.redo_core.specs.Data.{RecordData, CutData}
use Rattle.redo_core.specs.Sets.{IsPart, cuts}
use Rattle.redo_core.specs.CompleteEpoch.{IsCompleteEpoch}
use Rattle.redo_core.specs.Linked.{IsLinkedRecord}
use Rattle.redo_core.specs.Position.{Position, IsPosition}
use Rattle.redo_core.specs.Sound.{IsSound}
use Rattle.redo_core.specs.declared.facts.Fact.{Fact}
use Rattle.volume_theorems.specs.Nodes.{Content, GrowsTo}

-- A commit point of the facts in view k is 0, or the number of a linked record of page 0. It is at or below the complete point, which is the
-- greatest linked number.
abbrev pub IsCommitPoint : List Fact → ℕ → ℕ → Type 0
IsCommitPoint facts k p = (p ≡ 0) ⊎ ((r : RecordData) × IsLinkedRecord facts k r × (r.page ≡ 0) × (r.number ≡ p))

pub record IsContentOf (facts : List Fact) (content : Content) : Type 0 where
  pub epoch : IsCompleteEpoch (cuts facts) content.epoch
  pub points : (p : ℕ) → Contains content.points p ↔ IsCommitPoint facts content.epoch p
  pub cuts : (c : CutData) → Contains content.cuts c ↔ Contains (cuts facts) c

-- So a segment that more facts have reached has a later content; and so has a union, as against each of its parts.
abbrev pub PartsGrow : Type 0
PartsGrow =
    (roster : ℕ) (log part larger : List Fact) (a b : Content) → IsSound roster log → IsPart part larger → IsPart larger log
    → IsContentOf part a → IsContentOf larger b → GrowsTo a b

-- And whoever reports a front of the same epoch, and a complete point at or above a commit point, has that commit point.
abbrev pub FrontsReach : Type 0
FrontsReach =
    (roster : ℕ) (log part other : List Fact) (front : Position) (a b : Content) (p : ℕ)
    → IsSound roster log → IsPart part log → IsPart other log → IsPosition roster part front → IsContentOf part a → IsContentOf other b
    → a.epoch ≡ b.epoch → Contains b.points p → p ≤ front.complete → Contains a.points p
