-- What a part of a sound log knows of it.
use Rattle.std.specs.Prelude.{ℕ, ◌≤◌, ◌↔◌, List}
use Rattle.std.specs.List.{Contains}
use Rattle.redo_core.specs.Data.{RecordData}
use Rattle.redo_core.specs.Sets.{IsPart, records, cuts}
use Rattle.redo_core.specs.Standing.{IsAlive}
use Rattle.redo_core.specs.Linked.{IsLinked, IsLinkedRecord}
use Rattle.redo_core.specs.Position.{Position, IsPosition}
use Rattle.redo_core.specs.PageAt.{IsPageAt}
use Rattle.redo_core.specs.LogFront.{IsLogFront}
use Rattle.redo_core.specs.Sound.{IsSound}
use Rattle.redo_core.specs.declared.facts.Fact.{Fact}

-- Up to a linked LSN, the linked records of a part are the log's records that are alive in the part's view.
abbrev pub Prefix : Type 0
Prefix =
    (roster : ℕ) (log part : List Fact) (p : Position) (n : ℕ) (r : RecordData)
    → IsSound roster log → IsPart part log → IsPosition roster part p → IsLinked part p.epoch n → r.number ≤ n
    → IsLinkedRecord part p.epoch r ↔ (Contains (records log) r × IsAlive (cuts log) p.epoch r.epoch r.number)

-- What is linked at or below the anchor of a part is linked in every larger part, and the anchor never falls.
abbrev pub Finality : Type 0
Finality =
    (roster : ℕ) (log part larger : List Fact) (p q : Position)
    → IsSound roster log → IsPart part larger → IsPart larger log → IsPosition roster part p → IsPosition roster larger q
    → (p.anchor ≤ q.anchor) × ((r : RecordData) → r.number ≤ p.anchor → IsLinkedRecord part p.epoch r ↔ IsLinkedRecord larger q.epoch r)

-- The complete epoch and the complete point of a part are a front of the log.
abbrev pub FrontOfPart : Type 0
FrontOfPart =
    (roster : ℕ) (log part : List Fact) (p : Position)
    → IsSound roster log → IsPart part log → IsPosition roster part p → IsLogFront log p.epoch p.complete

-- Up to the complete point of a part, its page is the log's own in the view of the part's complete epoch.
abbrev pub PageOfPart : Type 0
PageOfPart =
    (roster : ℕ) (log part : List Fact) (p : Position) (page q : ℕ) (image : List ℕ)
    → IsSound roster log → IsPart part log → IsPosition roster part p → q ≤ p.complete → IsPageAt part p.epoch page q image
    → IsPageAt log p.epoch page q image
