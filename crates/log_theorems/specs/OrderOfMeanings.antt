-- Meanings of the parts of one log: unions, the order, least upper bounds.
use Rattle.std.specs.Prelude.{ℕ, ◌≤◌, ◌⊎◌, ◌↔◌, List, ◌++◌}
use Rattle.std.specs.List.{Contains, AllZip}
use Rattle.redo_core.specs.Data.{RecordData, AdvanceData}
use Rattle.redo_core.specs.Sets.{IsPart}
use Rattle.redo_core.specs.Roster.{point_of}
use Rattle.redo_core.specs.Standing.{IsDead}
use Rattle.redo_core.specs.CompleteEpoch.{IsCompleteEpoch}
use Rattle.redo_core.specs.Sound.{IsSound}
use Rattle.redo_core.specs.Meaning.{Meaning, IsMeaning}
use Rattle.redo_core.specs.AtMost.{IsAtMost}
use Rattle.redo_core.specs.declared.facts.Fact.{Fact}

-- Parts of one meaning still have one meaning after a union with the same part.
abbrev pub Congruence : Type 0
Congruence =
    (roster : ℕ) (log part other more : List Fact) (m u : Meaning)
    → IsSound roster log → IsPart part log → IsPart other log → IsPart more log
    → IsMeaning roster part m → IsMeaning roster other m → IsMeaning roster (part ++ more) u → IsMeaning roster (other ++ more) u

-- Meaning y covers meaning x, where k is y's complete epoch: it has all of x that is neither dead nor stable in y.
pub record CoversAt (k : ℕ) (y x : Meaning) : Type 0 where
  pub epoch : IsCompleteEpoch y.cuts k
  pub cuts : IsPart x.cuts y.cuts
  -- each reader's point is at most the same reader's, of one roster
  pub points : AllZip (λ p q. p ≤ q) x.points y.points
  pub waits : (a : AdvanceData) → Contains x.waits a → Contains y.waits a ⊎ ((a.epoch ≤ k) × (a.point ≤ point_of y.points a.reader))
  pub anchor : x.anchor ≤ y.anchor
  pub kept : (r : RecordData) → Contains x.kept r → Contains y.kept r ⊎ (IsDead y.cuts k r.epoch r.number ⊎ ((r.number ≤ y.anchor) × (r.epoch ≤ k)))

abbrev pub Covers : Meaning → Meaning → Type 0
Covers y x = (k : ℕ) × CoversAt k y x

-- The order of meanings, which is defined on them alone, is the order of parts of the log.
abbrev pub OrderByParts : Type 0
OrderByParts =
    (roster : ℕ) (log part other : List Fact) (x y : Meaning)
    → IsSound roster log → IsPart part log → IsPart other log → IsMeaning roster part x → IsMeaning roster other y
    → Covers y x ↔ IsAtMost roster log x y

-- The meaning of a union is the least upper bound of both.
abbrev pub LeastUpperBound : Type 0
LeastUpperBound =
    (roster : ℕ) (log part other : List Fact) (x y u : Meaning)
    → IsSound roster log → IsPart part log → IsPart other log
    → IsMeaning roster part x → IsMeaning roster other y → IsMeaning roster (part ++ other) u
    → IsAtMost roster log x u × IsAtMost roster log y u
    × ((z : Meaning) → IsAtMost roster log x z → IsAtMost roster log y z → IsAtMost roster log u z)

-- A union's meaning does not depend on how its parts are grouped.
abbrev pub Associativity : Type 0
Associativity = (roster : ℕ) (x y z : List Fact) (m : Meaning) → IsMeaning roster ((x ++ y) ++ z) m ↔ IsMeaning roster (x ++ (y ++ z)) m

-- Nor on their order.
abbrev pub Commutativity : Type 0
Commutativity = (roster : ℕ) (x y : List Fact) (m : Meaning) → IsMeaning roster (x ++ y) m ↔ IsMeaning roster (y ++ x) m

-- Nor on how often each occurs.
abbrev pub Idempotence : Type 0
Idempotence = (roster : ℕ) (x : List Fact) (m : Meaning) → IsMeaning roster (x ++ x) m ↔ IsMeaning roster x m
