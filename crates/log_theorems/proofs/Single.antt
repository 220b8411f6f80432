-- A roster of one reader.
use Rattle.std.proofs.Common.{◌≡◌, ℕ, ◌<◌, ◌≤◌, ◌↔◌, List, [], ◌∷◌, length, refl, sym, ap, ◌∙◌, subst, arith, rules}
use Rattle.std.specs.List.{Contains}
use Rattle.redo_core.specs.Data.{CutData, AdvanceData}
use Rattle.redo_core.specs.Sets.{advances}
use Rattle.redo_core.specs.CompleteEpoch.{HasCutsTo}
use Rattle.redo_core.specs.Roster.{point_of, least}
use Rattle.redo_core.specs.Points.{IsPoint}
use Rattle.redo_core.specs.Position.{Position, IsPosition}
use Rattle.redo_core.specs.Sound.{counted, Law5}
use Rattle.redo_core.specs.declared.facts.Fact.{Fact}
use Rattle.redo_core.specs.declared.facts.Fact.TheVariants.{Advance}

-- a list of one point
one_point : (ps : List ℕ) → length ps ≡ 1 → (ps ≡ least ps ∷ []) × (point_of ps 1 ≡ least ps)
one_point [] e = absurd (omega (arith, e))
one_point (p ∷ []) e = (refl, refl)
one_point (p ∷ q ∷ ps) e = absurd (omega (arith, e))

pub one_reader : (facts : List Fact) (p : Position) → IsPosition 1 facts p → (p.points ≡ p.min ∷ []) × IsPoint (advances facts) p.epoch 1 p.min
one_reader facts p h =
    let s = one_point p.points h.points.count in (
      s.0 ∙ ap (λ m. m ∷ []) (sym h.min),
      subst (IsPoint (advances facts) p.epoch 1) (s.1 ∙ sym h.min) (h.points.each 1 (omega arith, omega arith)),
    )

pub one_reader_keeps : (log : List Fact) (a : AdvanceData) → Contains (advances log) a
    → Law5 1 log (Advance a) ↔ ((a.reader ≡ 1) × HasCutsTo (counted log) a.epoch
    × ((c : CutData) → Contains (counted log) c → a.epoch < c.epoch → a.point ≤ c.lo))
one_reader_keeps log a h = search rules
