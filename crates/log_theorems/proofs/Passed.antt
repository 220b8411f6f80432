-- Truncations that all readers are past.
use Rattle.std.proofs.Common.{◌≡◌, ℕ, suc, ◌-◌, ◌<◌, ◌≤◌, ◌↔◌, ⊎_elim, List, refl, arith}
use Rattle.std.specs.List.{Contains}
use Rattle.redo_core.specs.Data.{CutData, AdvanceData}
use Rattle.redo_core.specs.Sets.{advances}
use Rattle.redo_core.specs.Roster.{point_of, least}
use Rattle.redo_core.specs.Points.{HasAdvance, ArePoints}
use Rattle.redo_core.specs.Past.{ArePast}
use Rattle.redo_core.specs.Sound.{counted}
use Rattle.redo_core.specs.declared.facts.Fact.{Fact}
use Rattle.redo_core.proofs.Points.{least_le, least_ge}

pub past_by_points : (roster : ℕ) (given : List AdvanceData) (c : CutData) (ps : List ℕ) → 1 ≤ roster → 0 < c.epoch → ArePoints roster given (c.epoch - 1) ps
    → ArePast roster given c ↔ (c.lo < least ps)
past_by_points roster given c ps some begun points = (
  λ past.
      let t : suc c.lo ≤ least ps = least_ge roster ps (suc c.lo) points.count some (λ reader r.
      let s = past reader r in
      let up : s.0.point ≤ point_of ps reader = (points.each reader r).1 s.0.point (s.0, s.1, omega (arith, s.3), s.2, refl) in
      let low : c.lo < s.0.point = s.4 in
      omega arith) in
      omega arith,
  λ low reader r.
      let le : least ps ≤ point_of ps reader = least_le roster ps reader points.count r in
      ⊎_elim
      (λ (z : point_of ps reader ≡ 0). absurd (omega arith))
      (λ (h : HasAdvance given (c.epoch - 1) reader (point_of ps reader)).
      let e : h.0.epoch ≤ c.epoch - 1 = h.2 in
      let p : h.0.point ≡ point_of ps reader = h.4 in
      (h.0, h.1, h.3, omega arith, omega arith))
      (points.each reader r).0,
)

pub none_passed : (roster : ℕ) (log : List Fact) → 1 ≤ roster
    → ((a : AdvanceData) (c : CutData) → Contains (advances log) a → Contains (counted log) c → a.epoch < c.epoch → ArePast roster (advances log) c
    → a.point ≤ c.lo)
    ↔ ((c : CutData) → Contains (counted log) c → ArePast roster (advances log) c → ⊥)
none_passed roster log some = (
  λ keeps c h past. let s = past 1 (omega arith, some) in let t : s.0.point ≤ c.lo = keeps s.0 c s.1 h s.3 past in let u : c.lo < s.0.point = s.4 in
      omega arith,
  λ none a c ha hc lt past. absurd (none c hc past),
)
