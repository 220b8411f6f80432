-- Meanings compared fact by fact, given the positions of the facts.
use Rattle.std.specs.Prelude.{◌<◌, ◌≤◌, ◌⊎◌, List}
use Rattle.std.specs.List.{Contains, AllZip}
use Rattle.redo_core.specs.Sets.{cuts}
use Rattle.redo_core.specs.Standing.{IsAlive, IsDead, IsWaiting}
use Rattle.redo_core.specs.Roster.{point_of}
use Rattle.redo_core.specs.Position.{Position}
use Rattle.redo_core.specs.declared.facts.Fact.{Fact}
use Rattle.redo_core.specs.declared.facts.Fact.TheVariants.{Record, Cut, Advance}

-- the meaning of facts at p keeps such a fact by itself
abbrev pub KeepsFact : List Fact → Position → Fact → Type 0
KeepsFact facts p (Record r) = IsWaiting p.epoch r.epoch ⊎ (IsAlive (cuts facts) p.epoch r.epoch r.number × (p.anchor < r.number))
KeepsFact facts p (Cut c) = Unit {0}
KeepsFact facts p (Advance a) = p.epoch < a.epoch

-- the fact adds nothing to the meaning of facts at p: a record that is dead or not above the anchor, an advance up to its reader's point
abbrev pub Settles : List Fact → Position → Fact → Type 0
Settles facts p (Record r) = IsDead (cuts facts) p.epoch r.epoch r.number ⊎ ((r.number ≤ p.anchor) × (r.epoch ≤ p.epoch))
Settles facts p (Cut c) = ⊥
Settles facts p (Advance a) = (a.epoch ≤ p.epoch) × (a.point ≤ point_of p.points a.reader)

abbrev pub CoversFact : List Fact → Position → Fact → Type 0
CoversFact facts p fact = (Contains facts fact × KeepsFact facts p fact) ⊎ Settles facts p fact

-- each of the others that their meaning keeps is covered
abbrev pub CoversAll : List Fact → Position → List Fact → Position → Type 0
CoversAll facts p others q = (fact : Fact) → Contains others fact → KeepsFact others q fact → CoversFact facts p fact

-- the meaning of facts at p covers that of others at q
pub record IsCovering (facts : List Fact) (p : Position) (others : List Fact) (q : Position) : Type 0 where
  pub anchor : q.anchor ≤ p.anchor
  pub points : AllZip (λ m n. m ≤ n) q.points p.points
  pub all : CoversAll facts p others q
