-- The effective truncations of a log, as a table by epoch.
use Rattle.std.specs.Prelude.{◌≡◌, ℕ, ◌<◌, ◌≤◌, ◌⊎◌, ◌↔◌, ◌==◌, List, [], ◌∷◌, slice_index_or, Option, Some, None, if◌then◌else◌}
use Rattle.std.specs.List.{Contains}
use Rattle.redo_core.specs.Data.{CutData}
use Rattle.redo_core.specs.Shape.{cut_fault, max_number}
use Rattle.redo_core.specs.Sets.{cuts, advances}
use Rattle.redo_core.specs.Roster.{IsRoster}
use Rattle.redo_core.specs.Past.{ArePast}
use Rattle.redo_core.specs.CompleteEpoch.{HasCutsTo}
use Rattle.redo_core.specs.Sound.{counted}
use Rattle.redo_core.specs.declared.facts.Fact.{Fact}
use Rattle.log_law.specs.declared.counted.CountedCuts.{CountedCuts}

-- the first truncation of an epoch
abbrev pub first_at : ℕ → List CutData → Option CutData
first_at e [] = None
first_at e (c ∷ cs) = if c.epoch == e then Some c else first_at e cs

abbrev pub first_cut : List Fact → ℕ → Option CutData
first_cut log e = first_at e (cuts log)

-- the first option where it has a value, otherwise the second
abbrev pub or_first : Option CutData → Option CutData → Option CutData
or_first (Some c) other = Some c
or_first None other = other

-- the table has each epoch's first truncation at its index, with none past its end, and the log's truncations have their shape
pub record IsTable (log : List Fact) (table : List (Option CutData)) : Type 0 where
  pub at : (e : ℕ) → slice_index_or table e None ≡ first_cut log e
  pub shapes : (c : CutData) → Contains (cuts log) c → cut_fault c ≡ None

-- the epochs up to k, and no later ones, have begun
abbrev pub AreBegunTo : List Fact → ℕ → Type 0
AreBegunTo log k = (e : ℕ) → HasCutsTo (counted log) e ↔ (e ≤ k)

-- the least lo of the truncations after an epoch that all readers are past, or the greatest LSN where there is none
pub record IsLeastLaterLo (roster : ℕ) (log : List Fact) (e later : ℕ) : Type 0 where
  pub below : (c : CutData) → Contains (counted log) c → e < c.epoch → ArePast roster (advances log) c → later ≤ c.lo
  pub least : (later ≡ max_number) ⊎ ((c : CutData) × Contains (counted log) c × (e < c.epoch) × ArePast roster (advances log) c × (c.lo ≡ later))

-- the table and the complete epoch are those of a log
pub record Describes (log : List Fact) (known : CountedCuts) : Type 0 where
  pub table : IsTable log known.by_epoch.items
  pub complete : AreBegunTo log known.complete

-- the `least_later_lo` are those of a log of the roster, with the greatest LSN past their end
pub record HasLeastLaterLo (roster : ℕ) (log : List Fact) (known : CountedCuts) : Type 0 where
  pub some_readers : IsRoster roster
  pub readers : known.readers ≡ roster
  pub least_later_lo : (e : ℕ) → IsLeastLaterLo roster log e (slice_index_or known.least_later_lo.items e max_number)
