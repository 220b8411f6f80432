-- The chains of a log in which records have backlinks.
use Rattle.std.specs.Prelude.{◌≡◌, ◌<◌, List}
use Rattle.redo_core.specs.Data.{RecordData}
use Rattle.redo_core.specs.Standing.{IsAlive}
use Rattle.redo_core.specs.Sound.{counted}
use Rattle.redo_core.specs.declared.facts.Fact.{Fact}
use Rattle.reference_model.specs.declared.chains.Chain.{Chain}
use Rattle.reference_model.specs.declared.chains.Chain.TheVariants.{Segment, Block}

-- the second record is on this chain of the first
abbrev pub Follows : Chain → RecordData → RecordData → Type 0
Follows Segment r s = Unit {0}
Follows Block r s = s.page ≡ r.page

-- s is below r on this chain, and alive in the view of r's epoch
pub record IsBelowOn (log : List Fact) (r : RecordData) (chain : Chain) (s : RecordData) : Type 0 where
  pub alive : IsAlive (counted log) r.epoch s.epoch s.number
  pub only : Follows chain r s
  pub below : s.number < r.number
