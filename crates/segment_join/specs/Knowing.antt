-- How one segment learns and stores what another one exports.
use Rattle.std.specs.Prelude.{◌≡◌, ℕ, ◌⊎◌, List}
use Rattle.std.specs.List.{Contains}
use Rattle.redo_core.specs.Data.{RecordData}
use Rattle.redo_core.specs.declared.keys.Key.{Key}
use Rattle.redo_core.specs.declared.facts.Fact.{Fact}
use Rattle.redo_core.specs.declared.facts.Fact.TheVariants.{Record}
use Rattle.hot_log.specs.Held.{HasKey}
use Rattle.segment_theorems.specs.State.{State, SameBase}
use Rattle.segment_theorems.specs.Known.{IsKnown}
use Rattle.segment_theorems.specs.HasMeaning.{HasAnchor, IsKeptBy}
use Rattle.segment_core.specs.declared.answers.Refusal.{Refusal}
use Rattle.segment_core.specs.Exported.{AreExported}
use Rattle.segment_core.specs.InOrder.{TakesEach, RefusesOne}
use Rattle.segment_join.specs.Holding.{IsNeedless, IsSpared, HoldsRest}

-- each fact that the other exports is taken, in order
pub record TakesAll (old other new : State) : Type 0 where
  pub facts : List Fact
  pub told : AreExported other facts
  pub takes : TakesEach old facts new

-- one of the facts that the other exports is refused
abbrev pub RefusesAll : State → State → Refusal → Type 0
RefusesAll old other why = (facts : List Fact) × AreExported other facts × RefusesOne old facts why

-- each record that the other's meaning keeps is known
abbrev pub KnowsKept : State → State → Type 0
KnowsKept s other = (anchor : ℕ) (r : RecordData) → HasAnchor other anchor → IsKeptBy other anchor r → IsKnown s (Record r)

-- the other's stored record of the key is stored, unless it is spared; none that is needless is
pub record HoldsAt (old other : State) (key : Key) (new : State) : Type 0 where
  pub book : new.book ≡ old.book
  pub rest : SameBase old new
  pub before : (r : RecordData) → Contains old.held r → Contains new.held r
  pub more : (r : RecordData) → Contains new.held r → Contains old.held r ⊎ (Contains other.held r × (IsNeedless old other r → ⊥))
  pub each : (r : RecordData) → Contains other.held r → HasKey key r → Contains new.held r ⊎ IsSpared old other r

-- the segment has taken what the other exports, and stores the rest of what it stores
pub record IsJoined (own other new : State) : Type 0 where
  pub taken : State
  pub takes : TakesAll own other taken
  pub holds : HoldsRest taken other new
