-- Facts that a state takes one after another.
use Rattle.std.specs.Prelude.{◌≡◌, ◌⊎◌, List, [], ◌∷◌}
use Rattle.redo_core.specs.declared.facts.Fact.{Fact}
use Rattle.segment_theorems.specs.State.{State}
use Rattle.segment_theorems.specs.Known.{IsKnown}
use Rattle.segment_core.specs.Taking.{Stores}
use Rattle.segment_core.specs.Refusing.{Refuses}
use Rattle.segment_core.specs.declared.answers.Refusal.{Refusal}

-- one fact is taken: nothing refuses it, and it is known, or joins what is stored
pub record TakesOne (old : State) (fact : Fact) (new : State) : Type 0 where
  pub free : (why : Refusal) → Refuses old fact why → ⊥
  pub takes : (IsKnown old fact × (new ≡ old)) ⊎ ((IsKnown old fact → ⊥) × Stores old fact new)

-- each is taken, in order
abbrev pub TakesEach : State → List Fact → State → Type 0
TakesEach old [] new = new ≡ old
TakesEach old (fact ∷ facts) new = (between : State) × TakesOne old fact between × TakesEach between facts new

-- those before one of them are taken, and that one is refused for this
abbrev pub RefusesOne : State → List Fact → Refusal → Type 0
RefusesOne old [] why = ⊥
RefusesOne old (fact ∷ facts) why = Refuses old fact why ⊎ ((between : State) × TakesOne old fact between × RefusesOne between facts why)
