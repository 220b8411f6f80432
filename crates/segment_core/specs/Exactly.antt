-- All that a take does, for arbitrary facts and for the facts that the segment means.
use Rattle.std.specs.Prelude.{◌≡◌, ◌⊎◌, Result, Err, OnOk, OnErr, IfOk, IfErr, IsErrAnd}
use Rattle.redo_core.specs.declared.facts.Fact.{Fact}
use Rattle.redo_core.specs.declared.refusal.Refused.{Refused}
use Rattle.segment_theorems.specs.State.{State}
use Rattle.segment_theorems.specs.Promises.{TakesFact}
use Rattle.segment_core.specs.Answering.{FaultAlone}
use Rattle.segment_core.specs.Taking.{ReportsKnown, Stores, IsNew}
use Rattle.segment_core.specs.Refusing.{Refuses}
use Rattle.segment_core.specs.declared.answers.Taken.{Taken}
use Rattle.segment_core.specs.declared.answers.Taken.TheVariants.{Changed, Unchanged}
use Rattle.segment_core.specs.declared.answers.Refusal.{Refusal}
use Rattle.segment_core.specs.declared.answers.Refusal.TheVariants.{Memory}

pub record TakesExactly (old : State) (fact : Fact) (result : Result Taken (Refused Fact Refusal)) (new : State) : Type 0 where
  pub means : OnOk result (TakesFact old fact new)
  pub known : IfOk result (ReportsKnown old fact)
  pub stores : IfOk result (λ taken. taken ≡ Changed → Stores old fact new)
  pub idle : IfOk result (λ taken. taken ≡ Unchanged → new ≡ old)
  pub refuses : (why : Refusal) → Refuses old fact why → IsErrAnd result (λ e. e.fault ≡ why)
  pub refused : IfErr result (λ e. (e.fault ≡ Memory) ⊎ Refuses old fact e.fault)
  pub memory : IfErr result (λ e. e.fault ≡ Memory → IsNew old fact)
  pub back : IfErr result (λ e. e.value ≡ fact)
  pub unchanged : OnErr result (new ≡ old)

-- What a take in a merge transaction does: a take, of which the fact is dropped, or nothing, where memory runs out for the note.
abbrev pub TakesNoted : State → Fact → Result Taken Refusal → State → Type 0
TakesNoted old fact result new =
    ((result ≡ Err Memory) × (new ≡ old))
    ⊎ ((answer : Result Taken (Refused Fact Refusal)) × TakesExactly old fact answer new × FaultAlone answer result)
