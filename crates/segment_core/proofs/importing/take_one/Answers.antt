use Rattle.std.proofs.Common.{◌≡◌, ◌⊎◌, inl, inr, refl, [], ◌∷◌, sym, subst, Result, Ok, Err, OnOk, IfErr, rules}
use Rattle.redo_core.specs.declared.facts.Fact.{Fact}
use Rattle.redo_core.specs.declared.refusal.Refused.{Refused}
use Rattle.segment_theorems.specs.State.{State}
use Rattle.segment_theorems.specs.Known.{IsKnown}
use Rattle.segment_core.specs.Answering.{FaultAlone}
use Rattle.segment_core.specs.Exactly.{TakesExactly, TakesNoted}
use Rattle.segment_core.specs.Taking.{ReportsKnown, Stores}
use Rattle.segment_core.specs.Transaction.{reached}
use Rattle.segment_core.specs.declared.answers.Taken.{Taken}
use Rattle.segment_core.specs.declared.answers.Taken.TheVariants.{Changed, Unchanged}
use Rattle.segment_core.specs.declared.answers.Refusal.{Refusal}
use Rattle.segment_core.specs.declared.answers.Refusal.TheVariants.{Memory}
use Rattle.segment_core.specs.InOrder.{TakesOne, RefusesOne}
use Rattle.segment_core.proofs.importing.take_one.Goals as goal

known_or_stored : (s : State) (fact : Fact) (t : State) (taken : Taken) → ReportsKnown s fact taken
    → (taken ≡ Changed → Stores s fact t) → (taken ≡ Unchanged → t ≡ s) → (IsKnown s fact × (t ≡ s)) ⊎ ((IsKnown s fact → ⊥) × Stores s fact t)
known_or_stored s fact t Changed known stores idle = inr (λ h. let e : Changed ≡ Unchanged = known.1 h in absurd (cc), stores refl)
known_or_stored s fact t Unchanged known stores idle = inl (known.0 refl, idle refl)

-- what a take without the fact ensures
Told : State → Fact → State → Result Taken Refusal → Type 0
Told s fact t result = OnOk result (TakesOne s fact t) × IfErr result (λ e. (e ≡ Memory) ⊎ RefusesOne s (fact ∷ []) e)

by_answer : (s : State) (fact : Fact) (t : State) (answer : Result Taken (Refused Fact Refusal)) (result : Result Taken Refusal)
    → TakesExactly s fact answer t → FaultAlone answer result → Told s fact t result
unfolding Told
by_answer s fact t (Ok taken) result takes is =
    subst (Told s fact t) (sym is) (
      record {
        free = λ why h. takes.refuses why h;
        takes = known_or_stored s fact t taken takes.known takes.stores takes.idle;
      },
      tt,
    )
by_answer s fact t (Err e) result takes is =
    subst (Told s fact t) (sym is) (tt, elim takes.refused [ inl m ↦ inl m | inr r ↦ inr (inl r) ])

told : (s : State) (fact : Fact) (t : State) (result : Result Taken Refusal) → TakesNoted s fact result t → Told s fact t result
unfolding Told
told s fact t result h = search (rules, by_answer)

pub returns-in-Ok-clause-takes : goal.returns-in-Ok-clause-takes
unfolding Told
returns-in-Ok-clause-takes c =
    (told (reached c.args.union.now) c.args.fact (reached c.take.new.self) (Ok c.in-Ok.field-0) c.in-Ok.ensures.takes).0

pub returns-in-Err-clause-refused : goal.returns-in-Err-clause-refused
unfolding Told
returns-in-Err-clause-refused c = search rules
