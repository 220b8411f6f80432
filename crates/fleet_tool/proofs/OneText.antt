-- An input has one output.
use Rattle.std.proofs.Common.{◌≡◌, ℕ, ◌-◌, ⊎_elim, List, [], ◌∷◌, slice_get, Some, Result, Ok, Err, refl, sym, ap, ◌∙◌, subst, replicate, zero, suc}
use Rattle.std.specs.List.{AllZip, AllByRecursion}
use Rattle.redo_core.specs.Sets.{IsPart}
use Rattle.redo_core.specs.declared.facts.Fact.{Fact}
use Rattle.redo_core.proofs.Members.{none_in}
use Rattle.script_steps.specs.declared.steps.Step.{Step}
use Rattle.script_steps.proofs.Naming.{same_one}
use Rattle.fleet_core.specs.Machine.{empty_machine}
use Rattle.fleet_core.specs.Runs.{TakesFrom, AreReplies}
use Rattle.fleet_core.specs.Laws.{IsMachineOf}
use Rattle.fleet_core.proofs.Determined.{one_run}
use Rattle.script_text.specs.Script.{ScriptData, Rostered, script_of, facts_of}
use Rattle.fleet_tool.specs.ScriptSteps.{IsStepOf}
use Rattle.fleet_tool.specs.Lines.{lines_of}
use Rattle.fleet_tool.specs.Output.{SaysBadLine, SaysUnsound, SaysReplies, SaysSound, IsRunOutput, IsCheckOutput}
use Rattle.fleet_tool.specs.OneOutput.{OneOutput}
use Rattle.fleet_tool.specs.declared.answer.Verdict.{Verdict}
use Rattle.fleet_tool.specs.declared.job.TextTask.TheVariants.{Run, Check, Inspect}
use Rattle.log_theorems.proofs.FirstFaults.{one_fault, no_fault}
use Rattle.fleet_tool.proofs.Steps.{takes_from}

one_bad_line : (at : ℕ) (text other : List ℕ) (v w : Verdict) → SaysBadLine at text v → SaysBadLine at other w → (text ≡ other) × (v ≡ w)
one_bad_line at text other v w h k = (h.0 ∙ sym k.0, h.1 ∙ sym k.1)

one_unsound : (roster : ℕ) (facts : List Fact) (text other : List ℕ) (v w : Verdict) → SaysUnsound roster facts text v → SaysUnsound roster facts other w
    → (text ≡ other) × (v ≡ w)
one_unsound roster facts text other v w h k =
    let same = one_fault roster facts h.place k.place h.law k.law h.fault k.fault in
    let place : h.place ≡ k.place = same.0 in
    let law : h.law ≡ k.law = same.1 in
    let a = h.says in let b = k.says in
    (cc, h.ends ∙ sym k.ends)

-- ---- the steps that a script asks for, and their replies

one_fact_at : (facts : List Fact) (place : ℕ) (f g : Fact) → slice_get facts (place - 1) ≡ Some f → slice_get facts (place - 1) ≡ Some g → f ≡ g
one_fact_at facts place f g h k = let e : Some f ≡ Some g = sym h ∙ k in cc

one_step : (facts : List Fact) (asked : Step ℕ) (s t : Step Fact) → IsStepOf facts asked s → IsStepOf facts asked t → s ≡ t
one_step facts asked s t h k = same_one (λ place fact. slice_get facts (place - 1) ≡ Some fact) (λ place f g p q. one_fact_at facts place f g p q) asked s t h k

one_list : (facts : List Fact) (asked : List (Step ℕ)) (ss ts : List (Step Fact)) → AllZip (IsStepOf facts) asked ss → AllZip (IsStepOf facts) asked ts
    → ss ≡ ts
one_list facts [] [] [] h k = refl
one_list facts [] [] (t ∷ ts) h k = absurd k
one_list facts [] (s ∷ ss) ts h k = absurd h
one_list facts (a ∷ rest) [] ts h k = absurd h
one_list facts (a ∷ rest) (s ∷ ss) [] h k = absurd k
one_list facts (a ∷ rest) (s ∷ ss) (t ∷ ts) h k =
    let first : s ≡ t = one_step facts a s t h.0 k.0 in
    let others : ss ≡ ts = one_list facts rest ss ts h.1 k.1 in cc

all_take : (facts : List Fact) (asked : List (Step ℕ)) (ss : List (Step Fact)) → AllZip (IsStepOf facts) asked ss → AllByRecursion (TakesFrom facts) ss
all_take facts [] [] h = tt
all_take facts [] (s ∷ ss) h = absurd h
all_take facts (a ∷ rest) [] h = absurd h
all_take facts (a ∷ rest) (s ∷ ss) h = (takes_from facts a s h.0, all_take facts rest ss h.1)

no_facts : (facts : List Fact) (nodes : ℕ) → AllByRecursion (λ fs. IsPart fs facts) (replicate nodes [])
no_facts facts zero = tt
no_facts facts (suc nodes) = (λ x i. absurd (none_in x i), no_facts facts nodes)

empty_of : (facts : List Fact) (nodes : ℕ) → IsMachineOf facts (empty_machine nodes)
empty_of facts nodes = record { nodes = no_facts facts nodes; messages = tt }

one_script : (roster : ℕ) (script : ScriptData) (text other : List ℕ) (v w : Verdict) → SaysReplies roster script text v → SaysReplies roster script other w
    → (text ≡ other) × (v ≡ w)
one_script roster script text other v w h k =
    let a = h.says in
    let b = k.says in
    let steps : b.steps ≡ a.steps = one_list script.facts script.steps b.steps a.steps b.stands_for a.stands_for in
    let answered = subst (λ ss. AreReplies roster (empty_machine script.nodes) ss b.replies) steps b.answered in
    let among = all_take script.facts script.steps a.steps a.stands_for in
    let replies : a.replies ≡ b.replies = one_run roster script.facts (empty_machine script.nodes) a.steps a.replies b.replies h.sound
    (empty_of script.facts script.nodes) among a.answered answered a.came b.came in
    (a.says ∙ ap (lines_of script.steps) replies ∙ sym b.says, h.ends ∙ sym k.ends)

one_count : (roster : ℕ) (facts : List Fact) (text other : List ℕ) (v w : Verdict) → SaysSound roster facts text v → SaysSound roster facts other w
    → (text ≡ other) × (v ≡ w)
one_count roster facts text other v w h k = (h.says ∙ sym k.says, h.ends ∙ sym k.ends)

one_of_run : (read : Result (Rostered ScriptData) ℕ) (text other : List ℕ) (v w : Verdict) → IsRunOutput read text v → IsRunOutput read other w
    → (text ≡ other) × (v ≡ w)
one_of_run (Err at) text other v w h k = one_bad_line at text other v w h k
one_of_run (Ok script) text other v w h k =
    let facts : List Fact = (script.said).facts in
    ⊎_elim
    (λ x. ⊎_elim (λ y. one_unsound script.roster facts text other v w x y) (λ y. absurd (no_fault script.roster facts x.place x.law y.sound x.fault)) k)
    (λ x. ⊎_elim (λ y. absurd (no_fault script.roster facts y.place y.law x.sound y.fault)) (λ y. one_script script.roster script.said text other v w x y) k)
    h

one_of_check : (read : Result (Rostered (List Fact)) ℕ) (text other : List ℕ) (v w : Verdict) → IsCheckOutput read text v → IsCheckOutput read other w
    → (text ≡ other) × (v ≡ w)
one_of_check (Err at) text other v w h k = one_bad_line at text other v w h k
one_of_check (Ok log) text other v w h k =
    ⊎_elim
    (λ x. ⊎_elim (λ y. one_unsound log.roster log.said text other v w x y) (λ y. absurd (no_fault log.roster log.said x.place x.law y.sound x.fault)) k)
    (λ x. ⊎_elim (λ y. absurd (no_fault log.roster log.said y.place y.law x.sound y.fault)) (λ y. one_count log.roster log.said text other v w x y) k)
    h

pub one_output : OneOutput
one_output Run input text other v w h k = one_of_run (script_of input) text other v w h k
one_output Check input text other v w h k = one_of_check (facts_of input) text other v w h k
one_output Inspect input text other v w h k = (h.0 ∙ sym k.0, h.1 ∙ sym k.1)
