-- A fleet's answers to the steps of a script.
use Rattle.std.proofs.Common.{◌≡◌, ℕ, ◌+◌, ◌-◌, ◌<◌, List, [], ◌∷◌, ◌++◌, length, drop, get_or, Some, Result, Ok, Err, refl, ap, sym, ◌∙◌, subst, add-one, append_assoc}
use Rattle.std.specs.Prelude.{OnOk}
use Rattle.std.specs.List.{Contains, slice_get}
use Rattle.std.proofs.Math.Seq.{drop-cons}
use Rattle.redo_core.specs.declared.facts.Fact.{Fact}
use Rattle.script_steps.specs.declared.steps.Step.{Step}
use Rattle.script_steps.proofs.Naming.{same_named}
use Rattle.fleet_core.specs.FleetState.{FleetState}
use Rattle.fleet_core.specs.Machine.{after}
use Rattle.fleet_core.specs.Replies.{HasCome}
use Rattle.fleet_core.specs.Runs.{TakesFrom, FollowsStep}
use Rattle.fleet_core.specs.declared.replies.Reply.{Reply}
use Rattle.fleet_tool.specs.Lines.{line_of}
use Rattle.fleet_tool.specs.ScriptSteps.{IsStepOf, AnswersSteps, AnswersStep}
use Rattle.redo_core.proofs.ByPlace.{contains_at}

-- the fact of a step is the script's
pub takes_from : (facts : List Fact) (asked : Step ℕ) (step : Step Fact) → IsStepOf facts asked step → TakesFrom facts step
takes_from facts asked step h = same_named (λ place fact. slice_get facts (place - 1) ≡ Some fact) (Contains facts)
    (λ place fact at. contains_at facts (place - 1) fact at) asked step h

-- one step
pub answers_first : (old new : FleetState) (facts : List Fact) (asked : Step ℕ) (step : Step Fact) (reply : Reply) → IsStepOf facts asked step
    → FollowsStep old step reply new → HasCome reply → AnswersStep old facts asked (line_of asked reply) new
answers_first old new facts asked step reply stands follows come = λ others rest later roster m sound means.
    let f = follows roster facts m sound (takes_from facts asked step stands) means in
    let more = later roster (after m step reply) sound f.1 in
    record {
      steps = step ∷ more.steps;
      replies = reply ∷ more.replies;
      stands_for = (stands, more.stands_for);
      answered = (f.0, more.answered);
      came = (come, more.came);
      says = ap (λ (t : List ℕ). line_of asked reply ++ t) more.says;
    }

-- no step is left
pub none_left : (fleet : FleetState) (facts : List Fact) → AnswersSteps fleet facts [] []
none_left fleet facts = λ roster m sound means. record { steps = []; replies = []; stands_for = tt; answered = tt; came = tt; says = refl }

-- one step more of a loop over the steps
pub answered_more : (start old new : FleetState) (facts : List Fact) (steps : List (Step ℕ)) (i : ℕ) (d : Step ℕ) (text longer line : List ℕ) → i < length steps
    → longer ≡ text ++ line
    → AnswersStep old facts (get_or steps i d) line new → ((rest : List ℕ) → AnswersSteps old facts (drop i steps) rest → AnswersSteps start facts steps (text ++ rest))
    → (rest : List ℕ) → AnswersSteps new facts (drop (i + 1) steps) rest → AnswersSteps start facts steps (longer ++ rest)
answered_more start old new facts steps i d text longer line lt more first so_far = λ rest later.
    let left : get_or steps i d ∷ drop (i + 1) steps ≡ drop i steps = sym
    (drop-cons steps i d lt ∙ ap (λ (k : ℕ). get_or steps i d ∷ drop k steps) (sym (add-one i))) in
    let both = first (drop (i + 1) steps) rest later in
    let whole = so_far (line ++ rest) (subst (λ (ss : List (Step ℕ)). AnswersSteps old facts ss (line ++ rest)) left both) in
    let joined : text ++ (line ++ rest) ≡ longer ++ rest = sym (append_assoc text line rest) ∙ ap (λ (t : List ℕ). t ++ rest) (sym more) in
    subst (AnswersSteps start facts steps) joined whole

-- a line that was appended, of a reply that came
pub pushed : {E : Type 0} (r : Result (Unit {0}) E) (Came : Type 0) (old new line : List ℕ) (P : List ℕ → Type 0) → OnOk r (new ≡ old ++ line) → OnOk r Came → (Came → P line)
    → OnOk r ((x : List ℕ) × (new ≡ old ++ x) × P x)
pushed (Ok u) Came old new line P e came h = (line, e, h came)
pushed (Err x) Came old new line P e came h = tt
