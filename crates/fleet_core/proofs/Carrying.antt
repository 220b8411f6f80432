-- A step that was carried out at its node, from what the node's call ensures.
use Rattle.std.proofs.Common.{◌≡◌, ℕ, ⊎_elim, ◌↔◌, List, refl, sym, subst, Option, Some, None, Result, OnErr, rules}
use Rattle.std.specs.Prelude.{MatchOption}
use Rattle.redo_core.specs.declared.facts.Fact.{Fact}
use Rattle.messages.specs.Summaries.{SummaryData}
use Rattle.messages.specs.Deltas.{DeltaData}
use Rattle.segment_theorems.specs.State.{State}
use Rattle.redo_core.specs.declared.refusal.Refused.{Refused}
use Rattle.segment_core.specs.declared.answers.Taken.{Taken}
use Rattle.segment_core.specs.declared.answers.ReadFault.{ReadFault}
use Rattle.segment_core.specs.declared.answers.Refusal.{Refusal}
use Rattle.gossip_core.specs.Calls.{SumsUp, AbsorbsDelta}
use Rattle.gossip_core.specs.declared.absorbing.AbsorbRefusal.{AbsorbRefusal}
use Rattle.script_steps.specs.declared.steps.Step.{Step}
use Rattle.script_steps.specs.declared.steps.Step.TheVariants as step
use Rattle.fleet_core.specs.declared.replies.Reply.{Reply}
use Rattle.fleet_core.specs.declared.replies.Reply.TheVariants.{NoNode, NoMessage, Memory}
use Rattle.fleet_core.specs.declared.making.Made.{Made}
use Rattle.fleet_core.specs.declared.making.Made.TheVariants.{Question}
use Rattle.fleet_core.specs.Machine.{Message, messages_after}
use Rattle.fleet_core.specs.Messages.{question_in, answer_in, lacking, missing_message, AreMade}
use Rattle.fleet_core.specs.Refused.{IsRefusal}
use Rattle.fleet_core.specs.Replying.{taken_reply, read_reply, absorbed_reply}
use Rattle.fleet_core.specs.MessageCalls.{Makes, Asks, MakesAnswer, AnswersQuestion, AnswersNumber, AbsorbsAnswer, AbsorbsNumber}
use Rattle.fleet_core.specs.Calls.{Takes, NodeCalls}
use Rattle.fleet_core.specs.AtNode.{OwnFollows, IsCarriedOut}
use Rattle.fleet_core.proofs.Following.{follows_taken}
use Rattle.fleet_core.proofs.Exchanging.{follows_ask, follows_answer, follows_absorb}

-- ---- steps that speak of no message

pub own_step : (readers : ℕ) (old : State) (other : Option State) (messages : List Made) (step : Step Fact) (reply : Reply) (new : State)
    → ((told : List Message) (facts : List Fact) → messages_after told facts step reply ≡ told) → missing_message messages step ≡ None
    → OwnFollows readers old other step reply new → NodeCalls readers old other messages step reply new messages
    → ((node : ℕ) → reply ≡ NoNode node → ⊥) → ((number : ℕ) → reply ≡ NoMessage number → ⊥) → (IsRefusal reply → new ≡ old)
    → IsCarriedOut readers old other messages step reply new messages
own_step readers old other messages step reply new kept none follows calls found named refused = record {
  follows = λ roster log facts others told size sound t means beside are.
      let own = follows roster log facts others told size sound t means beside in
      (own.0, own.1, subst (λ ms. AreMade roster log ms messages) (sym (kept told facts)) are);
  calls = calls;
  found = found;
  no_message = λ number. (λ e. absurd (named number e), λ (e : missing_message messages step ≡ Some number). absurd (cc));
  refused = λ is. (refused is, refl);
}

-- ---- replies of nodes

-- it names no node or message that is not there
abbrev IsOfNode : Reply → Type 0
IsOfNode (NoNode node) = ⊥
IsOfNode (NoMessage number) = ⊥
IsOfNode reply = Unit {0}

of_read : (answer : Result (List ℕ) ReadFault) → IsOfNode (read_reply answer)
of_read answer = search rules

of_taken : (answer : Result Taken (Refused Fact Refusal)) → IsOfNode (taken_reply answer)
of_taken answer = search rules

of_absorbed : (answer : Result (Unit {0}) AbsorbRefusal) → IsOfNode (absorbed_reply answer)
of_absorbed answer = search rules

not_missing : (reply : Reply) → IsOfNode reply → (node : ℕ) → reply ≡ NoNode node → ⊥
not_missing reply of node e = subst IsOfNode e of

not_lacking : (reply : Reply) → IsOfNode reply → (number : ℕ) → reply ≡ NoMessage number → ⊥
not_lacking reply of number e = subst IsOfNode e of

pub never_no_node : (answer : Result (List ℕ) ReadFault) (reply : Reply) → reply ≡ read_reply answer → (node : ℕ) → reply ≡ NoNode node → ⊥
never_no_node answer reply told = not_missing reply (subst IsOfNode (sym told) (of_read answer))

pub never_no_message : (answer : Result (List ℕ) ReadFault) (reply : Reply) → reply ≡ read_reply answer → (number : ℕ) → reply ≡ NoMessage number → ⊥
never_no_message answer reply told = not_lacking reply (subst IsOfNode (sym told) (of_read answer))

of_told : (reply told : Reply) → reply ≡ told → IsOfNode told → IsOfNode reply
of_told reply told e of = subst IsOfNode (sym e) of

-- ---- taking

-- a fact that the segment refuses leaves it as it was
left_by_take : (old new : State) (answer : Result Taken (Refused Fact Refusal)) → OnErr answer (new ≡ old) → IsRefusal (taken_reply answer) → new ≡ old
left_by_take old new answer same is = search rules

pub take_step : (readers : ℕ) (old : State) (other : Option State) (messages : List Made) (node : ℕ) (fact : Fact) (reply : Reply) (new : State)
    → Takes old fact reply new → IsCarriedOut readers old other messages (step.Take node fact) reply new messages
take_step readers old other messages node fact reply new takes =
    let of = of_told reply (taken_reply takes.0) takes.2 (of_taken takes.0) in
    own_step readers old other messages (step.Take node fact) reply new (λ told facts. refl) refl (follows_taken readers other old new node fact reply takes)
    (takes, refl) (not_missing reply of) (not_lacking reply of) (λ is. left_by_take old new takes.0 takes.1.unchanged (subst IsRefusal takes.2 is))

of_made : (messages : List Made) (message : Made) (reply : Reply) (made : List Made) → Makes messages message reply made → IsOfNode reply
of_made messages message reply made makes = search rules

-- no message is made where the step is refused
none_made : (messages : List Made) (message : Made) (reply : Reply) (made : List Made) → Makes messages message reply made → IsRefusal reply
    → made ≡ messages
none_made messages message reply made makes is = search rules

of_answer : (messages : List Made) (number : ℕ) (answer : Result DeltaData ReadFault) (reply : Reply) (made : List Made)
    → MakesAnswer messages number answer reply made → IsOfNode reply
of_answer messages number answer reply made makes = search rules

none_answered : (messages : List Made) (number : ℕ) (answer : Result DeltaData ReadFault) (reply : Reply) (made : List Made)
    → MakesAnswer messages number answer reply made → IsRefusal reply → made ≡ messages
none_answered messages number answer reply made makes is = search rules

none_absorbed : (old : State) (x : SummaryData × DeltaData) (answer : Result (Unit {0}) AbsorbRefusal) (new : State) → AbsorbsDelta old x.0 x.1 answer new
    → (reply : Reply) → reply ≡ absorbed_reply answer → IsRefusal reply → new ≡ old
none_absorbed old x answer new absorbs reply told is = search rules

-- ---- steps that do

pub ask_step : (readers : ℕ) (s : State) (other : Option State) (messages : List Made) (node : ℕ) (reply : Reply) (made : List Made)
    → Asks s messages reply made → IsCarriedOut readers s other messages (step.Ask node) reply s made
ask_step readers s other messages node reply made asks =
    let of : IsOfNode reply = ⊎_elim
    (λ (none : (reply ≡ Memory) × (made ≡ messages)). of_told reply Memory none.0 tt)
    (λ (some : (summary : SummaryData) × SumsUp s summary × Makes messages (Question summary) reply made).
    of_made messages (Question some.0) reply made some.2)
    asks in
    record {
      follows = follows_ask readers s other messages node reply made asks;
      calls = (asks, refl);
      found = not_missing reply of;
      no_message = λ number. (λ e. absurd (not_lacking reply of number e), λ (e : None ≡ Some number). absurd (cc));
      refused = λ is. (
        refl,
        ⊎_elim
            (λ (none : (reply ≡ Memory) × (made ≡ messages)). none.1)
            (λ (some : (summary : SummaryData) × SumsUp s summary × Makes messages (Question summary) reply made).
            none_made messages (Question some.0) reply made some.2 is)
            asks,
      );
    }

-- of two answers the one is that there is nothing of the number
lacks : {A : Type 0} (o : Option A) (number : ℕ) (reply : Reply) → o ≡ None → reply ≡ NoMessage number → (n : ℕ)
    → (reply ≡ NoMessage n) ↔ (lacking o number ≡ Some n)
lacks o number reply none told n = search rules

-- and the other is of the node
lacks_none : {A : Type 0} (o : Option A) (x : A) (number : ℕ) (reply : Reply) → o ≡ Some x → IsOfNode reply → (n : ℕ)
    → (reply ≡ NoMessage n) ↔ (lacking o number ≡ Some n)
lacks_none o x number reply some of n = search rules

answer_by : (readers : ℕ) (s : State) (other : Option State) (messages : List Made) (node number : ℕ) (reply : Reply) (made : List Made)
    → AnswersNumber s messages number reply made → (o : Option SummaryData) → question_in messages number ≡ o
    → IsCarriedOut readers s other messages (step.Answer node number) reply s made
answer_by readers s other messages node number reply made calls None is =
    let call : (reply ≡ NoMessage number) × (made ≡ messages) =
    subst (λ o. MatchOption o ((reply ≡ NoMessage number) × (made ≡ messages)) (λ x. AnswersQuestion s messages number x reply made)) is calls in
    record {
      follows = follows_answer readers s other messages node number reply made calls;
      calls = (calls, refl);
      found = λ i e. absurd (let told : reply ≡ NoMessage number = call.0 in
          cc);
      no_message = lacks (question_in messages number) number reply is call.0;
      refused = λ none. (refl, call.1);
    }
answer_by readers s other messages node number reply made calls (Some summary) is =
    let call : AnswersQuestion s messages number summary reply made =
    subst (λ o. MatchOption o ((reply ≡ NoMessage number) × (made ≡ messages)) (λ x. AnswersQuestion s messages number x reply made)) is calls in
    let of : IsOfNode reply = of_answer messages number call.answer reply made call.makes in
    record {
      follows = follows_answer readers s other messages node number reply made calls;
      calls = (calls, refl);
      found = not_missing reply of;
      no_message = lacks_none (question_in messages number) summary number reply is of;
      refused = λ refusal. (refl, none_answered messages number call.answer reply made call.makes refusal);
    }

pub answer_step : (readers : ℕ) (s : State) (other : Option State) (messages : List Made) (node number : ℕ) (reply : Reply) (made : List Made)
    → AnswersNumber s messages number reply made → IsCarriedOut readers s other messages (step.Answer node number) reply s made
answer_step readers s other messages node number reply made calls =
    answer_by readers s other messages node number reply made calls (question_in messages number) refl

absorb_by : (readers : ℕ) (old : State) (other : Option State) (messages : List Made) (node number : ℕ) (reply : Reply) (new : State)
    → AbsorbsNumber old messages number reply new → (o : Option (SummaryData × DeltaData)) → answer_in messages number ≡ o
    → IsCarriedOut readers old other messages (step.Absorb node number) reply new messages
absorb_by readers old other messages node number reply new calls None is =
    let call : (reply ≡ NoMessage number) × (new ≡ old) =
    subst (λ o. MatchOption o ((reply ≡ NoMessage number) × (new ≡ old)) (λ x. AbsorbsAnswer old x.0 x.1 reply new)) is calls in
    record {
      follows = follows_absorb readers old other messages node number reply new calls;
      calls = (calls, refl);
      found = λ i e. absurd (let told : reply ≡ NoMessage number = call.0 in
          cc);
      no_message = lacks (answer_in messages number) number reply is call.0;
      refused = λ none. (call.1, refl);
    }
absorb_by readers old other messages node number reply new calls (Some x) is =
    let call : AbsorbsAnswer old x.0 x.1 reply new =
    subst (λ o. MatchOption o ((reply ≡ NoMessage number) × (new ≡ old)) (λ x. AbsorbsAnswer old x.0 x.1 reply new)) is calls in
    let of : IsOfNode reply = of_told reply (absorbed_reply call.answer) call.told (of_absorbed call.answer) in
    record {
      follows = follows_absorb readers old other messages node number reply new calls;
      calls = (calls, refl);
      found = not_missing reply of;
      no_message = lacks_none (answer_in messages number) x number reply is of;
      refused = λ refusal. (none_absorbed old x call.answer new call.absorbs reply call.told refusal, refl);
    }

pub absorb_step : (readers : ℕ) (old : State) (other : Option State) (messages : List Made) (node number : ℕ) (reply : Reply) (new : State)
    → AbsorbsNumber old messages number reply new → IsCarriedOut readers old other messages (step.Absorb node number) reply new messages
absorb_step readers old other messages node number reply new calls =
    absorb_by readers old other messages node number reply new calls (answer_in messages number) refl
