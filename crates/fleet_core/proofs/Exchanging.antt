-- Asking, answering and absorbing are answered as a node does that has the facts which the segment means.
use Rattle.std.proofs.Common.{◌≡◌, ℕ, ◌+◌, ◌⊎◌, inl, inr, ⊎_elim, List, [], ◌∷◌, ◌++◌, length, refl}
use Rattle.std.proofs.Common.{sym, ap, subst, Option, Some, None, Result, Ok, Err}
use Rattle.std.specs.Prelude.{MatchOption}
use Rattle.redo_core.specs.Sound.{IsSound}
use Rattle.redo_core.specs.declared.facts.Fact.{Fact}
use Rattle.log_theorems.proofs.Log.{log_of_sound}
use Rattle.messages.specs.Summaries.{SummaryData}
use Rattle.messages.specs.Deltas.{DeltaData}
use Rattle.segment_theorems.specs.State.{State}
use Rattle.segment_theorems.specs.Means.{Means}
use Rattle.segment_theorems.proofs.Same.{meaning_law}
use Rattle.segment_core.specs.declared.answers.ReadFault.{ReadFault}
use Rattle.segment_core.specs.declared.answers.ReadFault.TheVariants as fault
use Rattle.segment_core.specs.declared.answers.Refusal.TheVariants as refusal
use Rattle.gossip_core.specs.Calls.{SumsUp, RepliesTo, AbsorbsDelta}
use Rattle.gossip_core.specs.declared.absorbing.AbsorbRefusal.{AbsorbRefusal}
use Rattle.gossip_core.specs.declared.absorbing.AbsorbRefusal.TheVariants.{Refused as RefusedFor, Uncovered as UncoveredBy}
use Rattle.gossip_core.specs.declared.answering.Shown.{Shown}
use Rattle.script_steps.specs.declared.steps.Step.{Step}
use Rattle.script_steps.specs.declared.steps.Step.TheVariants as step
use Rattle.fleet_core.specs.declared.replies.Reply.{Reply}
use Rattle.fleet_core.specs.declared.replies.Reply.TheVariants.{Message as MessageIs, Absorbed, Uncovered, NoMessage, Memory}
use Rattle.fleet_core.specs.declared.making.Made.{Made}
use Rattle.fleet_core.specs.declared.making.Made.TheVariants.{Question, Answer}
use Rattle.fleet_core.specs.Machine.{Message, asked_in, answered_in, answers_to, brought_by, facts_after, messages_after}
use Rattle.fleet_core.specs.Machine.Message.{Asked, Answered}
use Rattle.fleet_core.specs.Replies.{RepliesAbsorb, NodeReplies}
use Rattle.fleet_core.specs.Replies.{RepliesNumber}
use Rattle.fleet_core.specs.Replying.{fault_reply, refusal_reply, absorbed_reply}
use Rattle.fleet_core.specs.Messages.{question_in, answer_in, AsksWith, AnswersWith, IsMade, AreMade}
use Rattle.fleet_core.specs.MessageCalls.{Makes, Asks, MakesAnswer, AnswersQuestion, AnswersNumber, AbsorbsAnswer, AbsorbsNumber}
use Rattle.fleet_core.specs.AtNode.{NodeFollows}
use Rattle.fleet_core.proofs.Places.{zip_count}
use Rattle.fleet_core.proofs.Numbering.{both_there, still_asked, made_more, AnswersBoth, questions_alike, answers_alike}
use Rattle.fleet_core.proofs.Uncovering.{leaves_uncovered, answers_meaning}

-- a segment means the facts, and the kept messages are of the machine's
pub record Stands (roster : ℕ) (log facts : List Fact) (messages : List Message) (s : State) (made : List Made) : Type 0 where
  pub sound : IsSound roster log
  pub means : Means roster log facts s
  pub are : AreMade roster log messages made

-- a step was replied as the machine does, and what is stored then means its next state
abbrev pub Follows : ℕ → List Fact → List Fact → List Fact → List Message → Step Fact → Reply → State → List Made → Type 0
Follows roster log facts others messages step reply new later =
    NodeReplies roster facts others messages step reply × Means roster log (facts_after facts others messages step reply) new
    × AreMade roster log (messages_after messages facts step reply) later

-- ---- asking

sums_up : {roster : ℕ} {log facts : List Fact} {messages : List Message} {s : State} {made : List Made} → Stands roster log facts messages s made
    → (summary : SummaryData) → SumsUp s summary → AsksWith roster log facts summary
sums_up {roster} {log} {facts} {messages} {s} h summary sums = record {
  part = h.means.1.part;
  tells = λ m is. sums.meaning m ((meaning_law log facts s m (log_of_sound roster log h.sound) h.means).1 is);
}

-- the number of a new message is the machine's
next : (roster : ℕ) (log : List Fact) (messages : List Message) (made : List Made) → AreMade roster log messages made
    → MessageIs (length made + 1) ≡ MessageIs (length messages + 1)
next roster log messages made are = ap (λ n. MessageIs (n + 1)) (sym (zip_count (IsMade roster log made) messages made are))

pub follows_ask : (readers : ℕ) (s : State) (other : Option State) (made : List Made) (node : ℕ) (reply : Reply) (later : List Made)
    → Asks s made reply later → NodeFollows readers s other made (step.Ask node) reply s later
follows_ask readers s other made node reply later asks = λ roster log facts others messages size sound t means beside are.
    let Goal : Reply → List Made → Type 0 = λ r l. Follows roster log facts others messages (step.Ask node) r s l in
    let h : Stands roster log facts messages s made = record { sound = sound; means = means; are = are } in
    let lacked : (reply ≡ Memory) × (later ≡ made) → Goal reply later =
    λ none. subst (λ r. Goal r later) (sym none.0) (subst (λ l. Goal Memory l) (sym none.1) (inl refl, means, are)) in
    ⊎_elim lacked
    (λ (some : (summary : SummaryData) × SumsUp s summary × Makes made (Question summary) reply later). ⊎_elim lacked
    (λ (one : (reply ≡ MessageIs (length made + 1)) × (later ≡ made ++ Question some.0 ∷ [])).
    subst (λ r. Goal r later) (sym one.0)
    (subst (λ l. Goal (MessageIs (length made + 1)) l) (sym one.1)
    (inr (next roster log messages made are), means, made_more roster log messages made (Asked facts) (Question some.0) are (sums_up h some.0 some.1))))
    some.2)
    asks

-- ---- answering

answered_by_result : {roster : ℕ} {log facts : List Fact} {messages : List Message} {s : State} {made : List Made} → Stands roster log facts messages s made
    → (others : List Fact) (node number : ℕ) (asked : List Fact) (summary : SummaryData) → asked_in messages number ≡ Some asked
    → question_in made number ≡ Some summary → AsksWith roster log asked summary → (answer : Result DeltaData ReadFault) → RepliesTo s summary answer
    → (reply : Reply) (later : List Made) → MakesAnswer made number answer reply later
    → Follows roster log facts others messages (step.Answer node number) reply s later
answered_by_result {roster} {log} {facts} {messages} {s} {made} h others node number asked summary there kept asks (Ok delta) replies reply later makes =
    let Goal : Reply → List Made → Type 0 = λ r l. Follows roster log facts others messages (step.Answer node number) r s l in
    let told : (r : Reply) → RepliesNumber messages r → MatchOption (asked_in messages number) (r ≡ NoMessage number) (λ asked. RepliesNumber messages r) =
    λ r is. subst (λ o. MatchOption o (r ≡ NoMessage number) (λ asked. RepliesNumber messages r)) (sym there) is in
    let with : AnswersWith roster log facts summary delta = record {
      part = h.means.1.part;
      p = h.means.0;
      position = h.means.1.position;
      fills = replies.fills roster log facts h.means.0 h.sound h.means.1;
    } in
    ⊎_elim
    (λ (none : (reply ≡ Memory) × (later ≡ made)).
    subst (λ r. Goal r later) (sym none.0) (subst (λ l. Goal Memory l) (sym none.1) (told Memory (inl refl), h.means, h.are)))
    (λ (one : (reply ≡ MessageIs (length made + 1)) × (later ≡ made ++ Answer number delta ∷ [])).
    let more : AreMade roster log (messages ++ Answered asked facts ∷ []) (made ++ Answer number delta ∷ []) =
    made_more roster log messages made (Answered asked facts) (Answer number delta) h.are
    (summary, still_asked made (Answer number delta ∷ []) number summary kept, asks, with) in
    subst (λ r. Goal r later) (sym one.0)
    (subst (λ l. Goal (MessageIs (length made + 1)) l) (sym one.1) (
      told (MessageIs (length made + 1)) (inr (next roster log messages made h.are)),
      h.means,
      subst (λ o. AreMade roster log (messages ++ answers_to o facts) (made ++ Answer number delta ∷ [])) (sym there) more,
    )))
    makes
answered_by_result {roster} {log} {facts} {messages} {s} {made} h others node number asked summary there kept asks (Err why) replies reply later makes =
    let Goal : Reply → List Made → Type 0 = λ r l. Follows roster log facts others messages (step.Answer node number) r s l in
    let e : why ≡ fault.Memory = replies.sound (roster, log, facts, h.sound, h.means) in
    let is : reply ≡ Memory = subst (λ w. reply ≡ fault_reply w) e makes.0 in
    let told : MatchOption (asked_in messages number) (Memory ≡ NoMessage number) (λ asked. RepliesNumber messages Memory) =
    subst (λ o. MatchOption o (Memory ≡ NoMessage number) (λ asked. RepliesNumber messages Memory)) (sym there) (inl refl) in
    subst (λ r. Goal r later) (sym is) (subst (λ l. Goal Memory l) (sym makes.1) (told, h.means, h.are))

pub follows_answer : (readers : ℕ) (s : State) (other : Option State) (made : List Made) (node number : ℕ) (reply : Reply) (later : List Made)
    → AnswersNumber s made number reply later → NodeFollows readers s other made (step.Answer node number) reply s later
follows_answer readers s other made node number reply later calls = λ roster log facts others messages size sound t means beside are.
    let Goal : Reply → List Made → Type 0 = λ r l. Follows roster log facts others messages (step.Answer node number) r s l in
    let Called : Option SummaryData → Type 0 = λ o. MatchOption o ((reply ≡ NoMessage number) × (later ≡ made))
    (λ summary. AnswersQuestion s made number summary reply later) in
    let h : Stands roster log facts messages s made = record { sound = sound; means = means; are = are } in
    ⊎_elim
    (λ (none : (asked_in messages number ≡ None) × (question_in made number ≡ None)).
    let call : (reply ≡ NoMessage number) × (later ≡ made) = subst Called none.1 calls in
    let told : MatchOption (asked_in messages number) (NoMessage number ≡ NoMessage number) (λ asked. RepliesNumber messages (NoMessage number)) =
    subst (λ o. MatchOption o (NoMessage number ≡ NoMessage number) (λ asked. RepliesNumber messages (NoMessage number))) (sym none.0) refl in
    subst (λ r. Goal r later) (sym call.0) (subst (λ l. Goal (NoMessage number) l) (sym call.1) (told, means, are)))
    (λ (some : (asked : List Fact) × (summary : SummaryData) × (asked_in messages number ≡ Some asked) × (question_in made number ≡ Some summary)
    × AsksWith roster log asked summary).
    let call : AnswersQuestion s made number some.1 reply later = subst Called some.3 calls in
    answered_by_result h others node number some.0 some.1 some.2 some.3 some.4 call.answer call.replies reply later call.makes)
    (both_there (AsksWith roster log) (asked_in messages number) (question_in made number) (questions_alike roster log messages made number are))

-- ---- absorbing

absorbed_by_result : {roster : ℕ} {log facts : List Fact} {messages : List Message} {old : State} {made : List Made}
    → Stands roster log facts messages old made → (others : List Fact) (node number : ℕ) (x : List Fact × List Fact) (y : SummaryData × DeltaData)
    → answered_in messages number ≡ Some x → AnswersBoth roster log x y → (answer : Result (Unit {0}) AbsorbRefusal) (new : State)
    → AbsorbsDelta old y.0 y.1 answer new → (reply : Reply) → reply ≡ absorbed_reply answer
    → Follows roster log facts others messages (step.Absorb node number) reply new made
absorbed_by_result {roster} {log} {facts} {messages} {old} {made} h others node number x y there both (Ok done) new call reply is =
    let p = h.means.0 in
    let above = call.answers in
    let tells : RepliesAbsorb roster facts x.0 Absorbed = record {
      p = p;
      position = h.means.1.position;
      tells = λ m means. inl (refl, answers_meaning roster log facts p old h.sound h.means.1 above.0 above.1 m y.0 (both.0.tells m means) above.2);
    } in
    let union : Means roster log (facts ++ x.1) new = call.means roster log facts x.1 p both.1.p (record {
      sound = h.sound;
      means = h.means.1;
      part = both.1.part;
      position = both.1.position;
      fills = both.1.fills;
    }) in
    subst (λ r. Follows roster log facts others messages (step.Absorb node number) r new made) (sym is) (
      subst (λ o. MatchOption o (Absorbed ≡ NoMessage number) (λ a. (Absorbed ≡ Memory) ⊎ RepliesAbsorb roster facts a.0 Absorbed)) (sym there) (inr tells),
      subst (λ o. Means roster log (facts ++ brought_by o) new) (sym there) union,
      h.are,
    )
absorbed_by_result {roster} {log} {facts} {messages} {old} {made} h others node number x y there both (Err (UncoveredBy shown)) new call reply is =
    let p = h.means.0 in
    let above = call.refused.1 in
    let tells : RepliesAbsorb roster facts x.0 (Uncovered shown) = record {
      p = p;
      position = h.means.1.position;
      tells = λ m means.
          inr (shown, refl, leaves_uncovered roster log facts p old h.sound h.means.1 above.0 above.1 m y.0 shown (both.0.tells m means) above.2);
    } in
    let told : Reply = Uncovered shown in
    subst (λ r. Follows roster log facts others messages (step.Absorb node number) r new made) (sym is) (
      subst (λ o. MatchOption o (told ≡ NoMessage number) (λ a. (told ≡ Memory) ⊎ RepliesAbsorb roster facts a.0 told)) (sym there) (inr tells),
      subst (λ s. Means roster log facts s) (sym call.unchanged) h.means,
      h.are,
    )
absorbed_by_result {roster} {log} {facts} {messages} {old} {made} h others node number x y there both (Err (RefusedFor why)) new call reply is =
    let one = call.sound (
      roster,
      log,
      facts,
      x.1,
      h.means.0,
      both.1.p,
      record {
        sound = h.sound;
        means = h.means.1;
        part = both.1.part;
        position = both.1.position;
        fills = both.1.fills;
      },
    ) in
    let e : why ≡ refusal.Memory = ⊎_elim
    (λ (same : RefusedFor why ≡ RefusedFor refusal.Memory). cc)
    (λ (shown : (shown : Shown) × (RefusedFor why ≡ UncoveredBy shown)). let never = shown.1 in absurd (cc))
    one in
    let lacked : reply ≡ Memory = subst (λ w. reply ≡ refusal_reply w) e is in
    subst (λ r. Follows roster log facts others messages (step.Absorb node number) r new made) (sym lacked) (
      subst (λ o. MatchOption o (Memory ≡ NoMessage number) (λ a. (Memory ≡ Memory) ⊎ RepliesAbsorb roster facts a.0 Memory)) (sym there) (inl refl),
      subst (λ s. Means roster log facts s) (sym call.unchanged) h.means,
      h.are,
    )

pub follows_absorb : (readers : ℕ) (old : State) (other : Option State) (made : List Made) (node number : ℕ) (reply : Reply) (new : State)
    → AbsorbsNumber old made number reply new → NodeFollows readers old other made (step.Absorb node number) reply new made
follows_absorb readers old other made node number reply new calls = λ roster log facts others messages size sound t means beside are.
    let Goal : Reply → State → Type 0 = λ r s. Follows roster log facts others messages (step.Absorb node number) r s made in
    let Called : Option (SummaryData × DeltaData) → Type 0 = λ o. MatchOption o ((reply ≡ NoMessage number) × (new ≡ old))
    (λ x. AbsorbsAnswer old x.0 x.1 reply new) in
    let h : Stands roster log facts messages old made = record { sound = sound; means = means; are = are } in
    let told : Reply = NoMessage number in
    ⊎_elim
    (λ (none : (answered_in messages number ≡ None) × (answer_in made number ≡ None)).
    let call : (reply ≡ NoMessage number) × (new ≡ old) = subst Called none.1 calls in
    subst (λ r. Goal r new) (sym call.0)
    (subst (λ s. Goal told s) (sym call.1) (
      subst (λ o. MatchOption o (told ≡ NoMessage number) (λ a. (told ≡ Memory) ⊎ RepliesAbsorb roster facts a.0 told)) (sym none.0) refl,
      means,
      are,
    )))
    (λ (some : (x : List Fact × List Fact) × (y : SummaryData × DeltaData) × (answered_in messages number ≡ Some x) × (answer_in made number ≡ Some y)
    × AnswersBoth roster log x y).
    let call : AbsorbsAnswer old some.1.0 some.1.1 reply new = subst Called some.3 calls in
    absorbed_by_result h others node number some.0 some.1 some.2 some.4 call.answer new call.absorbs reply call.told)
    (both_there (AnswersBoth roster log) (answered_in messages number) (answer_in made number) (answers_alike roster log messages made number are))
