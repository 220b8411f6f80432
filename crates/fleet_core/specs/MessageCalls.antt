-- What the steps with messages do over any facts: each reply, and each message, is that of the segment's call.
use Rattle.std.specs.Prelude.{◌≡◌, ℕ, ◌+◌, ◌⊎◌, List, [], ◌∷◌, ◌++◌, length, Result, Ok, Err, MatchOption}
use Rattle.messages.specs.Summaries.{SummaryData}
use Rattle.messages.specs.Deltas.{DeltaData}
use Rattle.segment_theorems.specs.State.{State}
use Rattle.segment_core.specs.declared.answers.ReadFault.{ReadFault}
use Rattle.gossip_core.specs.Calls.{SumsUp, RepliesTo, AbsorbsDelta}
use Rattle.gossip_core.specs.declared.absorbing.AbsorbRefusal.{AbsorbRefusal}
use Rattle.fleet_core.specs.declared.replies.Reply.{Reply}
use Rattle.fleet_core.specs.declared.replies.Reply.TheVariants.{Message as MessageIs, NoMessage, Memory}
use Rattle.fleet_core.specs.declared.making.Made.{Made}
use Rattle.fleet_core.specs.declared.making.Made.TheVariants.{Question, Answer}
use Rattle.fleet_core.specs.Messages.{question_in, answer_in}
use Rattle.fleet_core.specs.Replying.{fault_reply, absorbed_reply}

-- there is a message more, and the reply is its number; or there was no memory, and no message is made
abbrev pub Makes : List Made → Made → Reply → List Made → Type 0
Makes messages message reply made =
    ((reply ≡ Memory) × (made ≡ messages)) ⊎ ((reply ≡ MessageIs (length messages + 1)) × (made ≡ messages ++ message ∷ []))

-- ---- asking
-- the summary is made a message
abbrev pub Asks : State → List Made → Reply → List Made → Type 0
Asks s messages reply made =
    ((reply ≡ Memory) × (made ≡ messages)) ⊎ ((summary : SummaryData) × SumsUp s summary × Makes messages (Question summary) reply made)

-- ---- answering
-- the delta is made a message, which names the question
abbrev pub MakesAnswer : List Made → ℕ → Result DeltaData ReadFault → Reply → List Made → Type 0
MakesAnswer messages number (Ok delta) reply made = Makes messages (Answer number delta) reply made
MakesAnswer messages number (Err why) reply made = (reply ≡ fault_reply why) × (made ≡ messages)

pub record AnswersQuestion (s : State) (messages : List Made) (number : ℕ) (summary : SummaryData) (reply : Reply) (made : List Made) : Type 0 where
  pub answer : Result DeltaData ReadFault
  pub replies : RepliesTo s summary answer
  pub makes : MakesAnswer messages number answer reply made

-- the question of a number is answered, where there is one
abbrev pub AnswersNumber : State → List Made → ℕ → Reply → List Made → Type 0
AnswersNumber s messages number reply made =
    MatchOption (question_in messages number) ((reply ≡ NoMessage number) × (made ≡ messages))
    (λ summary. AnswersQuestion s messages number summary reply made)

-- ---- absorbing
-- the answer is absorbed, and what the segment answers is replied
pub record AbsorbsAnswer (old : State) (summary : SummaryData) (delta : DeltaData) (reply : Reply) (new : State) : Type 0 where
  pub answer : Result (Unit {0}) AbsorbRefusal
  pub absorbs : AbsorbsDelta old summary delta answer new
  pub told : reply ≡ absorbed_reply answer

-- the answer of a number is absorbed, where there is one
abbrev pub AbsorbsNumber : State → List Made → ℕ → Reply → State → Type 0
AbsorbsNumber old messages number reply new =
    MatchOption (answer_in messages number) ((reply ≡ NoMessage number) × (new ≡ old)) (λ x. AbsorbsAnswer old x.0 x.1 reply new)
