-- What the fleet machine replies: it is read off the sets of facts alone.
use Rattle.std.specs.Prelude.{◌≡◌, ℕ, ◌+◌, ◌<◌, ◌≤◌, ◌⊎◌, ◌↔◌, Bool, IsTrue, List, [], ◌∷◌, ◌++◌, map, length, MatchOption}
use Rattle.std.specs.List.{Contains}
use Rattle.redo_core.specs.Order.{IsFirst}
use Rattle.redo_core.specs.Keys.{key_of, KeyBefore}
use Rattle.redo_core.specs.declared.keys.Key.{Key}
use Rattle.redo_core.specs.Position.{Position, IsPosition}
use Rattle.redo_core.specs.Answer.{ReadAnswer, IsReadAnswer}
use Rattle.redo_core.specs.Answer.ReadAnswer.{Image as OfImage, Below as OfBelow, Above as OfAbove}
use Rattle.redo_core.specs.Meaning.{Meaning, IsMeaning}
use Rattle.redo_core.specs.declared.facts.Fact.{Fact}
use Rattle.log_theorems.specs.OrderOfMeanings.{Covers}
use Rattle.segment_theorems.specs.Gossip.{Listing, IsAccounted, AnswersFor}
use Rattle.segment_core.specs.Reading.{IsFrontAt}
use Rattle.segment_core.specs.declared.answers.Front.{Front}
use Rattle.gossip_core.specs.declared.answering.Shown.{Shown}
use Rattle.gossip_core.specs.declared.answering.Shown.TheVariants.{Anchor as OfAnchor, Key as OfKey}
use Rattle.script_steps.specs.Nodes.{node_of, other_of, nodes_of, first_missing}
use Rattle.script_steps.specs.declared.steps.Step.{Step}
use Rattle.script_steps.specs.declared.steps.Step.TheVariants as step
use Rattle.fleet_core.specs.declared.replies.Reply.{Reply}
use Rattle.fleet_core.specs.declared.replies.Reply.TheVariants.{Changed, Unchanged, Folded, Discarded, Front as FrontIs, Page, Below}
use Rattle.fleet_core.specs.declared.replies.Reply.TheVariants.{Above, Joined, Answer, Wiped, NoNode, Memory}
use Rattle.fleet_core.specs.declared.replies.Reply.TheVariants.{Message as MessageIs, Absorbed, Uncovered, NoMessage}
use Rattle.fleet_core.specs.Machine.{Message, Machine, node_facts, asked_in, answered_in}

-- the facts, and the facts with one more, have one meaning
abbrev pub HasOneMeaningWith : ℕ → List Fact → Fact → Type 0
HasOneMeaningWith roster facts fact = (m : Meaning) → IsMeaning roster facts m → IsMeaning roster (facts ++ fact ∷ []) m

-- they have two
abbrev pub HasOtherMeaningWith : ℕ → List Fact → Fact → Type 0
HasOtherMeaningWith roster facts fact = (m : Meaning) → IsMeaning roster facts m → IsMeaning roster (facts ++ fact ∷ []) m → ⊥

-- whether a fact changed what the facts mean
abbrev pub RepliesTake : ℕ → List Fact → Fact → Reply → Type 0
RepliesTake roster facts fact reply =
    ((reply ≡ Changed) × HasOtherMeaningWith roster facts fact) ⊎ ((reply ≡ Unchanged) × HasOneMeaningWith roster facts fact)

-- the front of the facts
pub record RepliesFront (roster : ℕ) (facts : List Fact) (reply : Reply) : Type 0 where
  pub p : Position
  pub position : IsPosition roster facts p
  pub front : Front
  pub tells : IsFrontAt p front
  pub is : reply ≡ FrontIs front

-- how the answer to a read is replied
abbrev pub reply_of : ReadAnswer → Reply
reply_of (OfImage image) = Page image
reply_of (OfBelow min) = Below min
reply_of (OfAbove complete) = Above complete

-- the page of the facts at a read point, or why it is not admissible
pub record RepliesRead (roster : ℕ) (facts : List Fact) (page point : ℕ) (reply : Reply) : Type 0 where
  pub p : Position
  pub position : IsPosition roster facts p
  pub answer : ReadAnswer
  pub tells : IsReadAnswer facts p page point answer
  pub is : reply ≡ reply_of answer

-- whether the facts and the others have one meaning
pub record RepliesSame (roster : ℕ) (facts others : List Fact) (reply : Reply) : Type 0 where
  pub answer : Bool
  pub tells : (x y : Meaning) → IsMeaning roster facts x → IsMeaning roster others y → IsTrue answer ↔ (x ≡ y)
  pub is : reply ≡ Answer answer

-- whether the meaning of the facts covers that of the others
pub record RepliesCovers (roster : ℕ) (facts others : List Fact) (reply : Reply) : Type 0 where
  pub answer : Bool
  pub tells : (y x : Meaning) → IsMeaning roster facts y → IsMeaning roster others x → IsTrue answer ↔ Covers y x
  pub is : reply ≡ Answer answer

-- the keys of the records that a meaning keeps
abbrev pub keys_of : Meaning → List Key
keys_of m = map key_of m.kept

-- the summary of a meaning
abbrev pub summary_of_meaning : Meaning → Listing
summary_of_meaning m = record { anchor = m.anchor; keys = keys_of m }

-- the summary has a key that facts at position p do not account for
abbrev pub LacksKey : List Fact → Position → Meaning → Key → Type 0
LacksKey facts p m key = Contains (keys_of m) key × (IsAccounted facts p key → ⊥)

-- what of the summary they do not answer for: its anchor where that is above theirs, else the least such key
abbrev pub LeavesUncovered : List Fact → Position → Meaning → Shown → Type 0
LeavesUncovered facts p m (OfAnchor shown) = (shown ≡ m.anchor) × (p.anchor < m.anchor)
LeavesUncovered facts p m (OfKey key) = (m.anchor ≤ p.anchor) × IsFirst KeyBefore (LacksKey facts p m) key

-- whether the facts answer for the summary of the asked facts, which is that of their meaning
pub record RepliesAbsorb (roster : ℕ) (facts asked : List Fact) (reply : Reply) : Type 0 where
  pub p : Position
  pub position : IsPosition roster facts p
  pub tells : (m : Meaning) → IsMeaning roster asked m
      → ((reply ≡ Absorbed) × AnswersFor facts p (summary_of_meaning m)) ⊎ ((shown : Shown) × (reply ≡ Uncovered shown) × LeavesUncovered facts p m shown)

-- a new message has the next number
abbrev pub RepliesNumber : List Message → Reply → Type 0
RepliesNumber messages reply = (reply ≡ Memory) ⊎ (reply ≡ MessageIs (length messages + 1))

-- What a node with these facts replies to a step, where `others` are those of the other node that it names. A fold, a discard, a
-- join, a wipe, and the making of a message are answered without a look at the facts. A step that found no memory counts as not
-- having come.
abbrev pub NodeReplies : ℕ → List Fact → List Fact → List Message → Step Fact → Reply → Type 0
NodeReplies roster facts others messages (step.Take node fact) reply = (reply ≡ Memory) ⊎ RepliesTake roster facts fact reply
NodeReplies roster facts others messages (step.Fold node page) reply = (reply ≡ Memory) ⊎ (reply ≡ Folded)
NodeReplies roster facts others messages (step.Discard node) reply = reply ≡ Discarded
NodeReplies roster facts others messages (step.Front node) reply = RepliesFront roster facts reply
NodeReplies roster facts others messages (step.Read node page point offset len) reply = (reply ≡ Memory) ⊎ RepliesRead roster facts page point reply
NodeReplies roster facts others messages (step.Join node from) reply = (reply ≡ Memory) ⊎ (reply ≡ Joined)
NodeReplies roster facts others messages (step.Same node other) reply = (reply ≡ Memory) ⊎ RepliesSame roster facts others reply
NodeReplies roster facts others messages (step.Covers node other) reply = (reply ≡ Memory) ⊎ RepliesCovers roster facts others reply
NodeReplies roster facts others messages (step.Wipe node) reply = (reply ≡ Memory) ⊎ (reply ≡ Wiped)
NodeReplies roster facts others messages (step.Ask node) reply = RepliesNumber messages reply
NodeReplies roster facts others messages (step.Answer node message) reply =
    MatchOption (asked_in messages message) (reply ≡ NoMessage message) (λ asked. RepliesNumber messages reply)
NodeReplies roster facts others messages (step.Absorb node message) reply =
    MatchOption (answered_in messages message) (reply ≡ NoMessage message) (λ answer. (reply ≡ Memory) ⊎ RepliesAbsorb roster facts answer.0 reply)

-- the reply to a step whose nodes are all there
abbrev pub Replies : ℕ → Machine → Step Fact → Reply → Type 0
Replies roster m step reply = NodeReplies roster (node_facts m (node_of step)) (node_facts m (other_of step)) m.messages step reply

-- what the machine replies: the first named node that is not there comes before all else
abbrev pub IsReply : ℕ → Machine → Step Fact → Reply → Type 0
IsReply roster m step reply = MatchOption (first_missing (length m.nodes) (nodes_of step)) (Replies roster m step reply) (λ node. reply ≡ NoNode node)

-- the step was carried out: it did not lack memory
abbrev pub HasCome : Reply → Type 0
HasCome Memory = ⊥
HasCome reply = Unit {0}
