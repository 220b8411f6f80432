-- What a guard never takes back, whatever it is asked.
use Rattle.std.specs.Prelude.{◌≡◌, ℕ, ◌<◌, ◌≤◌, ◌⊎◌, List, [], ◌∷◌, IsTrue, Option, Some, None}
use Rattle.std.specs.List.{AllByRecursion}
use Rattle.replica.specs.Parts.{ReplicaData}
use Rattle.guard.specs.declared.requests.AcceptedCut.{AcceptedCut}
use Rattle.guard.specs.declared.requests.Request.{Request}
use Rattle.guard.specs.declared.requests.Request.TheVariants as request
use Rattle.guard.specs.declared.replies.Reply.{Reply}
use Rattle.guard.specs.Data.{GuardData, fresh_guard}
use Rattle.guard.specs.Guarding.{IsGuardReply}

-- the birth stays, a member stays a member, and its generation does not fall
pub record IsLaterGuard (old new : GuardData) : Type 0 where
  pub birth : new.birth ≡ old.birth
  pub member : IsTrue old.is_member → IsTrue new.is_member
  pub generation : IsTrue old.is_member → old.generation ≤ new.generation

-- the first pair is at or below the second one, by generation and then by epoch, or there is none
abbrev pub IsUpTo : Option AcceptedCut → Option AcceptedCut → Type 0
IsUpTo None after = Unit {0}
IsUpTo (Some before) None = ⊥
IsUpTo (Some before) (Some after) =
    (before.generation < after.generation)
    ⊎ ((before.generation ≡ after.generation) × (before.cut.epoch ≤ after.cut.epoch))

-- the pair is of this generation or a lower one, or there is none
abbrev pub IsBelow : Option AcceptedCut → ℕ → Type 0
IsBelow None generation = Unit {0}
IsBelow (Some pair) generation = pair.generation ≤ generation

-- a node that is no member has nothing of an engine, and no node has accepted a truncation of a generation above its own
pub record IsGuard (g : GuardData) : Type 0 where
  pub generation : ¬ (IsTrue g.is_member) → g.generation ≡ 0
  pub accepted : ¬ (IsTrue g.is_member) → g.accepted ≡ None
  pub below : IsBelow g.accepted g.generation

-- an admission brings no accepted truncation of a generation above its own
abbrev pub AdmitsInOrder : Request → Type 0
AdmitsInOrder (request.Admit asked) = IsBelow asked.accepted asked.generation
AdmitsInOrder asked = Unit {0}

-- ---- one request
abbrev pub StepsKeep : Type 0
StepsKeep =
    (old : GuardData) (asked : Request) (told : Reply) (new : GuardData) → IsGuardReply old asked told new → IsLaterGuard old new

abbrev pub StepsRise : Type 0
StepsRise =
    (old : GuardData) (asked : Request) (told : Reply) (new : GuardData)
    → IsGuard old → IsGuardReply old asked told new → IsUpTo old.accepted new.accepted

-- ---- any number of requests
-- a request with its reply
pub record GuardTurn : Type 0 where
  pub asked : Request
  pub told : Reply

-- the guard goes from a first state to another one by the turns, in order
abbrev pub GuardRuns : GuardData → List GuardTurn → GuardData → Type 0
GuardRuns old [] new = new ≡ old
GuardRuns old (t ∷ ts) new = (next : GuardData) × IsGuardReply old t.asked t.told next × GuardRuns next ts new

abbrev pub RunsKeep : Type 0
RunsKeep = (old : GuardData) (turns : List GuardTurn) (new : GuardData) → GuardRuns old turns new → IsLaterGuard old new

abbrev pub IsOrderlyTurn : GuardTurn → Type 0
IsOrderlyTurn t = AdmitsInOrder t.asked

-- A guard that was fresh once, where each admission keeps to its order, has nothing of an engine before one admits it.
abbrev pub FreshStays : Type 0
FreshStays =
    (replica : ReplicaData) (birth : ℕ) (turns : List GuardTurn) (new : GuardData)
    → AllByRecursion IsOrderlyTurn turns → GuardRuns (fresh_guard replica birth) turns new → IsGuard new

-- And its accepted truncation rises.
abbrev pub RunsRise : Type 0
RunsRise =
    (replica : ReplicaData) (birth : ℕ) (before after : List GuardTurn) (old new : GuardData)
    → AllByRecursion IsOrderlyTurn before → AllByRecursion IsOrderlyTurn after → GuardRuns (fresh_guard replica birth) before old
    → GuardRuns old after new → IsUpTo old.accepted new.accepted
