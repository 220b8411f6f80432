-- A guard that is asked plainly does what its replica alone would do.
use Rattle.std.specs.Prelude.{◌≡◌, ◌↔◌, List, [], ◌∷◌, IsTrue, map}
use Rattle.std.specs.List.{AllByRecursion}
use Rattle.replica.specs.declared.requests.Request.{Request}
use Rattle.replica.specs.Meaning.{Turn, Runs}
use Rattle.guard.specs.declared.requests.Request.TheVariants as request
use Rattle.guard.specs.declared.replies.Reply.TheVariants as reply
use Rattle.guard.specs.Data.{GuardData, around}
use Rattle.guard.specs.Keeping.{GuardTurn, GuardRuns}

-- the turn asks the guard plainly
abbrev pub IsPlainTurn : GuardTurn → Type 0
IsPlainTurn t = (asked : Request) × (t.asked ≡ request.Plain asked)

-- the turn of a replica, as one of its guard
abbrev pub plain_turn : Turn → GuardTurn
plain_turn t = record { asked = request.Plain t.asked; told = reply.Plain t.told }

-- the turns are those of the replica alone, which is all that they change
abbrev pub RunsAsReplica : GuardData → List GuardTurn → GuardData → Type 0
RunsAsReplica old turns new =
    (own : List Turn) × (turns ≡ map plain_turn own) × Runs old.replica own new.replica × (new ≡ around old new.replica)

-- A guard that no engine has admitted, and whose requests are all plain, does just what its replica would do.
abbrev pub PlainRuns : Type 0
PlainRuns =
    (old : GuardData) (turns : List GuardTurn) (new : GuardData) → ¬ (IsTrue old.is_member) → AllByRecursion IsPlainTurn turns
    → GuardRuns old turns new ↔ RunsAsReplica old turns new
