-- The replies to requests that a guard refuses, and what these leave.
use Rattle.std.specs.Prelude.{◌≡◌, ℕ}
use Rattle.replica.specs.Refused.{IsRefusal, IsAfterRefusal}
use Rattle.guard.specs.declared.requests.Request.{Request}
use Rattle.guard.specs.declared.requests.Request.TheVariants as request
use Rattle.guard.specs.declared.replies.Reply.{Reply}
use Rattle.guard.specs.declared.replies.Reply.TheVariants as reply
use Rattle.guard.specs.Data.{GuardData, around}

-- the guard does not execute the request, or its replica refuses it or has no memory for it
abbrev pub IsGuardRefusal : Reply → Type 0
IsGuardRefusal (reply.Stale generation) = Unit {0}
IsGuardRefusal (reply.Fresh birth) = Unit {0}
IsGuardRefusal (reply.Headed generation birth answer) = IsRefusal answer
IsGuardRefusal reply.Member = Unit {0}
IsGuardRefusal (reply.Stranger birth) = Unit {0}
IsGuardRefusal (reply.Behind epoch complete) = Unit {0}
IsGuardRefusal reply.Unguarded = Unit {0}
IsGuardRefusal (reply.Plain answer) = IsRefusal answer
IsGuardRefusal told = ⊥

-- after a refused request of the replica it is as the replica leaves it, and else nothing has changed
abbrev pub IsAfterGuardRefusal : Request → GuardData → GuardData → Type 0
IsAfterGuardRefusal (request.As generation birth asked) old new =
    (new ≡ around old new.replica) × IsAfterRefusal asked old.replica new.replica
IsAfterGuardRefusal (request.Plain asked) old new = (new ≡ around old new.replica) × IsAfterRefusal asked old.replica new.replica
IsAfterGuardRefusal asked old new = new ≡ old
