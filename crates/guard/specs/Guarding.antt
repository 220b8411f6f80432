-- A guard as a machine: what is replied to each request, exactly where, and what it leaves.
use Rattle.std.specs.Prelude.{◌≡◌, ◌≢◌, ℕ, ◌<◌, ◌≤◌, ◌⊎◌, IsTrue, Option, Some, None}
use Rattle.redo_core.specs.Data.{CutData}
use Rattle.segment_core.specs.declared.answers.Front.{Front}
use Rattle.replica.specs.AtSegment.{Fronts}
use Rattle.replica.specs.Machine.{IsReply}
use Rattle.replica.specs.declared.requests.Request.{Request as ReplicaRequest}
use Rattle.replica.specs.declared.replies.Reply.{Reply as ReplicaReply}
use Rattle.replica.specs.declared.replies.Reply.TheVariants as replica_reply
use Rattle.guard.specs.declared.requests.AcceptedCut.{AcceptedCut}
use Rattle.guard.specs.declared.requests.Admission.{Admission}
use Rattle.guard.specs.declared.requests.Request.{Request}
use Rattle.guard.specs.declared.requests.Request.TheVariants as request
use Rattle.guard.specs.declared.replies.Reply.{Reply}
use Rattle.guard.specs.declared.replies.Reply.TheVariants as reply
use Rattle.guard.specs.Data.{GuardData, fenced_to, accepting, admitted_by, around}
use Rattle.guard.specs.Asked.{IsGuarded, ReplacesSegment}

-- ---- conditions
-- the node is a member, of this generation and this birth
abbrev pub IsUnder : GuardData → ℕ → ℕ → Type 0
IsUnder g generation birth = IsTrue g.is_member × (generation ≡ g.generation) × (birth ≡ g.birth)

-- the node is a member of a lower generation
abbrev pub IsFencedBelow : GuardData → ℕ → Type 0
IsFencedBelow g generation = IsTrue g.is_member × (g.generation < generation)

-- a truncation of this generation and of a later epoch has been accepted
abbrev pub HasLater : Option AcceptedCut → ℕ → ℕ → Type 0
HasLater None generation epoch = ⊥
HasLater (Some pair) generation epoch = (pair.generation ≡ generation) × (epoch < pair.cut.epoch)

-- the front is of the epoch that the admission asks for, and has reached its complete point
abbrev pub IsFarEnough : Front → Admission → Type 0
IsFarEnough front asked = (front.epoch ≡ asked.epoch) × (asked.complete ≤ front.complete)

-- a member names its generation, and a fresh node its birth
abbrev pub NamesNode : GuardData → Reply → Type 0
NamesNode g told =
    (IsTrue g.is_member × (told ≡ reply.Stale g.generation)) ⊎ (¬ (IsTrue g.is_member) × (told ≡ reply.Fresh g.birth))

-- and the request is not executed
abbrev pub Declines : GuardData → Reply → GuardData → Type 0
Declines old told new = NamesNode old told × (new ≡ old)

-- ---- requests
-- the node says what it is, with the front of its segment
abbrev pub ReportsGuard : GuardData → Reply → GuardData → Type 0
ReportsGuard old told new =
    (front : Front) × Fronts old.replica.cached.segment (replica_reply.Front front)
    × (told ≡ reply.Status old.generation old.birth old.is_member front old.accepted) × (new ≡ old)

-- a member of a lower generation gets this one
abbrev pub Fences : GuardData → ℕ → Reply → GuardData → Type 0
Fences old generation told new =
    (IsFencedBelow old generation × (told ≡ reply.Fenced generation old.birth old.accepted) × (new ≡ fenced_to old generation))
    ⊎ (¬ (IsFencedBelow old generation) × Declines old told new)

-- a member of this generation and birth answers as its replica does, which is all that changes
abbrev pub AsksUnder : GuardData → ℕ → ℕ → ReplicaRequest → Reply → GuardData → Type 0
AsksUnder old generation birth asked told new =
    (¬ (IsGuarded asked) × (told ≡ reply.Unguarded) × (new ≡ old))
    ⊎ (IsGuarded asked × IsUnder old generation birth × (new ≡ around old new.replica)
    × ((answer : ReplicaReply) × IsReply old.replica asked answer new.replica × (told ≡ reply.Headed generation birth answer)))
    ⊎ (IsGuarded asked × ¬ (IsUnder old generation birth) × Declines old told new)

-- a member of this generation and birth accepts the truncation, unless it has accepted one of a later epoch in this generation
abbrev pub Proposes : GuardData → ℕ → ℕ → CutData → Reply → GuardData → Type 0
Proposes old generation birth cut told new =
    (IsUnder old generation birth × ¬ (HasLater old.accepted generation cut.epoch)
    × (told ≡ reply.Accepted generation birth cut.epoch) × (new ≡ accepting old generation cut))
    ⊎ (¬ (IsUnder old generation birth × ¬ (HasLater old.accepted generation cut.epoch)) × Declines old told new)

-- a fresh node becomes a member where its own front has come so far
abbrev pub AdmitsAt : GuardData → Admission → Front → Reply → GuardData → Type 0
AdmitsAt old asked front told new =
    (IsFarEnough front asked × (told ≡ reply.Admitted asked.generation old.birth) × (new ≡ admitted_by old asked))
    ⊎ (¬ (IsFarEnough front asked) × (told ≡ reply.Behind front.epoch front.complete) × (new ≡ old))

-- of the birth that the admission names
abbrev pub Admits : GuardData → Admission → Reply → GuardData → Type 0
Admits old asked told new =
    (IsTrue old.is_member × (told ≡ reply.Member) × (new ≡ old))
    ⊎ (¬ (IsTrue old.is_member) × (asked.birth ≢ old.birth) × (told ≡ reply.Stranger old.birth) × (new ≡ old))
    ⊎ (¬ (IsTrue old.is_member) × (asked.birth ≡ old.birth)
    × ((front : Front) × Fronts old.replica.cached.segment (replica_reply.Front front) × AdmitsAt old asked front told new))

-- the replica answers, and is all that changes; but no member loses its segment
abbrev pub AsksPlainly : GuardData → ReplicaRequest → Reply → GuardData → Type 0
AsksPlainly old asked told new =
    (IsTrue old.is_member × ReplacesSegment asked × (told ≡ reply.Member) × (new ≡ old))
    ⊎ (¬ (IsTrue old.is_member × ReplacesSegment asked) × (new ≡ around old new.replica)
    × ((answer : ReplicaReply) × IsReply old.replica asked answer new.replica × (told ≡ reply.Plain answer)))

abbrev pub IsGuardReply : GuardData → Request → Reply → GuardData → Type 0
IsGuardReply old request.Status told new = ReportsGuard old told new
IsGuardReply old (request.Fence generation) told new = Fences old generation told new
IsGuardReply old (request.As generation birth asked) told new = AsksUnder old generation birth asked told new
IsGuardReply old (request.Propose generation birth cut) told new = Proposes old generation birth cut told new
IsGuardReply old (request.Admit asked) told new = Admits old asked told new
IsGuardReply old (request.Plain asked) told new = AsksPlainly old asked told new
