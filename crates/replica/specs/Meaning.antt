-- What the segment of a replica means after a request, inside one sound log.
use Rattle.std.specs.Prelude.{◌≡◌, ℕ, List, [], ◌∷◌, ◌++◌, Option, None, Some}
use Rattle.std.specs.List.{Contains}
use Rattle.redo_core.specs.Position.{Position, IsPosition}
use Rattle.redo_core.specs.Sets.{IsPart}
use Rattle.redo_core.specs.Sound.{IsSound}
use Rattle.redo_core.specs.declared.facts.Fact.{Fact}
use Rattle.messages.specs.Summaries.{SummaryData}
use Rattle.messages.specs.Deltas.{DeltaData}
use Rattle.segment_theorems.specs.State.{State}
use Rattle.segment_theorems.specs.Means.{Means}
use Rattle.segment_theorems.specs.Gossip.{Fills}
use Rattle.gossip_core.specs.Answering.{listing_of}
use Rattle.gossip_core.specs.Absorbing.{filling_of}
use Rattle.snapshot.specs.Snapshots.{SnapshotData}
use Rattle.snapshot.specs.Stagings.{StagingData}
use Rattle.snapshot.specs.Hydrating.{IsOfState}
use Rattle.replica.specs.declared.requests.Request.{Request}
use Rattle.replica.specs.declared.requests.Request.TheVariants as request
use Rattle.replica.specs.declared.replies.Reply.{Reply}
use Rattle.replica.specs.declared.replies.Reply.TheVariants as reply
use Rattle.replica.specs.Parts.{ReplicaData}
use Rattle.replica.specs.Machine.{IsReply}

-- ---- one request
-- the facts that the segment means after a request and its reply, where `brought` are those of a delta or a staging: a fact that was
-- taken joins them, and so do those of an absorbed delta and of a united staging; a new segment means none, and one that replaces it
-- those of its snapshot
abbrev pub facts_after : List Fact → List Fact → Request → Reply → List Fact
facts_after facts brought (request.Open roster) reply.Opened = []
facts_after facts brought (request.Take fact) reply.Changed = facts ++ fact ∷ []
facts_after facts brought (request.Take fact) reply.Unchanged = facts ++ fact ∷ []
facts_after facts brought (request.Absorb summary delta) reply.Absorbed = facts ++ brought
facts_after facts brought request.Finish reply.Restored = brought
facts_after facts brought request.Unite reply.United = facts ++ brought
facts_after facts brought asked told = facts

-- the delta has what these facts of the log have beyond the summary
abbrev pub BringsDelta : ℕ → List Fact → SummaryData → DeltaData → List Fact → Type 0
BringsDelta roster log summary delta brought =
    (g : Position) × IsPart brought log × IsPosition roster brought g × Fills brought g (listing_of summary) (filling_of delta)

-- the staging takes the pieces of one snapshot of a state that means these facts of the log
abbrev pub BringsStaging : ℕ → List Fact → Option StagingData → List Fact → Type 0
BringsStaging roster log None brought = Unit {0}
BringsStaging roster log (Some st) brought = (s : State) × (d : SnapshotData) × IsOfState s d st × Means roster log brought s

-- what a request brings is of the log, and of its roster
abbrev pub Brings : ℕ → List Fact → ReplicaData → Request → List Fact → Type 0
Brings roster log old (request.Open readers) brought = readers ≡ roster
Brings roster log old (request.Take fact) brought = Contains log fact
Brings roster log old (request.Absorb summary delta) brought = BringsDelta roster log summary delta brought
Brings roster log old request.Finish brought = BringsStaging roster log old.staging brought
Brings roster log old request.Unite brought = BringsStaging roster log old.staging brought
Brings roster log old asked brought = Unit {0}

-- the segment of the replica means the facts
abbrev pub ReplicaMeans : ℕ → List Fact → List Fact → ReplicaData → Type 0
ReplicaMeans roster log facts r = Means roster log facts r.cached.segment

-- Whatever facts the segment means, after a request it means those after it.
abbrev pub StepMeans : Type 0
StepMeans =
    (roster : ℕ) (log facts brought : List Fact) (old : ReplicaData) (asked : Request) (told : Reply) (new : ReplicaData)
    → IsSound roster log → Brings roster log old asked brought → IsReply old asked told new → ReplicaMeans roster log facts old
    → ReplicaMeans roster log (facts_after facts brought asked told) new

-- ---- any number of requests
-- a request with its reply, and the facts that it brings
pub record Turn : Type 0 where
  pub asked : Request
  pub told : Reply
  pub brought : List Fact

-- the replica goes from a first state to another one by the turns, in order
abbrev pub Runs : ReplicaData → List Turn → ReplicaData → Type 0
Runs old [] new = new ≡ old
Runs old (t ∷ ts) new = (next : ReplicaData) × IsReply old t.asked t.told next × Runs next ts new

-- and what each brings is of the log
abbrev pub RunsIn : ℕ → List Fact → ReplicaData → List Turn → ReplicaData → Type 0
RunsIn roster log old [] new = new ≡ old
RunsIn roster log old (t ∷ ts) new =
    (next : ReplicaData) × Brings roster log old t.asked t.brought × IsReply old t.asked t.told next × RunsIn roster log next ts new

-- the facts that it means after them
abbrev pub facts_after_all : List Fact → List Turn → List Fact
facts_after_all facts [] = facts
facts_after_all facts (t ∷ ts) = facts_after_all (facts_after facts t.brought t.asked t.told) ts

-- After any number of requests the segment means the facts after them.
abbrev pub RunsMean : Type 0
RunsMean =
    (roster : ℕ) (log facts : List Fact) (old : ReplicaData) (turns : List Turn) (new : ReplicaData)
    → IsSound roster log → RunsIn roster log old turns new → ReplicaMeans roster log facts old
    → ReplicaMeans roster log (facts_after_all facts turns) new
