-- A replica that is put together again from a snapshot.
use Rattle.std.proofs.Common.{◌≡◌, ◌≢◌, ℕ, ◌⊎◌, List, [], ◌∷◌, refl, sym, subst, arith, Option, Some, Result, Ok, Err, IfOk, rules}
use Rattle.std.specs.List.{AllByRecursion}
use Rattle.redo_core.specs.Sound.{IsSound}
use Rattle.redo_core.specs.declared.facts.Fact.{Fact}
use Rattle.segment_theorems.specs.State.{State}
use Rattle.segment_theorems.specs.Means.{Means}
use Rattle.read_cache.specs.Cached.{Cached}
use Rattle.snapshot.specs.Snapshots.{SnapshotData, Freezes}
use Rattle.snapshot.specs.Stagings.{StagingData, staging_of}
use Rattle.snapshot.specs.Hydrating.{IsOfState, MeansFrozen}
use Rattle.snapshot.specs.declared.finishing.FinishFault.{FinishFault}
use Rattle.replica.specs.declared.replies.Reply.TheVariants as reply
use Rattle.replica.specs.Parts.{ReplicaData}
use Rattle.replica.specs.Replying.{unfinished_reply}
use Rattle.replica.specs.Hydrating.{Finishes, StandsFor}
use Rattle.replica.specs.Machine.{IsReply}
use Rattle.replica.specs.Meaning.{Turn, Runs, ReplicaMeans}
use Rattle.replica.specs.Restarting.{AddsPieceOf, RestartMeans}
use Rattle.replica.proofs.Means.{runs_mean}

-- the staging of the replica takes the pieces of one snapshot of the state
abbrev pub Fills : State → SnapshotData → ReplicaData → Type 0
Fills s d r = (st : StagingData) × (r.staging ≡ Some st) × IsOfState s d st

-- a new staging takes no piece of any other snapshot
begun : (s : State) (d : SnapshotData) → Freezes s d → IsOfState s d (staging_of d.name d.total [])
begun s d frozen = record { frozen = frozen; name = refl; total = refl; pieces = λ index p h. absurd (cc) }

pub same_or_not : (a b : ℕ) → (a ≡ b) ⊎ (a ≢ b)
same_or_not a b = grind arith

one_turn : (s : State) (d : SnapshotData) (old : ReplicaData) (t : Turn) (new : ReplicaData) → AddsPieceOf d t → IsReply old t.asked t.told new → Fills s d old
    → Fills s d new
one_turn s d old t new adds says fills = search rules

all_turns : (s : State) (d : SnapshotData) (old : ReplicaData) (turns : List Turn) (new : ReplicaData) → AllByRecursion (AddsPieceOf d) turns
    → Runs old turns new → Fills s d old → Fills s d new
all_turns s d old [] new adds runs fills = subst (λ r. Fills s d r) (sym runs) fills
all_turns s d old (t ∷ ts) new adds runs fills = all_turns s d runs.0 ts new adds.1 runs.2 (one_turn s d old t runs.0 adds.0 runs.1 fills)

not_restored : (why : FinishFault) → reply.Restored ≡ unfinished_reply why → ⊥
not_restored why e = search rules

restored : (roster : ℕ) (log facts : List Fact) (s : State) (d : SnapshotData) (old : Cached) (st : StagingData) (answer : Result State FinishFault)
    (new : Cached) (staging : Option StagingData) → IsSound roster log → Means roster log facts s → IsOfState s d st → IfOk answer (MeansFrozen st)
    → StandsFor old st answer reply.Restored new staging → Means roster log facts new.segment
restored roster log facts s d old st (Ok made) new staging sound m is means stands =
    subst (λ (c : Cached). Means roster log facts c.segment) (sym stands.1) (means s d is roster log facts sound m)
restored roster log facts s d old st (Err why) new staging sound m is means stands = absurd (not_restored why stands.0)

pub restart_means : RestartMeans
restart_means roster log facts s d old since new sound m frozen restarts =
    let start : Fills s d restarts.staged = (staging_of d.name d.total [], restarts.begins.0.1, begun s d frozen) in
    let full : Fills s d restarts.filled = all_turns s d restarts.staged restarts.adds restarts.filled restarts.of_snapshot restarts.fills start in
    let done = subst (λ (o : Option StagingData). Finishes restarts.filled.cached o reply.Restored restarts.restored.cached restarts.restored.staging) full.1 restarts.finishes.0 in
    let here : ReplicaMeans roster log facts restarts.restored =
    restored roster log facts s d restarts.filled.cached full.0 done.answer restarts.restored.cached restarts.restored.staging sound m full.2 done.makes.means done.stands in
    runs_mean roster log facts restarts.restored since new sound restarts.goes_on here
