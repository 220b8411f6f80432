-- What the requests of snapshots and stagings do, for arbitrary facts.
use Rattle.std.specs.Prelude.{◌≡◌, ℕ, ◌<◌, ◌≤◌, ◌⊎◌, ◌↔◌, [], Option, Some, None, Result, Ok, Err, IfOk, IfErr, OnOk, OnErr, ◌≢◌}
use Rattle.messages.specs.Pieces.{PieceData}
use Rattle.hot_log.specs.Found.{IsLeast}
use Rattle.redo_core.specs.Book.{roster_of}
use Rattle.segment_theorems.specs.State.{State}
use Rattle.segment_core.specs.declared.answers.Refusal.{Refusal}
use Rattle.segment_core.specs.declared.answers.Refusal.TheVariants as refusal
use Rattle.segment_join.specs.Joining.{MeansUnion, AreOfOneLog, JoinsInto, TakesTold, RefusesJoin}
use Rattle.read_cache.specs.Cached.{Cached, cached}
use Rattle.snapshot.specs.Snapshots.{SnapshotData, Freezes, IsPieceOf, max_total}
use Rattle.snapshot.specs.Stagings.{StagingData, staging_of, Adds, RefusesPiece, IsMissingPiece, IsStaging}
use Rattle.snapshot.specs.Placing.{IsComplete, IsMisplaced, IsInOrder}
use Rattle.snapshot.specs.Hydrating.{Hydrates, MeansFrozen, IsOfSoundState}
use Rattle.snapshot.specs.declared.staging.AddFault.{AddFault}
use Rattle.snapshot.specs.declared.finishing.FinishFault.{FinishFault}
use Rattle.snapshot.specs.declared.finishing.FinishFault.TheVariants as finish
use Rattle.replica.specs.declared.replies.Reply.{Reply}
use Rattle.replica.specs.declared.replies.Reply.TheVariants as reply
use Rattle.replica.specs.Replying.{unadded_reply, unfinished_reply, united_reply}
use Rattle.replica.specs.AtSegment.{LacksMemory}

-- ---- snapshots
-- a snapshot of the state of so many pieces is kept under the name
pub record Keeps (s : State) (name : ℕ) (told : Reply) (new : Option SnapshotData) : Type 0 where
  pub snapshot : SnapshotData
  pub freezes : Freezes s snapshot
  pub name_is : snapshot.name ≡ name
  pub few : snapshot.total ≤ max_total
  pub kept : new ≡ Some snapshot
  pub is : told ≡ reply.Frozen snapshot.total

-- there would be too many pieces, and the snapshot that was kept stays
pub record HasTooMany (s : State) (old : Option SnapshotData) (told : Reply) (new : Option SnapshotData) : Type 0 where
  pub many : (d : SnapshotData) → Freezes s d → max_total < d.total
  pub same : new ≡ old
  pub is : told ≡ reply.TooMany

-- the state is frozen, or its snapshot would have too many pieces, or there was no memory
abbrev pub FreezesAs : State → ℕ → Option SnapshotData → Reply → Option SnapshotData → Type 0
FreezesAs s name old told new = LacksMemory old told new ⊎ (HasTooMany s old told new ⊎ Keeps s name told new)

-- the snapshot's piece of the index, or there was no memory
abbrev pub ReportsPiece : SnapshotData → ℕ → Reply → Type 0
ReportsPiece d index told = (told ≡ reply.Memory) ⊎ ((p : PieceData) × IsPieceOf d p × (p.index ≡ index) × (told ≡ reply.Piece p))

-- `NoSnapshot` takes precedence over `NoPiece`
abbrev pub Pieces : Option SnapshotData → ℕ → Reply → Type 0
Pieces None index told = told ≡ reply.NoSnapshot
Pieces (Some d) index told = (d.total ≤ index → told ≡ reply.NoPiece) × (index < d.total → ReportsPiece d index told)

-- ---- stagings
-- an empty staging replaces an older one
abbrev pub Stages : ℕ → ℕ → Reply → Option StagingData → Type 0
Stages name total told new = (told ≡ reply.Staged) × (new ≡ Some (staging_of name total []))

-- the staging takes the piece, or stays as it was
pub record TakesPiece (st : StagingData) (piece : PieceData) (told : Reply) (new : Option StagingData) : Type 0 where
  pub later : StagingData
  pub new_is : new ≡ Some later
  pub form : IsStaging later
  pub does : ((told ≡ reply.Added) × Adds st piece later)
      ⊎ ((why : AddFault) × RefusesPiece st piece why × (later ≡ st) × (told ≡ unadded_reply why))

abbrev pub AddsTo : Option StagingData → PieceData → Reply → Option StagingData → Type 0
AddsTo None piece told new = (told ≡ reply.NoStaging) × (new ≡ None)
AddsTo (Some st) piece told new = TakesPiece st piece told new

-- what the pieces of a staging make, or why they make nothing
pub record MakesSegment (st : StagingData) (answer : Result State FinishFault) : Type 0 where
  pub form : IsStaging st
  pub means : IfOk answer (MeansFrozen st)
  pub sound : IfErr answer (λ e. IsOfSoundState st → (index : ℕ) → e ≡ finish.Malformed index → ⊥)
  pub hydrates : IfOk answer (Hydrates st)
  pub missing : (index : ℕ) → (answer ≡ Err (finish.Missing index)) ↔ IsLeast (IsMissingPiece st) (Some index)
  pub malformed : (index : ℕ) → (answer ≡ Err (finish.Malformed index)) ↔ (IsComplete st × IsLeast (IsMisplaced st) (Some index))
  pub memory : IfErr answer (λ e. e ≡ finish.Memory → IsInOrder st)

-- The segment that is made replaces the old one, with no image in the cache, and the staging is gone; where none is made all
-- stays as it was.
abbrev pub StandsFor : Cached → StagingData → Result State FinishFault → Reply → Cached → Option StagingData → Type 0
StandsFor old st (Ok s) told new staging = (told ≡ reply.Restored) × (new ≡ cached s old.pages []) × (staging ≡ None)
StandsFor old st (Err why) told new staging = (told ≡ unfinished_reply why) × (new ≡ old) × (staging ≡ Some st)

pub record FinishesStaging (old : Cached) (st : StagingData) (told : Reply) (new : Cached) (staging : Option StagingData) : Type 0 where
  pub answer : Result State FinishFault
  pub makes : MakesSegment st answer
  pub stands : StandsFor old st answer told new staging

abbrev pub Finishes : Cached → Option StagingData → Reply → Cached → Option StagingData → Type 0
Finishes old None told new staging = (told ≡ reply.NoStaging) × (new ≡ old) × (staging ≡ None)
Finishes old (Some st) told new staging = FinishesStaging old st told new staging

-- ---- joins
-- The segment that is made is joined into the old one, no image stays in the cache, and the staging is gone. Where the join is refused all
-- stays as it was, the staging too.
pub record JoinsStaged (old : Cached) (before : Option StagingData) (made : State) (told : Reply) (new : Cached) (after : Option StagingData) : Type 0 where
  pub answer : Result (Unit {0}) Refusal
  pub means : OnOk answer (MeansUnion old.segment made new.segment)
  pub sound : IfErr answer (λ e. AreOfOneLog old.segment made → e ≡ refusal.Memory)
  pub joins : OnOk answer (JoinsInto old.segment made new.segment)
  pub takes : OnOk answer (TakesTold old.segment made)
  pub refused : IfErr answer (λ e. (e ≡ refusal.Memory) ⊎ RefusesJoin old.segment made e)
  pub roster : let own = roster_of old.segment.book in let shown = roster_of made.book in
      IfErr answer (λ e. own ≢ shown → e ≡ refusal.OtherRoster own shown)
  pub gone : OnOk answer ((new.images ≡ []) × (after ≡ None))
  pub unchanged : OnErr answer ((new ≡ old) × (after ≡ before))
  pub pages : new.pages ≡ old.pages
  pub is : told ≡ united_reply answer

-- where no segment is made all stays as it was
abbrev pub UnitesMade : Cached → StagingData → Result State FinishFault → Reply → Cached → Option StagingData → Type 0
UnitesMade old st (Ok made) told new staging = JoinsStaged old (Some st) made told new staging
UnitesMade old st (Err why) told new staging = (told ≡ unfinished_reply why) × (new ≡ old) × (staging ≡ Some st)

pub record UnitesStaging (old : Cached) (st : StagingData) (told : Reply) (new : Cached) (staging : Option StagingData) : Type 0 where
  pub answer : Result State FinishFault
  pub makes : MakesSegment st answer
  pub unites : UnitesMade old st answer told new staging

abbrev pub EndsInUnion : Cached → Option StagingData → Reply → Cached → Option StagingData → Type 0
EndsInUnion old None told new staging = (told ≡ reply.NoStaging) × (new ≡ old) × (staging ≡ None)
EndsInUnion old (Some st) told new staging = UnitesStaging old st told new staging
