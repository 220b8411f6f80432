-- What a replica has.
use Rattle.std.specs.Prelude.{◌≡◌, ℕ, [], Option, None}
use Rattle.segment_theorems.specs.State.{empty_state}
use Rattle.read_cache.specs.Cached.{Cached, cached}
use Rattle.snapshot.specs.Snapshots.{SnapshotData}
use Rattle.snapshot.specs.Stagings.{StagingData}

-- the segment with the images that are kept of what was read, the snapshot that is exported, and the staging that is filled
pub record ReplicaData : Type 0 where
  pub cached : Cached
  pub snapshot : Option SnapshotData
  pub staging : Option StagingData

abbrev pub replica_of : Cached → Option SnapshotData → Option StagingData → ReplicaData
replica_of cached snapshot staging = record { cached = cached; snapshot = snapshot; staging = staging }

-- a segment that nothing has reached, for a roster of so many readers, with a cache of at most so many images; no snapshot and no staging
abbrev pub empty_replica : ℕ → ℕ → ReplicaData
empty_replica roster pages = replica_of (cached (empty_state roster) pages []) None None

-- the segment is the same, and as many images may be kept; which ones are kept may be another matter
pub record SameSegment (old new : Cached) : Type 0 where
  pub segment : new.segment ≡ old.segment
  pub pages : new.pages ≡ old.pages

-- nothing has changed but which images are kept
pub record IsUnchanged (old new : ReplicaData) : Type 0 where
  pub cached : SameSegment old.cached new.cached
  pub snapshot : new.snapshot ≡ old.snapshot
  pub staging : new.staging ≡ old.staging

-- the snapshot and the staging are as they were
pub record SameBeside (old new : ReplicaData) : Type 0 where
  pub snapshot : new.snapshot ≡ old.snapshot
  pub staging : new.staging ≡ old.staging
