-- What a turn does to its node's snapshot and to its staging.
use Rattle.std.proofs.Common.{◌≡◌, ℕ, ◌⊎◌, inl, inr, List, [], refl, sym, subst, Option, Some, None, Result, Ok, Err, OnOk, rules}
use Rattle.std.specs.Prelude.{OnErr}
use Rattle.redo_core.specs.declared.facts.Fact.{Fact}
use Rattle.messages.specs.Pieces.{PieceData}
use Rattle.segment_theorems.specs.State.{State}
use Rattle.snapshot.specs.Snapshots.{SnapshotData}
use Rattle.segment_core.specs.declared.answers.Refusal.{Refusal}
use Rattle.segment_core.specs.declared.answers.Refusal.TheVariants as refusal
use Rattle.read_cache.specs.Cached.{Cached}
use Rattle.snapshot.specs.declared.finishing.FinishFault.{FinishFault}
use Rattle.snapshot.specs.declared.finishing.FinishFault.TheVariants as finish
use Rattle.snapshot.specs.Stagings.{StagingData, staging_of, Adds, IsStaging}
use Rattle.replica.specs.declared.requests.Request.{Request}
use Rattle.replica.specs.declared.requests.Request.TheVariants as request
use Rattle.replica.specs.declared.replies.Reply.{Reply}
use Rattle.replica.specs.declared.replies.Reply.TheVariants as reply
use Rattle.replica.specs.Parts.{ReplicaData}
use Rattle.replica.specs.Hydrating.{Keeps, StandsFor, Finishes, UnitesMade, EndsInUnion}
use Rattle.replica.specs.Replying.{refusal_reply, unfinished_reply, united_reply}
use Rattle.replica.specs.Machine.{IsReply}
use Rattle.cluster_theorems.specs.Turns.{frozen_after, staged_after, Begun, begun_after}

-- ---- the snapshot
-- it stays, and so do the facts that it was made of
abbrev pub SnapshotStays : Option SnapshotData → Option SnapshotData → Request → Reply → Type 0
SnapshotStays old new asked told = (new ≡ old) × ((facts frozen : List Fact) → frozen_after facts frozen asked told ≡ frozen)

-- or one is made
abbrev pub IsFrozen : State → Option SnapshotData → Request → Reply → Type 0
IsFrozen s new asked told = (name : ℕ) × (asked ≡ request.Freeze name) × Keeps s name told new

pub snapshot_goes : (asked : Request) (told : Reply) (old new : ReplicaData) → IsReply old asked told new
    → SnapshotStays old.snapshot new.snapshot asked told ⊎ IsFrozen old.cached.segment new.snapshot asked told
snapshot_goes asked told old new says = search rules

-- ---- the staging
-- it stays, and so do the facts that its pieces brought
pub record StagingStays (old new : Option StagingData) (asked : Request) (told : Reply) : Type 0 where
  pub same : new ≡ old
  pub staged : (staged : List (List Fact)) (brought : List Fact) → staged_after staged brought asked told ≡ staged
  pub begun : (begun : Option Begun) → begun_after begun asked told ≡ begun

-- or it is gone
pub record IsGone (new : Option StagingData) (asked : Request) (told : Reply) : Type 0 where
  pub none : new ≡ None
  pub staged : (staged : List (List Fact)) (brought : List Fact) → staged_after staged brought asked told ≡ []
  pub begun : (begun : Option Begun) → begun_after begun asked told ≡ None

-- or another one is begun
abbrev pub IsBegun : Option StagingData → Request → Reply → Type 0
IsBegun new asked told = (name total : ℕ) × (asked ≡ request.Stage name total) × (new ≡ Some (staging_of name total []))

-- or it has a piece more
pub record HasMore (old new : Option StagingData) (asked : Request) (told : Reply) : Type 0 where
  pub st : StagingData
  pub later : StagingData
  pub piece : PieceData
  pub had : old ≡ Some st
  pub has : new ≡ Some later
  pub asked_is : asked ≡ request.Add piece
  pub told_is : told ≡ reply.Added
  pub form : IsStaging later
  pub adds : Adds st piece later

abbrev pub StagingGoes : Option StagingData → Option StagingData → Request → Reply → Type 0
StagingGoes old new asked told = StagingStays old new asked told ⊎ (IsGone new asked told ⊎ (IsBegun new asked told ⊎ HasMore old new asked told))

stays_by : (asked : Request) (told other : Reply) (old new : Option StagingData) → told ≡ other → new ≡ old
    → ((staged : List (List Fact)) (brought : List Fact) → staged_after staged brought asked other ≡ staged)
    → ((begun : Option Begun) → begun_after begun asked other ≡ begun) → StagingStays old new asked told
stays_by asked told other old new is same staged begun = record {
  same = same;
  staged = λ x y. subst (λ (r : Reply). staged_after x y asked r ≡ x) (sym is) (staged x y);
  begun = λ x. subst (λ (r : Reply). begun_after x asked r ≡ x) (sym is) (begun x);
}

gone_by : (asked : Request) (told other : Reply) (new : Option StagingData) → told ≡ other → new ≡ None
    → ((staged : List (List Fact)) (brought : List Fact) → staged_after staged brought asked other ≡ [])
    → ((begun : Option Begun) → begun_after begun asked other ≡ None) → IsGone new asked told
gone_by asked told other new is none staged begun = record {
  none = none;
  staged = λ x y. subst (λ (r : Reply). staged_after x y asked r ≡ []) (sym is) (staged x y);
  begun = λ x. subst (λ (r : Reply). begun_after x asked r ≡ None) (sym is) (begun x);
}

-- where no segment is made, or the join is refused, the staging stays
unfinished_stays : (why : FinishFault) (told : Reply) (old new : Option StagingData) → told ≡ unfinished_reply why → new ≡ old
    → StagingStays old new request.Finish told
unfinished_stays (finish.Missing index) told old new is same =
    stays_by request.Finish told (reply.Missing index) old new is same (λ x y. refl) (λ x. refl)
unfinished_stays (finish.Malformed index) told old new is same =
    stays_by request.Finish told (reply.Malformed index) old new is same (λ x y. refl) (λ x. refl)
unfinished_stays finish.Memory told old new is same = stays_by request.Finish told reply.Memory old new is same (λ x y. refl) (λ x. refl)

not_united_stays : (why : FinishFault) (told : Reply) (old new : Option StagingData) → told ≡ unfinished_reply why → new ≡ old
    → StagingStays old new request.Unite told
not_united_stays (finish.Missing index) told old new is same =
    stays_by request.Unite told (reply.Missing index) old new is same (λ x y. refl) (λ x. refl)
not_united_stays (finish.Malformed index) told old new is same =
    stays_by request.Unite told (reply.Malformed index) old new is same (λ x y. refl) (λ x. refl)
not_united_stays finish.Memory told old new is same = stays_by request.Unite told reply.Memory old new is same (λ x y. refl) (λ x. refl)

refused_stays : (why : Refusal) (told : Reply) (old new : Option StagingData) → told ≡ refusal_reply why → new ≡ old
    → StagingStays old new request.Unite told
refused_stays (refusal.OtherRoster own shown) told old new is same =
    stays_by request.Unite told (refusal_reply (refusal.OtherRoster own shown)) old new is same (λ x y. refl) (λ x. refl)
refused_stays (refusal.OtherCut c) told old new is same =
    stays_by request.Unite told (refusal_reply (refusal.OtherCut c)) old new is same (λ x y. refl) (λ x. refl)
refused_stays (refusal.Contradiction what) told old new is same =
    stays_by request.Unite told (refusal_reply (refusal.Contradiction what)) old new is same (λ x y. refl) (λ x. refl)
refused_stays refusal.OtherRecord told old new is same =
    stays_by request.Unite told (refusal_reply refusal.OtherRecord) old new is same (λ x y. refl) (λ x. refl)
refused_stays refusal.Memory told old new is same = stays_by request.Unite told reply.Memory old new is same (λ x y. refl) (λ x. refl)

-- ---- the end of a staging
finish_by : (old : Cached) (st : StagingData) (answer : Result State FinishFault) (told : Reply) (new : Cached) (after : Option StagingData)
    → StandsFor old st answer told new after → StagingGoes (Some st) after request.Finish told
finish_by old st (Ok s) told new after stands =
    inr (inl (gone_by request.Finish told reply.Restored after stands.0 stands.2 (λ x y. refl) (λ x. refl)))
finish_by old st (Err why) told new after stands = inl (unfinished_stays why told (Some st) after stands.0 stands.2)

finish_goes : (old : Cached) (before after : Option StagingData) (told : Reply) (new : Cached) → Finishes old before told new after
    → StagingGoes before after request.Finish told
finish_goes old None after told new says =
    inl (stays_by request.Finish told reply.NoStaging None after says.0 says.2 (λ x y. refl) (λ x. refl))
finish_goes old (Some st) after told new says = finish_by old st says.answer told new after says.stands

joined_goes : (X Y : Type 0) (st : StagingData) (after : Option StagingData) (told : Reply) (answer : Result (Unit {0}) Refusal)
    → OnOk answer (X × (after ≡ None)) → OnErr answer (Y × (after ≡ Some st)) → told ≡ united_reply answer → StagingGoes (Some st) after request.Unite told
joined_goes X Y st after told (Ok done) gone stays is =
    inr (inl (gone_by request.Unite told reply.United after is gone.1 (λ x y. refl) (λ x. refl)))
joined_goes X Y st after told (Err why) gone stays is = inl (refused_stays why told (Some st) after is stays.1)

unite_by : (old : Cached) (st : StagingData) (answer : Result State FinishFault) (told : Reply) (new : Cached) (after : Option StagingData)
    → UnitesMade old st answer told new after → StagingGoes (Some st) after request.Unite told
unite_by old st (Ok made) told new after says = joined_goes _ _ st after told says.answer says.gone says.unchanged says.is
unite_by old st (Err why) told new after says = inl (not_united_stays why told (Some st) after says.0 says.2)

unite_goes : (old : Cached) (before after : Option StagingData) (told : Reply) (new : Cached) → EndsInUnion old before told new after
    → StagingGoes before after request.Unite told
unite_goes old None after told new says =
    inl (stays_by request.Unite told reply.NoStaging None after says.0 says.2 (λ x y. refl) (λ x. refl))
unite_goes old (Some st) after told new says = unite_by old st says.answer told new after says.unites

pub staging_goes : (asked : Request) (told : Reply) (old new : ReplicaData) → IsReply old asked told new
    → StagingGoes old.staging new.staging asked told
staging_goes request.Finish told old new says = finish_goes old.cached old.staging new.staging told new.cached says.0
staging_goes request.Unite told old new says = unite_goes old.cached old.staging new.staging told new.cached says.0
staging_goes (request.Open roster) told old new says = search rules
staging_goes (request.Take fact) told old new says = search rules
staging_goes request.Front told old new says = search rules
staging_goes request.Gap told old new says = search rules
staging_goes request.State told old new says = search rules
staging_goes (request.Read page point) told old new says = search rules
staging_goes request.Ask told old new says = search rules
staging_goes (request.Answer summary) told old new says = search rules
staging_goes (request.AnswerWithin summary most) told old new says = search rules
staging_goes (request.Absorb summary delta) told old new says = search rules
staging_goes (request.Fold page) told old new says = search rules
staging_goes request.Discard told old new says = search rules
staging_goes request.Tidy told old new says = search rules
staging_goes (request.Freeze name) told old new says = search rules
staging_goes (request.Piece index) told old new says = search rules
staging_goes (request.Stage name total) told old new says = search rules
staging_goes (request.Add piece) told old new says = search rules
staging_goes (request.Next after) told old new says = search rules
