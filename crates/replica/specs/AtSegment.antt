-- What the requests to a segment do, for arbitrary facts: each reply, and each new state, is that of the call below.
use Rattle.std.specs.Prelude.{◌≡◌, ℕ, ◌<◌, ◌⊎◌, List, [], length, Option, Some, Result, Ok, Err, IfOk, IfErr, OnOk, OnErr, MatchOption}
use Rattle.redo_core.specs.Data.{CutData, RecordData}
use Rattle.redo_core.specs.declared.keys.Key.{Key}
use Rattle.redo_core.specs.Position.{Position}
use Rattle.redo_core.specs.Sound.{IsSound}
use Rattle.redo_core.specs.declared.facts.Fact.{Fact}
use Rattle.redo_core.specs.declared.facts.Fact.TheVariants.{Cut}
use Rattle.redo_core.specs.declared.refusal.Refused.{Refused}
use Rattle.hot_log.specs.Held.{IsKeyAfter, IsRecordAt}
use Rattle.hot_log.specs.Kept.{ListsKeysOf}
use Rattle.segment_theorems.specs.State.{State, version_of, empty_state, min_of}
use Rattle.segment_theorems.specs.Means.{MeansAt}
use Rattle.segment_theorems.specs.HasMeaning.{HasComplete, HasAnchor, IsKeptBy}
use Rattle.segment_theorems.specs.Shows.{Shows}
use Rattle.segment_theorems.specs.Promises.{KeepsMeaning}
use Rattle.segment_core.specs.Exactly.{TakesExactly}
use Rattle.segment_core.specs.Folding.{PlansFold, Commits}
use Rattle.segment_core.specs.Forgetting.{DiscardsJust, Tidies, HoldsJustKept, IsSoundState, ReportsFirstBreak, RefusesTidy}
use Rattle.segment_core.specs.Gaps.{IsGapOf, IsGapAt}
use Rattle.segment_core.specs.Reading.{IsFrontOf, IsFrontAt, IsReadResult, ReportsOutside}
use Rattle.segment_core.specs.Refusing.{FitsSoundLog}
use Rattle.segment_core.specs.Taking.{ReportsChange}
use Rattle.segment_core.specs.declared.answers.Front.{Front}
use Rattle.segment_core.specs.declared.answers.Gap.{Gap}
use Rattle.segment_core.specs.declared.answers.ReadFault.{ReadFault}
use Rattle.segment_core.specs.declared.answers.ReadFault.TheVariants as fault
use Rattle.segment_core.specs.declared.answers.Refusal.{Refusal}
use Rattle.segment_core.specs.declared.answers.Refusal.TheVariants as refusal
use Rattle.segment_core.specs.declared.answers.Taken.{Taken}
use Rattle.segment_core.specs.declared.answers.Taken.TheVariants as taken
use Rattle.segment_core.specs.declared.fold_plan.Folded.{Folded}
use Rattle.read_cache.specs.Cached.{Cached, cached}
use Rattle.read_cache.specs.Reading.{ReportsUnkeptBreak}
use Rattle.replica.specs.declared.replies.Reply.{Reply}
use Rattle.replica.specs.declared.replies.Reply.TheVariants as reply
use Rattle.replica.specs.declared.replies.Status.{Status}
use Rattle.replica.specs.Replying.{taken_reply, gap_reply, fault_reply, read_reply, tidied_reply}

-- there was no memory, and nothing has changed
abbrev pub LacksMemory : {S : Type 0} → S → Reply → S → Type 0
LacksMemory old told new = (told ≡ reply.Memory) × (new ≡ old)

-- the segment is one that nothing has reached, and no image is kept
abbrev pub Opens : Cached → ℕ → Reply → Cached → Type 0
Opens old roster told new = LacksMemory old told new ⊎ ((told ≡ reply.Opened) × (new ≡ cached (empty_state roster) old.pages []))

-- the segment takes the fact
pub record Takes (old : Cached) (fact : Fact) (told : Reply) (new : Cached) : Type 0 where
  pub answer : Result Taken (Refused Fact Refusal)
  pub takes : TakesExactly old.segment fact answer new.segment
  pub tells : IfOk answer (ReportsChange old.segment fact)
  pub sound : IfErr answer (λ e. FitsSoundLog old.segment fact → e.fault ≡ refusal.Memory)
  pub drops : (cut : CutData) → fact ≡ Cut cut → answer ≡ Ok taken.Changed → new.images ≡ []
  pub idle : IfOk answer (λ t. t ≡ taken.Unchanged → new ≡ old)
  pub unchanged : OnErr answer (new ≡ old)
  pub pages : new.pages ≡ old.pages
  pub is : told ≡ taken_reply answer

-- the segment reports its own front, which is that of the facts that it means
pub record Fronts (s : State) (told : Reply) : Type 0 where
  pub front : Front
  pub own : IsFrontOf s front
  pub facts : (roster : ℕ) (log facts : List Fact) (p : Position) → IsSound roster log → MeansAt roster log facts p s → IsFrontAt p front
  pub is : told ≡ reply.Front front

-- the segment reports what its own complete point waits for, which is what the facts that it means lack
pub record ReportsGap (s : State) (told : Reply) : Type 0 where
  pub gap : Option Gap
  pub own : IsGapOf s gap
  pub facts : (roster : ℕ) (log facts : List Fact) (p : Position) → IsSound roster log → MeansAt roster log facts p s → IsGapAt log facts p gap
  pub is : told ≡ gap_reply gap

-- what the state stores, in figures
pub record IsStatusOf (s : State) (status : Status) : Type 0 where
  pub epoch : status.epoch ≡ s.book.complete
  pub complete : HasComplete s status.complete
  pub min : status.min ≡ min_of s
  pub anchor : HasAnchor s status.anchor
  pub base : status.base ≡ s.base
  pub held : status.held ≡ length s.held
  pub kept : (keys : List Key) × ListsKeysOf (IsKeptBy s status.anchor) keys × (status.kept ≡ length keys)
  pub images : status.images ≡ length s.store.images
  pub truncations : status.truncations ≡ length s.book.cuts
  pub waiting : status.waiting ≡ length s.book.waits

abbrev pub ReportsStatus : State → Reply → Type 0
ReportsStatus s told = (told ≡ reply.Memory) ⊎ ((status : Status) × IsStatusOf s status × (told ≡ reply.State status))

-- the segment reads the page; over a sound log as the facts that it means have it
pub record Reads (old : Cached) (page point : ℕ) (told : Reply) (new : Cached) : Type 0 where
  pub answer : Result (List ℕ) ReadFault
  pub facts : (roster : ℕ) (log facts : List Fact) (p : Position) → IsSound roster log → MeansAt roster log facts p old.segment → IsReadResult facts p page point answer
  pub own : IfOk answer (Shows old.segment page point)
  pub outside : ReportsOutside old.segment point answer
  pub broken : ReportsUnkeptBreak old page point answer
  pub segment : new.segment ≡ old.segment
  pub pages : new.pages ≡ old.pages
  pub is : told ≡ read_reply answer

-- the page that was planned is committed; there is no plan where the segment has none
abbrev pub CommitsPlan : Cached → Result Folded ReadFault → Reply → Cached → Type 0
CommitsPlan old (Ok folded) told new =
    ((told ≡ reply.Folded) × Commits old.segment folded new.segment)
    ⊎ (LacksMemory old told new × (version_of old.segment.store folded.page < folded.version))
CommitsPlan old (Err f) told new = (told ≡ fault_reply f) × (new ≡ old)

-- the segment plans a fold of the page, and commits it
pub record Folds (old : Cached) (page : ℕ) (told : Reply) (new : Cached) : Type 0 where
  pub plan : Result Folded ReadFault
  pub plans : PlansFold old.segment page plan
  pub commits : CommitsPlan old plan told new
  pub keeps : KeepsMeaning old.segment new.segment
  pub sound : IfErr plan (λ f. IsSoundState old.segment → f ≡ fault.Memory)
  pub pages : new.pages ≡ old.pages

-- the segment drops what it has folded
pub record Discards (old : Cached) (told : Reply) (new : Cached) : Type 0 where
  pub discards : DiscardsJust old.segment new.segment
  pub keeps : KeepsMeaning old.segment new.segment
  pub pages : new.pages ≡ old.pages
  pub is : told ≡ reply.Discarded

-- the segment folds all, and drops what its meaning does not keep
pub record TidiesUp (old : Cached) (told : Reply) (new : Cached) : Type 0 where
  pub answer : Result (Unit {0}) ReadFault
  pub tidies : OnOk answer (Tidies old.segment new.segment)
  pub keeps : OnOk answer (KeepsMeaning old.segment new.segment)
  pub kept : OnOk answer (HoldsJustKept old.segment new.segment)
  pub sound : IfErr answer (λ f. IsSoundState old.segment → f ≡ fault.Memory)
  pub broken : ReportsFirstBreak old.segment answer
  pub refused : IfErr answer (RefusesTidy old.segment)
  pub unchanged : OnErr answer (new ≡ old)
  pub pages : new.pages ≡ old.pages
  pub is : told ≡ tidied_reply answer

-- the record is returned, or there was no memory for a copy
abbrev pub ReportsRecord : State → Key → Reply → Type 0
ReportsRecord s key told = (r : RecordData) × IsRecordAt s.held key (Some r) × ((told ≡ reply.Next r) ⊎ (told ≡ reply.Memory))

-- the stored record of the least key above the one given
pub record ReportsNext (s : State) (after : Option Key) (told : Reply) : Type 0 where
  pub key : Option Key
  pub least : IsKeyAfter s.held after key
  pub is : MatchOption key (told ≡ reply.NoNext) (λ k. ReportsRecord s k told)
