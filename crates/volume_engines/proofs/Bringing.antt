-- What a guard's segment means after a request, and so what its node has.
use Rattle.std.proofs.Common.{◌≡◌, ℕ, suc, ⊎_elim, List, ◌∷◌, [], sym, subst, arith}
use Rattle.std.proofs.lemmas.List.Elements.{Contains-append_left}
use Rattle.redo_core.specs.Sets.{IsPart}
use Rattle.redo_core.specs.Sound.{IsSound}
use Rattle.redo_core.specs.declared.facts.Fact.{Fact}
use Rattle.segment_theorems.specs.Means.{Means}
use Rattle.replica.specs.declared.requests.Request.{Request as SegmentRequest}
use Rattle.replica.specs.declared.requests.Request.TheVariants as segment
use Rattle.replica.specs.declared.replies.Reply.{Reply as SegmentReply}
use Rattle.replica.specs.declared.replies.Reply.TheVariants as segment_reply
use Rattle.replica.specs.Parts.{ReplicaData}
use Rattle.replica.specs.Meaning.{facts_after, Brings}
use Rattle.replica.specs.Machine.{IsReply}
use Rattle.replica.proofs.Means.{step_means}
use Rattle.guard.specs.declared.requests.Request.{Request}
use Rattle.guard.specs.declared.requests.Request.TheVariants as request
use Rattle.guard.specs.declared.replies.Reply.{Reply}
use Rattle.guard.specs.Asked.{IsGuarded, ReplacesSegment}
use Rattle.guard.specs.Data.{GuardData, fenced_to, accepting, admitted_by}
use Rattle.guard.specs.Guarding.{IsGuardReply}
use Rattle.volume_theorems.specs.Nodes.{Content}
use Rattle.volume_theorems.specs.Runs.{VolumeRun}
use Rattle.volume_theorems.specs.Stopping.{FollowsUntil}
use Rattle.volume_theorems.specs.Contents.{IsContentOf}
use Rattle.volume_guards.specs.Guards.{Exchanges, KeepsFacts}
use Rattle.volume_logs.specs.Histories.{History, log_at}
use Rattle.volume_logs.specs.Emitting.{IsEmitted}
use Rattle.volume_logs.proofs.Joining.{parts_keep_rules}
use Rattle.volume_logs.proofs.Sound.{log_is_sound}
use Rattle.volume_engines.specs.Lives.{Guards}
use Rattle.volume_engines.specs.World.{HoldsPart}
use Rattle.volume_engines.specs.Following.{IsNextMoment}

-- ---- facts
-- what a request brings to the replica is of the log
abbrev pub BringsTo : ℕ → List Fact → ReplicaData → Request → List Fact → Type 0
BringsTo readers log old (request.As generation birth asked) brought = Brings readers log old asked brought
BringsTo readers log old (request.Plain asked) brought = Brings readers log old asked brought
BringsTo readers log old asked brought = Unit {0}

guarded_keeps : (asked : SegmentRequest) → IsGuarded asked → ¬ (ReplacesSegment asked)
guarded_keeps (segment.Open roster) may = λ replaces. may
guarded_keeps segment.Finish may = λ replaces. may
guarded_keeps asked may = λ replaces. replaces

-- unless the segment is replaced, it keeps its facts
more_after : (facts brought : List Fact) (asked : SegmentRequest) (answer : SegmentReply) → ¬ (ReplacesSegment asked)
    → IsPart facts (facts_after facts brought asked answer)
more_after facts brought (segment.Open roster) segment_reply.Opened stays f inside = absurd (stays tt)
more_after facts brought (segment.Take fact) segment_reply.Changed stays f inside = Contains-append_left facts (fact ∷ []) f inside
more_after facts brought (segment.Take fact) segment_reply.Unchanged stays f inside = Contains-append_left facts (fact ∷ []) f inside
more_after facts brought (segment.Absorb summary delta) segment_reply.Absorbed stays f inside = Contains-append_left facts brought f inside
more_after facts brought segment.Finish segment_reply.Restored stays f inside = absurd (stays tt)
more_after facts brought segment.Unite segment_reply.United stays f inside = Contains-append_left facts brought f inside
more_after facts brought asked answer stays f inside = inside

-- ---- one request
module _ (readers : ℕ) (log facts : List Fact) (asked : Request) where
  -- what the guard's segment means then
  pub record HasMore (new : GuardData) : Type 0 where
    pub more : List Fact
    pub means : Means readers log more new.replica.cached.segment
    pub grows : ¬ (Exchanges asked) → IsPart facts more

  same : (old new : GuardData) → new ≡ old → Means readers log facts old.replica.cached.segment → HasMore new
  same old new is m = record {
    more = facts;
    means = subst (λ (g : GuardData). Means readers log facts g.replica.cached.segment) (sym is) m;
    grows = λ stays f inside. inside;
  }

module _ (readers : ℕ) (log facts brought : List Fact) (old new : GuardData) (sound : IsSound readers log)
    (m : Means readers log facts old.replica.cached.segment) where
  guarded : (generation birth : ℕ) (asked : SegmentRequest) (answer : SegmentReply) → IsGuarded asked → Brings readers log old.replica asked brought
      → IsReply old.replica asked answer new.replica → HasMore readers log facts (request.As generation birth asked) new
  guarded generation birth asked answer may brings replies = record {
    more = facts_after facts brought asked answer;
    means = step_means readers log facts brought old.replica asked answer new.replica sound brings replies m;
    grows = λ stays. more_after facts brought asked answer (guarded_keeps asked may);
  }

  plain : (asked : SegmentRequest) (answer : SegmentReply) → Brings readers log old.replica asked brought
      → IsReply old.replica asked answer new.replica → HasMore readers log facts (request.Plain asked) new
  plain asked answer brings replies = record {
    more = facts_after facts brought asked answer;
    means = step_means readers log facts brought old.replica asked answer new.replica sound brings replies m;
    grows = λ stays. more_after facts brought asked answer stays;
  }

  has_more : (asked : Request) (told : Reply) → BringsTo readers log old.replica asked brought → IsGuardReply old asked told new
      → HasMore readers log facts asked new
  has_more request.Status told brings says = same readers log facts request.Status old new says.3 m
  has_more (request.Fence generation) told brings says = ⊎_elim
      (λ yes. same readers log facts (request.Fence generation) (fenced_to old generation) new yes.2 m)
      (λ no. same readers log facts (request.Fence generation) old new no.1.1 m)
      says
  has_more (request.As generation birth asked) told brings says = ⊎_elim
      (λ no. same readers log facts (request.As generation birth asked) old new no.2 m)
      (λ may. ⊎_elim
      (λ yes. guarded generation birth asked yes.3.0 yes.0 brings yes.3.1)
      (λ no. same readers log facts (request.As generation birth asked) old new no.2.1 m)
      may)
      says
  has_more (request.Propose generation birth cut) told brings says = ⊎_elim
      (λ yes. same readers log facts (request.Propose generation birth cut) (accepting old generation cut) new yes.3 m)
      (λ no. same readers log facts (request.Propose generation birth cut) old new no.1.1 m)
      says
  has_more (request.Admit asked) told brings says = ⊎_elim
      (λ no. same readers log facts (request.Admit asked) old new no.2 m)
      (λ out. ⊎_elim
      (λ no. same readers log facts (request.Admit asked) old new no.3 m)
      (λ known. ⊎_elim
      (λ yes. same readers log facts (request.Admit asked) (admitted_by old asked) new yes.2 m)
      (λ no. same readers log facts (request.Admit asked) old new no.2 m)
      known.2.2)
      out)
      says
  has_more (request.Plain asked) told brings says = ⊎_elim
      (λ no. same readers log facts (request.Plain asked) old new no.3 m)
      (λ yes. plain asked yes.2.0 brings yes.2.1)
      says

-- ---- in a run
-- the guard's segment means a part of the log one moment later, too, and keeps its facts
pub record Carries (run : VolumeRun) (h : History) (content : ReplicaData → Content) (guards : Guards) (t i : ℕ) (asked : Request) : Type 0 where
  pub holds : HoldsPart h t content (guards (suc t) i)
  pub keeps : KeepsFacts run t asked (content (guards t i).replica) (content (guards (suc t) i).replica)

pub carries : (run : VolumeRun) (h : History) (content : ReplicaData → Content) (guards : Guards) (t i : ℕ) (asked : Request) (told : Reply) (brought : List Fact)
    → FollowsUntil run t → IsEmitted run h t → HoldsPart h t content (guards t i) → IsNextMoment run h content guards t
    → BringsTo h.readers (log_at h t) (guards t i).replica asked brought → IsGuardReply (guards t i) asked told (guards (suc t) i)
    → Carries run h content guards t i asked
carries run h content guards t i asked told brought follows emitted held next brings replies =
    let log : List Fact = log_at h t in
    let sound : IsSound h.readers log = log_is_sound run h t t follows emitted (omega arith) in
    let x : HasMore h.readers log held.part asked (guards (suc t) i) =
    has_more h.readers log held.part brought (guards t i) (guards (suc t) i) sound held.means asked told brings replies in
    let has : IsContentOf x.more (content (guards (suc t) i).replica) = next.has i x.more x.means in
    let inner : IsPart x.more log = x.means.1.part in
    record {
      holds = record { part = x.more; means = x.means; has = has };
      keeps = record {
        sent = (parts_keep_rules run h t x.more x.more (content (guards (suc t) i).replica) (content (guards (suc t) i).replica) follows emitted
            (λ f inside. inside) inner has has).1;
        grows = λ stays.
            (parts_keep_rules run h t held.part x.more (content (guards t i).replica) (content (guards (suc t) i).replica) follows emitted
            (x.grows stays) inner held.has has).0;
      };
    }
