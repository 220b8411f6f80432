-- A reply whose line takes memory is to a request that has changed no more than a refused one.
use Rattle.std.proofs.Common.{◌≡◌, ℕ, ◌≤◌, Bool, true, false, Option, Some, None, Result, Ok, Err, inl, inr, ⊎_elim, refl, sym, ap, ◌∙◌, subst, arith}
use Rattle.redo_core.specs.declared.facts.Fact.{Fact}
use Rattle.redo_core.specs.declared.refusal.Refused.{Refused}
use Rattle.messages.specs.Pieces.{PieceData}
use Rattle.segment_theorems.specs.State.{State}
use Rattle.segment_core.specs.declared.answers.Taken.{Taken}
use Rattle.segment_core.specs.declared.answers.Taken.TheVariants as taken
use Rattle.segment_core.specs.declared.answers.Refusal.{Refusal}
use Rattle.segment_core.specs.declared.answers.Refusal.TheVariants as refusal
use Rattle.segment_core.specs.declared.answers.ReadFault.{ReadFault}
use Rattle.segment_core.specs.declared.answers.ReadFault.TheVariants as fault
use Rattle.segment_core.specs.declared.fold_plan.Folded.{Folded}
use Rattle.gossip_core.specs.declared.absorbing.AbsorbRefusal.{AbsorbRefusal}
use Rattle.gossip_core.specs.declared.absorbing.AbsorbRefusal.TheVariants as absorb
use Rattle.snapshot.specs.Snapshots.{SnapshotData}
use Rattle.snapshot.specs.Stagings.{StagingData}
use Rattle.snapshot.specs.declared.staging.AddFault.{AddFault}
use Rattle.snapshot.specs.declared.staging.AddFault.TheVariants as add
use Rattle.snapshot.specs.declared.finishing.FinishFault.{FinishFault}
use Rattle.snapshot.specs.declared.finishing.FinishFault.TheVariants as finish
use Rattle.read_cache.specs.Cached.{Cached}
use Rattle.replica.specs.AtSegment.{CommitsPlan, Opens}
use Rattle.replica.specs.Hydrating.{FreezesAs, AddsTo, StandsFor, Finishes, EndsInUnion, UnitesMade}
use Rattle.replica.specs.Machine.{IsReply}
use Rattle.replica.specs.Parts.{ReplicaData}
use Rattle.replica.specs.Refused.{IsRefusal, IsAfterRefusal}
use Rattle.replica.specs.Replying.{refusal_reply, taken_reply, fault_reply, tidied_reply, absorbed_reply, unadded_reply, unfinished_reply, united_reply}
use Rattle.replica.specs.declared.requests.Request.{Request}
use Rattle.replica.specs.declared.requests.Request.TheVariants as request
use Rattle.replica.specs.declared.replies.Reply.{Reply}
use Rattle.replica.specs.declared.replies.Reply.TheVariants as reply
use Rattle.guard.specs.Data.{GuardData}
use Rattle.guard.specs.Guarding.{IsGuardReply, NamesNode}
use Rattle.guard.specs.Refusing.{IsGuardRefusal, IsAfterGuardRefusal}
use Rattle.guard.specs.declared.requests.Request.{Request as GuardRequest}
use Rattle.guard.specs.declared.requests.Request.TheVariants as guard
use Rattle.guard.specs.declared.replies.Reply.{Reply as GuardReply}
use Rattle.guard.specs.declared.replies.Reply.TheVariants as guarded
use Rattle.node_stream.specs.GuardTelling.{NeedsMemory, sure_of, sure_for}
use Rattle.node_stream.specs.Telling.{TakesMemory}

-- the reply has the value that was asked for, and is no refusal
abbrev tells : Reply → Bool
tells (reply.Front f) = true
tells (reply.Gap g) = true
tells (reply.State s) = true
tells (reply.Page image) = true
tells (reply.Summary s) = true
tells (reply.Delta d) = true
tells (reply.Piece p) = true
tells (reply.Next r) = true
tells told = false

refuses : (t : Reply) → TakesMemory t → tells t ≡ false → IsRefusal t
refuses reply.Opened h k = absurd h
refuses reply.Changed h k = absurd h
refuses reply.Unchanged h k = absurd h
refuses (reply.Refused why) h k = tt
refuses (reply.Front f) h k = absurd cc
refuses (reply.Gap g) h k = absurd cc
refuses reply.NoGap h k = absurd h
refuses (reply.State s) h k = absurd cc
refuses (reply.Page image) h k = absurd cc
refuses (reply.Below min) h k = tt
refuses (reply.Above complete) h k = tt
refuses (reply.BrokenBlockChain page number) h k = tt
refuses (reply.Summary s) h k = absurd cc
refuses (reply.Delta d) h k = absurd cc
refuses reply.Large h k = absurd h
refuses reply.Absorbed h k = absurd h
refuses (reply.Uncovered s) h k = tt
refuses reply.Folded h k = absurd h
refuses reply.Discarded h k = absurd h
refuses reply.Tidied h k = absurd h
refuses (reply.Frozen pieces) h k = absurd h
refuses reply.TooMany h k = absurd h
refuses (reply.Piece p) h k = absurd cc
refuses reply.NoSnapshot h k = absurd h
refuses reply.NoPiece h k = absurd h
refuses reply.Staged h k = absurd h
refuses reply.Added h k = absurd h
refuses reply.Stranger h k = absurd h
refuses (reply.Double index) h k = tt
refuses reply.NoStaging h k = absurd h
refuses reply.Restored h k = absurd h
refuses reply.United h k = absurd h
refuses (reply.Missing index) h k = tt
refuses (reply.Malformed index) h k = tt
refuses (reply.Next r) h k = absurd cc
refuses reply.NoNext h k = absurd h
refuses reply.Memory h k = absurd h

-- ---- the replies of requests that change something
refusal_tells : (why : Refusal) → tells (refusal_reply why) ≡ false
refusal_tells (refusal.OtherRoster own shown) = refl
refusal_tells (refusal.OtherCut c) = refl
refusal_tells (refusal.Contradiction what) = refl
refusal_tells refusal.OtherRecord = refl
refusal_tells refusal.Memory = refl

taken_tells : (answer : Result Taken (Refused Fact Refusal)) → tells (taken_reply answer) ≡ false
taken_tells (Ok taken.Changed) = refl
taken_tells (Ok taken.Unchanged) = refl
taken_tells (Err refused) = refusal_tells refused.fault

fault_tells : (f : ReadFault) → tells (fault_reply f) ≡ false
fault_tells (fault.Below min) = refl
fault_tells (fault.Above complete) = refl
fault_tells (fault.BrokenBlockChain page number) = refl
fault_tells fault.Memory = refl

tidied_tells : (answer : Result (Unit {0}) ReadFault) → tells (tidied_reply answer) ≡ false
tidied_tells (Ok done) = refl
tidied_tells (Err f) = fault_tells f

absorbed_tells : (answer : Result (Unit {0}) AbsorbRefusal) → tells (absorbed_reply answer) ≡ false
absorbed_tells (Ok done) = refl
absorbed_tells (Err (absorb.Uncovered shown)) = refl
absorbed_tells (Err (absorb.Refused why)) = refusal_tells why

unadded_tells : (f : AddFault) → tells (unadded_reply f) ≡ false
unadded_tells add.Stranger = refl
unadded_tells (add.Double index) = refl
unadded_tells add.Memory = refl

unfinished_tells : (f : FinishFault) → tells (unfinished_reply f) ≡ false
unfinished_tells (finish.Missing index) = refl
unfinished_tells (finish.Malformed index) = refl
unfinished_tells finish.Memory = refl

opens_tells : (old : Cached) (roster : ℕ) (told : Reply) (new : Cached) → Opens old roster told new → tells told ≡ false
opens_tells old roster told new (inl p) = ap tells p.0
opens_tells old roster told new (inr p) = ap tells p.0

commits_tells : (old : Cached) (plan : Result Folded ReadFault) (told : Reply) (new : Cached) → CommitsPlan old plan told new → tells told ≡ false
commits_tells old (Ok folded) told new (inl p) = ap tells p.0
commits_tells old (Ok folded) told new (inr p) = ap tells p.0.0
commits_tells old (Err f) told new p = ap tells p.0 ∙ fault_tells f

freezes_tells : (s : State) (name : ℕ) (old : Option SnapshotData) (told : Reply) (new : Option SnapshotData) → FreezesAs s name old told new → tells told ≡ false
freezes_tells s name old told new (inl p) = ap tells p.0
freezes_tells s name old told new (inr (inl p)) = ap tells p.is
freezes_tells s name old told new (inr (inr p)) = ap tells p.is

adds_tells : (old : Option StagingData) (piece : PieceData) (told : Reply) (new : Option StagingData) → AddsTo old piece told new → tells told ≡ false
adds_tells None piece told new p = ap tells p.0
adds_tells (Some st) piece told new p = elim p.does [ inl q ↦ ap tells q.0 | inr q ↦ ap tells q.3 ∙ unadded_tells q.0 ]

stands_tells : (old : Cached) (st : StagingData) (answer : Result State FinishFault) (told : Reply) (new : Cached) (staging : Option StagingData)
    → StandsFor old st answer told new staging → tells told ≡ false
stands_tells old st (Ok s) told new staging p = ap tells p.0
stands_tells old st (Err why) told new staging p = ap tells p.0 ∙ unfinished_tells why

finishes_tells : (old : Cached) (st : Option StagingData) (told : Reply) (new : Cached) (staging : Option StagingData)
    → Finishes old st told new staging → tells told ≡ false
finishes_tells old None told new staging p = ap tells p.0
finishes_tells old (Some st) told new staging p = stands_tells old st p.answer told new staging p.stands

united_tells : (answer : Result (Unit {0}) Refusal) → tells (united_reply answer) ≡ false
united_tells (Ok done) = refl
united_tells (Err why) = refusal_tells why

made_tells : (old : Cached) (st : StagingData) (answer : Result State FinishFault) (told : Reply) (new : Cached) (staging : Option StagingData)
    → UnitesMade old st answer told new staging → tells told ≡ false
made_tells old st (Ok made) told new staging p = ap tells p.is ∙ united_tells p.answer
made_tells old st (Err why) told new staging p = ap tells p.0 ∙ unfinished_tells why

unites_tells : (old : Cached) (st : Option StagingData) (told : Reply) (new : Cached) (staging : Option StagingData)
    → EndsInUnion old st told new staging → tells told ≡ false
unites_tells old None told new staging p = ap tells p.0
unites_tells old (Some st) told new staging p = made_tells old st p.answer told new staging p.unites

-- ---- each request
-- what makes a reply of such a kind leaves the replica as a refusal does
pub told_unchanged : (old : ReplicaData) (asked : Request) (told : Reply) (new : ReplicaData) → IsReply old asked told new
    → (IsRefusal told → IsAfterRefusal asked old new) → TakesMemory told → IsAfterRefusal asked old new
told_unchanged old (request.Open roster) told new h r t = r (refuses told t (opens_tells old.cached roster told new.cached h.0))
told_unchanged old (request.Take fact) told new h r t = r (refuses told t (ap tells h.0.is ∙ taken_tells h.0.answer))
told_unchanged old request.Front told new h r t = h.1
told_unchanged old request.Gap told new h r t = h.1
told_unchanged old request.State told new h r t = h.1
told_unchanged old (request.Read page point) told new h r t = record {
  cached = record { segment = h.0.segment; pages = h.0.pages };
  snapshot = h.1.snapshot;
  staging = h.1.staging;
}
told_unchanged old request.Ask told new h r t = h.1
told_unchanged old (request.Answer summary) told new h r t = h.1
told_unchanged old (request.AnswerWithin summary most) told new h r t = h.1
told_unchanged old (request.Absorb summary delta) told new h r t = r (refuses told t (ap tells h.0.is ∙ absorbed_tells h.0.answer))
told_unchanged old (request.Fold page) told new h r t = r (refuses told t (commits_tells old.cached h.0.plan told new.cached h.0.commits))
told_unchanged old request.Discard told new h r t = r (refuses told t (ap tells h.0.is))
told_unchanged old request.Tidy told new h r t = r (refuses told t (ap tells h.0.is ∙ tidied_tells h.0.answer))
told_unchanged old (request.Freeze name) told new h r t = r (refuses told t (freezes_tells old.cached.segment name old.snapshot told new.snapshot h.0))
told_unchanged old (request.Piece index) told new h r t = h.1
told_unchanged old (request.Stage name total) told new h r t = r (refuses told t (ap tells h.0.0))
told_unchanged old (request.Add piece) told new h r t = r (refuses told t (adds_tells old.staging piece told new.staging h.0))
told_unchanged old request.Finish told new h r t = r (refuses told t (finishes_tells old.cached old.staging told new.cached new.staging h.0))
told_unchanged old request.Unite told new h r t = r (refuses told t (unites_tells old.cached old.staging told new.cached new.staging h.0))
told_unchanged old (request.Next after) told new h r t = h.1

-- ---- each request to a guard
-- a guard's own reply takes no memory
own_needs_none : (told own : GuardReply) → told ≡ own → NeedsMemory told → NeedsMemory own
own_needs_none told own is needs = subst (λ (t : GuardReply). NeedsMemory t) is needs

declined_needs_none : (old : GuardData) (told : GuardReply) → NamesNode old told → NeedsMemory told → ⊥
declined_needs_none old told (inl stale) needs = own_needs_none told (guarded.Stale old.generation) stale.1 needs
declined_needs_none old told (inr fresh) needs = own_needs_none told (guarded.Fresh old.birth) fresh.1 needs

-- what makes a reply of such a kind leaves the guard as a refusal does
pub reply_unchanged : (old : GuardData) (asked : GuardRequest) (told : GuardReply) (new : GuardData) → IsGuardReply old asked told new
    → (IsGuardRefusal told → IsAfterGuardRefusal asked old new) → NeedsMemory told → IsAfterGuardRefusal asked old new
reply_unchanged old guard.Status told new says r needs = says.3
reply_unchanged old (guard.Fence generation) told new says r needs = ⊎_elim
    (λ yes. absurd (own_needs_none told (guarded.Fenced generation old.birth old.accepted) yes.1 needs))
    (λ no. no.1.1)
    says
reply_unchanged old (guard.As generation birth asked) told new says r needs = ⊎_elim
    (λ no. absurd (own_needs_none told guarded.Unguarded no.1 needs))
    (λ may. ⊎_elim
    (λ yes. (
      yes.2,
      told_unchanged old.replica asked yes.3.0 new.replica yes.3.1
          (λ refusal. (r (subst (λ (t : GuardReply). IsGuardRefusal t) (sym yes.3.2) refusal)).1)
          (own_needs_none told (guarded.Headed generation birth yes.3.0) yes.3.2 needs),
    ))
    (λ no. absurd (declined_needs_none old told no.2.0 needs)) may)
    says
reply_unchanged old (guard.Propose generation birth cut) told new says r needs = ⊎_elim
    (λ yes. absurd (own_needs_none told (guarded.Accepted generation birth cut.epoch) yes.2 needs))
    (λ no. no.1.1)
    says
reply_unchanged old (guard.Admit asked) told new says r needs = ⊎_elim
    (λ no. no.2)
    (λ out. ⊎_elim
    (λ no. no.3)
    (λ known. ⊎_elim
    (λ yes. absurd (own_needs_none told (guarded.Admitted asked.generation old.birth) yes.1 needs))
    (λ no. no.2) known.2.2) out)
    says
reply_unchanged old (guard.Plain asked) told new says r needs = ⊎_elim
    (λ no. absurd (own_needs_none told guarded.Member no.2 needs))
    (λ yes. (
      yes.1,
      told_unchanged old.replica asked yes.2.0 new.replica yes.2.1
          (λ refusal. (r (subst (λ (t : GuardReply). IsGuardRefusal t) (sym yes.2.2) refusal)).1)
          (own_needs_none told (guarded.Plain yes.2.0) yes.2.2 needs),
    ))
    says

-- ---- how long the answer to a request is that changes something
few_of : (told : GuardReply) → sure_of told ≤ 220
few_of (guarded.Status generation birth is_member front accepted) = omega arith
few_of (guarded.Fenced generation birth accepted) = omega arith
few_of (guarded.Stale generation) = omega arith
few_of (guarded.Fresh birth) = omega arith
few_of (guarded.Headed generation birth told) = omega arith
few_of (guarded.Accepted generation birth epoch) = omega arith
few_of (guarded.Admitted generation birth) = omega arith
few_of guarded.Member = omega arith
few_of (guarded.Stranger birth) = omega arith
few_of (guarded.Behind epoch complete) = omega arith
few_of guarded.Unguarded = omega arith
few_of (guarded.Plain told) = omega arith

pub sure_enough : (old : GuardData) (asked : GuardRequest) (told : GuardReply) (new : GuardData) → IsGuardReply old asked told new
    → sure_of told ≤ sure_for asked
sure_enough old guard.Status told new says = few_of told
sure_enough old (guard.Fence generation) told new says = few_of told
sure_enough old (guard.As generation birth asked) told new says = few_of told
sure_enough old (guard.Propose generation birth cut) told new says = few_of told
sure_enough old (guard.Admit asked) told new says = few_of told
sure_enough old (guard.Plain asked) told new says = ⊎_elim
    (λ no. subst (λ (t : GuardReply). sure_of t ≤ 17) (sym no.2) (omega arith))
    (λ yes. subst (λ (t : GuardReply). sure_of t ≤ 17) (sym yes.2.2) (omega arith))
    says

pub some_sure : (asked : GuardRequest) → 17 ≤ sure_for asked
some_sure guard.Status = omega arith
some_sure (guard.Fence generation) = omega arith
some_sure (guard.As generation birth asked) = omega arith
some_sure (guard.Propose generation birth cut) = omega arith
some_sure (guard.Admit asked) = omega arith
some_sure (guard.Plain asked) = omega arith
