-- What a replica's reply says, where it was asked as an engine asks.
use Rattle.std.proofs.Common.{◌≡◌, ℕ, ◌≤◌, ⊎_elim, Result, Ok, Err, sym, subst}
use Rattle.std.specs.Prelude.{IfOk}
use Rattle.redo_core.specs.declared.facts.Fact.{Fact}
use Rattle.redo_core.specs.declared.refusal.Refused.{Refused}
use Rattle.messages.specs.Summaries.{SummaryData}
use Rattle.messages.specs.Deltas.{DeltaData}
use Rattle.segment_theorems.specs.State.{State}
use Rattle.segment_core.specs.declared.answers.Front.{Front}
use Rattle.segment_core.specs.declared.answers.ReadFault.{ReadFault}
use Rattle.segment_core.specs.declared.answers.ReadFault.TheVariants as fault
use Rattle.segment_core.specs.declared.answers.Refusal.{Refusal}
use Rattle.segment_core.specs.declared.answers.Refusal.TheVariants as refusal
use Rattle.segment_core.specs.declared.answers.Taken.{Taken}
use Rattle.segment_core.specs.declared.answers.Taken.TheVariants as taken
use Rattle.gossip_core.specs.declared.absorbing.AbsorbRefusal.{AbsorbRefusal}
use Rattle.gossip_core.specs.declared.absorbing.AbsorbRefusal.TheVariants as absorb
use Rattle.gossip_core.specs.Replying.{FillsSummary}
use Rattle.replica.specs.declared.requests.Request.{Request as SegmentRequest}
use Rattle.replica.specs.declared.requests.Request.TheVariants as segment
use Rattle.replica.specs.declared.replies.Reply.TheVariants as told
use Rattle.replica.specs.AtSegment.{Fronts}
use Rattle.replica.specs.Machine.{IsReply}
use Rattle.replica.specs.Parts.{ReplicaData}
use Rattle.replica.specs.Replying.{refusal_reply, taken_reply, fault_reply, delta_reply, absorbed_reply}
use Rattle.volume_theorems.specs.Runs.{VolumeRun}
use Rattle.volume_theorems.specs.Opening.{HasAsked}
use Rattle.volume_engines.proofs.Sending.{MayAsk}

-- ---- replies that carry neither a delta nor a front
refusal_no_delta : (d : DeltaData) (why : Refusal) → told.Delta d ≡ refusal_reply why → ⊥
refusal_no_delta d refusal.Memory same = absurd (cc)
refusal_no_delta d other same = absurd (cc)

taken_no_delta : (d : DeltaData) (answer : Result Taken (Refused Fact Refusal)) → told.Delta d ≡ taken_reply answer → ⊥
taken_no_delta d (Ok taken.Changed) same = absurd (cc)
taken_no_delta d (Ok taken.Unchanged) same = absurd (cc)
taken_no_delta d (Err refused) same = refusal_no_delta d refused.fault same

absorbed_no_delta : (d : DeltaData) (answer : Result (Unit {0}) AbsorbRefusal) → told.Delta d ≡ absorbed_reply answer → ⊥
absorbed_no_delta d (Ok done) same = absurd (cc)
absorbed_no_delta d (Err (absorb.Uncovered shown)) same = absurd (cc)
absorbed_no_delta d (Err (absorb.Refused why)) same = refusal_no_delta d why same

fault_no_delta : (d : DeltaData) (f : ReadFault) → told.Delta d ≡ fault_reply f → ⊥
fault_no_delta d (fault.Below min) same = absurd (cc)
fault_no_delta d (fault.Above complete) same = absurd (cc)
fault_no_delta d (fault.BrokenBlockChain page number) same = absurd (cc)
fault_no_delta d fault.Memory same = absurd (cc)

refusal_no_front : (f : Front) (why : Refusal) → told.Front f ≡ refusal_reply why → ⊥
refusal_no_front f refusal.Memory same = absurd (cc)
refusal_no_front f other same = absurd (cc)

taken_no_front : (f : Front) (answer : Result Taken (Refused Fact Refusal)) → told.Front f ≡ taken_reply answer → ⊥
taken_no_front f (Ok taken.Changed) same = absurd (cc)
taken_no_front f (Ok taken.Unchanged) same = absurd (cc)
taken_no_front f (Err refused) same = refusal_no_front f refused.fault same

absorbed_no_front : (f : Front) (answer : Result (Unit {0}) AbsorbRefusal) → told.Front f ≡ absorbed_reply answer → ⊥
absorbed_no_front f (Ok done) same = absurd (cc)
absorbed_no_front f (Err (absorb.Uncovered shown)) same = absurd (cc)
absorbed_no_front f (Err (absorb.Refused why)) same = refusal_no_front f why same

fault_no_front : (f : Front) (x : ReadFault) → told.Front f ≡ fault_reply x → ⊥
fault_no_front f (fault.Below min) same = absurd (cc)
fault_no_front f (fault.Above complete) same = absurd (cc)
fault_no_front f (fault.BrokenBlockChain page number) same = absurd (cc)
fault_no_front f fault.Memory same = absurd (cc)

delta_no_front : (f : Front) (answer : Result DeltaData ReadFault) → told.Front f ≡ delta_reply answer → ⊥
delta_no_front f (Ok d) same = absurd (cc)
delta_no_front f (Err x) same = fault_no_front f x same

-- ---- a delta
same_delta : (c d : DeltaData) → told.Delta c ≡ told.Delta d → c ≡ d
same_delta c d same = cc

filled : (s : State) (summary : SummaryData) (d : DeltaData) (answer : Result DeltaData ReadFault) → IfOk answer (FillsSummary s summary)
    → told.Delta d ≡ delta_reply answer → FillsSummary s summary d
filled s summary d (Ok c) fills same = subst (λ (x : DeltaData). FillsSummary s summary x) (sym (same_delta d c same)) fills
filled s summary d (Err f) fills same = absurd (fault_no_delta d f same)

-- the delta has what the node's segment has beyond one of the engine's summaries
pub record ShowsDelta (run : VolumeRun) (e t : ℕ) (Q : SummaryData → Type 0) (s : State) (d : DeltaData) : Type 0 where
  pub summary : SummaryData
  pub own : Q summary
  pub after : (run.engines e).gathered ≤ t
  pub fills : FillsSummary s summary d

pub delta_says : (run : VolumeRun) (e t : ℕ) (Q : SummaryData → Type 0) (old new : ReplicaData) (asked : SegmentRequest) (d : DeltaData)
    → MayAsk run e Q t asked → IsReply old asked (told.Delta d) new → ShowsDelta run e t Q old.cached.segment d
delta_says run e t Q old new (segment.Answer summary) d right says = record {
  summary = summary;
  own = right.0;
  after = right.1;
  fills = filled old.cached.segment summary d says.0.answer says.0.replies.fills says.0.is;
}
delta_says run e t Q old new segment.Front d right says = let no : told.Delta d ≡ told.Front says.0.front = says.0.is in absurd (cc)
delta_says run e t Q old new (segment.Take fact) d right says = absurd (taken_no_delta d says.0.answer says.0.is)
delta_says run e t Q old new segment.Ask d right says = ⊎_elim
    (λ (none : told.Delta d ≡ told.Memory). absurd (cc))
    (λ some. let no : told.Delta d ≡ told.Summary some.0 = some.2 in absurd (cc))
    says.0
delta_says run e t Q old new (segment.Absorb summary delta) d right says = absurd (absorbed_no_delta d says.0.answer says.0.is)
delta_says run e t Q old new asked d right says = absurd right

-- ---- a front
pub front_says : (run : VolumeRun) (e t : ℕ) (Q : SummaryData → Type 0) (old new : ReplicaData) (asked : SegmentRequest) (f : Front)
    → MayAsk run e Q t asked → IsReply old asked (told.Front f) new → HasAsked run e t × Fronts old.cached.segment (told.Front f)
front_says run e t Q old new (segment.Answer summary) f right says = absurd (delta_no_front f says.0.answer says.0.is)
front_says run e t Q old new segment.Front f right says = (right, says.0)
front_says run e t Q old new (segment.Take fact) f right says = absurd (taken_no_front f says.0.answer says.0.is)
front_says run e t Q old new segment.Ask f right says = ⊎_elim
    (λ (none : told.Front f ≡ told.Memory). absurd (cc))
    (λ some. let no : told.Front f ≡ told.Summary some.0 = some.2 in absurd (cc))
    says.0
front_says run e t Q old new (segment.Absorb summary delta) f right says = absurd (absorbed_no_front f says.0.answer says.0.is)
front_says run e t Q old new asked f right says = absurd right
