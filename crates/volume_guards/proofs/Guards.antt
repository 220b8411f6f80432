-- The guard of a node follows the rules of the volume protocol.
use Rattle.std.proofs.Common.{◌≡◌, ℕ, ◌<◌, ◌⊎◌, ⊎_elim, inl, inr, Option, Some, None, refl, sym, ◌∙◌, subst, ap, arith, IsTrue, true}
use Rattle.std.specs.List.{Contains}
use Rattle.redo_core.specs.Data.{CutData}
use Rattle.replica.specs.Parts.{ReplicaData}
use Rattle.replica.specs.declared.requests.Request.{Request as ReplicaRequest}
use Rattle.replica.specs.declared.requests.Request.TheVariants as asks
use Rattle.guard.specs.declared.requests.AcceptedCut.{AcceptedCut}
use Rattle.guard.specs.declared.requests.Admission.{Admission}
use Rattle.guard.specs.declared.requests.Request.TheVariants as request
use Rattle.guard.specs.Asked.{ReplacesSegment}
use Rattle.guard.specs.Data.{GuardData, fenced_to, accepting, admitted_by, around}
use Rattle.guard.specs.Guarding.{HasLater}
use Rattle.volume_theorems.specs.Nodes.{Content, VolumeNode, GrowsTo, volume_node, with_content, with_generation, with_vote}
use Rattle.volume_theorems.specs.Runs.{VolumeRun, Move}
use Rattle.volume_theorems.specs.Runs.Move.{Rests, Learns, IsReplaced, IsCreated, IsFenced, Accepts, IsAdmitted}
use Rattle.volume_theorems.specs.Opening.{IsCutSent}
use Rattle.volume_theorems.specs.Protocol.{IsLaterVote, Moves}
use Rattle.volume_guards.specs.Guards.{vote_of, as_node, IsFirstAdmission, IsLaterAdmission, IsProposal, KeepsFacts, GuardMoves}

-- a move leads from the guard to the other one
abbrev IsMove : VolumeRun → (ReplicaData → Content) → ℕ → ℕ → GuardData → GuardData → Type 0
IsMove run content t i old new = (move : Move) × Moves run t i move (as_node content old) (as_node content new)

rests : (run : VolumeRun) (content : ReplicaData → Content) (t i : ℕ) (old new : GuardData) → new ≡ old → IsMove run content t i old new
rests run content t i old new same = (Rests, ap (λ (g : GuardData). as_node content g) same)

fences : (run : VolumeRun) (content : ReplicaData → Content) (t i e generation : ℕ) (old new : GuardData) → (run.engines e).generation ≡ generation
    → IsTrue old.is_member → old.generation < generation → new ≡ fenced_to old generation → IsMove run content t i old new
fences run content t i e generation old new of member above is = (
  IsFenced e,
  record {
    member = member;
    above = omega arith;
    new_is = ap (λ (g : GuardData). as_node content g) is ∙ ap (λ (x : ℕ). with_generation (as_node content old) x) (sym of);
  },
)

pub not_later : (accepted : Option AcceptedCut) (generation own epoch : ℕ) → own ≡ generation → ¬ (HasLater accepted generation epoch)
    → ¬ (IsLaterVote (vote_of accepted) own epoch)
not_later None generation own epoch same none later = later
not_later (Some pair) generation own epoch same none later = none (later.0 ∙ same, later.1)

accepts : (run : VolumeRun) (content : ReplicaData → Content) (t i generation : ℕ) (cut : CutData) (old new : GuardData) → IsProposal run t generation cut
    → IsTrue old.is_member → generation ≡ old.generation → ¬ (HasLater old.accepted generation cut.epoch) → new ≡ accepting old generation cut
    → IsMove run content t i old new
accepts run content t i generation cut old new p member own none is = (
  Accepts p.engine cut.epoch,
  record {
    under = (member, sym own ∙ sym p.generation_is);
    proposed = p.may;
    latest = not_later old.accepted generation (run.engines p.engine).generation cut.epoch p.generation_is none;
    new_is = ap (λ (g : GuardData). as_node content g) is
        ∙ (ap (λ (x : ℕ). with_vote (as_node content old) x cut) (sym p.generation_is)
        ∙ ap (λ (c : CutData). with_vote (as_node content old) (run.engines p.engine).generation c) (sym p.cut_is));
  },
)

creates : (run : VolumeRun) (content : ReplicaData → Content) (t i : ℕ) (asked : Admission) (old new : GuardData) → IsFirstAdmission run i asked
    → ¬ (IsTrue old.is_member) → asked.birth ≡ old.birth → new ≡ admitted_by old asked → IsMove run content t i old new
creates run content t i asked old new first out birth is = (
  IsCreated,
  record {
    out = out;
    birth = sym birth ∙ first.birth;
    new_is = ap (λ (g : GuardData). as_node content g) is
        ∙ (ap (λ (x : ℕ). volume_node old.birth true x (vote_of asked.accepted) (content old.replica)) first.generation
        ∙ ap (λ (v : Option AcceptedCut). volume_node old.birth true 1 (vote_of v) (content old.replica)) first.accepted);
  },
)

enters : (run : VolumeRun) (content : ReplicaData → Content) (t i : ℕ) (asked : Admission) (old new : GuardData) → (a : IsLaterAdmission run t i old asked)
    → ¬ (IsTrue old.is_member) → new ≡ admitted_by old asked
    → Moves run t i (IsAdmitted a.engine) (as_node content old) (volume_node old.birth true (run.engines a.engine).generation (vote_of asked.accepted) (content old.replica))
    → IsMove run content t i old new
enters run content t i asked old new a out is says = (
  IsAdmitted a.engine,
  subst (λ (n : VolumeNode). Moves run t i (IsAdmitted a.engine) (as_node content old) n)
      (sym (ap (λ (g : GuardData). as_node content g) is
      ∙ ap (λ (x : ℕ). volume_node old.birth true x (vote_of asked.accepted) (content old.replica)) (sym a.generation))) says,
)

as_around : (content : ReplicaData → Content) (old new : GuardData) → new ≡ around old new.replica
    → as_node content new ≡ with_content (as_node content old) (content new.replica)
as_around content old new is = ap (λ (g : GuardData). as_node content g) is

learns : (run : VolumeRun) (content : ReplicaData → Content) (t i : ℕ) (old new : GuardData) → new ≡ around old new.replica
    → GrowsTo (content old.replica) (content new.replica) → ((c : CutData) → Contains (content new.replica).cuts c → IsCutSent run t c)
    → IsMove run content t i old new
learns run content t i old new is grows sent = (
  Learns,
  record { same = as_around content old new is; grows = grows; sent = λ c inside. inr (sent c inside) },
)

exchanges : (run : VolumeRun) (content : ReplicaData → Content) (t i : ℕ) (old new : GuardData) → new ≡ around old new.replica
    → ¬ (IsTrue old.is_member) → ((c : CutData) → Contains (content new.replica).cuts c → IsCutSent run t c) → IsMove run content t i old new
exchanges run content t i old new is out sent =
    (IsReplaced, record { out = out; same = as_around content old new is; sent = sent })

replaces_or_not : (asked : ReplicaRequest) → ReplacesSegment asked ⊎ ¬ (ReplacesSegment asked)
replaces_or_not (asks.Open roster) = inl tt
replaces_or_not asks.Finish = inl tt
replaces_or_not asked = inr (λ none. none)

plainly : (run : VolumeRun) (content : ReplicaData → Content) (t i : ℕ) (asked : ReplicaRequest) (old new : GuardData)
    → KeepsFacts run t (request.Plain asked) (content old.replica) (content new.replica) → ¬ (IsTrue old.is_member × ReplacesSegment asked)
    → new ≡ around old new.replica → IsMove run content t i old new
plainly run content t i asked old new keeps may is = ⊎_elim
    (λ (replaces : ReplacesSegment asked). exchanges run content t i old new is (λ member. may (member, replaces)) keeps.sent)
    (λ (grows : ¬ (ReplacesSegment asked)). learns run content t i old new is (keeps.grows grows) keeps.sent)
    (replaces_or_not asked)

pub guard_moves : GuardMoves
guard_moves run content t i old request.Status told new says allowed keeps = rests run content t i old new says.3
guard_moves run content t i old (request.Fence generation) told new says allowed keeps =
    ⊎_elim (λ yes. fences run content t i allowed.0 generation old new allowed.1 yes.0.0 yes.0.1 yes.2) (λ no. rests run content t i old new no.1.1) says
guard_moves run content t i old (request.As generation birth asked) told new says allowed keeps =
    ⊎_elim (λ no. rests run content t i old new no.2)
    (λ may. ⊎_elim (λ yes. learns run content t i old new yes.2 (keeps.grows (λ none. none)) keeps.sent) (λ no. rests run content t i old new no.2.1) may) says
guard_moves run content t i old (request.Propose generation birth cut) told new says allowed keeps =
    ⊎_elim (λ yes. accepts run content t i generation cut old new allowed yes.0.0 yes.0.1 yes.1 yes.3) (λ no. rests run content t i old new no.1.1) says
guard_moves run content t i old (request.Admit asked) told new says allowed keeps =
    ⊎_elim (λ no. rests run content t i old new no.2)
    (λ out. ⊎_elim (λ no. rests run content t i old new no.3)
    (λ known. ⊎_elim
    (λ yes. ⊎_elim
    (λ (first : IsFirstAdmission run i asked). creates run content t i asked old new first known.0 known.1 yes.2)
    (λ (a : IsLaterAdmission run t i old asked). enters run content t i asked old new a known.0 yes.2
    (record { out = known.0; vote = vote_of asked.accepted; admits = a.may known.2.0 known.1 known.2.1 yes.0; new_is = refl }))
    allowed)
    (λ no. rests run content t i old new no.2) known.2.2) out) says
guard_moves run content t i old (request.Plain asked) told new says allowed keeps =
    ⊎_elim (λ no. rests run content t i old new no.3) (λ yes. plainly run content t i asked old new keeps yes.0 yes.1) says
