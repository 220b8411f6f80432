-- The admission of a node that is no member.
use Rattle.std.proofs.Common.{◌≡◌, ◌≢◌, ℕ, ◌<◌, ◌≤◌, ⊎_elim, List, length, Option, Some, None, IsTrue, refl, sym, ◌∙◌, subst, ap, arith, length-set}
use Rattle.std.specs.Prelude.{slice_set}
use Rattle.std.specs.List.{Contains}
use Rattle.redo_core.specs.Sets.{IsPart, cuts}
use Rattle.redo_core.specs.Sound.{IsSound}
use Rattle.redo_core.specs.declared.facts.Fact.{Fact}
use Rattle.redo_core.proofs.CompleteEpochs.{one_complete_epoch}
use Rattle.segment_core.specs.declared.answers.Front.{Front}
use Rattle.replica.specs.declared.replies.Reply.TheVariants as told
use Rattle.replica.specs.AtSegment.{Fronts}
use Rattle.replica.specs.Parts.{ReplicaData}
use Rattle.guard.specs.declared.requests.Admission.{Admission}
use Rattle.guard.specs.Guarding.{IsFarEnough}
use Rattle.volume.specs.declared.errands.Joining.{Joining}
use Rattle.volume.specs.Sets.{birth_at, no_births}
use Rattle.volume_theorems.specs.Nodes.{Content, VolumeNode}
use Rattle.volume_theorems.specs.Runs.{VolumeRun, IsOneBirth}
use Rattle.volume_theorems.specs.Opening.{IsUnion, IsBest}
use Rattle.volume_theorems.specs.Proposing.{MayAdmit}
use Rattle.volume_theorems.specs.Contents.{IsContentOf}
use Rattle.volume_theorems.specs.Stopping.{FollowsUntil}
use Rattle.volume_theorems.proofs.Contents.{fronts_reach}
use Rattle.volume_theorems.proofs.Proposing.{sent_later}
use Rattle.volume_guards.specs.Guards.{vote_of, as_node, IsLaterAdmission}
use Rattle.volume_logs.specs.Histories.{History, log_at}
use Rattle.volume_logs.specs.Emitting.{IsEmitted}
use Rattle.volume_logs.proofs.Epochs.{at_later}
use Rattle.volume_logs.proofs.Sound.{log_is_sound}
use Rattle.volume_engines.specs.Lives.{Guards}
use Rattle.volume_engines.specs.World.{HoldsPart, HasGuards}
use Rattle.volume_engines.proofs.Tables.{at_or_not, put_there, put_elsewhere, no_birth, some_same}

-- ---- nodes that are no members
-- the node was no member at a moment before t, in this birth
abbrev pub WasOut : VolumeRun → ℕ → ℕ → ℕ → Type 0
WasOut run t i b = (s : ℕ) × (s < t) × ¬ (IsTrue (run.nodes s i).is_member) × ((run.nodes s i).birth ≡ b)

-- nor was each node with an entry
pub record KnowsFresh (run : VolumeRun) (t : ℕ) (fresh : List (Option ℕ)) : Type 0 where
  pub long : length fresh ≡ 15
  pub out : (i b : ℕ) → birth_at fresh i ≡ Some b → WasOut run t i b

pub fresh_later : (run : VolumeRun) (s t : ℕ) (fresh : List (Option ℕ)) → s ≤ t → KnowsFresh run s fresh → KnowsFresh run t fresh
fresh_later run s t fresh order k = record {
  long = k.long;
  out = λ i b has. let x = k.out i b has in let before : x.0 < s = x.1 in (x.0, omega arith, x.2, x.3);
}

pub none_fresh : (run : VolumeRun) (t : ℕ) → KnowsFresh run t no_births
none_fresh run t = record { long = refl; out = λ i b has. let no : None ≡ Some b = sym (no_birth 15 i) ∙ has in absurd (cc) }

module _ (run : VolumeRun) (t node : ℕ) (fresh : List (Option ℕ)) (low : node < 15) (k : KnowsFresh run t fresh) where
  holds : node < length fresh
  holds = let long : length fresh ≡ 15 = k.long in omega arith

  pub fresh_without : KnowsFresh run t (slice_set fresh node None)
  fresh_without = record {
    long = length-set fresh node None ∙ k.long;
    out = λ i b has. ⊎_elim
        (λ (here : i ≡ node). let no : None ≡ Some b = sym (put_there fresh node i None None holds here) ∙ has in absurd (cc))
        (λ (apart : i ≢ node). k.out i b (sym (put_elsewhere fresh node i None None apart) ∙ has))
        (at_or_not i node);
  }

  pub fresh_with : (birth : ℕ) → WasOut run t node birth → KnowsFresh run t (slice_set fresh node (Some birth))
  fresh_with birth was = record {
    long = length-set fresh node (Some birth) ∙ k.long;
    out = λ i b has. ⊎_elim
        (λ (here : i ≡ node).
        let same : birth ≡ b = some_same birth b (sym (put_there fresh node i (Some birth) None holds here) ∙ has) in
        subst (λ (c : ℕ). WasOut run t i c) same (subst (λ (j : ℕ). WasOut run t j birth) (sym here) was))
        (λ (apart : i ≢ node). k.out i b (sym (put_elsewhere fresh node i (Some birth) None apart) ∙ has))
        (at_or_not i node);
  }

-- ---- admissions
abbrev pub joining_as : ℕ → ℕ → Joining → Admission
joining_as generation birth joining = record {
  generation = generation;
  birth = birth;
  epoch = joining.epoch;
  complete = joining.complete;
  accepted = joining.accepted;
}

-- The engine sends the admission at the moment t: the node was no member before the quorum was gathered, and is to come as far as the union,
-- which has these facts.
pub record IsAdmission (run : VolumeRun) (h : History) (e t i : ℕ) (asked : Admission) : Type 0 where
  pub generation : (run.engines e).generation ≡ asked.generation
  pub out : WasOut run (run.engines e).gathered i asked.birth
  pub facts : List Fact
  pub part : IsPart facts (log_at h t)
  pub union : Content
  pub has : IsContentOf facts union
  pub unites : IsUnion run e t union
  pub epoch : union.epoch ≡ asked.epoch
  pub points : (p : ℕ) → Contains union.points p → p ≤ asked.complete
  pub greatest : IsBest run e (vote_of asked.accepted)

pub same_front : (f g : Front) → told.Front f ≡ told.Front g → f ≡ g
same_front f g same = cc

-- what was united stays so
pub unites_later : (run : VolumeRun) (e s t : ℕ) (u : Content) → s ≤ t → IsUnion run e s u → IsUnion run e t u
unites_later run e s t u order union = record {
  gathered = union.gathered;
  of_all = λ i among. let x = union.of_all i among in let before : x.0 < s = x.1 in (x.0, omega arith, x.2, x.3);
  sent = λ c inside. sent_later run s t c order (union.sent c inside);
}

module _ (run : VolumeRun) (h : History) (stop : ℕ) (content : ReplicaData → Content) (guards : Guards) (e s t i : ℕ) (asked : Admission)
    (follows : FollowsUntil run stop) (emitted : IsEmitted run h stop) (guarded : HasGuards run h stop content guards) (order : s ≤ t) (upto : t ≤ stop)
    (is : IsAdmission run h e s i asked) where
  node_is : run.nodes t i ≡ as_node content (guards t i)
  node_is = guarded.nodes t i upto

  hold : HoldsPart h t content (guards t i)
  hold = guarded.holds t i upto

  content_is : IsContentOf hold.part (run.nodes t i).content
  content_is = subst (λ (y : VolumeNode). IsContentOf hold.part y.content) (sym node_is) hold.has

  sound : IsSound h.readers (log_at h t)
  sound = log_is_sound run h stop t follows emitted upto

  module _ (front : Front) (birth : asked.birth ≡ (guards t i).birth) (fronts : Fronts (guards t i).replica.cached.segment (told.Front front))
      (far : IsFarEnough front asked) where
    shows : (front.epoch ≡ hold.means.0.epoch) × (front.complete ≡ hold.means.0.complete)
    shows =
        let at = fronts.facts h.readers (log_at h t) hold.part hold.means.0 sound hold.means.1 in
        let same : front ≡ fronts.front = same_front front fronts.front fronts.is in
        (ap (λ (f : Front). f.epoch) same ∙ at.epoch, ap (λ (f : Front). f.complete) same ∙ at.complete)

    one_birth : IsOneBirth run i is.out.0 t
    one_birth = is.out.3 ∙ (birth ∙ sym (ap (λ (y : VolumeNode). y.birth) node_is))

    same_epoch : (run.nodes t i).content.epoch ≡ is.union.epoch
    same_epoch =
        let own : (run.nodes t i).content.epoch ≡ hold.means.0.epoch =
        one_complete_epoch (cuts hold.part) (run.nodes t i).content.epoch hold.means.0.epoch content_is.epoch hold.means.1.position.epoch in
        own ∙ (sym shows.0 ∙ (far.0 ∙ sym is.epoch))

    has_point : (p : ℕ) → Contains is.union.points p → Contains (run.nodes t i).content.points p
    has_point p inside =
        let low : p ≤ asked.complete = is.points p inside in
        let reached : asked.complete ≤ front.complete = far.1 in
        let at : front.complete ≡ hold.means.0.complete = shows.1 in
        fronts_reach h.readers (log_at h t) hold.part is.facts hold.means.0 (run.nodes t i).content is.union p sound hold.means.1.part
        (λ x among. at_later run h stop emitted s t order upto x (is.part x among)) hold.means.1.position content_is is.has same_epoch inside (omega arith)

    pub may_admit : MayAdmit run e i t (vote_of asked.accepted)
    may_admit = record {
      union = is.union;
      unites = unites_later run e s t is.union order is.unites;
      heard = (is.out.0, is.out.1, is.out.2, one_birth);
      epoch = same_epoch;
      points = has_point;
      greatest = is.greatest;
    }

  pub admits_later : IsLaterAdmission run t i (guards t i) asked
  admits_later = record { engine = e; generation = is.generation; may = may_admit }
