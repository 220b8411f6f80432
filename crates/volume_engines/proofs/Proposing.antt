-- The plan that a quorum knows may be proposed.
use Rattle.std.proofs.Common.{◌≡◌, ℕ, suc, ◌+◌, ◌<◌, ◌≤◌, ◌⊎◌, ⊎_elim, inl, inr, List, [], Bool, true, false, Option, Some, None, refl, sym, ◌∙◌, subst, ap, arith}
use Rattle.std.specs.List.{Contains}
use Rattle.redo_core.specs.Data.{RecordData, CutData}
use Rattle.redo_core.specs.Sets.{IsPart, cuts}
use Rattle.redo_core.specs.Sound.{IsSound}
use Rattle.redo_core.specs.declared.facts.Fact.TheVariants.{Record}
use Rattle.redo_core.proofs.CompleteEpochs.{one_complete_epoch}
use Rattle.segment_theorems.specs.Means.{MeansAt}
use Rattle.replica.specs.Parts.{ReplicaData}
use Rattle.guard.specs.declared.requests.AcceptedCut.{AcceptedCut}
use Rattle.volume.specs.declared.phases.Opening.{Opening}
use Rattle.volume.specs.declared.plans.CutPlan.{CutPlan}
use Rattle.volume.specs.Planning.{IsPending, IsPlan, IsOwnCut}
use Rattle.volume.specs.Sets.{is_marked, count_marked}
use Rattle.volume_theorems.specs.Nodes.{Content}
use Rattle.volume_theorems.specs.Quorums.{size_below}
use Rattle.volume_theorems.specs.Runs.{VolumeRun, Many}
use Rattle.volume_theorems.specs.Opening.{HasGathered, AnswersUnder, IsKnownToMany, IsBest}
use Rattle.volume_theorems.specs.Proposing.{IsVoteFor, IsOfEpoch, AdoptsPending, MakesOwn}
use Rattle.volume_theorems.specs.Contents.{IsCommitPoint}
use Rattle.volume_theorems.specs.Stopping.{FollowsUntil}
use Rattle.volume_theorems.proofs.Contents.{fronts_reach}
use Rattle.volume_guards.specs.Guards.{vote_of}
use Rattle.volume_logs.specs.Histories.{History, log_at}
use Rattle.volume_logs.specs.Emitting.{IsEmitted}
use Rattle.volume_logs.specs.PageLayout.{LeavesNumber}
use Rattle.volume_logs.proofs.Moments.{until_earlier}
use Rattle.volume_logs.proofs.Epochs.{at_later, record_epoch}
use Rattle.volume_logs.proofs.Sound.{log_is_sound}
use Rattle.volume_engines.specs.Lives.{Guards}
use Rattle.volume_engines.specs.World.{HasGuards}
use Rattle.volume_engines.proofs.Tables.{marked_below}
use Rattle.volume_engines.proofs.Sending.{IsOwnProposal}
use Rattle.volume_engines.proofs.Ordering.{pending_next}
use Rattle.volume_engines.proofs.Named.{NamesPlan}
use Rattle.volume_engines.proofs.Unions.{IsLast, own_last}
use Rattle.volume_engines.proofs.Pending.{pending_known}
use Rattle.volume_engines.proofs.United.{IsUnited, united}
use Rattle.volume_engines.proofs.Knowing.{KnowsUnion, IsKnown, AreKnown}

-- nodes that are marked, as many as a quorum takes
pub many_marked : (run : VolumeRun) (marks : List Bool) (P : ℕ → Type 0) → run.quorum ≤ count_marked marks
    → ((i : ℕ) → is_marked marks i ≡ true → (i < run.roster) × P i) → Many run P
many_marked run marks P enough each = (
  λ i. is_marked marks i,
  (let low : count_marked marks ≤ size_below run.roster (λ i. is_marked marks i) = marked_below marks run.roster (λ i marked. (each i marked).0) in omega arith),
  λ i marked. (each i marked).1,
)

not_pending : (pair : Option AcceptedCut) (epoch : ℕ) → ((cut : CutData) → IsPending pair epoch cut → ⊥) → ¬ (IsOfEpoch (vote_of pair) (suc epoch))
not_pending None epoch none of = of
not_pending (Some pair) epoch none of =
    let at : pair.cut.epoch ≡ suc epoch = of in none pair.cut (refl, omega arith)

pending_vote : (pair : Option AcceptedCut) (epoch : ℕ) (cut d : CutData) → d ≡ cut → IsPending pair epoch cut → IsVoteFor (vote_of pair) d
pending_vote None epoch cut d same is = absurd is
pending_vote (Some pair) epoch cut d same is = is.0 ∙ sym same

module _ (run : VolumeRun) (h : History) (stop : ℕ) (content : ReplicaData → Content) (guards : Guards) (e t : ℕ) (o : Opening) (plan : CutPlan) (known : List Bool)
    (follows : FollowsUntil run stop) (emitted : IsEmitted run h stop) (guarded : HasGuards run h stop content guards) (upto : t ≤ stop)
    (best : IsBest run e (vote_of o.pair)) (union : KnowsUnion run h e t o.union [])
    (enough : run.quorum ≤ count_marked known) (are : AreKnown run h e t plan known) (names : NamesPlan plan (run.engines e)) (gathered : HasGathered run e) where
  sound : IsSound h.readers (log_at h t)
  sound = log_is_sound run h stop t follows emitted upto

  means : MeansAt h.readers (log_at h t) union.facts union.means.0 o.union
  means = union.means.1

  both : IsUnited run e t union.facts o.union
  both = united run h stop e t o.union follows emitted upto gathered union

  epoch_at : both.union.epoch ≡ union.means.0.epoch
  epoch_at = one_complete_epoch (cuts union.facts) both.union.epoch union.means.0.epoch both.has.epoch means.position.epoch

  leaves : (r : RecordData) → Contains (log_at h t) (Record r) → LeavesNumber r
  leaves r inside =
      let x = record_epoch run h stop emitted t (h.newest t) r upto inside in
      (emitted.writers t x.0 (Record r) upto x.3).1.leaves r x.3

  -- the point is known to a quorum
  module _ (epoch : plan.cut.epoch ≡ suc both.union.epoch) (point : Contains both.union.points plan.cut.lo) where
    known_at : (i : ℕ) → IsKnown run h e t i plan
        → (s : ℕ) × (s < t) × AnswersUnder run e s i × ((run.nodes s i).content.epoch ≡ both.union.epoch) × Contains (run.nodes s i).content.points plan.cut.lo
    known_at i is =
        let s : ℕ = is.moment in
        let early : s < t = is.before in
        let f = is.front in
        let next : is.epoch + 1 ≡ plan.cut.epoch = is.next in
        let front : f.front.epoch ≡ is.epoch = f.epoch_is in
        let own : (run.nodes s i).content.epoch ≡ f.front.epoch =
        one_complete_epoch (cuts f.part) (run.nodes s i).content.epoch f.front.epoch f.content.epoch f.position.epoch in
        let same : (run.nodes s i).content.epoch ≡ both.union.epoch = omega arith in
        let inner : IsPart f.part (log_at h t) = λ x inside. at_later run h stop emitted s t (omega arith) upto x (f.inner x inside) in (
          s,
          is.before,
          is.answers,
          same,
          fronts_reach h.readers (log_at h t) f.part union.facts f.front (run.nodes s i).content both.union plan.cut.lo sound inner means.part f.position f.content
              both.has same point f.reached,
        )

    known_to_many : IsKnownToMany run e t both.union plan.cut.lo
    known_to_many =
        many_marked run known (λ i. (s : ℕ) × (s < t) × AnswersUnder run e s i × ((run.nodes s i).content.epoch ≡ both.union.epoch) × Contains (run.nodes s i).content.points plan.cut.lo)
        enough (λ i marked. let is = are i marked in (is.within, known_at i is))

    proposes : AdoptsPending run e plan.cut.epoch (vote_of o.pair) ⊎ MakesOwn run e plan.cut.epoch both.union (vote_of o.pair) → IsOwnProposal run e t plan.cut
    proposes choice = (
      names.cut,
      record {
        union = both.union;
        unites = both.unites;
        next = epoch;
        of_epoch = ap (λ (c : CutData). c.epoch) names.cut;
        known = subst (λ (c : CutData). IsKnownToMany run e t both.union c.lo) (sym names.cut) known_to_many;
        best = vote_of o.pair;
        greatest = best;
        choice = choice;
      },
    )

  -- a truncation of its own
  own_proposed : plan.is_pending ≡ false → ((cut : CutData) → IsPending o.pair o.union.book.complete cut → ⊥) → IsOwnCut o.union plan.cut
      → IsOwnProposal run e t plan.cut
  own_proposed own none cut =
      let last : IsLast union.facts union.means.0.epoch plan.cut =
      own_last h.readers (log_at h t) union.facts union.means.0 o.union plan.cut sound means cut leaves in
      let above : plan.cut.epoch ≡ cut.front.epoch + 1 = cut.epoch in
      let front : cut.front.epoch ≡ o.union.book.complete = cut.own.epoch in
      let mine : both.union.epoch ≡ o.union.book.complete = both.epoch in
      let next : plan.cut.epoch ≡ suc both.union.epoch = omega arith in
      let after : plan.cut.epoch ≡ suc o.union.book.complete = omega arith in
      let point : Contains both.union.points plan.cut.lo =
      (both.has.points plan.cut.lo).1 (subst (λ (k : ℕ). IsCommitPoint union.facts k plan.cut.lo) (sym epoch_at) last.point) in
      proposes next point (inr (record {
        opens = sym (names.own own);
        free = λ of. not_pending o.pair o.union.book.complete none (subst (λ (k : ℕ). IsOfEpoch (vote_of o.pair) k) after of);
        lo = subst (λ (c : CutData). Contains both.union.points c.lo) (sym names.cut) point;
        last = λ p inside.
            subst (λ (c : CutData). p ≤ c.lo) (sym names.cut)
            (last.last p (subst (λ (k : ℕ). IsCommitPoint union.facts k p) epoch_at ((both.has.points p).0 inside)));
        hi = subst (λ (c : CutData). c.lo ≤ c.hi) (sym names.cut) last.hi;
      }))

  -- one that is pending
  point_pending : (pair : Option AcceptedCut) → IsBest run e (vote_of pair) → IsPending pair o.union.book.complete plan.cut
      → plan.cut.epoch ≡ suc both.union.epoch → Contains both.union.points plan.cut.lo
  point_pending None greatest is next = absurd is
  point_pending (Some pair) greatest is next =
      subst (λ (c : CutData). Contains both.union.points c.lo) is.0
      (pending_known run e t both.union (record { generation = pair.generation; cut = pair.cut }) (until_earlier run t stop upto follows) both.unites greatest
      (ap (λ (c : CutData). c.epoch) is.0 ∙ next))

  pending_proposed : plan.is_pending ≡ true → IsPending o.pair o.union.book.complete plan.cut → plan.cut.epoch ≡ o.union.book.complete + 1
      → IsOwnProposal run e t plan.cut
  pending_proposed pending is above =
      let mine : both.union.epoch ≡ o.union.book.complete = both.epoch in
      let next : plan.cut.epoch ≡ suc both.union.epoch = omega arith in
      let point : Contains both.union.points plan.cut.lo = point_pending o.pair best is next in
      proposes next point
      (inl (record {
        below = names.pending pending;
        pending = pending_vote o.pair o.union.book.complete plan.cut ((run.engines e).cuts plan.cut.epoch) names.cut is;
      }))

  pub plan_proposed : IsPlan o.union o.pair plan → IsOwnProposal run e t plan.cut
  plan_proposed is = ⊎_elim
      (λ pending. pending_proposed pending.0 pending.1 (pending_next o.pair o.union.book.complete plan.cut pending.1))
      (λ own. own_proposed own.0 own.1 own.2)
      is
