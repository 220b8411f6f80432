-- The admissions that an opening sends.
use Rattle.std.proofs.Common.{◌≡◌, ℕ, ◌≤◌, [], Some, sym, ◌∙◌, subst, arith}
use Rattle.std.specs.List.{Contains}
use Rattle.redo_core.specs.Sets.{cuts}
use Rattle.redo_core.proofs.CompleteEpochs.{one_complete_epoch}
use Rattle.segment_core.specs.declared.answers.Front.{Front}
use Rattle.segment_core.specs.Reading.{IsFrontOf}
use Rattle.volume.specs.declared.phases.Opening.{Opening}
use Rattle.volume.specs.Opening.{joining_of}
use Rattle.volume.specs.Sets.{birth_at}
use Rattle.volume_theorems.specs.Runs.{VolumeRun}
use Rattle.volume_theorems.specs.Opening.{HasGathered, IsBest}
use Rattle.volume_theorems.specs.Contents.{IsCommitPoint}
use Rattle.volume_theorems.specs.Stopping.{FollowsUntil}
use Rattle.volume_guards.specs.Guards.{vote_of}
use Rattle.volume_logs.specs.Histories.{History, log_at}
use Rattle.volume_logs.specs.Emitting.{IsEmitted}
use Rattle.volume_logs.proofs.Sound.{log_is_sound}
use Rattle.volume_engines.proofs.Admissions.{KnowsFresh, IsAdmission, joining_as}
use Rattle.volume_engines.proofs.Unions.{points_within, complete_is}
use Rattle.volume_engines.proofs.United.{IsUnited, united}
use Rattle.volume_engines.proofs.Knowing.{KnowsUnion}

module _ (run : VolumeRun) (h : History) (stop e t : ℕ) (o : Opening) (follows : FollowsUntil run stop) (emitted : IsEmitted run h stop) (upto : t ≤ stop)
    (gathered : HasGathered run e) (generation : (run.engines e).generation ≡ o.session.generation) (best : IsBest run e (vote_of o.pair))
    (fresh : KnowsFresh run (run.engines e).gathered o.fresh) (k : KnowsUnion run h e t o.union []) (front : Front) (own : IsFrontOf o.union front) where
  both : IsUnited run e t k.facts o.union
  both = united run h stop e t o.union follows emitted upto gathered k

  epoch_at : both.union.epoch ≡ k.means.0.epoch
  epoch_at = one_complete_epoch (cuts k.facts) both.union.epoch k.means.0.epoch both.has.epoch k.means.1.position.epoch

  complete : front.complete ≡ k.means.0.complete
  complete =
      complete_is h.readers (log_at h t) k.facts k.means.0 o.union front.complete (log_is_sound run h stop t follows emitted upto) k.means.1 own.complete

  point_low : (p : ℕ) → Contains both.union.points p → p ≤ front.complete
  point_low p inside =
      let point : IsCommitPoint k.facts k.means.0.epoch p =
      subst (λ (m : ℕ). IsCommitPoint k.facts m p) epoch_at ((both.has.points p).0 inside) in
      let low : p ≤ k.means.0.complete = points_within h.readers k.facts k.means.0 p k.means.1.position point in
      let same : front.complete ≡ k.means.0.complete = complete in
      omega arith

  pub admits : (i birth : ℕ) → birth_at o.fresh i ≡ Some birth → IsAdmission run h e t i (joining_as o.session.generation birth (joining_of o front))
  admits i birth has = record {
    generation = generation;
    out = fresh.out i birth has;
    facts = k.facts;
    part = k.means.1.part;
    union = both.union;
    has = both.has;
    unites = both.unites;
    epoch = both.epoch ∙ sym own.epoch;
    points = point_low;
    greatest = best;
  }
