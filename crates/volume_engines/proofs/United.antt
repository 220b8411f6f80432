-- What the union of an opening has, once all of its quorum have shown what they have.
use Rattle.std.proofs.Common.{◌≡◌, ℕ, ◌≤◌, List, [], true, false, sym, ◌∙◌, arith}
use Rattle.redo_core.specs.Sets.{cuts}
use Rattle.redo_core.specs.Sound.{IsSound}
use Rattle.redo_core.specs.declared.facts.Fact.{Fact}
use Rattle.redo_core.proofs.FactParts.{part_records}
use Rattle.redo_core.proofs.CompleteEpochs.{one_complete_epoch}
use Rattle.log_theorems.proofs.Log.{log_of_sound}
use Rattle.segment_theorems.specs.State.{State}
use Rattle.volume_theorems.specs.Nodes.{Content}
use Rattle.volume_theorems.specs.Runs.{VolumeRun}
use Rattle.volume_theorems.specs.Opening.{HasGathered, IsUnion}
use Rattle.volume_theorems.specs.Contents.{IsContentOf}
use Rattle.volume_theorems.specs.Stopping.{FollowsUntil}
use Rattle.volume_logs.specs.Histories.{History, log_at}
use Rattle.volume_logs.specs.Emitting.{IsEmitted}
use Rattle.volume_logs.proofs.Moments.{until_earlier}
use Rattle.volume_logs.proofs.Epochs.{newest_rises}
use Rattle.volume_logs.proofs.Sound.{log_is_sound}
use Rattle.volume_logs.proofs.Joining.{parts_unite}
use Rattle.volume_engines.proofs.Contents.{content_exists}
use Rattle.volume_engines.proofs.Knowing.{KnowsUnion}

-- the rules about what is emitted, up to an earlier moment
pub emitted_until : (run : VolumeRun) (h : History) (t stop : ℕ) → t ≤ stop → IsEmitted run h stop → IsEmitted run h t
emitted_until run h t stop upto is = record {
  roster = is.roster;
  epochs = is.epochs;
  shaped = λ k some within. let more : h.newest t ≤ h.newest stop = newest_rises run h stop is t stop upto (omega arith) in is.shaped k some (omega arith);
  sent = λ s k order. is.sent s k (omega arith);
  newest = λ s c order. is.newest s c (omega arith);
  grows = λ r s k order within. is.grows r s k order (omega arith);
  writers = λ s k f order. is.writers s k f (omega arith);
  held = λ s i order. is.held s i (omega arith);
}

-- the union of the run that the facts of an opening make
pub record IsUnited (run : VolumeRun) (e t : ℕ) (facts : List Fact) (u : State) : Type 0 where
  pub union : Content
  pub has : IsContentOf facts union
  pub unites : IsUnion run e t union
  pub epoch : union.epoch ≡ u.book.complete

module _ (run : VolumeRun) (h : History) (stop e t : ℕ) (u : State) (follows : FollowsUntil run stop) (emitted : IsEmitted run h stop) (upto : t ≤ stop)
    (gathered : HasGathered run e) (k : KnowsUnion run h e t u []) where
  sound : IsSound h.readers (log_at h t)
  sound = log_is_sound run h stop t follows emitted upto

  has : (c : Content) × IsContentOf k.facts c
  has = content_exists k.facts (λ r inside.
      ((log_of_sound h.readers (log_at h t) sound).backs r (part_records k.facts (log_at h t) k.means.1.part r inside)).1)

  pub united : IsUnited run e t k.facts u
  united = record {
    union = has.0;
    has = has.1;
    unites = parts_unite run h t e k.facts has.0 (until_earlier run t stop upto follows) (emitted_until run h t stop upto emitted) gathered k.means.1.part has.1
        (λ i among. k.given i among (λ marked. let no : false ≡ true = marked in absurd (cc)));
    epoch = one_complete_epoch (cuts k.facts) has.0.epoch k.means.0.epoch has.1.epoch k.means.1.position.epoch ∙ sym k.means.1.epoch;
  }
