-- What a machine shows of its facts and fronts.
use Rattle.std.proofs.Common.{◌≡◌, ℕ, suc, ◌≤◌, inr, refl, sym, ◌∙◌, subst, arith}
use Rattle.std.specs.List.{Contains}
use Rattle.redo_core.specs.Data.{RecordData}
use Rattle.redo_core.specs.Sets.{IsPart, records, cuts}
use Rattle.redo_core.specs.CompleteEpoch.{HasCutsTo}
use Rattle.redo_core.specs.Standing.{IsAlive}
use Rattle.redo_core.specs.Linked.{IsLinked, IsLinkedRecord}
use Rattle.redo_core.specs.Linked.Linked.{start}
use Rattle.redo_core.specs.Sound.{IsSound}
use Rattle.redo_core.specs.declared.facts.Fact.TheVariants.{Record}
use Rattle.redo_core.proofs.FactParts.{record_in, part_cuts}
use Rattle.redo_core.proofs.Numbers.{at_greatest}
use Rattle.redo_core.proofs.CompleteEpochs.{has_cuts, one_complete_epoch}
use Rattle.log_theorems.proofs.Log.{IsLog, log_of_sound}
use Rattle.log_theorems.proofs.Views.{linked_below}
use Rattle.volume_theorems.specs.Runs.{VolumeRun}
use Rattle.volume_theorems.specs.Stopping.{FollowsUntil}
use Rattle.volume_theorems.specs.ByMoment.{IsReportedBy}
use Rattle.volume_theorems.proofs.Guards.{answers_count}
use Rattle.volume_theorems.proofs.Contents.{parts_grow}
use Rattle.volume_logs.specs.Histories.{History, log_at}
use Rattle.volume_logs.specs.Emitting.{IsEmitted}
use Rattle.volume_logs.specs.Joining.{PartsKeepRules, PartsUnite, IsFrontAbove, FrontsMakeDurable}
use Rattle.volume_logs.proofs.Epochs.{in_epoch, written_epoch, at_later, newest_rises}
use Rattle.volume_logs.proofs.Sound.{log_is_sound}
use Rattle.volume_logs.proofs.Durable.{cut_sent}

pub parts_keep_rules : PartsKeepRules
parts_keep_rules run h t part larger a b follows is inner outer one two =
    let sound : IsSound h.readers (log_at h t) = log_is_sound run h t t follows is (omega arith) in (
      parts_grow h.readers (log_at h t) part larger a b sound inner outer one two,
      λ c inside. (cut_sent run h t follows is t c (omega arith) (part_cuts larger (log_at h t) outer c ((two.cuts c).0 inside))).0,
    )

pub parts_unite : PartsUnite
parts_unite run h t e union u follows is gathered outer of shown = record {
  gathered = gathered;
  of_all = λ i among.
      let x = shown i among in
      let keeps = parts_keep_rules run h t x.3.0 union (run.nodes x.0 i).content u follows is x.3.1 outer x.3.2 of in
      (x.0, x.1, x.2, keeps.0);
  sent = λ c inside.
      (cut_sent run h t follows is t c (omega arith) (part_cuts union (log_at h t) outer c ((of.cuts c).0 inside))).0;
}

module _ (run : VolumeRun) (h : History) (stop : ℕ) (follows : FollowsUntil run stop) (is : IsEmitted run h stop) where
  -- what was written in an epoch is in the log, and alive in the epoch's view
  written_in : (t k : ℕ) (r : RecordData) → t ≤ stop → Contains (h.written t (suc k)) (Record r) → Contains (log_at h t) (Record r)
  written_in t k r upto inside =
      let w = is.writers t k (Record r) upto inside in
      let begun : suc k ≤ h.newest w.1.start = w.1.begun in
      let rises : h.newest w.1.start ≤ h.newest t = newest_rises run h stop is w.1.start t w.1.before upto in
      in_epoch h t (h.newest t) k (Record r) (omega arith) (inr inside)

  written_alive : (t k : ℕ) (r : RecordData) → t ≤ stop → Contains (h.written t (suc k)) (Record r)
      → IsAlive (cuts (log_at h t)) (suc k) r.epoch r.number
  written_alive t k r upto inside =
      let log : IsLog h.readers (log_at h t) = log_of_sound h.readers (log_at h t) (log_is_sound run h stop t follows is upto) in
      let among : Contains (records (log_at h t)) r = (record_in (log_at h t) r).1 (written_in t k r upto inside) in
      let own : r.epoch ≡ suc k = written_epoch run h stop is t k upto (Record r) inside in
      record {
        known = omega arith;
        begun = λ c has at. log.begun r c among has at;
        spared = λ c has later within. absurd (omega arith);
      }

  front_has : (t s i k : ℕ) (r : RecordData) → s ≤ t → t ≤ stop → Contains (h.written t (suc k)) (Record r) → r.page ≡ 0
      → IsFrontAbove run h s i (suc k) r.number
      → ((run.nodes s i).content.epoch ≡ suc k) × Contains (run.nodes s i).content.points r.number
  front_has t s i k r order upto inside page seen =
      let log : IsLog h.readers (log_at h t) = log_of_sound h.readers (log_at h t) (log_is_sound run h stop t follows is upto) in
      let inner : IsPart seen.part (log_at h t) = λ f had. at_later run h stop is s t order upto f (seen.inner f had) in
      let at : (run.nodes s i).content.epoch ≡ suc k =
      one_complete_epoch (cuts seen.part) (run.nodes s i).content.epoch seen.front.epoch seen.content.epoch seen.position.epoch ∙ seen.epoch_is in
      let has : HasCutsTo (cuts seen.part) (suc k) =
      subst (λ (n : ℕ). HasCutsTo (cuts seen.part) n) seen.epoch_is (has_cuts (cuts seen.part) seen.front.epoch seen.position.epoch) in
      let complete : IsLinked seen.part (suc k) seen.front.complete =
      subst (λ (n : ℕ). IsLinked seen.part n seen.front.complete) seen.epoch_is
      (at_greatest (IsLinked seen.part seen.front.epoch) start seen.front.complete seen.position.complete) in
      let among : Contains (records (log_at h t)) r = (record_in (log_at h t) r).1 (written_in t k r upto inside) in
      let linked : IsLinkedRecord seen.part (suc k) r =
      linked_below (log_at h t) seen.part log inner (suc k) has seen.front.complete complete r among (written_alive t k r upto inside) seen.reached in (
        at,
        (seen.content.points r.number).1 (inr (r, subst (λ (n : ℕ). IsLinkedRecord seen.part n r) (sym at) linked, page, refl)),
      )

pub fronts_make_durable : FrontsMakeDurable
fronts_make_durable run h stop t e k r follows is upto opened inside page many =
    let reported : IsReportedBy run t e (suc k) r.number = (
      many.0,
      many.1,
      λ i among.
          let x = many.2 i among in
          let has = front_has run h stop follows is t x.0 i k r x.1 upto inside page x.3 in
          (x.0, x.1, answers_count run e x.0 i x.2, has.0, has.1),
    ) in
    (opened, inr reported)
