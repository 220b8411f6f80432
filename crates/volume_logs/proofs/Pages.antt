-- Pages at a durable commit point, and below it.
use Rattle.std.proofs.Common.{◌≡◌, ℕ, zero, suc, ◌≤◌, ⊎_elim, List, sym, subst, arith}
use Rattle.redo_core.specs.Data.{RecordData}
use Rattle.redo_core.specs.Sets.{IsPart, cuts}
use Rattle.redo_core.specs.CompleteEpoch.{HasCutsTo}
use Rattle.redo_core.specs.Linked.{IsLinked, IsLinkedRecord}
use Rattle.redo_core.specs.Linked.Linked.{start}
use Rattle.redo_core.specs.Sound.{IsSound}
use Rattle.redo_core.specs.declared.facts.Fact.{Fact}
use Rattle.redo_core.proofs.FactParts.{part_records, part_cuts}
use Rattle.redo_core.proofs.CompleteEpochs.{has_cuts}
use Rattle.log_theorems.proofs.Log.{IsLog, log_of_sound}
use Rattle.log_theorems.proofs.Views.{alive_up, linked_below}
use Rattle.log_theorems.proofs.OfWholeLog.{page_law}
use Rattle.volume_theorems.specs.Runs.{VolumeRun}
use Rattle.volume_theorems.specs.Stopping.{FollowsUntil}
use Rattle.volume_theorems.specs.ByMoment.{IsDurableBy}
use Rattle.volume_logs.specs.Histories.{History, log_at}
use Rattle.volume_logs.specs.Emitting.{IsEmitted}
use Rattle.volume_logs.specs.Pages.{DurablePagesStay, PartsShowDurable, DurablePagesLast}
use Rattle.volume_logs.proofs.Views.{SameUpTo, same_pages, same_back, same_views, linked_alive}
use Rattle.volume_logs.proofs.Epochs.{at_later}
use Rattle.volume_logs.proofs.Sound.{log_is_sound}
use Rattle.volume_logs.proofs.Durable.{has_to, cut_sent, durable_spared, durable_point, opened_within}

module _ (run : VolumeRun) (h : History) (stop : ℕ) (follows : FollowsUntil run stop) (is : IsEmitted run h stop) where
  same_later_views : (t e epoch point k : ℕ) → t ≤ stop → IsDurableBy run t e epoch point → epoch ≤ k → k ≤ h.newest t
      → SameUpTo point (log_at h t) epoch (log_at h t) k
  same_later_views t e epoch point k upto durable order within =
      same_views h.readers (log_at h t) epoch k point (log_is_sound run h stop t follows is upto) (has_to run h stop follows is t k within) order
      (λ c inside over below. durable_spared run h stop follows is t e epoch point c upto durable inside over)

  -- the complete epoch of some facts of the log
  epoch_within : (t k : ℕ) (part : List Fact) → t ≤ stop → IsPart part (log_at h t) → HasCutsTo (cuts part) k → k ≤ h.newest t
  epoch_within t zero part upto inner has = omega arith
  epoch_within t (suc k) part upto inner has =
      let c = has (suc k) (omega arith) (omega arith) in
      let at : c.0.epoch ≡ suc k = c.2 in
      let within : c.0.epoch ≤ h.newest t = (cut_sent run h stop follows is t c.0 upto (part_cuts part (log_at h t) inner c.0 c.1)).1 in
      omega arith

  -- what is alive up to a durable point was in the log when it was durable
  same_later_logs : (s t e epoch point : ℕ) → s ≤ t → t ≤ stop → IsDurableBy run s e epoch point
      → SameUpTo point (log_at h s) epoch (log_at h t) epoch
  same_later_logs s t e epoch point order upto durable r low =
      let early : s ≤ stop = omega arith in
      let log : IsLog h.readers (log_at h t) = log_of_sound h.readers (log_at h t) (log_is_sound run h stop t follows is upto) in
      let inner : IsPart (log_at h s) (log_at h t) = at_later run h stop is s t order upto in
      let has : HasCutsTo (cuts (log_at h s)) epoch =
      has_to run h stop follows is s epoch (opened_within run h stop follows is s e epoch early durable.0) in
      let linked : IsLinked (log_at h s) epoch point =
      ⊎_elim
      (λ (none : point ≡ 0). subst (λ (n : ℕ). IsLinked (log_at h s) epoch n) (sym none) start)
      (λ (x : (r : RecordData) × IsLinkedRecord (log_at h s) epoch r × (r.page ≡ 0) × (r.number ≡ point)).
      subst (λ (n : ℕ). IsLinked (log_at h s) epoch n) x.3 x.1.linked)
      (durable_point run h stop follows is s e epoch point early durable) in (
        λ old. record {
          among = part_records (log_at h s) (log_at h t) inner r old.among;
          alive = alive_up (log_at h t) (log_at h s) log inner epoch r.epoch r.number has old.alive;
        },
        λ new. linked_alive (log_at h s) epoch r
            (linked_below (log_at h t) (log_at h s) log inner epoch has point linked r new.among new.alive low),
      )

pub durable_pages_stay : DurablePagesStay
durable_pages_stay run h stop t e epoch point k page q image follows is upto durable order within low =
    let sound : IsSound h.readers (log_at h t) = log_is_sound run h stop t follows is upto in
    let same : SameUpTo point (log_at h t) epoch (log_at h t) k = same_later_views run h stop follows is t e epoch point k upto durable order within in (
      same_pages h.readers (log_at h t) (log_at h t) epoch k point page q image sound sound same low,
      same_pages h.readers (log_at h t) (log_at h t) k epoch point page q image sound sound
          (same_back point (log_at h t) epoch (log_at h t) k same) low,
    )

pub parts_show_durable : PartsShowDurable
parts_show_durable run h stop t e epoch point part front page q image follows is upto durable inner at order reached low shown =
    let sound : IsSound h.readers (log_at h t) = log_is_sound run h stop t follows is upto in
    let within : front.epoch ≤ h.newest t =
    epoch_within run h stop follows is t front.epoch part upto inner (has_cuts (cuts part) front.epoch at.epoch) in
    (durable_pages_stay run h stop t e epoch point front.epoch page q image follows is upto durable order within low).1
    (page_law (log_at h t) part front page q image (log_of_sound h.readers (log_at h t) sound) inner at (omega arith) shown)

pub durable_pages_last : DurablePagesLast
durable_pages_last run h stop s t e epoch point page q image follows is order upto durable low =
    let early : s ≤ stop = omega arith in
    let old : IsSound h.readers (log_at h s) = log_is_sound run h stop s follows is early in
    let new : IsSound h.readers (log_at h t) = log_is_sound run h stop t follows is upto in
    let same : SameUpTo point (log_at h s) epoch (log_at h t) epoch = same_later_logs run h stop follows is s t e epoch point order upto durable in (
      same_pages h.readers (log_at h s) (log_at h t) epoch epoch point page q image old new same low,
      same_pages h.readers (log_at h t) (log_at h s) epoch epoch point page q image new old
          (same_back point (log_at h s) epoch (log_at h t) epoch same) low,
    )
