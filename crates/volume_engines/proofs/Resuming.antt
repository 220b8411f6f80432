-- The writer that an opening makes of what its union stores is the one that the union's facts ask for.
use Rattle.std.proofs.Common.{◌≡◌, ℕ, suc, ◌<◌, ◌≤◌, ◌⊎◌, ⊎_elim, inl, inr, List, [], ◌∷◌, ◌++◌, sym, ◌∙◌, subst, ap, arith}
use Rattle.std.specs.Prelude.{slice_index}
use Rattle.std.specs.List.{Contains}
use Rattle.std.proofs.lemmas.List.Elements.{Contains-push_cases}
use Rattle.redo_core.specs.Data.{RecordData, CutData}
use Rattle.redo_core.specs.Sets.{IsPart, cuts}
use Rattle.redo_core.specs.Order.{RecordBefore}
use Rattle.redo_core.specs.PageAt.{IsPageAt}
use Rattle.redo_core.specs.Position.{Position}
use Rattle.redo_core.specs.Sound.{IsSound}
use Rattle.redo_core.specs.Standing.{IsAlive}
use Rattle.redo_core.specs.Linked.{IsLinkedRecord}
use Rattle.redo_core.specs.Writing.{zeros}
use Rattle.redo_core.specs.declared.facts.Fact.{Fact}
use Rattle.redo_core.specs.declared.facts.Fact.TheVariants.{Record, Cut}
use Rattle.redo_core.proofs.CompleteEpochs.{has_cuts}
use Rattle.redo_core.proofs.FactParts.{record_in, cut_in}
use Rattle.redo_core.proofs.Members.{none_in}
use Rattle.log_theorems.proofs.Log.{IsLog, log_of_sound}
use Rattle.log_theorems.proofs.Meanings.{lists_as}
use Rattle.log_theorems.proofs.Storing.{missing}
use Rattle.segment_theorems.specs.State.{State, image_of}
use Rattle.segment_theorems.specs.Means.{MeansAt}
use Rattle.segment_theorems.specs.Shows.{Shows}
use Rattle.segment_theorems.proofs.Own.{anchor_law, position_of}
use Rattle.segment_theorems.proofs.Reading.{alive_in_facts, pages_law}
use Rattle.segment_core.specs.StoredPages.{IsStoredPage}
use Rattle.redo_writer.specs.State.{WriterState}
use Rattle.volume.specs.Resuming.{IsAliveAbove as IsStoredAbove, IsResumed as IsResumedFrom}
use Rattle.volume_theorems.specs.Runs.{VolumeRun}
use Rattle.volume_theorems.specs.Stopping.{FollowsUntil}
use Rattle.volume_logs.specs.Histories.{History, log_to, log_at}
use Rattle.volume_logs.specs.Emitting.{LacksAdvances, GoesOn, IsEmitted}
use Rattle.volume_logs.specs.PageLayout.{IsPageTop}
use Rattle.volume_logs.specs.Resuming.{IsAliveAbove, AreAliveAbove, IsResumed}
use Rattle.volume_logs.proofs.Epochs.{log_upto}
use Rattle.volume_logs.proofs.PageLayout.{number_zeros}
use Rattle.volume_logs.proofs.Resuming.{linked_record, resumed_goes_on}
use Rattle.volume_logs.proofs.Sound.{log_is_sound}

-- The union means facts of the epochs up to k and the truncation of epoch k + 1, has taken that, and is complete up to its lo.
pub record IsUnionBelow (h : History) (t k : ℕ) (union : State) : Type 0 where
  pub facts : List Fact
  pub inner : IsPart facts (log_to h t k ++ Cut (h.cuts (suc k)) ∷ [])
  pub position : Position
  pub means : MeansAt h.readers (log_at h t) facts position union
  pub epoch : position.epoch ≡ suc k
  pub reached : (h.cuts (suc k)).lo ≤ position.complete

-- a page of which nothing is stored
bare_image : (s : State) (page : ℕ) → ¬ (IsStoredPage s page) → image_of s.store page ≡ zeros
unfolding image_of
bare_image s page bare = ap (λ i. i.bytes) (missing s.store.images s.store.floor page (λ i inside same. bare (inl (i, inside, same))))

bare_shows : (s : State) (page point : ℕ) → ¬ (IsStoredPage s page) → Shows s page point zeros
bare_shows s page point bare = record {
  written = [];
  lists = record {
    rising = tt;
    members = λ r. (λ inside. absurd (none_in r inside), λ applied. absurd (bare (inr (r, applied.0, applied.2))));
  };
  result = sym (bare_image s page bare);
}

-- ---- what is stored, and what it means
module _ (readers : ℕ) (log facts : List Fact) (p : Position) (union : State) (cut : CutData) (w : WriterState) (sound : IsSound readers log)
    (means : MeansAt readers log facts p union) (at : p.epoch ≡ cut.epoch) (low : p.anchor ≤ cut.lo) (reached : cut.lo ≤ p.complete)
    (is : IsResumedFrom union cut w) where
  log_is : IsLog readers log
  log_is = log_of_sound readers log sound

  settled : w.settled ≡ p.anchor
  settled = (anchor_law log facts p union w.settled log_is means is.settled).1

  shown : (page : ℕ) (image : List ℕ) → Shows union page cut.lo image → IsPageAt facts cut.epoch page cut.lo image
  shown page image shows =
      subst (λ (n : ℕ). IsPageAt facts n page cut.lo image) at ((pages_law log facts p union page cut.lo image log_is means low reached).0 shows)

  tops : (page : ℕ) → IsPageTop facts cut.epoch page cut.lo (slice_index w.page_tops page)
  tops page = ⊎_elim
      (λ stored. (stored.1.0, shown page stored.1.0 stored.1.1, stored.1.2))
      (λ bare. (zeros, shown page zeros (bare_shows union page cut.lo bare.0), bare.1 ∙ sym number_zeros))
      (is.tops page)

  above_means : (r : RecordData) → IsStoredAbove union w.settled r → IsAliveAbove facts cut.epoch p.anchor r
  above_means r x =
      let alive : IsAlive (cuts facts) p.epoch r.epoch r.number = (alive_in_facts log facts p union means r.epoch r.number).0 x.1 in
      let same : w.settled ≡ p.anchor = settled in
      let above : w.settled < r.number = x.2 in
      (means.of_facts r x.0 (inr alive), subst (λ (n : ℕ). IsAlive (cuts facts) n r.epoch r.number) at alive, omega arith)

  above_stored : (r : RecordData) → IsAliveAbove facts cut.epoch p.anchor r → IsStoredAbove union w.settled r
  above_stored r x =
      let alive : IsAlive (cuts facts) p.epoch r.epoch r.number = subst (λ (n : ℕ). IsAlive (cuts facts) n r.epoch r.number) (sym at) x.1 in
      let same : w.settled ≡ p.anchor = settled in
      let above : p.anchor < r.number = x.2 in
      let base : union.base ≤ p.anchor = means.base.1 in (
        ⊎_elim
            (λ (held : Contains union.held r). held)
            (λ in_image. let under : r.number ≤ union.base = in_image.1 in absurd (omega arith))
            (means.kept r x.0 (inr alive)),
        (alive_in_facts log facts p union means r.epoch r.number).1 alive,
        omega arith,
      )

  alive_means : AreAliveAbove facts cut.epoch p.anchor w.alive
  alive_means = (
    is.alive.0,
    lists_as RecordBefore (IsStoredAbove union w.settled) (IsAliveAbove facts cut.epoch p.anchor) (λ r. (above_means r, above_stored r)) is.alive.0 is.alive.1,
    is.alive.2,
  )

  pub resumed_means : IsResumed readers facts cut w
  resumed_means = record {
    front = p;
    position = means.position;
    at = at;
    reached = reached;
    epoch = is.epoch;
    last = is.last;
    points = is.points ∙ (position_of log facts p union log_is means).points;
    settled = settled;
    tops = tops;
    alive = alive_means;
  }

-- ---- the anchor
module _ (run : VolumeRun) (h : History) (stop t k : ℕ) (union : State) (emitted : IsEmitted run h stop) (upto : t ≤ stop) (u : IsUnionBelow h t k union) where
  below : (f : Fact) → Contains u.facts f → Contains (log_to h t k) f ⊎ (Cut (h.cuts (suc k)) ≡ f)
  below f inside = Contains-push_cases (log_to h t k) (Cut (h.cuts (suc k))) f (u.inner f inside)

  has_cut : Contains (cuts u.facts) (h.cuts (suc k))
  has_cut =
      let at : u.position.epoch ≡ suc k = u.epoch in
      let c = has_cuts (cuts u.facts) u.position.epoch u.means.position.epoch (suc k) (omega arith) (omega arith) in
      let inside : Contains u.facts (Cut c.0) = (cut_in u.facts c.0).0 c.1 in
      let epoch : c.0.epoch ≡ suc k = c.2 in
      ⊎_elim
      (λ (old : Contains (log_to h t k) (Cut c.0)).
      let low : c.0.epoch ≤ k = log_upto run h stop emitted t k upto (Cut c.0) old in absurd (omega arith))
      (λ (same : Cut (h.cuts (suc k)) ≡ Cut c.0).
      let itself : h.cuts (suc k) ≡ c.0 = cc in subst (λ (d : CutData). Contains (cuts u.facts) d) (sym itself) c.1)
      (below (Cut c.0) inside)

  -- what is alive in the new epoch's view was kept by its truncation
  kept_low : (r : RecordData) → IsLinkedRecord u.facts u.position.epoch r → r.number ≤ (h.cuts (suc k)).lo
  kept_low r linked =
      let at : u.position.epoch ≡ suc k = u.epoch in
      let own : (h.cuts (suc k)).epoch ≡ suc k = emitted.epochs (suc k) in
      ⊎_elim
      (λ (old : Contains (log_to h t k) (Record r)).
      let low : r.epoch ≤ k = log_upto run h stop emitted t k upto (Record r) old in
      linked.alive.spared (h.cuts (suc k)) has_cut (omega arith) (omega arith))
      (λ (same : Cut (h.cuts (suc k)) ≡ Record r). absurd (cc))
      (below (Record r) ((record_in u.facts r).0 linked.among))

  anchor_low : u.position.anchor ≤ (h.cuts (suc k)).lo
  anchor_low = ⊎_elim
      (λ (none : u.position.anchor ≡ 0). omega arith)
      (λ x. ⊎_elim
      (λ (none : u.position.anchor ≡ 0). omega arith)
      (λ (r : (r : RecordData) × IsLinkedRecord u.facts u.position.epoch r × (r.number ≡ u.position.anchor)).
      let low : r.0.number ≤ (h.cuts (suc k)).lo = kept_low r.0 r.1 in
      let same : r.0.number ≡ u.position.anchor = r.2 in
      omega arith)
      (linked_record u.facts u.position.epoch u.position.anchor x.0))
      u.means.position.anchor.0

-- the writer that the machine makes of what such a union stores goes on from the epochs below
pub union_goes_on : (run : VolumeRun) (h : History) (stop t k : ℕ) (union : State) (w : WriterState) → FollowsUntil run stop → IsEmitted run h stop → t ≤ stop
    → suc k ≤ h.newest t → IsUnionBelow h t k union → IsResumedFrom union (h.cuts (suc k)) w
    → (base : List Fact) × LacksAdvances base (log_to h t k) × GoesOn h.readers w base (h.cuts (suc k))
union_goes_on run h stop t k union w follows emitted upto newest u is =
    let own : (h.cuts (suc k)).epoch ≡ suc k = emitted.epochs (suc k) in
    let resumed : IsResumed h.readers u.facts (h.cuts (suc k)) w =
    resumed_means h.readers (log_at h t) u.facts u.position union (h.cuts (suc k)) w (log_is_sound run h stop t follows emitted upto) u.means
    (u.epoch ∙ sym own) (anchor_low run h stop t k union emitted upto u) u.reached is in
    resumed_goes_on run h stop t k u.facts w follows emitted upto newest u.inner resumed
