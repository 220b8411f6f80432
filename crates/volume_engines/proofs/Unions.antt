-- The last commit point of a union, as an engine reads it from page 0.
use Rattle.std.proofs.Common.{◌≡◌, ℕ, ◌≤◌, ⊎_elim, inl, inr, List, refl, sym, ◌∙◌, subst, ap, arith}
use Rattle.std.specs.List.{Contains}
use Rattle.redo_core.specs.Data.{RecordData, CutData}
use Rattle.redo_core.specs.Order.{IsGreatest}
use Rattle.redo_core.specs.Linked.{IsLinkedRecord}
use Rattle.redo_core.specs.Position.{Position, IsPosition}
use Rattle.redo_core.specs.PageAt.{IsPageAt}
use Rattle.redo_core.specs.Sound.{IsSound}
use Rattle.redo_core.specs.declared.facts.Fact.{Fact}
use Rattle.redo_core.specs.declared.facts.Fact.TheVariants.{Record}
use Rattle.redo_core.proofs.FactParts.{record_in, part_records}
use Rattle.redo_core.proofs.Numbers.{greatest_unique}
use Rattle.redo_core.proofs.SoundFacts.{kept}
use Rattle.log_theorems.proofs.Log.{IsLog, log_of_sound}
use Rattle.segment_theorems.specs.State.{State}
use Rattle.segment_theorems.specs.Means.{MeansAt}
use Rattle.segment_theorems.specs.HasMeaning.{IsLinkedIn, HasComplete}
use Rattle.segment_theorems.specs.Shows.{Shows}
use Rattle.segment_theorems.proofs.Own.{position_of}
use Rattle.segment_theorems.proofs.Reading.{pages_law}
use Rattle.redo_writer.specs.Tracks.{HasNumber}
use Rattle.volume.specs.Planning.{IsOwnCut}
use Rattle.volume_theorems.specs.Contents.{IsCommitPoint}
use Rattle.redo_writer.specs.Layout.{number_of}
use Rattle.volume_logs.specs.PageLayout.{LeavesNumber}
use Rattle.volume_logs.proofs.PageLayout.{number_fits, page_number, last_number, last_greatest}

-- lo is the greatest commit point of the facts that the union means
pub record IsLast (facts : List Fact) (k : ℕ) (cut : CutData) : Type 0 where
  pub point : IsCommitPoint facts k cut.lo
  pub last : (p : ℕ) → IsCommitPoint facts k p → p ≤ cut.lo
  pub hi : cut.lo ≤ cut.hi

-- no commit point is above the complete point
pub points_within : (readers : ℕ) (facts : List Fact) (p : Position) (n : ℕ) → IsPosition readers facts p → IsCommitPoint facts p.epoch n → n ≤ p.complete
points_within readers facts p n position point = ⊎_elim
    (λ (none : n ≡ 0). omega arith)
    (λ (has : (r : RecordData) × IsLinkedRecord facts p.epoch r × (r.page ≡ 0) × (r.number ≡ n)).
    let upto : has.0.number ≤ p.complete = position.complete.1 has.0.number has.1.linked in
    let same : has.0.number ≡ n = has.3 in
    omega arith)
    point

-- a state's own complete point is that of the facts that it means
pub complete_is : (readers : ℕ) (log facts : List Fact) (p : Position) (s : State) (n : ℕ) → IsSound readers log → MeansAt readers log facts p s
    → HasComplete s n → n ≡ p.complete
complete_is readers log facts p s n sound means complete =
    greatest_unique (IsLinkedIn s) (IsLinkedIn s) (λ m. (λ x. x, λ x. x)) n p.complete complete
    (position_of log facts p s (log_of_sound readers log sound) means).complete

module _ (readers : ℕ) (log facts : List Fact) (p : Position) (s : State) (cut : CutData) (sound : IsSound readers log) (means : MeansAt readers log facts p s)
    (own : IsOwnCut s cut) (leaves : (r : RecordData) → Contains log (Record r) → LeavesNumber r) where
  log_is : IsLog readers log
  log_is = log_of_sound readers log sound

  reached : own.front.complete ≡ p.complete
  reached = complete_is readers log facts p s own.front.complete sound means own.own.complete

  anchor_low : p.anchor ≤ p.complete
  anchor_low = ⊎_elim
      (λ (none : p.anchor ≡ 0). omega arith)
      (λ linked. means.position.complete.1 p.anchor linked.0)
      means.position.anchor.0

  -- the records that page 0 has at the complete point
  abbrev Applied : RecordData → Type 0
  Applied r = IsLinkedRecord facts p.epoch r × (r.page ≡ 0) × (r.number ≤ p.complete)

  shown : IsPageAt facts p.epoch 0 p.complete own.lo.0
  shown = (pages_law log facts p s 0 p.complete own.lo.0 log_is means anchor_low (omega arith)).0
      (subst (λ (n : ℕ). Shows s 0 n own.lo.0) reached own.lo.1)

  of_log : (r : RecordData) → IsLinkedRecord facts p.epoch r → Contains log (Record r)
  of_log r linked = (record_in log r).0 (part_records facts log means.part r linked.among)

  top : cut.lo ≡ last_number 0 shown.written
  top = own.lo.2 ∙ ap number_of shown.result ∙ page_number shown.written (λ r inside.
      let linked = ((shown.lists.members r).0 inside).0 in
      (number_fits r (kept readers log (Record r) sound (of_log r linked)).shape, leaves r (of_log r linked)))

  greatest : IsGreatest (HasNumber Applied) cut.lo
  greatest = subst (IsGreatest (HasNumber Applied)) (sym top)
      (last_greatest Applied shown.written shown.lists.rising
      (λ r inside. (shown.lists.members r).0 inside)
      (λ r is. (shown.lists.members r).1 is)
      (λ r is. (log_is.backs r (part_records facts log means.part r is.0.among)).0))

  low : cut.lo ≤ p.complete
  low = ⊎_elim
      (λ (none : cut.lo ≡ 0). omega arith)
      (λ (has : HasNumber Applied cut.lo). let upto : has.0.number ≤ p.complete = has.1.2 in let same : has.0.number ≡ cut.lo = has.2 in omega arith)
      greatest.0

  pub own_last : IsLast facts p.epoch cut
  own_last = record {
    point = ⊎_elim
        (λ (none : cut.lo ≡ 0). inl none)
        (λ (has : HasNumber Applied cut.lo). inr (has.0, has.1.0, has.1.1, has.2))
        greatest.0;
    last = λ q point. ⊎_elim
        (λ (none : q ≡ 0). omega arith)
        (λ (has : (r : RecordData) × IsLinkedRecord facts p.epoch r × (r.page ≡ 0) × (r.number ≡ q)).
        let upto : has.0.number ≤ p.complete = means.position.complete.1 has.0.number has.1.linked in
        let under : has.0.number ≤ cut.lo = greatest.1 has.0.number (has.0, (has.1, has.2, upto), refl) in
        let same : has.0.number ≡ q = has.3 in
        omega arith)
        point;
    hi = let above : cut.lo ≤ p.complete = low in let at : cut.hi ≡ own.front.complete = own.hi in let same : own.front.complete ≡ p.complete = reached in omega arith;
  }
