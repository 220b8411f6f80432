-- What the lock keeps, through the calls on the state.
use Rattle.std.proofs.Common.{◌≡◌, ℕ, List, [], ◌∷◌, ◌++◌, sym, subst, ◌∙◌, Result, Some, rules}
use Rattle.redo_core.specs.Sets.{IsPart, cuts}
use Rattle.redo_core.specs.Position.{Position, IsPosition}
use Rattle.redo_core.specs.PageAt.{IsPageAt}
use Rattle.redo_core.specs.LogFront.{IsLogFront}
use Rattle.redo_core.specs.CompleteEpoch.{HasCutsTo}
use Rattle.redo_core.specs.Answer.{IsReadAnswer}
use Rattle.redo_core.specs.Answer.ReadAnswer.{Image as OfImage}
use Rattle.redo_core.specs.Sound.{IsSound}
use Rattle.redo_core.specs.declared.facts.Fact.{Fact}
use Rattle.redo_core.proofs.Members.{here}
use Rattle.log_theorems.specs.WellFormed.{OnePage}
use Rattle.log_theorems.proofs.Log.{log_of_sound}
use Rattle.log_theorems.proofs.OfWholeLog.{front_law, page_law}
use Rattle.log_theorems.proofs.Union.{left, right}
use Rattle.named_log.specs.Places.{fact_at}
use Rattle.segment_theorems.specs.State.{State}
use Rattle.segment_theorems.specs.Means.{Means, MeansAt}
use Rattle.segment_theorems.specs.Promises.{IsFinalPage}
use Rattle.segment_theorems.proofs.Own.{anchor_law}
use Rattle.segment_core.specs.Folding.{IsFoldOf, RefusesCommit}
use Rattle.segment_core.specs.Reading.{IsFrontAt}
use Rattle.segment_core.specs.declared.answers.Front.{Front}
use Rattle.segment_core.specs.declared.answers.ReadFault.{ReadFault}
use Rattle.segment_core.specs.declared.fold_plan.Folded.{Folded}
use Rattle.segment_core.specs.declared.fold_plan.CommitFault.{CommitFault}
use Rattle.segment_core.specs.declared.fold_plan.CommitFault.TheVariants.{Ahead, Memory}
use Rattle.front_board.specs.FrontWord.{FrontData}
use Rattle.node_lock.specs.Trail.{Entry, Receipt, HasReceipts}
use Rattle.node_cell.specs.Receipt.{ReceiptData}
use Rattle.node_cell.specs.Settling.{Stands}
use Rattle.node_cell.specs.Folding.{IsFoldOfLog, RefusesFold}
use Rattle.node_cell.specs.Kept.{MeansTrail}
use Rattle.node_cell.specs.View.{ViewData, IsLogPage}
use Rattle.node_cell.specs.Reading.{IsViewResult, ReportsRead}
use Rattle.node_cell.specs.Delivering.{IsFrontWith}
use Rattle.node_cell.proofs.Places.{wider, longer, of_receipts, found}

module _ (roster : ℕ) (log : List Fact) where
  pub none_kept : (s : State) → Means roster log [] s → MeansTrail roster log s []
  none_kept s means = record { facts = []; means = means; has = tt }

  -- ---- a fact more, and its entry

  pub keeps : (old new : State) (trail : List Entry) (pass place : ℕ) (f : Fact) → (k : MeansTrail roster log old trail) → fact_at log place ≡ Some f
      → Means roster log (k.facts ++ f ∷ []) new → MeansTrail roster log new (trail ++ (pass, place) ∷ [])
  keeps old new trail pass place f k at means = search (rules, longer, wider, left, right, here)

  pub front_with : (old new : State) (trail : List Entry) (place : ℕ) (f : Fact) (front : Front) (told : FrontData) → (k : MeansTrail roster log old trail)
      → fact_at log place ≡ Some f → (m : Means roster log (k.facts ++ f ∷ []) new) → IsFrontAt m.0 front
      → told ≡ record { epoch = front.epoch; number = front.complete } → IsFrontWith roster log trail place told
  front_with old new trail place f front told k at m is same = search (rules, right, wider, left)

  pub front_of_list : (trail : List Entry) (pass : ℕ) (list : List Receipt) (place : ℕ) (front : FrontData) → IsFrontWith roster log trail place front
      → HasReceipts trail pass list → IsFrontWith roster log list place front
  front_of_list trail pass list place front f has = search (rules, of_receipts)

  -- the front of what a state means is a front of the log
  pub log_front : (facts : List Fact) (s : State) (front : Front) → IsSound roster log → (m : Means roster log facts s) → IsFrontAt m.0 front
      → IsLogFront log front.epoch front.complete
  log_front facts s front sound m is =
      subst (λ e. IsLogFront log e front.complete) (sym is.epoch)
      (subst (λ n. IsLogFront log m.0.epoch n) (sym is.complete) (front_law log facts m.0 (log_of_sound roster log sound) m.1.part m.1.position))

  -- ---- reads

  pub log_page : (facts : List Fact) (p : Position) (k page q : ℕ) (image : List ℕ) → IsSound roster log → IsPart facts log → IsPosition roster facts p
      → k ≡ p.epoch → IsReadAnswer facts p page q (OfImage image) → IsLogPage log k page q image
  log_page facts p k page q image sound part at same answer = let l = log_of_sound roster log sound in
      subst (λ n. IsLogPage log n page q image) (sym same) (record {
        number = p.complete;
        front = front_law log facts p l part at;
        within = answer.0.1;
        shown = page_law log facts p page q image l part at answer.0.1 answer.1;
      })

  pub tells : (segment : State) (trail : List Entry) (page q : ℕ) (result : Result ViewData ReadFault) → (k : MeansTrail roster log segment trail)
      → IsViewResult k.facts k.means.0 page q result → ReportsRead roster log trail page q result
  tells segment trail page q result k answer = search rules

  pub tells_of : (trail : List Entry) (pass : ℕ) (list : List Receipt) (page q : ℕ) (result : Result ViewData ReadFault)
      → ReportsRead roster log trail page q result → HasReceipts trail pass list → ReportsRead roster log list page q result
  tells_of trail pass list page q result t has = search (rules, of_receipts)

  pub tells_after : (trail : List Entry) (r : ReceiptData) (page q : ℕ) (result : Result ViewData ReadFault) → ReportsRead roster log trail page q result
      → Stands trail r → ReportsRead roster log ((r.place, r.log_place) ∷ []) page q result
  tells_after trail r page q result t there = search (rules, found)

  -- images of one page at one point in one view are one
  pub one_image : (k j g h q r : ℕ) (image other : List ℕ) → k ≡ j → g ≡ h → q ≡ r → OnePage → IsSound roster log → HasCutsTo (cuts log) k
      → IsPageAt log k g q image → IsPageAt log j h r other → image ≡ other
  one_image k j g h q r image other ek eg eq law sound has one two =
      let only = law roster log log k g q sound (λ f c. c) has in
      let same : IsPageAt log k g q other =
      subst (λ n. IsPageAt log k g n other) (sym eq) (subst (λ n. IsPageAt log k n r other) (sym eg) (subst (λ n. IsPageAt log n h r other) (sym ek) two)) in
      only.2 image one ∙ sym (only.2 other same)

  -- ---- folds

  pub final : (folded : Folded) → IsFoldOfLog roster log folded → IsFinalPage roster log folded.page folded.version folded.image
  final folded f = search rules

  pub fold_of_log : (facts : List Fact) (p : Position) (page : ℕ) (folded : Folded) → IsPart facts log → IsPosition roster facts p
      → IsFoldOf facts p page folded → IsFoldOfLog roster log folded
  fold_of_log facts p page folded part at f = search rules

  pub keeps_still : (old new : State) (trail : List Entry) → (k : MeansTrail roster log old trail) → Means roster log k.facts new → MeansTrail roster log new trail
  keeps_still old new trail k means = record { facts = k.facts; means = means; has = k.has }

  pub refuses_fold : (F : List Fact) (p : Position) (s : State) (folded : Folded) (fault : CommitFault) → IsSound roster log → MeansAt roster log F p s
      → RefusesCommit s folded fault → RefusesFold roster log s folded fault
  refuses_fold F p s folded (Ahead version anchor) sound means r =
      let l = log_of_sound roster log sound in (
        r.0,
        r.1,
        record { facts = F; p = p; means = means; anchor = (anchor_law log F p s anchor l means r.2).1 },
      )
  refuses_fold F p s folded Memory sound means r = tt
