-- What a read answers, from the front and the shown page.
use Rattle.std.proofs.Common.{◌≡◌, ℕ, ◌<◌, ◌≤◌, List, Result, IfOk, IsOkAnd, arith, rules}
use Rattle.redo_core.specs.Data.{RecordData}
use Rattle.redo_core.specs.Writing.{after_records}
use Rattle.redo_core.specs.Sound.{IsSound}
use Rattle.redo_core.specs.Position.{Position}
use Rattle.redo_core.specs.PageAt.{IsPageAt}
use Rattle.redo_core.specs.declared.facts.Fact.{Fact}
use Rattle.log_theorems.proofs.Log.{log_of_sound}
use Rattle.log_theorems.proofs.Views.{anchor_is}
use Rattle.segment_theorems.specs.State.{State, image_of}
use Rattle.segment_theorems.specs.Means.{MeansAt}
use Rattle.segment_theorems.specs.Shows.{IsApplied, Shows}
use Rattle.segment_theorems.proofs.Reading.{pages_law}
use Rattle.epoch_book.specs.Book.{IsBook}
use Rattle.hot_log.specs.Anew.{ListsAnew}
use Rattle.hot_log.specs.Held.{IsHeld}
use Rattle.segment_core.specs.Reading.{IsFrontAt}
use Rattle.segment_core.proofs.Anew.{anew_shows}
use Rattle.segment_core.specs.declared.answers.Front.{Front}

-- the records that are applied, over the page's image, are the page that the state shows
pub shown : {A E : Type 0} (seen : A → List RecordData) (s : State) (page q : ℕ) (image : List ℕ) (records : Result A E) → IsBook s.book → IsHeld s.held
    → IfOk records (λ v. ListsAnew (IsApplied s page q) (seen v))
    → IsOkAnd records (λ v. image ≡ after_records (image_of s.store page) (seen v)) → Shows s page q image
shown seen s page q image records book held lists is = search (rules, anew_shows)

pub shown_where : {A E F : Type 0} (seen : A → List RecordData) (s : State) (page q : ℕ) (result : Result (List ℕ) F) (records : Result A E)
    → IsBook s.book → IsHeld s.held → IfOk records (λ v. ListsAnew (IsApplied s page q) (seen v))
    → IfOk result (λ image. IsOkAnd records (λ v. image ≡ after_records (image_of s.store page) (seen v))) → IfOk result (Shows s page q)
shown_where seen s page q result records book held lists is = search (rules, shown)

-- below the minimum read point
pub below : (p : Position) (front : Front) (q : ℕ) → IsFrontAt p front → q < front.min → (front.min ≡ p.min) × (q < p.min)
below p front q at low = (at.min, omega (arith, at.min, low))

-- above the complete point
pub above : (p : Position) (front : Front) (q : ℕ) → IsFrontAt p front → front.min ≤ q → front.complete < q
    → (front.complete ≡ p.complete) × (p.min ≤ q) × (p.complete < q)
above p front q at low high = (at.complete, omega (arith, at.min, low), omega (arith, at.complete, high))

-- the shown page is the page of the facts, at an admissible point
pub true_page : {roster : ℕ} (log facts : List Fact) (p : Position) (s : State) (front : Front) (page q : ℕ) (image : List ℕ) → IsSound roster log
    → MeansAt roster log facts p s → IsFrontAt p front → front.min ≤ q → q ≤ front.complete
    → Shows s page q image → ((p.min ≤ q) × (q ≤ p.complete)) × IsPageAt facts p.epoch page q image
true_page {roster} log facts p s front page q image sound means at low high shows =
    let l = log_of_sound roster log sound in
    let least : p.min ≤ q = omega (arith, at.min, low) in
    let most : q ≤ p.complete = omega (arith, at.complete, high) in
    let settled : p.anchor ≤ q = omega (arith, (anchor_is facts p means.position).1, least) in
    ((least, most), (pages_law log facts p s page q image l means settled most).0 shows)
