-- What a plan to fold a page answers.
use Rattle.std.proofs.Common.{◌≡◌, ℕ, ◌≤◌, ◌↔◌, List, Option, Some, None, ◌∙◌, subst, arith, rules}
use Rattle.redo_core.specs.Position.{Position}
use Rattle.redo_core.specs.Sound.{IsSound}
use Rattle.redo_core.specs.declared.facts.Fact.{Fact}
use Rattle.log_theorems.proofs.Log.{log_of_sound}
use Rattle.log_theorems.proofs.Views.{anchor_is}
use Rattle.segment_theorems.specs.State.{State}
use Rattle.segment_theorems.specs.Means.{MeansAt}
use Rattle.segment_theorems.specs.Shows.{Shows}
use Rattle.segment_theorems.specs.HasMeaning.{HasAnchor}
use Rattle.segment_theorems.proofs.Reading.{pages_law}
use Rattle.segment_core.specs.BlockChain.{BreaksAt}
use Rattle.segment_core.specs.Folding.{IsFoldOf, FoldsPage, BreaksBelowAnchor}
use Rattle.segment_core.specs.declared.fold_plan.Folded.{Folded}
use Rattle.segment_core.proofs.OneView.{one_anchor}

-- an anchor is not above the complete point
pub anchor_complete : {roster : ℕ} (facts log : List Fact) (p : Position) (s : State) (anchor : ℕ) → MeansAt roster log facts p s → anchor ≡ p.anchor
    → anchor ≤ p.complete
anchor_complete facts log p s anchor m same = let le : p.anchor ≤ p.complete = m.position.complete.1 p.anchor (anchor_is facts p m.position).0 in omega arith

-- the page that the state shows at its anchor is the facts'
pub fold_of : {roster : ℕ} (log facts : List Fact) (p : Position) (s : State) (page anchor : ℕ) (folded : Folded) → IsSound roster log
    → MeansAt roster log facts p s → anchor ≡ p.anchor → folded.page ≡ page → folded.version ≡ anchor
    → Shows s page anchor folded.image → IsFoldOf facts p page folded
fold_of {roster} log facts p s page anchor folded sound m same page_is version_is shows =
    let le = anchor_complete facts log p s anchor m same in
    let low : p.anchor ≤ p.complete = omega arith in
    record {
      page_is = page_is;
      version_is = version_is ∙ same;
      image_is = (pages_law log facts p s page p.anchor folded.image (log_of_sound roster log sound) m (omega arith) low).0
          (subst (λ q. Shows s page q folded.image) same shows);
    }

-- no block chain that is broken at or below the anchor is passed over
pub none_broken : (s : State) (page anchor : ℕ) (result : Option ℕ) → HasAnchor s anchor
    → ((n : ℕ) → (result ≡ Some n) ↔ BreaksAt s page anchor n) → result ≡ None → (n : ℕ) → BreaksBelowAnchor s page n → ⊥
none_broken s page anchor result own breaks none n broken =
    let same : broken.0 ≡ anchor = one_anchor s broken.0 anchor broken.1 own in
    let some : result ≡ Some n = (breaks n).1 (subst (λ a. BreaksAt s page a n) same broken.2) in
    absurd (cc)

pub folds_page : (s : State) (page anchor : ℕ) (folded : Folded) → HasAnchor s anchor → folded.page ≡ page → folded.version ≡ anchor
    → Shows s page anchor folded.image → FoldsPage s page folded
folds_page s page anchor folded own page_is version_is shows = search rules
