-- What a state determines by itself is what the facts that it means determine.
use Rattle.std.proofs.Common.{◌≡◌, ℕ, ◌≤◌, ◌↔◌, inr, List, sym, ◌∙◌, subst, arith, rules}
use Rattle.redo_core.specs.Linked.{IsLinked}
use Rattle.redo_core.specs.Linked.Linked.{start}
use Rattle.redo_core.specs.Position.{Position}
use Rattle.redo_core.specs.declared.facts.Fact.{Fact}
use Rattle.redo_core.proofs.Numbers.{greatest_unique, at_greatest}
use Rattle.log_theorems.proofs.Log.{IsLog}
use Rattle.log_theorems.proofs.Views.{anchor_is}
use Rattle.segment_theorems.specs.State.{State, min_of}
use Rattle.segment_theorems.specs.Means.{MeansAt}
use Rattle.segment_theorems.specs.HasMeaning.{IsLinkedIn, HasComplete, HasAnchor, IsStable, HasPosition}
use Rattle.segment_theorems.proofs.Booked.{points_as}
use Rattle.segment_theorems.proofs.Reading.{links_law}
use Rattle.segment_theorems.proofs.Same.{same_min, anchor_as, anchor_of}

pub complete_of : {roster : ℕ} (log F : List Fact) (p : Position) (s : State) → IsLog roster log → MeansAt roster log F p s → HasComplete s p.complete
complete_of log F p s l m =
    let top : IsLinked F p.epoch p.complete = at_greatest (IsLinked F p.epoch) start p.complete m.position.complete in (
      inr ((links_law log F p s p.complete l m).1 (top, m.position.complete.1 s.base m.base.0)),
      λ n h. m.position.complete.1 n ((links_law log F p s n l m).0 h).0,
    )

pub complete_as : {roster : ℕ} (log F : List Fact) (p : Position) (s : State) → IsLog roster log → MeansAt roster log F p s → (n : ℕ) → HasComplete s n
    → n ≡ p.complete
complete_as log F p s l m n h = greatest_unique (IsLinkedIn s) (IsLinkedIn s) (λ i. (λ x. x, λ x. x)) n p.complete h (complete_of log F p s l m)

pub position_of : {roster : ℕ} (log F : List Fact) (p : Position) (s : State) → IsLog roster log → MeansAt roster log F p s → HasPosition s p
position_of log F p s l m = record {
  epoch = m.epoch;
  complete = complete_of log F p s l m;
  points = points_as m;
  min = same_min log F p s m;
  anchor = anchor_of log F p s l m;
}

pub anchor_law : {roster : ℕ} (log F : List Fact) (p : Position) (s : State) (anchor : ℕ) → IsLog roster log → MeansAt roster log F p s → HasAnchor s anchor
    → (s.book.complete ≡ p.epoch) × (anchor ≡ p.anchor)
anchor_law log F p s anchor l m a = (m.epoch, anchor_as log F p s l m anchor a)

same_position : (p q : Position) → p.epoch ≡ q.epoch → p.complete ≡ q.complete → p.points ≡ q.points → p.min ≡ q.min → p.anchor ≡ q.anchor → p ≡ q
same_position p q a b ps c d = search rules

pub position_as : {roster : ℕ} (log F : List Fact) (p q : Position) (s : State) → IsLog roster log → MeansAt roster log F p s → HasPosition s q → q ≡ p
position_as log F p q s l m h =
    same_position q p (sym h.epoch ∙ m.epoch)
    (complete_as log F p s l m q.complete h.complete)
    (sym h.points ∙ points_as m)
    (sym h.min ∙ same_min log F p s m)
    (anchor_as log F p s l m q.anchor h.anchor)

pub position_law : {roster : ℕ} (log F : List Fact) (p q : Position) (s : State) → IsLog roster log → MeansAt roster log F p s → HasPosition s q ↔ (q ≡ p)
position_law log F p q s l m = (position_as log F p q s l m, λ e. subst (HasPosition s) (sym e) (position_of log F p s l m))

-- what is stable in the state is at or below the anchor
pub settled_low : {roster : ℕ} (log F : List Fact) (p : Position) (s : State) (n : ℕ) → IsLog roster log → MeansAt roster log F p s → IsStable s n
    → n ≤ p.anchor
settled_low log F p s n l m h =
    let a : h.0 ≤ min_of s = h.2 in let b : min_of s ≡ p.min = same_min log F p s m in let c : n ≤ h.0 = h.3 in
    let d : h.0 ≤ p.anchor = m.position.anchor.1 h.0 (((links_law log F p s h.0 l m).0 h.1).0, omega arith) in
    omega arith

pub base_settled : {roster : ℕ} (log F : List Fact) (p : Position) (s : State) (n : ℕ) → MeansAt roster log F p s → n ≤ s.base → IsStable s n
base_settled log F p s n m le =
    let a : s.base ≤ p.anchor = m.base.1 in let b : p.anchor ≤ p.min = (anchor_is F p m.position).1 in let c : min_of s ≡ p.min = same_min log F p s m in
    (s.base, start, omega arith, le)
