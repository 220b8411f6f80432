-- What a state does not cover is one thing, and an absorb reports it.
use Rattle.std.proofs.Common.{◌≡◌, ◌↔◌, ℕ, ⊎_elim, Option, Some, None, Result, Ok, Err, OnOk, IfErr, refl, sym, ap, ◌∙◌, arith, rules}
use Rattle.std.proofs.lemmas.List.Elements.{All-contains}
use Rattle.redo_core.specs.Book.{roster_of}
use Rattle.redo_core.specs.Keys.{KeyBefore}
use Rattle.redo_core.specs.declared.keys.Key.{Key}
use Rattle.redo_core.specs.Order.{IsFirst}
use Rattle.messages.specs.Summaries.{SummaryData}
use Rattle.messages.specs.Deltas.{DeltaData}
use Rattle.segment_theorems.specs.State.{State}
use Rattle.segment_theorems.specs.HasMeaning.{HasAnchor}
use Rattle.gossip_core.specs.declared.answering.Shown.{Shown}
use Rattle.gossip_core.specs.declared.answering.Shown.TheVariants.{Anchor as OfAnchor, Key as OfKey}
use Rattle.gossip_core.specs.declared.absorbing.AbsorbRefusal.{AbsorbRefusal}
use Rattle.gossip_core.specs.declared.absorbing.AbsorbRefusal.TheVariants.{Uncovered, Refused}
use Rattle.gossip_core.specs.Answering.{IsCovered, IsUncoveredKey, IsUncovered}
use Rattle.gossip_core.specs.Absorbing.{Answers, IsOfOther, RefusesTold, RefusesAbsorb}

one_first : (P : Key → Type 0) (k l : Key) → IsFirst KeyBefore P k → IsFirst KeyBefore P l → k ≡ l
one_first P k l a b = search rules

-- there is nothing besides
pub one_uncovered : (s : State) (anchor : ℕ) (summary : SummaryData) (x y : Option Shown) → IsUncovered s anchor summary x → IsUncovered s anchor summary y → x ≡ y
one_uncovered s anchor summary None None a b = refl
one_uncovered s anchor summary None (Some (OfAnchor n)) a b = absurd (omega (arith, a.0, b.0, b.1))
one_uncovered s anchor summary None (Some (OfKey k)) a b = absurd (b.1.has.1 (All-contains (IsCovered s anchor) summary.keys k a.1 b.1.has.0))
one_uncovered s anchor summary (Some (OfAnchor n)) None a b = absurd (omega (arith, a.0, a.1, b.0))
one_uncovered s anchor summary (Some (OfAnchor n)) (Some (OfAnchor m)) a b = ap (λ i. Some (OfAnchor i)) (a.0 ∙ sym b.0)
one_uncovered s anchor summary (Some (OfAnchor n)) (Some (OfKey k)) a b = absurd (omega (arith, a.0, a.1, b.0))
one_uncovered s anchor summary (Some (OfKey k)) None a b = absurd (a.1.has.1 (All-contains (IsCovered s anchor) summary.keys k b.1 a.1.has.0))
one_uncovered s anchor summary (Some (OfKey k)) (Some (OfAnchor n)) a b = absurd (omega (arith, a.0, b.0, b.1))
one_uncovered s anchor summary (Some (OfKey k)) (Some (OfKey l)) a b =
    ap (λ i. Some (OfKey i)) (one_first (IsUncoveredKey s anchor summary.keys) k l a.1 b.1)

-- what an absorb of one roster answers where this is uncovered
pub tells_uncovered : (s : State) (summary : SummaryData) (d : DeltaData) (found : Option Shown) (answer : Result (Unit {0}) AbsorbRefusal)
    → roster_of s.book ≡ roster_of d.book
    → ((anchor : ℕ) → HasAnchor s anchor → IsUncovered s anchor summary found) → OnOk answer (Answers s summary) → IfErr answer (RefusesAbsorb s summary d)
    → (shown : Shown) → (answer ≡ Err (Uncovered shown)) ↔ (found ≡ Some shown)
tells_uncovered s summary d found (Ok u) same own answers refused shown =
    let none : None ≡ found = one_uncovered s answers.0 summary None found answers.2 (own answers.0 answers.1) in
    (λ e. absurd (cc), λ e. let x : None ≡ Some shown = none ∙ e in absurd (cc))
tells_uncovered s summary d found (Err (Refused why)) same own answers refused shown =
    ⊎_elim
    (λ (x : IsOfOther s d why). absurd (x.0 same))
    (λ (x : (roster_of s.book ≡ roster_of d.book) × Answers s summary × RefusesTold s d why).
    let none : None ≡ found = one_uncovered s x.1.0 summary None found x.1.2 (own x.1.0 x.1.1) in
    (λ e. absurd (cc), λ e. let y : None ≡ Some shown = none ∙ e in absurd (cc)))
    refused
tells_uncovered s summary d found (Err (Uncovered told)) same own answers refused shown =
    let one : Some told ≡ found = one_uncovered s refused.1.0 summary (Some told) found refused.1.2 (own refused.1.0 refused.1.1) in (
      λ e. let x : told ≡ shown = cc in sym one ∙ ap (λ i. Some i) x,
      λ e. let y : Some told ≡ Some shown = one ∙ e in let x : told ≡ shown = cc in ap (λ i. Err (Uncovered i)) x,
    )
