-- The first page whose block chain is broken at or below the anchor.
use Rattle.std.proofs.Common.{◌≡◌, ℕ, ◌<◌, ◌≤◌, ◌⊎◌, ◌↔◌, ⊎_elim, Option, Some, None, Result, Err, refl, sym, ap, ◌∙◌, subst, arith, rules}
use Rattle.std.specs.List.{Contains}
use Rattle.redo_core.specs.Data.{RecordData}
use Rattle.hot_log.specs.Found.{IsPageAfter}
use Rattle.segment_theorems.specs.State.{State}
use Rattle.segment_theorems.specs.HasMeaning.{HasAnchor}
use Rattle.segment_core.specs.BlockChain.{BreaksAt}
use Rattle.segment_core.specs.Folding.{BreaksBelowAnchor}
use Rattle.segment_core.specs.Forgetting.{IsWhole, IsFirstBreak, ReportsFirstBreak, IsSoundState}
use Rattle.segment_core.specs.declared.answers.ReadFault.{ReadFault}
use Rattle.segment_core.specs.declared.answers.ReadFault.TheVariants.{BrokenBlockChain}
use Rattle.segment_core.proofs.OneView.{one_anchor}
use Rattle.segment_core.proofs.Pages.{IsPassed, none_passed, passed_to}
use Rattle.segment_core.proofs.BlockChain.{ReportsLink, no_break}
use Rattle.segment_core.proofs.PlanFold.{anchor_complete}
use Rattle.log_theorems.proofs.Log.{log_of_sound}
use Rattle.segment_theorems.proofs.Same.{anchor_as}

-- the chains of the pages that are passed are whole
abbrev pub IsWholeTo : State → Option ℕ → Type 0
IsWholeTo s next = (page n : ℕ) → BreaksBelowAnchor s page n → IsPassed next page → ⊥

-- a chain is broken at a record that is stored
broken_page : (s : State) (page n : ℕ) → BreaksBelowAnchor s page n → (r : RecordData) × Contains s.held r × (r.page ≡ page)
broken_page s page n b = let l = b.2.linked in (b.2.first, l.0, l.3)

pub whole_none : (s : State) (next : Option ℕ) → IsPageAfter s.held None next → IsWholeTo s next
whole_none s next after page n b passed = search (rules, none_passed)

at_anchor : (s : State) (page n anchor : ℕ) → HasAnchor s anchor → BreaksBelowAnchor s page n → BreaksAt s page anchor n
at_anchor s page n anchor own b = subst (λ a. BreaksAt s page a n) (one_anchor s b.0 anchor b.1 own) b.2

pub whole_more : (s : State) (anchor page : ℕ) (next : Option ℕ) (link : Option ℕ) → HasAnchor s anchor → IsPageAfter s.held (Some page) next
    → ReportsLink s page anchor link → link ≡ None → IsWholeTo s (Some page) → IsWholeTo s next
whole_more s anchor page next link own after tells none before g n b passed =
    let r = broken_page s g n b in
    let le : r.0.page ≤ page = passed_to s.held page next r.0 after r.1 (subst (IsPassed next) (sym r.2) passed) in
    let is : r.0.page ≡ g = r.2 in
    ⊎_elim
    (λ (lt : g < page). before g n b lt)
    (λ (e : g ≡ page).
    let some : link ≡ Some n = (tells n).1 (subst (λ p. BreaksAt s p anchor n) e (at_anchor s g n anchor own b)) in
    absurd (cc))
    (let t : (g < page) ⊎ (g ≡ page) = grind arith in t)

pub whole_all : (s : State) → IsWholeTo s None → IsWhole s
whole_all s done page n b = done page n b tt

-- what a search for the first break answers
abbrev pub ReportsFirst : State → Option (ℕ × ℕ) → Type 0
ReportsFirst s found = (page n : ℕ) → (let at : ℕ × ℕ = (page, n) in found ≡ Some at) ↔ IsFirstBreak s page n

pair_of : (x : ℕ × ℕ) (a b : ℕ) → x.0 ≡ a → x.1 ≡ b → (let y : ℕ × ℕ = (a, b) in x ≡ y)
pair_of x a b e f = subst (λ m. let y : ℕ × ℕ = (m, b) in x ≡ y) e (subst (λ m. let y : ℕ × ℕ = (x.0, m) in x ≡ y) f refl)

-- the first that is found is the first
pub first_found : (s : State) (anchor : ℕ) (x : ℕ × ℕ) (link : Option ℕ) → HasAnchor s anchor → ReportsLink s x.0 anchor link → link ≡ Some x.1
    → IsWholeTo s (Some x.0) → ReportsFirst s (Some x)
first_found s anchor x link own tells is before g n =
    let found : BreaksBelowAnchor s x.0 x.1 = (anchor, own, (tells x.1).0 is) in
    let least : (other m : ℕ) → BreaksBelowAnchor s other m → x.0 ≤ other = λ other m b.
    ⊎_elim (λ (lt : other < x.0). absurd (before other m b lt)) (λ (le : x.0 ≤ other). le) (let t : (other < x.0) ⊎ (x.0 ≤ other) = grind arith in t) in
    let first : IsFirstBreak s x.0 x.1 = record { breaks = found; least = least } in
    let y : ℕ × ℕ = (g, n) in (
      λ (e : Some x ≡ Some y). let p : x ≡ y = cc in subst (λ (z : ℕ × ℕ). IsFirstBreak s z.0 z.1) p first,
      λ h.
          let up : x.0 ≤ g = least g n h.breaks in
          let down : g ≤ x.0 = h.least x.0 x.1 found in
          let same : x.0 ≡ g = omega arith in
          let some : link ≡ Some n = (tells n).1 (subst (λ p. BreaksAt s p anchor n) (sym same) (at_anchor s g n anchor own h.breaks)) in
          let number_is : x.1 ≡ n = cc in
          ap (λ z. Some z) (pair_of x g n same number_is),
    )

-- where none is found there is none
pub first_none : (s : State) (found : Option (ℕ × ℕ)) → found ≡ None → IsWhole s → ReportsFirst s found
first_none s found none whole g n =
    let y : ℕ × ℕ = (g, n) in
    (λ (e : found ≡ Some y). absurd (cc), λ h. absurd (whole g n h.breaks))

-- ---- what a tidy answers
pub tells_first : (s : State) (found : Option (ℕ × ℕ)) (x : ℕ × ℕ) → found ≡ Some x → ReportsFirst s found → ReportsFirstBreak s (Err (BrokenBlockChain x.0 x.1))
tells_first s found x is first g n =
    let y : ℕ × ℕ = (g, n) in (
      λ (e : Err (BrokenBlockChain x.0 x.1) ≡ Err (BrokenBlockChain g n)).
          let a : x.0 ≡ g = cc in
          let b : x.1 ≡ n = cc in
          (first g n).0 (is ∙ ap (λ z. Some z) (pair_of x g n a b)),
      λ h.
          let e : found ≡ Some y = (first g n).1 h in
          let p : x ≡ y = cc in
          ap (λ (z : ℕ × ℕ). Err (BrokenBlockChain z.0 z.1)) p,
    )

pub tells_whole : (s : State) (result : Result Unit ReadFault) → IsWhole s → ((g n : ℕ) → result ≡ Err (BrokenBlockChain g n) → ⊥) → ReportsFirstBreak s result
tells_whole s result whole not g n = (λ e. absurd (not g n e), λ h. absurd (whole g n h.breaks))

-- a state that means facts of a sound log has none
pub sound_whole : (s : State) → IsSoundState s → IsWhole s
sound_whole s sound page n b = search (rules, anchor_as, log_of_sound, no_break, anchor_complete)
