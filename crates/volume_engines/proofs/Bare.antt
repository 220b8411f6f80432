-- The summary of a state that nothing has reached has nothing in it, and each state answers for it.
use Rattle.std.proofs.Common.{◌≡◌, ℕ, ◌<◌, ◌≤◌, ⊎_elim, List, [], ◌∷◌, map, refl, sym, ◌∙◌, subst, ap, arith}
use Rattle.std.specs.List.{Contains, All}
use Rattle.redo_core.specs.Data.{RecordData, CutData}
use Rattle.redo_core.specs.Keys.{key_of}
use Rattle.redo_core.specs.Linked.{Linked}
use Rattle.redo_core.specs.Linked.Linked.{start, next}
use Rattle.redo_core.specs.declared.keys.Key.{Key}
use Rattle.redo_core.proofs.Members.{none_in, here}
use Rattle.messages.specs.Summaries.{SummaryData}
use Rattle.segment_theorems.specs.State.{State, empty_state, min_of}
use Rattle.segment_theorems.specs.HasMeaning.{HasAnchor, IsLinkedIn}
use Rattle.gossip_core.specs.Summarizing.{Summarizes}
use Rattle.gossip_core.specs.Absorbing.{Answers}
use Rattle.gossip_core.specs.Answering.{IsCovered}

abbrev pub IsBare : SummaryData → Type 0
IsBare summary = (summary.anchor ≡ 0) × (summary.keys ≡ [])

no_link : (cs : List CutData) (k n : ℕ) → Linked cs [] k 0 n → n ≡ 0
no_link cs k n start = refl
no_link cs k n (next r inside alive above rest) = absurd (none_in r inside)

no_anchor : (roster a : ℕ) → HasAnchor (empty_state roster) a → a ≡ 0
no_anchor roster a anchor = ⊎_elim
    (λ (none : a ≡ 0). none)
    (λ (linked : IsLinkedIn (empty_state roster) a × (a ≤ min_of (empty_state roster))). no_link [] 0 a linked.0)
    anchor.0

no_records : (kept : List RecordData) → ((r : RecordData) → Contains kept r → Contains [] r) → kept ≡ []
no_records [] none = refl
no_records (r ∷ kept) none = absurd (none_in r (none r (here r kept)))

pub bare_of : (roster : ℕ) (s : State) (summary : SummaryData) → s ≡ empty_state roster → Summarizes s summary → IsBare summary
bare_of roster s summary empty is =
    let same : Summarizes (empty_state roster) summary = subst (λ (x : State). Summarizes x summary) empty is in
    let none : same.kept ≡ [] = no_records same.kept (λ r inside. ((same.kept_are.members r).0 inside).0) in
    (no_anchor roster summary.anchor same.anchor, same.keys ∙ ap (λ (rs : List RecordData). map key_of rs) none)

pub bare_answered : (s : State) (anchor : ℕ) (summary : SummaryData) → HasAnchor s anchor → IsBare summary → Answers s summary
bare_answered s anchor summary has bare = (
  anchor,
  has,
  (
    omega (arith, bare.0),
    subst (λ (keys : List Key). All (IsCovered s anchor) keys) (sym bare.1) (λ k x within. absurd (let no : k < 0 = within in omega arith)),
  ),
)
