-- Scanning the pages that stored records write, from the least on.
use Rattle.std.proofs.Common.{◌≡◌, ℕ, ◌-◌, ◌≤◌, ◌⊎◌, ◌↔◌, ⊎_elim, List, ◌++◌, min, Option, Some, None, Bool, IsTrue, false, sym, subst, ◌∙◌, arith, rules}
use Rattle.std.specs.List.{Contains}
use Rattle.std.specs.Option.{SomeIff}
use Rattle.std.proofs.lemmas.List.Elements.{Contains-append_left, Contains-append_right, Contains-append_cases}
use Rattle.redo_core.specs.Data.{RecordData}
use Rattle.hot_log.specs.Found.{IsPageAfter, IsPageAbove}
use Rattle.segment_core.proofs.Pages.{IsPassed, none_passed}

-- a stored record writes the next page, where there is one
abbrev pub IsWritten : List RecordData → Option ℕ → Type 0
IsWritten held None = Unit {0}
IsWritten held (Some page) = (r : RecordData) × Contains held r × (r.page ≡ page)

-- a property of pages holds of those that are passed
abbrev pub HoldsBefore : (ℕ → Type 0) → List RecordData → Option ℕ → Type 0
HoldsBefore P held next = (r : RecordData) → Contains held r → IsPassed next r.page → P r.page

pub written_next : (held : List RecordData) (after next : Option ℕ) → IsPageAfter held after next → IsWritten held next
written_next held after next is = search rules

pub holds_at_first : (P : ℕ → Type 0) (held : List RecordData) (next : Option ℕ) → IsPageAfter held None next → HoldsBefore P held next
holds_at_first P held next is r has passed = absurd (none_passed held next r is has passed)

pub holds_of_one_more : (P : ℕ → Type 0) (held : List RecordData) (page : ℕ) (next : Option ℕ) → IsPageAfter held (Some page) next
    → P page → HoldsBefore P held (Some page) → HoldsBefore P held next
holds_of_one_more P held page next is here before r has passed = search rules

-- one page has it not
pub fails_at : (P : ℕ → Type 0) (held : List RecordData) (page : ℕ) (holds : Bool) → IsWritten held (Some page) → holds ≡ false → IsTrue holds ↔ P page
    → IsTrue false ↔ ((r : RecordData) → Contains held r → P r.page)
fails_at P held page holds written fails tells = search rules

-- the least page that either of two lists has above another
pub page_of_both : (xs ys : List RecordData) (after : Option ℕ) (p q low : ℕ) → IsPageAfter xs after (Some p) → IsPageAfter ys after (Some q)
    → low ≡ min p q → IsPageAfter (xs ++ ys) after (Some low)
page_of_both xs ys after p q low one two is =
    let split : (low ≡ p) ⊎ (low ≡ q) = grind (arith, is) in
    let under : low ≤ p = grind (arith, is) in
    let below : low ≤ q = grind (arith, is) in (
      ⊎_elim
          (λ (e : low ≡ p). (one.0.0, Contains-append_left xs ys one.0.0 one.0.1, one.0.2 ∙ sym e, subst (IsPageAbove after) (sym e) one.0.3))
          (λ (e : low ≡ q). (two.0.0, Contains-append_right xs ys two.0.0 two.0.1, two.0.2 ∙ sym e, subst (IsPageAbove after) (sym e) two.0.3))
          split,
      λ r h above. ⊎_elim
          (λ (u : Contains xs r). let t : p ≤ r.page = one.1 r u above in omega (arith, t, under))
          (λ (u : Contains ys r). let t : q ≤ r.page = two.1 r u above in omega (arith, t, below))
          (Contains-append_cases xs ys r h),
    )

pub page_of_one : (xs ys : List RecordData) (after : Option ℕ) (p : ℕ) → IsPageAfter xs after (Some p) → IsPageAfter ys after None
    → IsPageAfter (xs ++ ys) after (Some p)
page_of_one xs ys after p one none = (
  (one.0.0, Contains-append_left xs ys one.0.0 one.0.1, one.0.2, one.0.3),
  λ r h above. ⊎_elim (λ (u : Contains xs r). one.1 r u above) (λ (u : Contains ys r). absurd (none r u above)) (Contains-append_cases xs ys r h),
)

pub page_of_other : (xs ys : List RecordData) (after next : Option ℕ) → IsPageAfter xs after None → IsPageAfter ys after next
    → IsPageAfter (xs ++ ys) after next
page_of_other xs ys after None none other = λ r h above.
    ⊎_elim (λ (u : Contains xs r). none r u above) (λ (u : Contains ys r). other r u above) (Contains-append_cases xs ys r h)
page_of_other xs ys after (Some p) none other = (
  (other.0.0, Contains-append_right xs ys other.0.0 other.0.1, other.0.2, other.0.3),
  λ r h above. ⊎_elim (λ (u : Contains xs r). absurd (none r u above)) (λ (u : Contains ys r). other.1 r u above) (Contains-append_cases xs ys r h),
)

-- the pages above the one below a page are those from it on
pub from_page_on : (page : ℕ) (below : Option ℕ) → SomeIff below (1 ≤ page) (page - 1)
    → IsPageAbove below page × ((p : ℕ) → IsPageAbove below p → page ≤ p)
from_page_on page below is = search rules

-- the least page above the one below a page decides whether that page is written
pub next_is_written : (held : List RecordData) (page : ℕ) (below : Option ℕ) (next : ℕ) → IsPageAfter held below (Some next) → next ≡ page
    → ((r : RecordData) → Contains held r → r.page ≡ page → ⊥) → ⊥
next_is_written held page below next is same none = none is.0.0 is.0.1 (is.0.2 ∙ same)

pub next_is_above : (held : List RecordData) (page : ℕ) (below : Option ℕ) (next : ℕ) → SomeIff below (1 ≤ page) (page - 1)
    → IsPageAfter held below (Some next) → (next ≡ page → ⊥) → (r : RecordData) → Contains held r → r.page ≡ page → ⊥
next_is_above held page below next at is other r has same = search (rules, from_page_on)

pub none_is_above : (held : List RecordData) (page : ℕ) (below : Option ℕ) → SomeIff below (1 ≤ page) (page - 1) → IsPageAfter held below None
    → (r : RecordData) → Contains held r → r.page ≡ page → ⊥
none_is_above held page below at none r has same = none r has (subst (IsPageAbove below) (sym same) (from_page_on page below at).0)
