-- The pages that a state shows at a point, gathered from the least on.
use Rattle.std.proofs.Common.{◌≡◌, ◌≢◌, ℕ, ◌<◌, ◌≤◌, ◌⊎◌, inl, inr, ⊎_elim, List, [], ◌∷◌, ◌++◌, Option, Some, None, refl, sym, ◌∙◌, ap, length, ◌+◌, subst, arith, rules}
use Rattle.std.specs.List.{AllByRecursion}
use Rattle.std.proofs.lemmas.List.{length-append}
use Rattle.redo_core.specs.Order.{Lists}
use Rattle.redo_core.specs.Shape.{page_len}
use Rattle.redo_core.specs.Writing.{zeros}
use Rattle.redo_core.specs.Meaning.{ImageData, ImageBefore}
use Rattle.redo_core.proofs.Members.{none_in}
use Rattle.redo_core.proofs.Listing.{lists_push, lists_as}
use Rattle.hot_log.specs.Found.{IsLeast, IsPageAbove}
use Rattle.segment_theorems.specs.State.{State}
use Rattle.segment_theorems.specs.HasMeaning.{HasAnchor}
use Rattle.segment_theorems.specs.Shows.{Shows}
use Rattle.segment_core.specs.Form.{IsSegment}
use Rattle.segment_core.proofs.Pages.{IsPassed}
use Rattle.segment_core.proofs.BarePages.{IsBare, bare_is_zeros}
use Rattle.segment_core.specs.StoredPages.{IsStoredPage, IsImageAtAnchor, CountsShown}
use Rattle.segment_core.proofs.SamePages.{shows_one}
use Rattle.log_theorems.proofs.Meanings.{same_image}

-- the page at the point is this, and not zeros
abbrev pub IsShown : State → ℕ → ImageData → Type 0
IsShown s point i = Shows s i.page point i.bytes × (i.bytes ≢ zeros)

-- such pages before the next one
abbrev pub ListsPassed : State → ℕ → Option ℕ → List ImageData → Type 0
ListsPassed s point next = Lists ImageBefore (λ i. IsShown s point i × IsPassed next i.page)

-- what is passed and not stored is bare
bare_between : (s : State) (after next : Option ℕ) (g : ℕ) → IsLeast (λ n. IsStoredPage s n × IsPageAbove after n) next
    → IsPageAbove after g → IsPassed next g → IsStoredPage s g → ⊥
bare_between s after next g is above passed stored = search rules

not_shown : (s : State) (point : ℕ) (i : ImageData) → IsSegment s → (IsStoredPage s i.page → ⊥) → IsShown s point i → ⊥
not_shown s point i form none shown =
    let bare : IsBare s i.page = record { images = λ x h e. none (inl (x, h, e)); records = λ r h e. none (inr (r, h, e)) } in
    shown.1 (bare_is_zeros s i.page point i.bytes form bare shown.0)

-- at first none is passed
pub passed_none : (s : State) (point : ℕ) (next : Option ℕ) → IsSegment s → IsLeast (λ n. IsStoredPage s n × IsPageAbove None n) next
    → ListsPassed s point next []
passed_none s point next form is = record {
  rising = tt;
  members = λ i. (λ h. absurd (none_in i h), λ h. absurd (not_shown s point i form (bare_between s None next i.page is tt h.1) h.0));
}

after_page : (s : State) (page g : ℕ) (next : Option ℕ) → IsLeast (λ n. IsStoredPage s n × IsPageAbove (Some page) n) next → g ≤ page → IsPassed next g
after_page s page g next is le = search rules

-- a page that is passed now was passed before, or is this one, or is bare
shown_by : (s : State) (point page : ℕ) (next : Option ℕ) (i : ImageData) → IsSegment s
    → IsLeast (λ n. IsStoredPage s n × IsPageAbove (Some page) n) next → IsShown s point i → IsPassed next i.page → (i.page < page) ⊎ (i.page ≡ page)
shown_by s point page next i form is shown passed =
    ⊎_elim
    (λ (t : (i.page < page) ⊎ (i.page ≡ page)). t)
    (λ (above : page < i.page). absurd (not_shown s point i form (bare_between s (Some page) next i.page is above passed) shown))
    (let t : ((i.page < page) ⊎ (i.page ≡ page)) ⊎ (page < i.page) = grind arith in t)

-- a page of zeros adds none
pub passed_zeros : (s : State) (point page : ℕ) (next : Option ℕ) (pages : List ImageData) → IsSegment s
    → IsLeast (λ n. IsStoredPage s n × IsPageAbove (Some page) n) next → Shows s page point zeros → ListsPassed s point (Some page) pages
    → ListsPassed s point next pages
passed_zeros s point page next pages form is zero_shown lists =
    lists_as ImageBefore (λ i. IsShown s point i × IsPassed (Some page) i.page) (λ i. IsShown s point i × IsPassed next i.page) pages
    (λ i. (
      λ h. let lt : i.page < page = h.1 in (h.0, after_page s page i.page next is (omega (arith, lt))),
      λ h. (
        h.0,
        ⊎_elim
            (λ (lt : i.page < page). lt)
            (λ (e : i.page ≡ page). absurd (h.0.1 (shows_one s page point i.bytes zeros (subst (λ g. Shows s g point i.bytes) e h.0.0) zero_shown)))
            (shown_by s point page next i form is h.0 h.1),
      ),
    ))
    lists

-- another one goes to the end
pub passed_more : (s : State) (point page : ℕ) (next : Option ℕ) (pages : List ImageData) (x : ImageData) → IsSegment s
    → IsLeast (λ n. IsStoredPage s n × IsPageAbove (Some page) n) next → x.page ≡ page → IsShown s point x → ListsPassed s point (Some page) pages
    → ListsPassed s point next (pages ++ x ∷ [])
passed_more s point page next pages x form is at shown lists =
    lists_push ImageBefore (λ i. IsShown s point i × IsPassed (Some page) i.page) (λ i. IsShown s point i × IsPassed next i.page) pages x lists
    (λ i h. let lt : i.page < page = h.1 in omega (arith, lt, at))
    (λ i. (
      λ h. ⊎_elim
          (λ (lt : i.page < page). inl (h.0, lt))
          (λ (e : i.page ≡ page).
          let same : i.page ≡ x.page = e ∙ sym at in
          inr (same_image i x same (shows_one s x.page point i.bytes x.bytes (subst (λ g. Shows s g point i.bytes) same h.0.0) shown.0)))
          (shown_by s point page next i form is h.0 h.1),
      λ h. ⊎_elim
          (λ (t : IsShown s point i × IsPassed (Some page) i.page). let lt : i.page < page = t.1 in (t.0, after_page s page i.page next is (omega (arith, lt))))
          (λ (e : i ≡ x). subst (λ y. IsShown s point y × IsPassed next y.page) (sym e) (shown, after_page s page x.page next is (omega (arith, at))))
          h,
    ))

pub passed_all : (s : State) (point : ℕ) (pages : List ImageData) → ListsPassed s point None pages → Lists ImageBefore (IsShown s point) pages
passed_all s point pages lists =
    lists_as ImageBefore (λ i. IsShown s point i × IsPassed None i.page) (IsShown s point) pages (λ i. (λ h. h.0, λ h. (h, tt))) lists

-- ---- how many they are
-- no more pages are passed than there are page numbers below the next one
abbrev pub AreFew : Option ℕ → ℕ → Type 0
AreFew None count = count ≤ 65536
AreFew (Some next) count = count ≤ next

abbrev pub AreLong : List ImageData → Type 0
AreLong pages = AllByRecursion (λ i. length i.bytes ≡ page_len) pages

-- so many pages are passed that are shown
pub record CountsPassed (s : State) (next : Option ℕ) (count : ℕ) : Type 0 where
  pub pages : List ImageData
  pub lists : (anchor : ℕ) → HasAnchor s anchor → ListsPassed s anchor next pages
  pub each : AreLong pages
  pub number : length pages ≡ count
  pub few : AreFew next count

few_none : (next : Option ℕ) → AreFew next 0
few_none None = omega arith
few_none (Some next) = omega arith

few_same : (s : State) (page count : ℕ) (next : Option ℕ) → IsLeast (λ n. IsStoredPage s n × IsPageAbove (Some page) n) next → count ≤ page → page < 65536
    → AreFew next count
few_same s page count next is le lt = search rules

few_more : (s : State) (page count : ℕ) (next : Option ℕ) → IsLeast (λ n. IsStoredPage s n × IsPageAbove (Some page) n) next → count ≤ page → page < 65536
    → AreFew next (count + 1)
few_more s page count next is le lt = search rules

long_more : (pages : List ImageData) (x : ImageData) → AreLong pages → length x.bytes ≡ page_len → AreLong (pages ++ x ∷ [])
long_more [] x each long = (long, tt)
long_more (p ∷ pages) x each long = (each.0, long_more pages x each.1 long)

pub counts_none : (s : State) (next : Option ℕ) → IsSegment s → IsLeast (λ n. IsStoredPage s n × IsPageAbove None n) next → CountsPassed s next 0
counts_none s next form is = record {
  pages = [];
  lists = λ anchor has. passed_none s anchor next form is;
  each = tt;
  number = refl;
  few = few_none next;
}

pub counts_zeros : (s : State) (page count : ℕ) (next : Option ℕ) → IsSegment s → IsLeast (λ n. IsStoredPage s n × IsPageAbove (Some page) n) next → page < 65536
    → IsImageAtAnchor s page None → CountsPassed s (Some page) count → CountsPassed s next count
counts_zeros s page count next form is lt none before = record {
  pages = before.pages;
  lists = λ anchor has. passed_zeros s anchor page next before.pages form is (none anchor has) (before.lists anchor has);
  each = before.each;
  number = before.number;
  few = few_same s page count next is before.few lt;
}

pub counts_more : (s : State) (page count : ℕ) (next : Option ℕ) (x : ImageData) → IsSegment s
    → IsLeast (λ n. IsStoredPage s n × IsPageAbove (Some page) n) next → page < 65536 → IsImageAtAnchor s page (Some x) → length x.bytes ≡ page_len
    → CountsPassed s (Some page) count → CountsPassed s next (count + 1)
counts_more s page count next x form is lt at long before = record {
  pages = before.pages ++ x ∷ [];
  lists = λ anchor has.
      let shown : IsShown s anchor x = (subst (λ g. Shows s g anchor x.bytes) (sym at.0) (at.2 anchor has), at.1) in
      passed_more s anchor page next before.pages x form is at.0 shown (before.lists anchor has);
  each = long_more before.pages x before.each long;
  number = length-append before.pages (x ∷ []) ∙ ap (λ n. n + 1) before.number;
  few = few_more s page count next is before.few lt;
}

pub counts_all : (s : State) (count : ℕ) → CountsPassed s None count → CountsShown s count
counts_all s count passed = (passed.pages, λ anchor has. passed_all s anchor passed.pages (passed.lists anchor has), passed.each, passed.number)
