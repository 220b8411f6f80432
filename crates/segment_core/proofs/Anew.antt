-- The page that a state shows, made from the last record with `init` on.
use Rattle.std.proofs.Common.{◌≡◌, ℕ, ◌-◌, ◌<◌, ◌≤◌, ◌⊎◌, inl, inr, ⊎_elim, List, [], ◌∷◌, ◌++◌, sym, ap, ◌∙◌, subst, arith, true, rules}
use Rattle.std.specs.List.{Contains}
use Rattle.std.proofs.lemmas.Bool.{cases_lt}
use Rattle.std.proofs.lemmas.List.Elements.{Contains-append_left, Contains-append_right, Contains-append_cases}
use Rattle.redo_core.specs.Data.{RecordData}
use Rattle.redo_core.specs.Order.{IsRising, Lists, BeforeByNumber}
use Rattle.redo_core.specs.Standing.{IsAlive}
use Rattle.redo_core.specs.Writing.{after_records}
use Rattle.redo_core.proofs.AfterRecords.{after_append}
use Rattle.redo_core.proofs.Listing.{lists_as}
use Rattle.redo_core.proofs.Members.{none_in, here, there, which, each, all_of}
use Rattle.log_theorems.proofs.Deciding.{Settled, settled_le, settled_eq, settled_and, in_order}
use Rattle.log_theorems.proofs.Fronts.{settled_alive}
use Rattle.epoch_book.specs.Book.{IsBook}
use Rattle.hot_log.specs.Anew.{ListsAnew}
use Rattle.hot_log.specs.Alive.{IsHeldAlive}
use Rattle.hot_log.specs.Held.{IsHeld}
use Rattle.hot_log.proofs.Views.{view_of, one_number}
use Rattle.segment_theorems.specs.State.{State, version_of, image_of}
use Rattle.segment_theorems.specs.Shows.{IsApplied, Shows}
use Rattle.segment_theorems.proofs.Anew.{write_anew}

-- records from one with `init` on do not read the page
from_anew : (r : RecordData) (P : RecordData → Type 0) (xs : List RecordData) (i j : List ℕ) → P r → r.init ≡ true
    → Lists BeforeByNumber (λ x. P x × (r.number ≤ x.number)) xs → after_records i xs ≡ after_records j xs
from_anew r P [] i j held anew lists = absurd (none_in r ((lists.members r).1 (held, omega arith)))
from_anew r P (x ∷ xs) i j held anew lists =
    ap (λ page. after_records page xs) (write_anew x i j (⊎_elim
    (λ (e : x ≡ r). subst (λ (y : RecordData). y.init ≡ true) (sym e) anew)
    (λ (q : Contains xs r).
    let low : x.number < r.number = each (BeforeByNumber x) xs r lists.rising.0 q in
    let up : r.number ≤ x.number = ((lists.members x).0 (here x xs)).1 in
    absurd (omega arith))
    (which x xs r ((lists.members r).1 (held, omega arith)))))

rising_joined : (xs ys : List RecordData) → IsRising BeforeByNumber xs → IsRising BeforeByNumber ys
    → ((x y : RecordData) → Contains xs x → Contains ys y → x.number < y.number) → IsRising BeforeByNumber (xs ++ ys)
rising_joined [] ys one two apart = two
rising_joined (x ∷ xs) ys one two apart = (
  all_of (BeforeByNumber x) (xs ++ ys)
      (λ y h. ⊎_elim (λ (u : Contains xs y). each (BeforeByNumber x) xs y one.0 u) (λ (u : Contains ys y). apart x y (here x xs) u)
      (Contains-append_cases xs ys y h)),
  rising_joined xs ys one.1 two (λ y z h k. apart y z (there x xs y h) k),
)

-- a stored record with this is applied
abbrev IsDue : State → ℕ → ℕ → RecordData → Type 0
IsDue s page q r =
    IsAlive s.book.cuts s.book.complete r.epoch r.number × ((r.page ≡ page) × ((version_of s.store page < r.number) × (r.number ≤ q)))

settled_due : (s : State) (page q : ℕ) (r : RecordData) → Settled (IsDue s page q r)
settled_due s page q r = search (rules, settled_and, settled_alive, settled_eq, settled_le)

-- the records that are applied can be put in order
pub applied_in_order : (s : State) (page q : ℕ) → IsBook s.book → IsHeld s.held
    → (written : List RecordData) × Lists BeforeByNumber (IsApplied s page q) written
applied_in_order s page q book held =
    let t = in_order BeforeByNumber (IsHeldAlive s.book s.held) (λ x y z a b. omega arith)
    (λ x y a b. ⊎_elim
    (λ (lt : x.number < y.number). inl lt)
    (λ (le : y.number ≤ x.number). inr (⊎_elim
    (λ (gt : y.number < x.number). inr gt)
    (λ (e : x.number ≡ y.number). inl (one_number s.book.cuts s.book.complete s.held (view_of s.book book) held.rising x y a.0 b.0 a.1 b.1 e))
    (let u : (y.number < x.number) ⊎ (x.number ≡ y.number) = grind arith in u)))
    (cases_lt x.number y.number))
    (IsDue s page q) (settled_due s page q) s.held (λ r has due. (has, due.0)) in (
      t.0,
      lists_as BeforeByNumber (λ r. Contains s.held r × IsDue s page q r) (IsApplied s page q) t.0
          (λ r. (λ h. (h.0, h.1.0, h.1.1.0, h.1.1.1.0, h.1.1.1.1), λ h. (h.0, (h.1, (h.2, (h.3, h.4)))))) t.1,
    )

-- the records that are applied before one are those up to the LSN before it
in_front : (s : State) (page q : ℕ) (r : RecordData) → IsBook s.book → IsHeld s.held → IsApplied s page q r
    → (xs : List RecordData) × Lists BeforeByNumber (λ x. IsApplied s page q x × (x.number < r.number)) xs
in_front s page q r book held applied =
    let t = applied_in_order s page (r.number - 1) book held in
    let up : version_of s.store page < r.number = applied.3 in
    let low : r.number ≤ q = applied.4 in (
      t.0,
      lists_as BeforeByNumber (IsApplied s page (r.number - 1)) (λ x. IsApplied s page q x × (x.number < r.number)) t.0
          (λ x. (
            λ h. let le : x.number ≤ r.number - 1 = h.4 in ((h.0, h.1, h.2, h.3, omega (arith, le, low)), omega (arith, le, up)),
            λ h. let lt : x.number < r.number = h.1 in (h.0.0, h.0.1, h.0.2, h.0.3, omega (arith, lt)),
          )) t.1,
    )

-- records listed from scratch over the page's image are the page that the state shows
pub anew_shows : (s : State) (page q : ℕ) (image : List ℕ) (xs : List RecordData) → IsBook s.book → IsHeld s.held → ListsAnew (IsApplied s page q) xs
    → image ≡ after_records (image_of s.store page) xs → Shows s page q image
anew_shows s page q image xs book held lists is = ⊎_elim
    (λ (all : Lists BeforeByNumber (IsApplied s page q) xs). record { written = xs; lists = all; result = is })
    (λ (from : (r : RecordData) × IsApplied s page q r × (r.init ≡ true) × Lists BeforeByNumber (λ x. IsApplied s page q x × (r.number ≤ x.number)) xs).
    let r = from.0 in
    let front = in_front s page q r book held from.1 in
    let start = image_of s.store page in
    record {
      written = front.0 ++ xs;
      lists = record {
        rising = rising_joined front.0 xs front.1.rising from.3.rising
            (λ x y h k. let low : x.number < r.number = ((front.1.members x).0 h).1 in let up : r.number ≤ y.number = ((from.3.members y).0 k).1 in omega arith);
        members = λ x. (
          λ h. ⊎_elim (λ (u : Contains front.0 x). ((front.1.members x).0 u).0) (λ (u : Contains xs x). ((from.3.members x).0 u).0)
              (Contains-append_cases front.0 xs x h),
          λ h. ⊎_elim
              (λ (low : x.number < r.number). Contains-append_left front.0 xs x ((front.1.members x).1 (h, low)))
              (λ (up : r.number ≤ x.number). Contains-append_right front.0 xs x ((from.3.members x).1 (h, up)))
              (cases_lt x.number r.number),
        );
      };
      result = is ∙ from_anew r (IsApplied s page q) xs start (after_records start front.0) from.1 from.2 from.3 ∙ sym (after_append start front.0 xs);
    })
    lists
