-- Which truncations can contradict an advance.
use Rattle.std.proofs.Common.{◌≡◌, ℕ, ◌<◌, ◌≤◌, ⊎_elim, List, length, Option, Some, None, IfSome, subst, arith, ltb, rules}
use Rattle.std.proofs.lemmas.Bool.{cases_lt}
use Rattle.std.proofs.lemmas.List.Elements.{All-contains}
use Rattle.std.specs.List.{Contains, All, filter}
use Rattle.redo_core.specs.Data.{CutData, AdvanceData}
use Rattle.redo_core.specs.Order.{CutBefore, IsFirst}
use Rattle.redo_core.specs.Past.{CutsBelow}
use Rattle.redo_core.proofs.Members.{all_members, filtered, passed}
use Rattle.redo_core.specs.Roster.{IsReader}
use Rattle.epoch_book.specs.Book.{BookData, roster_of}
use Rattle.epoch_book.specs.Lows.{AreLows}
use Rattle.epoch_book.specs.Refusing.{RefusesAdvance}
use Rattle.epoch_book.specs.declared.refusals.Held.TheVariants.{Min, Advance, Cut}
use Rattle.epoch_book.specs.declared.refusals.BookRefusal.{BookRefusal}
use Rattle.epoch_book.specs.declared.refusals.BookRefusal.TheVariants.{OtherRoster, OtherCut, Contradiction, Memory}
use Rattle.epoch_book.proofs.Earlier.{later_test}

-- an advance that the lowest truncations spare
abbrev pub Spare : List CutData → AdvanceData → Type 0
Spare lows a = All (λ c. a.epoch < c.epoch → a.point ≤ c.lo) lows

pub spare_by : (lows xs : List CutData) (a : AdvanceData) (e p : ℕ) → xs ≡ lows → e ≡ a.epoch → p ≡ a.point → All (λ c. e < c.epoch → p ≤ c.lo) xs
    → Spare lows a
spare_by lows xs a e p is i j all = search rules

spared : (b : BookData) (lows : List CutData) (a : AdvanceData) → AreLows b.cuts b.complete lows → Spare lows a
    → (c : CutData) → Contains b.cuts c → c.epoch ≤ b.complete → a.epoch < c.epoch → a.point ≤ c.lo
spared b lows a are spare c has upto above =
    let d = are.least c has upto in
    let p : a.point ≤ d.0.lo = All-contains (λ x. a.epoch < x.epoch → a.point ≤ x.lo) lows d.0 spare d.1 (omega (arith, above, d.2)) in
    omega (arith, p, d.3)

-- with several readers, or for a spared advance, only a truncation of an epoch above the complete one contradicts it
pub is_later : (b : BookData) (lows : List CutData) (a : AdvanceData) → AreLows b.cuts b.complete lows → (length b.points ≡ 1 → Spare lows a)
    → (c : CutData) → Contains b.cuts c → CutsBelow b.complete b.points b.waits c a → b.complete < c.epoch
is_later b lows a are why c has below =
    ⊎_elim
    (λ (later : b.complete < c.epoch). later)
    (λ (upto : c.epoch ≤ b.complete). ⊎_elim
    (λ (one : length b.points ≡ 1).
    let p : a.point ≤ c.lo = spared b lows a are (why one) c has upto below.0.0 in let q : c.lo < a.point = below.0.1 in absurd (omega arith))
    (λ h. h.0)
    below.1)
    (cases_lt b.complete c.epoch)

-- where only later truncations contradict an advance, these are looked at alone
pub first_later : (b : BookData) (a : AdvanceData) (x : CutData)
    → ((c : CutData) → Contains b.cuts c → CutsBelow b.complete b.points b.waits c a → b.complete < c.epoch)
    → IsFirst CutBefore (λ c. Contains (filter (λ c. ltb b.complete c.epoch) b.cuts) c × CutsBelow b.complete b.points b.waits c a) x
    → IsFirst CutBefore (λ c. Contains b.cuts c × CutsBelow b.complete b.points b.waits c a) x
first_later b a x later first = record {
  has = ((filtered (λ c. ltb b.complete c.epoch) b.cuts x first.has.0).0, first.has.1);
  least = λ y h. first.least y (passed (λ c. ltb b.complete c.epoch) b.cuts y ((later_test b.complete y.epoch).1 (later y h.0 h.1)) h.0, h.1);
}

pub none_later : (b : BookData) (a : AdvanceData) → ((c : CutData) → Contains b.cuts c → CutsBelow b.complete b.points b.waits c a → b.complete < c.epoch)
    → All (λ c. CutsBelow b.complete b.points b.waits c a → ⊥) (filter (λ c. ltb b.complete c.epoch) b.cuts)
    → All (λ c. CutsBelow b.complete b.points b.waits c a → ⊥) b.cuts
none_later b a later none = all_members (λ c. CutsBelow b.complete b.points b.waits c a → ⊥) b.cuts
    (λ c has below. All-contains (λ c. CutsBelow b.complete b.points b.waits c a → ⊥) (filter (λ c. ltb b.complete c.epoch) b.cuts) c none
    (passed (λ c. ltb b.complete c.epoch) b.cuts c ((later_test b.complete c.epoch).1 (later c has below)) has)
    below)

-- the same by what the calls say
pub first_by : (b : BookData) (a : AdvanceData) (r : Option CutData) (xs : List CutData) (ws : List AdvanceData) → ws ≡ b.waits
    → xs ≡ filter (λ c. ltb b.complete c.epoch) b.cuts
    → ((c : CutData) → Contains b.cuts c → CutsBelow b.complete b.points b.waits c a → b.complete < c.epoch)
    → IfSome r (IsFirst CutBefore (λ c. Contains xs c × CutsBelow b.complete b.points ws c a))
    → IfSome r (IsFirst CutBefore (λ c. Contains b.cuts c × CutsBelow b.complete b.points b.waits c a))
first_by b a None xs ws seen is later h = tt
first_by b a (Some x) xs ws seen is later h = first_later b a x later
    (subst (λ l. IsFirst CutBefore (λ c. Contains l c × CutsBelow b.complete b.points b.waits c a) x) is
    (subst (λ l. IsFirst CutBefore (λ c. Contains xs c × CutsBelow b.complete b.points l c a) x) seen h))

pub none_by : (b : BookData) (a : AdvanceData) (xs : List CutData) (ws : List AdvanceData) → ws ≡ b.waits
    → xs ≡ filter (λ c. ltb b.complete c.epoch) b.cuts
    → ((c : CutData) → Contains b.cuts c → CutsBelow b.complete b.points b.waits c a → b.complete < c.epoch)
    → All (λ c. CutsBelow b.complete b.points ws c a → ⊥) xs → All (λ c. CutsBelow b.complete b.points b.waits c a → ⊥) b.cuts
none_by b a xs ws seen is later h = none_later b a later
    (subst (All (λ c. CutsBelow b.complete b.points b.waits c a → ⊥)) is (subst (λ l. All (λ c. CutsBelow b.complete b.points l c a → ⊥) xs) seen h))

pub first_of_all : (b : BookData) (a : AdvanceData) (r : Option CutData) (xs : List CutData) (ws : List AdvanceData) → ws ≡ b.waits → xs ≡ b.cuts
    → IfSome r (IsFirst CutBefore (λ c. Contains xs c × CutsBelow b.complete b.points ws c a))
    → IfSome r (IsFirst CutBefore (λ c. Contains b.cuts c × CutsBelow b.complete b.points b.waits c a))
first_of_all b a r xs ws seen is h =
    subst (λ l. IfSome r (IsFirst CutBefore (λ c. Contains l c × CutsBelow b.complete b.points b.waits c a))) is
    (subst (λ l. IfSome r (IsFirst CutBefore (λ c. Contains xs c × CutsBelow b.complete b.points l c a))) seen h)

pub none_of_all : (b : BookData) (a : AdvanceData) (xs : List CutData) (ws : List AdvanceData) → ws ≡ b.waits → xs ≡ b.cuts
    → All (λ c. CutsBelow b.complete b.points ws c a → ⊥) xs → All (λ c. CutsBelow b.complete b.points b.waits c a → ⊥) b.cuts
none_of_all b a xs ws seen is h =
    subst (All (λ c. CutsBelow b.complete b.points b.waits c a → ⊥)) is (subst (λ l. All (λ c. CutsBelow b.complete b.points l c a → ⊥) xs) seen h)

-- an advance of the roster that no truncation contradicts is not refused
pub unrefused : (b : BookData) (a : AdvanceData) → IsReader (roster_of b) a.reader → All (λ c. CutsBelow b.complete b.points b.waits c a → ⊥) b.cuts
    → (e : BookRefusal) → RefusesAdvance b a e → ⊥
unrefused b a mine none (OtherRoster own shown) h = h.2 mine
unrefused b a mine none (OtherCut d) h = h
unrefused b a mine none (Contradiction (Min m)) h = h
unrefused b a mine none (Contradiction (Advance w)) h = h
unrefused b a mine none (Contradiction (Cut d)) h = All-contains (λ c. CutsBelow b.complete b.points b.waits c a → ⊥) b.cuts d none h.1.has.0 h.1.has.1
unrefused b a mine none Memory h = h
