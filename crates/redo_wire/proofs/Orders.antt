-- Elements judged one after the other, each against the last, are a rising list.
use Rattle.std.proofs.Common.{◌≡◌, ℕ, ◌+◌, ◌<◌, ◌⊎◌, Bool, true, ltb, leb, List, [], ◌∷◌, arith, inl, inr, rules}
use Rattle.std.specs.List.{AllByRecursion}
use Rattle.std.proofs.lemmas.Bool.{cases_lt}
use Rattle.redo_core.specs.Data.{AdvanceData}
use Rattle.redo_core.specs.Keys.{key_in, KeyBefore}
use Rattle.redo_core.specs.declared.keys.Key.{Key}
use Rattle.redo_core.specs.Order.{IsRising, PairBefore, CutBefore, AdvanceBefore}
use Rattle.redo_core.specs.Meaning.{ImageBefore}
use Rattle.redo_wire.specs.Places.{is_pair_above, is_above, WaitPlace, is_wait_above}
use Rattle.redo_wire.proofs.ListReaders.{EachFrom}

pub All-weaker : {X : Type 0} (P Q : X → Type 0) → ((x : X) → P x → Q x) → (xs : List X) → AllByRecursion P xs → AllByRecursion Q xs
All-weaker P Q f [] h = tt
All-weaker P Q f (x ∷ xs) h = (f x h.0, All-weaker P Q f xs h.1)

pub All-both : {X : Type 0} (P Q : X → Type 0) (xs : List X) → AllByRecursion P xs → AllByRecursion Q xs → AllByRecursion (λ x. P x × Q x) xs
All-both P Q [] h k = tt
All-both P Q (x ∷ xs) h k = ((h.0, k.0), All-both P Q xs h.1 k.1)

-- a test against the position of the element before, and the order that it tests
pub record Tests {S A : Type 0} (above : S → A → Bool) (place : A → S) (Before : A → A → Type 0) : Type 0 where
  pub before : (x y : A) → above (place x) y ≡ true → Before x y
  pub passes : (x y : A) → Before x y → above (place x) y ≡ true
  pub through : (s : S) (x y : A) → above s x ≡ true → Before x y → above s y ≡ true

-- an element that passes the test and has P
abbrev pub IsNext : {S A : Type 0} → (S → A → Bool) → (A → Type 0) → S → A → Type 0
IsNext above P s x = (above s x ≡ true) × P x

pub rising_from_each : {S A : Type 0} (above : S → A → Bool) (place : A → S) (Before : A → A → Type 0) (P : A → Type 0) → Tests above place Before
    → (s : S) (xs : List A) → EachFrom (IsNext above P) (λ last x. place x) s xs
    → AllByRecursion (λ x. above s x ≡ true) xs × IsRising Before xs × AllByRecursion P xs
rising_from_each above place Before P tests s [] h = (tt, tt, tt)
rising_from_each above place Before P tests s (x ∷ xs) h =
    let r = rising_from_each above place Before P tests (place x) xs h.1 in
    let befores = All-weaker (λ y. above (place x) y ≡ true) (Before x) (λ y e. tests.before x y e) xs r.0 in
    let aboves = All-weaker (Before x) (λ y. above s y ≡ true) (λ y b. tests.through s x y h.0.0 b) xs befores in
    ((h.0.0, aboves), (befores, r.1), (h.0.1, r.2))

pub each_from_rising : {S A : Type 0} (above : S → A → Bool) (place : A → S) (Before : A → A → Type 0) (P : A → Type 0) → Tests above place Before
    → (s : S) (xs : List A) → AllByRecursion (λ x. above s x ≡ true) xs → IsRising Before xs → AllByRecursion P xs
    → EachFrom (IsNext above P) (λ last x. place x) s xs
each_from_rising above place Before P tests s [] aboves rising all = tt
each_from_rising above place Before P tests s (x ∷ xs) aboves rising all =
    let passes = All-weaker (Before x) (λ y. above (place x) y ≡ true) (λ y b. tests.passes x y b) xs rising.0 in
    ((aboves.0, all.0), each_from_rising above place Before P tests (place x) xs passes rising.1 all.1)

-- ---- the orders of the wire

pub cut_tests : Tests (λ last c. ltb last c.epoch) (λ c. c.epoch) CutBefore
cut_tests = search rules

pub image_tests : Tests (λ least p. leb least p.page) (λ p. p.page + 1) ImageBefore
image_tests = search rules

pub above_from_pair : (a b c d : ℕ) → PairBefore a b c d → is_pair_above a b c d ≡ true
above_from_pair a b c d h = search rules

pub key_tests : {A : Type 0} (key : A → Key) → Tests (λ last x. is_above last (key x)) key (λ x y. KeyBefore (key x) (key y))
key_tests key = search rules

-- (0, 0) is below each key with an LSN above 0
pub above_zero : (k : Key) → 0 < k.number → is_above (key_in 0 0) k ≡ true
above_zero k pos = above_from_pair 0 0 k.epoch k.number (elim (cases_lt 0 k.epoch) [ inl lt ↦ inl lt | inr le ↦ inr (omega (arith, le), pos) ])

-- ---- the order of waiting advances

abbrev pub place_of : AdvanceData → WaitPlace
place_of a = (a.epoch, a.reader, a.point)

pub wait_tests : Tests (λ last a. is_wait_above last (place_of a)) place_of AdvanceBefore
wait_tests = search rules

-- (0, 0, 0) is below each position with a reader
pub wait_above_zero : (epoch reader point : ℕ) → 0 < reader → is_wait_above (0, 0, 0) (epoch, reader, point) ≡ true
wait_above_zero epoch reader point pos = search rules
