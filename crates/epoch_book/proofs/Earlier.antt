-- The advances of epochs below one are the first ones of a rising list.
use Rattle.std.proofs.Common.{◌≡◌, ℕ, zero, suc, ◌+◌, ◌<◌, ◌≤◌, ◌↔◌, inl, inr, ⊎_elim, List, [], ◌∷◌, length, get_or, take, drop, refl, sym, ap, ◌∙◌, arith, Bool, true, false, cond, ltb, Result, Ok, Err, OnOk, is_ok, if◌then◌else◌}
use Rattle.std.specs.List.{AllWithin, filter, insert}
use Rattle.std.specs.List.Sorted.{IsPartitionPoint}
use Rattle.std.proofs.lemmas.List.{length-take-le}
use Rattle.std.proofs.lemmas.List.Elements.{All-from_recursion}
use Rattle.redo_core.specs.Data.{CutData, AdvanceData}
use Rattle.redo_core.specs.Order.{IsRising, AdvanceBefore}
use Rattle.redo_core.specs.Past.{IsPast, OthersPast}
use Rattle.redo_core.specs.Points.{HasAdvance, RaisesPoints}
use Rattle.redo_core.specs.Roster.{point_of}
use Rattle.redo_core.proofs.Members.{filtered, passed}
use Rattle.std.proofs.lemmas.Bool.Decides.{nat_tests}

pub later_test : (k e : ℕ) → ltb k e ≡ true ↔ (k < e)
later_test k e = (λ h. grind (arith, nat_tests), λ h. grind (arith, nat_tests))

-- the test of an element decides whether a filter keeps it
kept_at : {X : Type 0} (p : X → Bool) (x : X) (xs : List X) (b : Bool) → p x ≡ b → filter p (x ∷ xs) ≡ cond b (x ∷ filter p xs) (filter p xs)
kept_at p x xs b e = ap (λ t. cond t (x ∷ filter p xs) (filter p xs)) e

none_passes : {X : Type 0} (p : X → Bool) (xs : List X) → AllWithin (λ y. p y ≡ false) xs 0 (length xs) → [] ≡ filter p xs
none_passes p [] off = refl
none_passes p (x ∷ xs) off =
    none_passes p xs (λ k d l m. off (suc k) d (omega arith) (omega (arith, m))) ∙ sym (kept_at p x xs false (off 0 x (omega arith) (omega arith)))

-- the elements in front of a partition point are those that pass
pub front_passes : {X : Type 0} (p : X → Bool) (xs : List X) (i : ℕ) → IsPartitionPoint (λ y. p y ≡ true) (λ y. p y ≡ false) xs i → take i xs ≡ filter p xs
front_passes p [] zero h = refl
front_passes p [] (suc i) h = refl
front_passes p (x ∷ xs) zero h = none_passes p (x ∷ xs) h.1
front_passes p (x ∷ xs) (suc i) h =
    ap (λ l. x ∷ l) (front_passes p xs i (
      λ k d l m. h.0 (suc k) d (omega arith) (omega (arith, m)),
      λ k d l m. h.1 (suc k) d (omega (arith, l)) (omega (arith, m)),
    ))
    ∙ sym (kept_at p x xs true (h.0 0 x (omega arith) (omega arith)))

-- Where no element after one that fails passes, what follows those that pass are those that fail.
rest_fails : {X : Type 0} (Before : X → X → Type 0) (p q : X → Bool) (x : X) (xs : List X) (b : Bool)
    → ((x y : X) → Before x y → p x ≡ false → p y ≡ false) → ((x : X) → p x ≡ true → q x ≡ false) → ((x : X) → p x ≡ false → q x ≡ true)
    → IsRising Before (x ∷ xs) → p x ≡ b → drop (length (filter p xs)) xs ≡ filter q xs → drop (length (filter p (x ∷ xs))) (x ∷ xs) ≡ filter q (x ∷ xs)
rest_fails Before p q x xs true stays off on r e ih =
    ap (λ l. drop (length l) (x ∷ xs)) (kept_at p x xs true e) ∙ ih ∙ sym (kept_at q x xs false (off x e))
rest_fails Before p q x xs false stays off on r e ih =
    let none : [] ≡ filter p xs = none_passes p xs (λ k d l m. stays x (get_or xs k d) (All-from_recursion (Before x) xs r.0 k d m) e) in
    ap (λ l. drop (length l) (x ∷ xs)) (kept_at p x xs false e ∙ sym none)
    ∙ ap (λ l. x ∷ l) (ap (λ l. drop (length l) xs) none ∙ ih)
    ∙ sym (kept_at q x xs true (on x e))

fails_after : {X : Type 0} (Before : X → X → Type 0) (p q : X → Bool) (xs : List X)
    → ((x y : X) → Before x y → p x ≡ false → p y ≡ false) → ((x : X) → p x ≡ true → q x ≡ false) → ((x : X) → p x ≡ false → q x ≡ true)
    → IsRising Before xs → drop (length (filter p xs)) xs ≡ filter q xs
fails_after Before p q [] stays off on r = refl
fails_after Before p q (x ∷ xs) stays off on r =
    rest_fails Before p q x xs (p x) stays off on r refl (fails_after Before p q xs stays off on r.1)

pub before_epoch : (x y : AdvanceData) → AdvanceBefore x y → x.epoch ≤ y.epoch
before_epoch x y b = ⊎_elim (λ (l : x.epoch < y.epoch). omega (arith, l)) (λ h. omega (arith, h.0)) b

-- what is left of waiting advances when those up to an epoch are removed
pub later_left : (k : ℕ) (ws : List AdvanceData) → IsRising AdvanceBefore ws
    → drop (length (filter (λ a. ltb a.epoch (k + 1)) ws)) ws ≡ filter (λ a. ltb k a.epoch) ws
later_left k ws r = fails_after AdvanceBefore (λ a. ltb a.epoch (k + 1)) (λ a. ltb k a.epoch) ws
    (λ x y b f. let l = before_epoch x y b in grind (arith, nat_tests))
    (λ x f. grind (arith, nat_tests))
    (λ x f. grind (arith, nat_tests))
    r

-- a reader is past a truncation by its advances of earlier epochs
is_past_earlier : (ws : List AdvanceData) (c : CutData) (reader : ℕ) → IsPast (filter (λ a. ltb a.epoch c.epoch) ws) c reader ↔ IsPast ws c reader
is_past_earlier ws c reader = (
  λ h. (h.0, (filtered (λ a. ltb a.epoch c.epoch) ws h.0 h.1).0, h.2, h.3, h.4),
  λ h. (h.0, passed (λ a. ltb a.epoch c.epoch) ws h.0 ((later_test h.0.epoch c.epoch).1 h.3) h.1, h.2, h.3, h.4),
)

pub others_past_earlier : (ps : List ℕ) (ws : List AdvanceData) (c : CutData) (but : ℕ)
    → OthersPast ps (filter (λ a. ltb a.epoch c.epoch) ws) c but ↔ OthersPast ps ws c but
others_past_earlier ps ws c but = (
  λ h reader r n. ⊎_elim (λ (l : c.lo < point_of ps reader). inl l)
      (λ (p : IsPast (filter (λ a. ltb a.epoch c.epoch) ws) c reader). inr ((is_past_earlier ws c reader).0 p)) (h reader r n),
  λ h reader r n. ⊎_elim (λ (l : c.lo < point_of ps reader). inl l) (λ (p : IsPast ws c reader). inr ((is_past_earlier ws c reader).1 p)) (h reader r n),
)

-- points rise by the advances up to an epoch
pub raises_earlier : (k : ℕ) (old : List ℕ) (ws : List AdvanceData) (new : List ℕ) → RaisesPoints k old (filter (λ a. ltb a.epoch (k + 1)) ws) new
    → RaisesPoints k old ws new
raises_earlier k old ws new h = record {
  count = h.count;
  each = λ reader r. let g = h.each reader r in (
    ⊎_elim
        (λ (z : point_of new reader ≡ 0). inl z)
        (λ s. ⊎_elim
        (λ (e : point_of new reader ≡ point_of old reader). inr (inl e))
        (λ (a : HasAdvance (filter (λ a. ltb a.epoch (k + 1)) ws) k reader (point_of new reader)).
        inr (inr (a.0, (filtered (λ a. ltb a.epoch (k + 1)) ws a.0 a.1).0, a.2, a.3, a.4)))
        s)
        g.0,
    λ m s. g.1 m (⊎_elim
        (λ (e : m ≡ point_of old reader). inl e)
        (λ (a : HasAdvance ws k reader m).
        inr (a.0, passed (λ a. ltb a.epoch (k + 1)) ws a.0 ((later_test a.0.epoch (k + 1)).1 (omega (arith, a.2))) a.1, a.2, a.3, a.4))
        s),
  );
}

-- an insertion behind those that are removed
pub drop_insert : {X : Type 0} (n : ℕ) (xs : List X) (i : ℕ) (x : X) → n ≤ length xs → drop n (insert xs (n + i) x) ≡ insert (drop n xs) i x
drop_insert zero xs i x l = ap (λ k. insert xs k x) (omega arith)
drop_insert (suc n) [] i x l = absurd (omega (arith, l))
drop_insert (suc n) (z ∷ zs) i x l =
    let e : suc n + i ≡ suc (n + i) = omega arith in ap (λ k. drop (suc n) (insert (z ∷ zs) k x)) e ∙ drop_insert n zs i x (omega (arith, l))

pub inserted_behind : {X E A : Type 0} (r : Result A E) (n : ℕ) (xs ys : List X) (i : ℕ) (x : X) → n ≤ length xs
    → ys ≡ (if is_ok r then insert xs (n + i) x else xs) → OnOk r (drop n ys ≡ insert (drop n xs) i x)
inserted_behind (Ok a) n xs ys i x l e = ap (drop n) e ∙ drop_insert n xs i x l
inserted_behind (Err a) n xs ys i x l e = tt

-- what is behind a partition point are those that fail
pub rest_passes : {X : Type 0} (Before : X → X → Type 0) (p q : X → Bool) (xs : List X) (i : ℕ)
    → ((x y : X) → Before x y → p x ≡ false → p y ≡ false) → ((x : X) → p x ≡ true → q x ≡ false) → ((x : X) → p x ≡ false → q x ≡ true)
    → IsRising Before xs → i ≤ length xs → IsPartitionPoint (λ y. p y ≡ true) (λ y. p y ≡ false) xs i → drop i xs ≡ filter q xs
rest_passes Before p q xs i stays off on r l h =
    ap (λ k. drop k xs) (sym (length-take-le i xs l) ∙ ap length (front_passes p xs i h)) ∙ fails_after Before p q xs stays off on r
