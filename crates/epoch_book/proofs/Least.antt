-- The truncations that cut lowest.
use Rattle.std.proofs.Common.{◌≡◌, ℕ, zero, suc, ◌+◌, ◌<◌, ◌≤◌, ◌⊎◌, inl, inr, ⊎_elim, List, [], ◌∷◌, ◌++◌, length, get_or, take, drop, refl, sym, ◌∙◌, ap, subst, arith, Option, Some, None, leb, true, false}
use Rattle.std.specs.List.{Contains, All, AllWithin, insert}
use Rattle.std.specs.List.Sorted.{IsPartitionPoint}
use Rattle.std.proofs.lemmas.List.Elements.{All-contains, Contains-append_left, Contains-append_right, Contains-append_cases}
use Rattle.std.proofs.lemmas.Bool.{leb-true, leb-false}
use Rattle.std.proofs.lemmas.Bool.Decides.{nat_tests}
use Rattle.redo_core.specs.Data.{CutData}
use Rattle.redo_core.specs.Shape.{cut_fault, max_number}
use Rattle.redo_core.specs.Order.{IsRising, IsGreatest, CutBefore}
use Rattle.redo_core.specs.CompleteEpoch.{HasCutsTo}
use Rattle.redo_core.proofs.Members.{none_in, here, there, which, only, each, all_of, all_members, item, contains_insert}
use Rattle.redo_core.proofs.Rising.{rising_members, in_take, side, item_drop, rest_from, front_to, up_to, whole, across}
use Rattle.redo_core.proofs.CompleteEpochs.{has_cuts}
use Rattle.epoch_book.specs.Book.{BookData, IsBook}
use Rattle.epoch_book.specs.Scanning.{IsLeastLo, IsLeastAbove}
use Rattle.epoch_book.specs.Lows.{AreLows, LowBefore, CutsAt}
use Rattle.epoch_book.proofs.Scans.{no_cut}

pub shaped_cut : (c : CutData) → cut_fault c ≡ None → (0 < c.epoch) × (c.lo ≤ c.hi) × (c.hi ≤ max_number)
shaped_cut c shaped = (grind (arith, nat_tests), grind (arith, nat_tests), grind (arith, nat_tests))

first_epoch : (c : CutData) (cs : List CutData) (b n : ℕ) → IsRising CutBefore (c ∷ cs) → ((x : CutData) → Contains (c ∷ cs) x → b < x.epoch)
    → ((e : ℕ) → b < e → e ≤ n → (x : CutData) × Contains (c ∷ cs) x × (x.epoch ≡ e)) → b < n → c.epoch ≡ b + 1
first_epoch c cs b n r above has l =
    let h = has (b + 1) (omega arith) (omega (arith, l)) in let q : h.0.epoch ≡ b + 1 = h.2 in
    let up : b < c.epoch = above c (here c cs) in
    ⊎_elim
    (λ (e : c ≡ h.0). let s : c.epoch ≡ h.0.epoch = ap (λ (x : CutData). x.epoch) e in omega arith)
    (λ (m : Contains cs h.0). let s : c.epoch < h.0.epoch = each (CutBefore c) cs h.0 r.0 m in absurd (omega arith))
    (which c cs h.0 h.1)

-- where the truncations of all epochs above one are known, the epoch of each gives its index
in_place : (cs : List CutData) (b n i : ℕ) (d : CutData) → IsRising CutBefore cs → ((c : CutData) → Contains cs c → b < c.epoch)
    → ((e : ℕ) → b < e → e ≤ n → (c : CutData) × Contains cs c × (c.epoch ≡ e)) → b + i < n → (i < length cs) × ((get_or cs i d).epoch ≡ b + i + 1)
in_place [] b n i d r above has l = let h = has (b + 1) (omega arith) (omega (arith, l)) in absurd (none_in h.0 h.1)
in_place (c ∷ cs) b n zero d r above has l =
    let first : c.epoch ≡ b + 1 = first_epoch c cs b n r above has (omega (arith, l)) in
    (omega arith, omega (arith, first))
in_place (c ∷ cs) b n (suc j) d r above has l =
    let first : c.epoch ≡ b + 1 = first_epoch c cs b n r above has (omega (arith, l)) in
    let t = in_place cs (b + 1) n j d r.1
    (λ x h. let s : c.epoch < x.epoch = each (CutBefore c) cs x r.0 h in omega (arith, first))
    (λ e lo hi. let h = has e (omega (arith, lo)) hi in let q : h.0.epoch ≡ e = h.2 in
    ⊎_elim
    (λ (u : c ≡ h.0). let s : c.epoch ≡ h.0.epoch = ap (λ (x : CutData). x.epoch) u in absurd (omega (arith, first, lo)))
    (λ (m : Contains cs h.0). (h.0, m, h.2))
    (which c cs h.0 h.1))
    (omega (arith, l)) in
    let a : j < length cs = t.0 in let q : (get_or cs j d).epoch ≡ b + 1 + j + 1 = t.1 in
    (omega (arith, a), omega (arith, q))

-- the truncation of an epoch up to a known one
pub place_of_known : (cs : List CutData) (n i : ℕ) (d : CutData) → IsRising CutBefore cs → All (λ c. cut_fault c ≡ None) cs → HasCutsTo cs n → i < n
    → (i < length cs) × ((get_or cs i d).epoch ≡ i + 1)
place_of_known cs n i d rising shaped has l =
    let t = in_place cs 0 n i d rising (λ c h. (shaped_cut c (All-contains (λ x. cut_fault x ≡ None) cs c shaped h)).0) (λ e a b. has e (omega (arith, a)) b)
    (omega (arith, l)) in
    let q : (get_or cs i d).epoch ≡ 0 + i + 1 = t.1 in
    (t.0, omega arith)

-- there is one truncation of an epoch
pub one_of_epoch : (cs : List CutData) (c d : CutData) → IsRising CutBefore cs → Contains cs c → Contains cs d → c.epoch ≡ d.epoch → c ≡ d
one_of_epoch cs c d rising hc hd e =
    ⊎_elim (λ (q : c ≡ d). q)
    (λ s. ⊎_elim (λ (l : c.epoch < d.epoch). absurd (omega arith)) (λ (l : d.epoch < c.epoch). absurd (omega arith)) s)
    (rising_members CutBefore cs c d rising hc hd)

pub place_within : (cs : List CutData) (n i : ℕ) → IsRising CutBefore cs → All (λ c. cut_fault c ≡ None) cs → HasCutsTo cs n → i < n → i < length cs
place_within cs n i rising shaped has l = (place_of_known cs n i (has (i + 1) (omega arith) (omega (arith, l))).0 rising shaped has l).0

-- where a search by an LSN parts a list
pub parted_by : (n : CutData → ℕ) (xs : List CutData) (t i : ℕ) → IsPartitionPoint (λ y. leb (n y) t ≡ true) (λ y. leb (n y) t ≡ false) xs i
    → IsPartitionPoint (λ y. n y ≤ t) (λ y. t < n y) xs i
parted_by n xs t i parted = (
  λ k d l m. leb-true (n (get_or xs k d)) t (parted.0 k d l m),
  λ k d l m. leb-false (n (get_or xs k d)) t (parted.1 k d l m),
)

-- a property of what is before an index, and one from there on
pub in_front : {X : Type 0} (P : X → Type 0) (xs : List X) (i : ℕ) (y : X) → AllWithin P xs 0 i → Contains (take i xs) y → P y
in_front P xs zero y all h = absurd (none_in y h)
in_front P [] (suc i) y all h = absurd (none_in y h)
in_front P (x ∷ xs) (suc i) y all h =
    ⊎_elim
    (λ (e : x ≡ y). subst P e (all 0 x (omega arith) (omega arith)))
    (λ (q : Contains (take i xs) y). in_front P xs i y (λ k d m n. all (suc k) d (omega arith) (omega (arith, n))) q)
    (which x (take i xs) y h)

pub behind : {X : Type 0} (P : X → Type 0) (xs : List X) (i : ℕ) (y : X) → AllWithin P xs i (length xs) → Contains (drop i xs) y → P y
behind P xs zero y all h = subst P h.2 (all h.0 y (omega arith) h.1)
behind P [] (suc i) y all h = absurd (none_in y h)
behind P (x ∷ xs) (suc i) y all h = behind P xs i y (λ k d m n. all (suc k) d (omega (arith, m)) (omega (arith, n))) h

-- a prefix of a rising list, and one more element after it
rising_push : {X : Type 0} (Before : X → X → Type 0) (xs : List X) (i : ℕ) (x : X) → IsRising Before xs → ((y : X) → Contains (take i xs) y → Before y x)
    → IsRising Before (take i xs ++ x ∷ [])
rising_push Before xs zero x r low = (tt, tt)
rising_push Before [] (suc i) x r low = (tt, tt)
rising_push Before (z ∷ zs) (suc i) x r low = (
  all_of (Before z) (take i zs ++ x ∷ []) (λ y h. ⊎_elim
      (λ (q : Contains (take i zs) y). each (Before z) zs y r.0 (in_take i zs y q))
      (λ (q : Contains (x ∷ []) y). subst (Before z) (only x y q) (low z (here z (take i zs))))
      (Contains-append_cases (take i zs) (x ∷ []) y h)),
  rising_push Before zs i x r.1 (λ y h. low y (there z (take i zs) y h)),
)

-- the truncation of the next epoch, after those that cut no higher
pub next_lows : (cs : List CutData) (k stay : ℕ) (x : CutData) (lows : List CutData) → IsRising CutBefore cs → Contains cs x → x.epoch ≡ k + 1 → AreLows cs k lows
    → IsPartitionPoint (λ c. c.lo ≤ x.lo) (λ c. x.lo < c.lo) lows stay → AreLows cs (k + 1) (take stay lows ++ x ∷ [])
next_lows cs k stay x lows rising inside at are parted = record {
  rising = rising_push LowBefore lows stay x are.rising
      (λ y h. let e : y.epoch ≤ k = (old y (in_take stay lows y h)).1 in (omega arith, in_front (λ c. c.lo ≤ x.lo) lows stay y parted.0 h));
  held = all_members (λ c. Contains cs c × (c.epoch ≤ k + 1)) (take stay lows ++ x ∷ []) (λ y h. ⊎_elim
      (λ (q : Contains (take stay lows) y). let o = old y (in_take stay lows y q) in let e : y.epoch ≤ k = o.1 in (o.0, omega arith))
      (λ (q : Contains (x ∷ []) y). subst (λ c. Contains cs c × (c.epoch ≤ k + 1)) (only x y q) (inside, omega arith))
      (Contains-append_cases (take stay lows) (x ∷ []) y h));
  least = λ c h le. ⊎_elim
      (λ (e : c.epoch ≤ k). let o = are.least c h e in let lo : o.0.lo ≤ c.lo = o.3 in
      ⊎_elim
      (λ (q : Contains (take stay lows) o.0). (o.0, Contains-append_left (take stay lows) (x ∷ []) o.0 q, o.2, o.3))
      (λ (q : Contains (drop stay lows) o.0). let high : x.lo < o.0.lo = behind (λ c. x.lo < c.lo) lows stay o.0 parted.1 q in
      (x, last, omega arith, omega arith))
      (side stay lows o.0 o.1))
      (λ (e : c.epoch ≡ k + 1). let is : c ≡ x = one_of_epoch cs c x rising h inside (e ∙ sym at) in
      let lo : x.lo ≡ c.lo = ap (λ (y : CutData). y.lo) (sym is) in (x, last, omega arith, omega arith))
      (let t : (c.epoch ≤ k) ⊎ (c.epoch ≡ k + 1) = grind arith in t);
}
  where
    old : (y : CutData) → Contains lows y → Contains cs y × (y.epoch ≤ k)
    old y h = All-contains (λ c. Contains cs c × (c.epoch ≤ k)) lows y are.held h

    last : Contains (take stay lows ++ x ∷ []) x
    last = Contains-append_right (take stay lows) (x ∷ []) x (here x [])

-- one truncation more of an epoch that is not known
pub lows_kept : (b : BookData) (i : ℕ) (c : CutData) (lows : List CutData) → IsBook b → IsPartitionPoint (λ d. d.epoch < c.epoch) (λ d. c.epoch < d.epoch) b.cuts i
    → cut_fault c ≡ None → AreLows b.cuts b.complete lows → AreLows (insert b.cuts i c) b.complete lows
lows_kept b i c lows book gap shaped are = record {
  rising = are.rising;
  held = all_members (λ d. Contains (insert b.cuts i c) d × (d.epoch ≤ b.complete)) lows
      (λ d h. let o = All-contains (λ d. Contains b.cuts d × (d.epoch ≤ b.complete)) lows d are.held h in ((contains_insert b.cuts i c d).1 (inl o.0), o.1));
  least = λ d h up. ⊎_elim
      (λ (u : Contains b.cuts d). are.least d u up)
      (λ (u : d ≡ c).
      let q : d.epoch ≡ c.epoch = ap (λ (x : CutData). x.epoch) u in
      let one : 0 < c.epoch = (shaped_cut c shaped).0 in
      let t = has_cuts b.cuts b.complete book.complete c.epoch (omega arith) (omega (arith, up)) in
      absurd (no_cut b.cuts c.epoch i gap t.0 t.1 t.2))
      ((contains_insert b.cuts i c d).0 h);
}

-- the first above an epoch cuts lowest of those above it
pub first_above : (lows : List CutData) (e i : ℕ) (x : CutData) → IsRising LowBefore lows → i < length lows → x ≡ get_or lows i x
    → IsPartitionPoint (λ c. c.epoch ≤ e) (λ c. e < c.epoch) lows i → IsLeastAbove lows e (Some x.lo)
first_above lows e i x rising l is parted = (
  (x, item lows i x l is, behind (λ c. e < c.epoch) lows i x parted.1 (item_drop lows i x l is), refl),
  λ c h above. ⊎_elim
      (λ (q : Contains (take i lows) c). let le : c.epoch ≤ e = in_front (λ d. d.epoch ≤ e) lows i c parted.0 q in absurd (omega arith))
      (λ (q : Contains (drop i lows) c). ⊎_elim
      (λ (u : x ≡ c). let lo : x.lo ≡ c.lo = ap (λ (y : CutData). y.lo) u in omega arith)
      (λ (u : Contains (drop (i + 1) lows) c). (across LowBefore lows (i + 1) x c rising (up_to lows i x l is) u).1)
      (rest_from lows i x c l is q))
      (side i lows c h),
)

pub none_above : (lows : List CutData) (e i : ℕ) → length lows ≤ i → IsPartitionPoint (λ c. c.epoch ≤ e) (λ c. e < c.epoch) lows i → IsLeastAbove lows e None
none_above lows e i l parted = λ c h above.
    let le : c.epoch ≤ e = in_front (λ d. d.epoch ≤ e) lows i c parted.0 (whole lows i c l h) in omega (arith, le, above)

-- the last that cuts at or below an LSN is of the greatest epoch that does
pub last_place : (lows : List CutData) (number i : ℕ) (x : CutData) → IsRising LowBefore lows → i < length lows → x ≡ get_or lows i x
    → IsPartitionPoint (λ c. c.lo ≤ number) (λ c. number < c.lo) lows (i + 1)
    → IsGreatest (λ e. (c : CutData) × Contains lows c × (c.epoch ≡ e) × (c.lo ≤ number)) x.epoch
last_place lows number i x rising l is parted = (
  inr (x, item lows i x l is, refl, in_front (λ c. c.lo ≤ number) lows (i + 1) x parted.0 (up_to lows i x l is)),
  λ m h.
      let at : h.0.epoch ≡ m = h.2 in
      ⊎_elim
      (λ (q : Contains (take (i + 1) lows) h.0). ⊎_elim
      (λ (u : x ≡ h.0). let e : x.epoch ≡ h.0.epoch = ap (λ (y : CutData). y.epoch) u in omega arith)
      (λ (u : Contains (take i lows) h.0).
      let b : h.0.epoch < x.epoch = (across LowBefore lows i h.0 x rising u (item_drop lows i x l is)).0 in omega arith)
      (front_to lows i x h.0 l is q))
      (λ (q : Contains (drop (i + 1) lows) h.0). let high : number < h.0.lo = behind (λ c. number < c.lo) lows (i + 1) h.0 parted.1 q in
      let low : h.0.lo ≤ number = h.3 in absurd (omega arith))
      (side (i + 1) lows h.0 h.1),
)

pub no_place : (lows : List CutData) (number : ℕ) → IsPartitionPoint (λ c. c.lo ≤ number) (λ c. number < c.lo) lows 0
    → IsGreatest (λ e. (c : CutData) × Contains lows c × (c.epoch ≡ e) × (c.lo ≤ number)) 0
no_place lows number parted = (
  inl refl,
  λ m h.
      let high : number < h.0.lo = behind (λ c. number < c.lo) lows 0 h.0 parted.1 h.1 in let low : h.0.lo ≤ number = h.3 in absurd (omega arith),
)

-- an LSN that no later truncation annuls
pub spared_by : (cs : List CutData) (k e n : ℕ) (lows : List CutData) → AreLows cs k lows → All (λ c. e < c.epoch → n ≤ c.lo) lows → (c : CutData) → Contains cs c
    → e < c.epoch → c.epoch ≤ k → n ≤ c.lo
spared_by cs k e n lows are low c h above up =
    let o = are.least c h up in let le : c.epoch ≤ o.0.epoch = o.2 in let lo : o.0.lo ≤ c.lo = o.3 in
    let a : n ≤ o.0.lo = All-contains (λ c. e < c.epoch → n ≤ c.lo) lows o.0 low o.1 (omega arith) in
    omega arith

pub spared_low : (cs : List CutData) (k e n : ℕ) (lows : List CutData) → AreLows cs k lows → ((c : CutData) → Contains cs c → e < c.epoch → c.epoch ≤ k → n ≤ c.lo)
    → All (λ c. e < c.epoch → n ≤ c.lo) lows
spared_low cs k e n lows are spared = all_members (λ c. e < c.epoch → n ≤ c.lo) lows
    (λ c h above. let o = All-contains (λ c. Contains cs c × (c.epoch ≤ k)) lows c are.held h in spared c o.0 above o.1)

-- what is least above an epoch here is the least of all truncations above it
pub least_from : (cs : List CutData) (k e : ℕ) (lows : List CutData) (least : Option ℕ) → AreLows cs k lows → IsLeastAbove lows e least → IsLeastLo cs e k least
least_from cs k e lows None are none = λ c h above up. let o = are.least c h up in let le : c.epoch ≤ o.0.epoch = o.2 in none o.0 o.1 (omega arith)
least_from cs k e lows (Some low) are some = (
  let w = some.0 in let o = All-contains (λ c. Contains cs c × (c.epoch ≤ k)) lows w.0 are.held w.1 in (w.0, o.0, w.2, o.1, w.3),
  λ c h above up.
      let o = are.least c h up in let le : c.epoch ≤ o.0.epoch = o.2 in let lo : o.0.lo ≤ c.lo = o.3 in
      let a : low ≤ o.0.lo = some.1 o.0 o.1 (omega arith) in
      omega arith,
)

-- the last epoch that cuts at or below an LSN
pub last_cut : (b : BookData) (number i : ℕ) (lows : List CutData) → AreLows b.cuts b.complete lows
    → IsGreatest (λ e. (c : CutData) × Contains lows c × (c.epoch ≡ e) × (c.lo ≤ number)) i → IsGreatest (CutsAt b number) i
last_cut b number i lows are last = (
  ⊎_elim (λ (z : i ≡ 0). inl z)
      (λ (c : (c : CutData) × Contains lows c × (c.epoch ≡ i) × (c.lo ≤ number)).
      let o = All-contains (λ d. Contains b.cuts d × (d.epoch ≤ b.complete)) lows c.0 are.held c.1 in
      let at : c.0.epoch ≡ i = c.2 in let le : c.0.epoch ≤ b.complete = o.1 in inr (c.0, o.0, c.2, omega arith, c.3))
      last.0,
  λ m h.
      let q : h.0.epoch ≡ m = h.2 in let le : m ≤ b.complete = h.3 in let low : h.0.lo ≤ number = h.4 in
      let o = are.least h.0 h.1 (omega arith) in let up : h.0.epoch ≤ o.0.epoch = o.2 in let lo : o.0.lo ≤ h.0.lo = o.3 in
      let a : o.0.epoch ≤ i = last.1 o.0.epoch (o.0, o.1, refl, omega arith) in
      omega arith,
)
