-- The backlinks of a drill's records are the greatest LSNs below them that are alive.
use Rattle.std.proofs.Common.{◌≡◌, ℕ, ◌+◌, ◌-◌, ◌/◌, ◌%◌, ◌<◌, ◌≤◌, ◌⊎◌, inl, inr, ⊎_elim, Bool, true, false, List, refl, sym, ap, subst, ◌∙◌, arith}
use Rattle.std.specs.Prelude.{nat_lt, ◌==◌, if◌then◌else◌}
use Rattle.std.specs.List.{Contains}
use Rattle.std.proofs.lemmas.Bool.Decides.{nat_tests}
use Rattle.redo_core.specs.Data.{RecordData, CutData}
use Rattle.redo_core.specs.Order.{IsGreatest}
use Rattle.redo_core.specs.Standing.{IsAlive}
use Rattle.redo_core.specs.Sound.{counted, IsAliveBelow}
use Rattle.redo_core.specs.declared.facts.Fact.{Fact}
use Rattle.named_log.specs.DrillLog.{record_of_epoch_0, record_of_epoch_1, drill_cut, drill_hi, last_of_page}
use Rattle.named_log.specs.Soundness.Remainders.{same_remainder_apart, remainder_8_below, remainder_at_most, remainder_below, last_has_page, last_is_greatest, half_at_most, half_positive}
use Rattle.named_log.specs.Soundness.Contents.{IsDrillLog}

pub opens_epoch_1 : (n : ℕ) (log : List Fact) → IsDrillLog n log → (c : CutData) → Contains (counted log) c → c.epoch ≡ 1
opens_epoch_1 n log d c h = sym (ap (λ (x : CutData). x.epoch) (d.each_counted c h))

-- which LSNs are alive
alive_in_epoch_0 : (n : ℕ) (log : List Fact) → IsDrillLog n log → (m : ℕ) → IsAlive (counted log) 0 0 m
alive_in_epoch_0 n log d m = record {
  known = omega arith;
  begun = λ c h e. absurd (let q = opens_epoch_1 n log d c h in omega (arith, q, e));
  spared = λ c h l k. absurd (omega (arith, l, k));
}

alive_below_cut : (n : ℕ) (log : List Fact) → IsDrillLog n log → (m : ℕ) → m ≤ n / 2 → IsAlive (counted log) 1 0 m
alive_below_cut n log d m le = record {
  known = omega arith;
  begun = λ c h e. absurd (let q = opens_epoch_1 n log d c h in omega (arith, q, e));
  spared = λ c h l k. subst (λ (x : CutData). m ≤ x.lo) (d.each_counted c h) le;
}

alive_in_epoch_1 : (n : ℕ) (log : List Fact) → IsDrillLog n log → (m : ℕ) → drill_hi n < m → IsAlive (counted log) 1 1 m
alive_in_epoch_1 n log d m lt = record {
  known = omega arith;
  begun = λ c h e. subst (λ (x : CutData). x.hi < m) (d.each_counted c h) lt;
  spared = λ c h l k. absurd (omega (arith, l, k));
}

-- what is below a record of epoch 0
below_of_epoch_0 : (n i : ℕ) (log : List Fact) (Only : RecordData → Type 0) (m : ℕ) → IsDrillLog n log → IsAliveBelow log (record_of_epoch_0 i) Only m
    → (1 ≤ m) × (m < i) × Only (record_of_epoch_0 m)
below_of_epoch_0 n i log Only m d b =
    ⊎_elim
    (λ (a : (k : ℕ) × (1 ≤ k) × (k ≤ n) × (record_of_epoch_0 k ≡ b.other)).
    let e : a.0 ≡ m = ap (λ (x : RecordData). x.number) a.3 ∙ b.number in
    (subst (λ (k : ℕ). 1 ≤ k) e a.1, b.below, subst (λ (k : ℕ). Only (record_of_epoch_0 k)) e (subst Only (sym a.3) b.only)))
    (λ (a : (k : ℕ) × (1 ≤ k) × (k ≤ n) × (record_of_epoch_1 n k ≡ b.other)).
    absurd (let e : 1 ≡ b.other.epoch = ap (λ (x : RecordData). x.epoch) a.3 in let k = b.alive.known in omega (arith, e, k)))
    (d.record_is b.other b.among)

-- and below one of epoch 1
below_of_epoch_1 : (n j : ℕ) (log : List Fact) (Only : RecordData → Type 0) (m : ℕ) → IsDrillLog n log → IsAliveBelow log (record_of_epoch_1 n j) Only m
    → ((1 ≤ m) × (m ≤ n / 2) × Only (record_of_epoch_0 m)) ⊎ ((k : ℕ) × (1 ≤ k) × (k < j) × (m ≡ drill_hi n + k) × Only (record_of_epoch_1 n k))
below_of_epoch_1 n j log Only m d b =
    ⊎_elim
    (λ (a : (k : ℕ) × (1 ≤ k) × (k ≤ n) × (record_of_epoch_0 k ≡ b.other)).
    let e : a.0 ≡ m = ap (λ (x : RecordData). x.number) a.3 ∙ b.number in
    let z : 0 ≡ b.other.epoch = ap (λ (x : RecordData). x.epoch) a.3 in
    let s : b.other.number ≤ n / 2 = b.alive.spared (drill_cut n) d.counts_cut (omega (arith, z)) (omega arith) in
    let q = b.number in
    inl (subst (λ (k : ℕ). 1 ≤ k) e a.1, omega (arith, q, s), subst (λ (k : ℕ). Only (record_of_epoch_0 k)) e (subst Only (sym a.3) b.only)))
    (λ (a : (k : ℕ) × (1 ≤ k) × (k ≤ n) × (record_of_epoch_1 n k ≡ b.other)).
    let e : drill_hi n + a.0 ≡ m = ap (λ (x : RecordData). x.number) a.3 ∙ b.number in
    let l = b.below in
    inr (a.0, a.1, omega (arith, e, l), sym e, subst Only (sym a.3) b.only))
    (d.record_is b.other b.among)

-- the segment backlinks: the record before, or the one at the lo
pub back_of_epoch_0 : (n i : ℕ) (log : List Fact) → IsDrillLog n log → 1 ≤ i → i ≤ n → IsGreatest (IsAliveBelow log (record_of_epoch_0 i) (λ s. Unit {0}))
    (i - 1)
back_of_epoch_0 n i log d l u = (
  ⊎_elim
      (λ (e : i ≡ 1). inl (omega (arith, e)))
      (λ (m : 1 < i). inr (record {
        other = record_of_epoch_0 (i - 1);
        among = d.has_epoch_0 (i - 1) (omega (arith, m)) (omega (arith, u));
        alive = alive_in_epoch_0 n log d (i - 1);
        only = tt;
        number = refl;
        below = omega (arith, l);
      }))
      (let t : (i ≡ 1) ⊎ (1 < i) = grind arith in t),
  λ m b. let lt = b.below in omega (arith, lt),
)

pub back_of_epoch_1 : (n j : ℕ) (log : List Fact) → IsDrillLog n log → 1 ≤ j → j ≤ n → IsGreatest (IsAliveBelow log (record_of_epoch_1 n j) (λ s. Unit {0}))
    (if j == 1 then n / 2 else drill_hi n + j - 1)
back_of_epoch_1 n j log d l u =
    ⊎_elim
    (λ (e : j ≡ 1).
    let t : (j == 1) ≡ true = grind (arith, nat_tests) in
    subst (IsGreatest P) (sym (ap (λ (b : Bool). if b then n / 2 else drill_hi n + j - 1) t)) (
      inr (record {
        other = record_of_epoch_0 (n / 2);
        among = d.has_epoch_0 (n / 2) (half_positive n d.least) (half_at_most n);
        alive = alive_below_cut n log d (n / 2) (omega arith);
        only = tt;
        number = refl;
        below = let h = half_at_most n in omega (arith, h);
      }),
      λ m b. ⊎_elim (λ a. a.1) (λ a. absurd (let x = a.1 in let y = a.2 in omega (arith, x, y, e))) (below_of_epoch_1 n j log (λ s. Unit {0}) m d b),
    ))
    (λ (g : 1 < j).
    let t : (j == 1) ≡ false = grind (arith, nat_tests) in
    subst (IsGreatest P) (sym (ap (λ (b : Bool). if b then n / 2 else drill_hi n + j - 1) t)) (
      inr (record {
        other = record_of_epoch_1 n (j - 1);
        among = d.has_epoch_1 (j - 1) (omega (arith, g)) (omega (arith, u));
        alive = alive_in_epoch_1 n log d (drill_hi n + (j - 1)) (omega (arith, g));
        only = tt;
        number = omega (arith, g);
        below = omega (arith, g);
      }),
      λ m b. let lt = b.below in omega (arith, lt),
    ))
    (let t : (j ≡ 1) ⊎ (1 < j) = grind arith in t)
  where
    P : ℕ → Type 0
    P = IsAliveBelow log (record_of_epoch_1 n j) (λ s. Unit {0})

-- the block backlinks: the record of the page eight LSNs before, or the last one up to the lo
pub block_back_of_epoch_0 : (n i : ℕ) (log : List Fact) → IsDrillLog n log → 1 ≤ i → i ≤ n
    → IsGreatest (IsAliveBelow log (record_of_epoch_0 i) (λ s. s.page ≡ i % 8)) (if nat_lt 8 i then i - 8 else 0)
block_back_of_epoch_0 n i log d l u =
    ⊎_elim
    (λ (g : 8 < i).
    let t : nat_lt 8 i ≡ true = grind (arith, nat_tests) in
    subst (IsGreatest P) (sym (ap (λ (b : Bool). if b then i - 8 else 0) t)) (
      inr (record {
        other = record_of_epoch_0 (i - 8);
        among = d.has_epoch_0 (i - 8) (omega (arith, g)) (omega (arith, u));
        alive = alive_in_epoch_0 n log d (i - 8);
        only = remainder_8_below i (omega (arith, g));
        number = refl;
        below = omega (arith, g);
      }),
      λ m b. let q = near m b in omega (arith, q),
    ))
    (λ (g : i ≤ 8).
    let t : nat_lt 8 i ≡ false = grind (arith, nat_tests) in
    subst (IsGreatest P) (sym (ap (λ (b : Bool). if b then i - 8 else 0) t)) (inl refl, λ m b. let q = near m b in omega (arith, q, g)))
    (let t : (8 < i) ⊎ (i ≤ 8) = grind arith in t)
  where
    P : ℕ → Type 0
    P = IsAliveBelow log (record_of_epoch_0 i) (λ s. s.page ≡ i % 8)

    near : (m : ℕ) → IsAliveBelow log (record_of_epoch_0 i) (λ s. s.page ≡ i % 8) m → m + 8 ≤ i
    near m b = let a = below_of_epoch_0 n i log (λ s. s.page ≡ i % 8) m d b in same_remainder_apart m i a.1 a.2

pub block_back_of_epoch_1 : (n j : ℕ) (log : List Fact) → IsDrillLog n log → 1 ≤ j → j ≤ n
    → IsGreatest (IsAliveBelow log (record_of_epoch_1 n j) (λ s. s.page ≡ (j - 1) % 8))
    (if nat_lt 8 j then drill_hi n + j - 8 else last_of_page (n / 2) ((j - 1) % 8))
block_back_of_epoch_1 n j log d l u =
    ⊎_elim
    (λ (g : 8 < j).
    let t : nat_lt 8 j ≡ true = grind (arith, nat_tests) in
    subst (IsGreatest P) (sym (ap (λ (b : Bool). if b then drill_hi n + j - 8 else last_of_page (n / 2) ((j - 1) % 8)) t)) (
      inr (record {
        other = record_of_epoch_1 n (j - 8);
        among = d.has_epoch_1 (j - 8) (omega (arith, g)) (omega (arith, u));
        alive = alive_in_epoch_1 n log d (drill_hi n + (j - 8)) (omega (arith, g));
        only = ap (λ (x : ℕ). x % 8) (let e : j - 8 - 1 ≡ j - 1 - 8 = omega (arith, g) in e) ∙ remainder_8_below (j - 1) (omega (arith, g));
        number = omega (arith, g);
        below = omega (arith, g);
      }),
      λ m b. ⊎_elim (λ a. let x = a.1 in let h = half_at_most n in omega (arith, x, h, g))
          (λ a. let x = near a.0 a.1 a.2 a.4 in let y = a.3 in omega (arith, x, y)) (below_of_epoch_1 n j log Q m d b),
    ))
    (λ (g : j ≤ 8).
    let t : nat_lt 8 j ≡ false = grind (arith, nat_tests) in
    subst (IsGreatest P) (sym (ap (λ (b : Bool). if b then drill_hi n + j - 8 else last_of_page (n / 2) ((j - 1) % 8)) t)) (
    ⊎_elim
    (λ (none : n / 2 < (j - 1) % 8).
    let s : nat_lt (n / 2) ((j - 1) % 8) ≡ true = grind (arith, nat_tests) in
    subst (IsGreatest P) (sym (ap (λ (b : Bool). if b then 0 else n / 2 - (n / 2 - (j - 1) % 8) % 8) s)) (
      inl refl,
      λ m b. ⊎_elim (λ a. absurd (let x = a.1 in let e = a.2 in let y = remainder_at_most m in omega (arith, x, y, e, none)))
          (λ a. absurd (let x = near a.0 a.1 a.2 a.4 in omega (arith, x, g))) (below_of_epoch_1 n j log Q m d b),
    ))
    (λ (some : (j - 1) % 8 ≤ n / 2).
    let s : nat_lt (n / 2) ((j - 1) % 8) ≡ false = grind (arith, nat_tests) in
    subst (IsGreatest P) (sym (ap (λ (b : Bool). if b then 0 else n / 2 - (n / 2 - (j - 1) % 8) % 8) s)) (
      found some (n / 2 - (n / 2 - (j - 1) % 8) % 8) (last_has_page (n / 2) ((j - 1) % 8) (remainder_below (j - 1)) some) (omega arith),
      λ m b. ⊎_elim (λ a. last_is_greatest (n / 2) ((j - 1) % 8) m some a.1 a.2) (λ a. absurd (let x = near a.0 a.1 a.2 a.4 in omega (arith, x, g)))
          (below_of_epoch_1 n j log Q m d b),
    ))
    (let t : (n / 2 < (j - 1) % 8) ⊎ ((j - 1) % 8 ≤ n / 2) = grind arith in t)))
    (let t : (8 < j) ⊎ (j ≤ 8) = grind arith in t)
  where
    Q : RecordData → Type 0
    Q = λ s. s.page ≡ (j - 1) % 8

    P : ℕ → Type 0
    P = IsAliveBelow log (record_of_epoch_1 n j) Q

    near : (k : ℕ) → 1 ≤ k → k < j → (k - 1) % 8 ≡ (j - 1) % 8 → k + 8 ≤ j
    near k a b e = let x = same_remainder_apart (k - 1) (j - 1) (omega (arith, a, b)) e in omega (arith, x, a, b)

    found : (j - 1) % 8 ≤ n / 2 → (x : ℕ) → x % 8 ≡ (j - 1) % 8 → x ≤ n / 2 → (x ≡ 0) ⊎ P x
    found some x e le =
        ⊎_elim inl
        (λ (pos : 1 ≤ x). inr (record {
          other = record_of_epoch_0 x;
          among = d.has_epoch_0 x pos (let h = half_at_most n in omega (arith, h, le));
          alive = alive_below_cut n log d x le;
          only = e;
          number = refl;
          below = let h = half_at_most n in omega (arith, h, le);
        }))
        (let t : (x ≡ 0) ⊎ (1 ≤ x) = grind arith in t)
