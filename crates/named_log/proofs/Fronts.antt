-- Some fronts of a drill's log.
use Rattle.std.proofs.Common.{◌≡◌, ℕ, zero, suc, ◌+◌, ◌-◌, ◌/◌, ◌<◌, ◌≤◌, List, sym, ap, subst, arith}
use Rattle.std.specs.List.{Contains}
use Rattle.redo_core.specs.Data.{CutData}
use Rattle.redo_core.specs.Sets.{cuts}
use Rattle.redo_core.specs.CompleteEpoch.{HasCutsTo}
use Rattle.redo_core.specs.Standing.{IsAlive}
use Rattle.redo_core.specs.Linked.{IsLinked}
use Rattle.redo_core.specs.Linked.Linked.{start, next}
use Rattle.redo_core.specs.LogFront.{IsLogFront}
use Rattle.redo_core.specs.declared.facts.Fact.{Fact}
use Rattle.named_log.specs.DrillLog.{record_of_epoch_0, record_of_epoch_1, drill_cut, drill_log, drill_hi}
use Rattle.named_log.specs.Soundness.Contents.{IsDrillLog, drill_contents, facts_of_drill}
use Rattle.named_log.specs.Soundness.Remainders.{half_at_most}
use Rattle.named_log.specs.Soundness.Sound.{log_is}

cut_epoch : (n : ℕ) (log : List Fact) → IsDrillLog n log → (c : CutData) → Contains (cuts log) c → c.epoch ≡ 1
cut_epoch n log d c h = sym (ap (λ (x : CutData). x.epoch) (d.each_cut c h))

linked_in_epoch_0 : (n : ℕ) (log : List Fact) → IsDrillLog n log → (i : ℕ) → i ≤ n → IsLinked log 0 i
linked_in_epoch_0 n log d zero u = start
linked_in_epoch_0 n log d (suc i) u =
    let alive : IsAlive (cuts log) 0 0 (suc i) = record {
      known = omega arith;
      begun = λ c h e. absurd (let q = cut_epoch n log d c h in omega (arith, q, e));
      spared = λ c h l k. absurd (omega (arith, l, k));
    } in
    let e : i ≡ suc i - 1 = omega arith in
    next (record_of_epoch_0 (suc i)) (d.has_epoch_0 (suc i) (omega arith) u) alive (omega arith)
    (subst (IsLinked log 0) e (linked_in_epoch_0 n log d i (omega (arith, u))))

linked_below_cut : (n : ℕ) (log : List Fact) → IsDrillLog n log → (i : ℕ) → i ≤ n / 2 → IsLinked log 1 i
linked_below_cut n log d zero u = start
linked_below_cut n log d (suc i) u =
    let h = half_at_most n in
    let alive : IsAlive (cuts log) 1 0 (suc i) = record {
      known = omega arith;
      begun = λ c h e. absurd (let q = cut_epoch n log d c h in omega (arith, q, e));
      spared = λ c h l k. subst (λ (x : CutData). suc i ≤ x.lo) (d.each_cut c h) u;
    } in
    let e : i ≡ suc i - 1 = omega arith in
    next (record_of_epoch_0 (suc i)) (d.has_epoch_0 (suc i) (omega arith) (omega (arith, h, u))) alive (omega arith)
    (subst (IsLinked log 1) e (linked_below_cut n log d i (omega (arith, u))))

linked_in_epoch_1 : (n : ℕ) (log : List Fact) → IsDrillLog n log → IsLinked log 1 (drill_hi n + 1)
linked_in_epoch_1 n log d =
    let alive : IsAlive (cuts log) 1 1 (drill_hi n + 1) = record {
      known = omega arith;
      begun = λ c h e. subst (λ (x : CutData). x.hi < drill_hi n + 1) (d.each_cut c h) (omega arith);
      spared = λ c h l k. absurd (omega (arith, l, k));
    } in
    let some = d.least in
    next (record_of_epoch_1 n 1) (d.has_epoch_1 1 (omega arith) (omega (arith, some))) alive (omega arith) (linked_below_cut n log d (n / 2) (omega arith))

pub front_of_epoch_0 : (n i : ℕ) → 2 ≤ n → n ≤ 1048576 → i ≤ n → IsLogFront (drill_log n) 0 i
front_of_epoch_0 n i least most u = subst (λ (log : List Fact). IsLogFront log 0 i) (sym (log_is n least most))
    ((λ e a b. absurd (omega (arith, a, b))), linked_in_epoch_0 n (facts_of_drill n) (drill_contents n least most) i u)

has_one : (n : ℕ) (log : List Fact) → IsDrillLog n log → Contains (cuts log) (drill_cut n) → HasCutsTo (cuts log) 1
has_one n log d has e a b = (drill_cut n, has, omega (arith, a, b))

pub front_below_cut : (n i : ℕ) → 2 ≤ n → n ≤ 1048576 → i ≤ n / 2 → IsLogFront (drill_log n) 1 i
front_below_cut n i least most u = subst (λ (log : List Fact). IsLogFront log 1 i) (sym (log_is n least most)) (
  has_one n (facts_of_drill n) (drill_contents n least most) (drill_contents n least most).has_cut,
  linked_below_cut n (facts_of_drill n)
      (drill_contents n least most) i u,
)

pub front_of_epoch_1 : (n : ℕ) → 2 ≤ n → n ≤ 1048576 → IsLogFront (drill_log n) 1 (drill_hi n + 1)
front_of_epoch_1 n least most = subst (λ (log : List Fact). IsLogFront log 1 (drill_hi n + 1)) (sym (log_is n least most)) (
  has_one n (facts_of_drill n) (drill_contents n least most) (drill_contents n least most).has_cut,
  linked_in_epoch_1 n (facts_of_drill n)
      (drill_contents n least most),
)
