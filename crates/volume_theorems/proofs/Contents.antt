-- What parts of a sound log have keeps to the rules about contents.
use Rattle.std.proofs.Common.{◌≡◌, ℕ, ◌<◌, ◌≤◌, ◌⊎◌, ⊎_elim, inl, inr, List, sym, subst, arith}
use Rattle.std.specs.List.{Contains}
use Rattle.redo_core.specs.Data.{RecordData, CutData}
use Rattle.redo_core.specs.Sets.{IsPart, records, cuts}
use Rattle.redo_core.specs.CompleteEpoch.{HasCutsTo}
use Rattle.redo_core.specs.Standing.{IsAlive}
use Rattle.redo_core.specs.Linked.{IsLinked, IsLinkedRecord}
use Rattle.redo_core.specs.Linked.Linked.{start, next}
use Rattle.redo_core.specs.Position.{Position}
use Rattle.redo_core.specs.declared.facts.Fact.{Fact}
use Rattle.redo_core.proofs.Numbers.{at_greatest}
use Rattle.redo_core.proofs.FactParts.{part_records, part_cuts}
use Rattle.redo_core.proofs.CompleteEpochs.{has_cuts, one_complete_epoch}
use Rattle.log_theorems.proofs.Log.{IsLog, log_of_sound}
use Rattle.log_theorems.proofs.Views.{knows_cuts, alive_up, linked_below, epoch_le}
use Rattle.volume_theorems.specs.Contents.{IsCommitPoint, PartsGrow, FrontsReach}

-- A larger part, of a later epoch: no truncation since then has its lo below the bound.
pub record IsSpared (part larger log : List Fact) (k j bound : ℕ) : Type 0 where
  pub inner : IsPart part larger
  pub outer : IsPart larger log
  pub has : HasCutsTo (cuts part) k
  pub later : k ≤ j
  pub above : (c : CutData) → Contains (cuts larger) c → k < c.epoch → c.epoch ≤ j → bound ≤ c.lo

known_in_part : (roster : ℕ) (log part larger : List Fact) (k j bound : ℕ) (c : CutData) → IsLog roster log → IsSpared part larger log k j bound
    → Contains (cuts larger) c → c.epoch ≤ k → Contains (cuts part) c
known_in_part roster log part larger k j bound c l s inside upto =
    knows_cuts log part l (λ x h. s.outer x (s.inner x h)) k s.has c (part_cuts larger log s.outer c inside) upto

alive_since : (roster : ℕ) (log part larger : List Fact) (k j bound e n : ℕ) → IsLog roster log → IsSpared part larger log k j bound → n ≤ bound
    → IsAlive (cuts part) k e n → IsAlive (cuts larger) j e n
alive_since roster log part larger k j bound e n l s low alive =
    let known : e ≤ k = alive.known in
    let later : k ≤ j = s.later in
    record {
      known = omega arith;
      begun = λ c inside (same : c.epoch ≡ e).
          alive.begun c (known_in_part roster log part larger k j bound c l s inside (omega arith)) same;
      spared = λ c inside over within. ⊎_elim
          (λ (upto : c.epoch ≤ k). alive.spared c (known_in_part roster log part larger k j bound c l s inside upto) over upto)
          (λ (since : k < c.epoch). let above : bound ≤ c.lo = s.above c inside since within in omega arith)
          (let which : (c.epoch ≤ k) ⊎ (k < c.epoch) = grind arith in which);
    }

linked_since : (roster : ℕ) (log part larger : List Fact) (k j bound : ℕ) → IsLog roster log → IsSpared part larger log k j bound
    → (n : ℕ) → IsLinked part k n → n ≤ bound → IsLinked larger j n
linked_since roster log part larger k j bound l s n start low = start
linked_since roster log part larger k j bound l s n (next r inside alive above linked) low =
    let more : Contains (records larger) r = part_records part larger s.inner r inside in
    let back : r.back < r.number = (l.backs r (part_records larger log s.outer r more)).1 in
    next r more (alive_since roster log part larger k j bound r.epoch r.number l s low alive) above
    (linked_since roster log part larger k j bound l s r.back linked (omega arith))

point_since : (roster : ℕ) (log part larger : List Fact) (k j p : ℕ) → IsLog roster log → IsSpared part larger log k j p
    → IsCommitPoint part k p → IsCommitPoint larger j p
point_since roster log part larger k j p l s point = ⊎_elim
    (λ (none : p ≡ 0). inl none)
    (λ (of : (r : RecordData) × IsLinkedRecord part k r × (r.page ≡ 0) × (r.number ≡ p)).
    let low : of.0.number ≤ p = let e : of.0.number ≡ p = of.3 in omega arith in
    let linked : IsLinkedRecord larger j of.0 = record {
      among = part_records part larger s.inner of.0 of.1.among;
      alive = alive_since roster log part larger k j p of.0.epoch of.0.number l s low of.1.alive;
      linked = linked_since roster log part larger k j p l s of.0.number of.1.linked low;
    } in
    inr (of.0, linked, of.2, of.3))
    point

pub parts_grow : PartsGrow
parts_grow roster log part larger a b sound inner outer one two =
    let l : IsLog roster log = log_of_sound roster log sound in
    let later : a.epoch ≤ b.epoch = epoch_le part larger inner a.epoch b.epoch one.epoch two.epoch in
    record {
      epoch = later;
      cuts = λ c inside. (two.cuts c).1 (part_cuts part larger inner c ((one.cuts c).0 inside));
      points = λ p inside above.
          let s : IsSpared part larger log a.epoch b.epoch p = record {
            inner = inner;
            outer = outer;
            has = has_cuts (cuts part) a.epoch one.epoch;
            later = later;
            above = λ c known over within. above c ((two.cuts c).1 known) over within;
          } in
          (two.points p).1 (point_since roster log part larger a.epoch b.epoch p l s ((one.points p).0 inside));
    }

reached : (roster : ℕ) (log part other : List Fact) (front : Position) (k p : ℕ) → IsLog roster log → IsPart part log → IsPart other log
    → HasCutsTo (cuts part) k → HasCutsTo (cuts other) k → IsLinked part k front.complete → p ≤ front.complete → IsCommitPoint other k p → IsCommitPoint part k p
reached roster log part other front k p l inner outer has its linked upto point = ⊎_elim
    (λ (none : p ≡ 0). inl none)
    (λ (of : (r : RecordData) × IsLinkedRecord other k r × (r.page ≡ 0) × (r.number ≡ p)).
    let same : of.0.number ≡ p = of.3 in
    inr (
      of.0,
      linked_below log part l inner k has front.complete linked of.0 (part_records other log outer of.0 of.1.among)
          (alive_up log other l outer k of.0.epoch of.0.number its of.1.alive) (omega arith),
      of.2,
      of.3,
    ))
    point

pub fronts_reach : FrontsReach
fronts_reach roster log part other front a b p sound inner outer at one two same inside upto =
    let l : IsLog roster log = log_of_sound roster log sound in
    let has : HasCutsTo (cuts part) a.epoch = has_cuts (cuts part) a.epoch one.epoch in
    let its : HasCutsTo (cuts other) a.epoch = subst (λ (k : ℕ). HasCutsTo (cuts other) k) (sym same) (has_cuts (cuts other) b.epoch two.epoch) in
    let epoch : front.epoch ≡ a.epoch = one_complete_epoch (cuts part) front.epoch a.epoch at.epoch one.epoch in
    let linked : IsLinked part a.epoch front.complete =
    subst (λ (k : ℕ). IsLinked part k front.complete) epoch (at_greatest (IsLinked part front.epoch) start front.complete at.complete) in
    let point : IsCommitPoint other a.epoch p = subst (λ (k : ℕ). IsCommitPoint other k p) (sym same) ((two.points p).0 inside) in
    (one.points p).1 (reached roster log part other front a.epoch p l inner outer has its linked upto point)
