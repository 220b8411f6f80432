-- The records of a sound log in its views: all that are alive are linked.
use Rattle.std.proofs.Common.{◌≡◌, ℕ, zero, suc, ◌<◌, ◌≤◌, ◌⊎◌, ◌↔◌, ⊎_elim, List, sym, subst, arith}
use Rattle.std.specs.List.{Contains}
use Rattle.redo_core.specs.Data.{RecordData, CutData}
use Rattle.redo_core.specs.Sets.{records, cuts}
use Rattle.redo_core.specs.Order.{BeforeByNumber}
use Rattle.redo_core.specs.CompleteEpoch.{HasCutsTo}
use Rattle.redo_core.specs.Standing.{IsAlive}
use Rattle.redo_core.specs.Linked.{IsLinked, IsLinkedRecord}
use Rattle.redo_core.specs.Linked.Linked.{start, next}
use Rattle.redo_core.specs.PageAt.{IsPageAt}
use Rattle.redo_core.specs.Sound.{IsSound}
use Rattle.redo_core.specs.declared.facts.Fact.{Fact}
use Rattle.redo_core.specs.declared.facts.Fact.TheVariants.{Record}
use Rattle.redo_core.proofs.FactParts.{record_in}
use Rattle.log_theorems.proofs.Log.{log_of_sound}
use Rattle.log_theorems.proofs.Meanings.{lists_as}
use Rattle.volume_logs.proofs.SetLaws.{IsBelow, RecordLaws, sound_keeps}

-- a record of the log that is alive in the view
pub record IsAliveIn (log : List Fact) (k : ℕ) (r : RecordData) : Type 0 where
  pub among : Contains (records log) r
  pub alive : IsAlive (cuts log) k r.epoch r.number

module _ (readers : ℕ) (log : List Fact) (sound : IsSound readers log) (k : ℕ) where
  -- what is alive in the view of a record, below it, is alive in each view in which the record is
  alive_on : (r : RecordData) (Only : RecordData → Type 0) (n : ℕ) → IsAlive (cuts log) k r.epoch r.number → (b : IsBelow log r Only n)
      → IsAlive (cuts log) k b.other.epoch b.other.number
  alive_on r Only n alive b =
      let known : r.epoch ≤ k = alive.known in
      let low : b.other.epoch ≤ r.epoch = b.alive.known in
      let number : b.other.number ≡ n = b.number in
      let below : n < r.number = b.below in
      record {
        known = omega arith;
        begun = b.alive.begun;
        spared = λ c inside later upto. ⊎_elim
            (λ (within : c.epoch ≤ r.epoch). b.alive.spared c inside later within)
            (λ (over : r.epoch < c.epoch). let above : r.number ≤ c.lo = alive.spared c inside over upto in omega arith)
            (let way : (c.epoch ≤ r.epoch) ⊎ (r.epoch < c.epoch) = grind arith in way);
      }

  linked_under : (bound : ℕ) (r : RecordData) → r.number < bound → IsAliveIn log k r → IsLinked log k r.number
  linked_under zero r under is = absurd (omega arith)
  linked_under (suc bound) r under is =
      let laws : RecordLaws log r = (sound_keeps readers log sound (Record r) ((record_in log r).0 is.among)).1 in
      let positive : 0 < r.number = ((log_of_sound readers log sound).backs r is.among).0 in
      next r is.among is.alive positive (⊎_elim
      (λ (none : r.back ≡ 0). subst (λ (n : ℕ). IsLinked log k n) (sym none) start)
      (λ (b : IsBelow log r (λ s. Unit {0}) r.back).
      let number : b.other.number ≡ r.back = b.number in
      let below : r.back < r.number = b.below in
      subst (λ (n : ℕ). IsLinked log k n) number
      (linked_under bound b.other (omega arith)
      (record { among = b.among; alive = alive_on r (λ s. Unit {0}) r.back is.alive b })))
      laws.back.0)

  pub alive_linked : (r : RecordData) → IsAliveIn log k r → IsLinkedRecord log k r
  alive_linked r is = record { among = is.among; alive = is.alive; linked = linked_under (suc r.number) r (omega arith) is }

pub linked_alive : (log : List Fact) (k : ℕ) (r : RecordData) → IsLinkedRecord log k r → IsAliveIn log k r
linked_alive log k r linked = record { among = linked.among; alive = linked.alive }

-- ---- two logs, or two views, with the same alive records up to a point
abbrev pub SameUpTo : ℕ → List Fact → ℕ → List Fact → ℕ → Type 0
SameUpTo point one k two j = (r : RecordData) → r.number ≤ point → IsAliveIn one k r ↔ IsAliveIn two j r

pub same_pages : (readers : ℕ) (one two : List Fact) (k j point page q : ℕ) (image : List ℕ) → IsSound readers one → IsSound readers two
    → SameUpTo point one k two j → q ≤ point → IsPageAt one k page q image → IsPageAt two j page q image
same_pages readers one two k j point page q image sound other same low shown = record {
  written = shown.written;
  lists = lists_as BeforeByNumber
      (λ r. IsLinkedRecord one k r × (r.page ≡ page) × (r.number ≤ q))
      (λ r. IsLinkedRecord two j r × (r.page ≡ page) × (r.number ≤ q))
      (λ r. (
        λ x. let upto : r.number ≤ q = x.2 in (alive_linked readers two other j r ((same r (omega arith)).0 (linked_alive one k r x.0)), x.1, x.2),
        λ x. let upto : r.number ≤ q = x.2 in (alive_linked readers one sound k r ((same r (omega arith)).1 (linked_alive two j r x.0)), x.1, x.2),
      ))
      shown.written shown.lists;
  result = shown.result;
}

pub same_back : (point : ℕ) (one : List Fact) (k : ℕ) (two : List Fact) (j : ℕ) → SameUpTo point one k two j → SameUpTo point two j one k
same_back point one k two j same r low = ((same r low).1, (same r low).0)

-- the views of one log between which nothing up to the point is annulled
pub same_views : (readers : ℕ) (log : List Fact) (e k point : ℕ) → IsSound readers log → HasCutsTo (cuts log) k → e ≤ k
    → ((c : CutData) → Contains (cuts log) c → e < c.epoch → c.epoch ≤ k → point ≤ c.lo) → SameUpTo point log e log k
same_views readers log e k point sound has order above r low = (
  λ is. record {
    among = is.among;
    alive = record {
      known = let known : r.epoch ≤ e = is.alive.known in omega arith;
      begun = is.alive.begun;
      spared = λ c inside later upto. ⊎_elim
          (λ (within : c.epoch ≤ e). is.alive.spared c inside later within)
          (λ (over : e < c.epoch). let lo : point ≤ c.lo = above c inside over upto in omega arith)
          (let way : (c.epoch ≤ e) ⊎ (e < c.epoch) = grind arith in way);
    };
  },
  λ is. record {
    among = is.among;
    alive = record {
      known = ⊎_elim
          (λ (within : r.epoch ≤ e). within)
          (λ (over : e < r.epoch).
          let known : r.epoch ≤ k = is.alive.known in
          let c = has r.epoch (omega arith) known in
          let at : c.0.epoch ≡ r.epoch = c.2 in
          let begun : c.0.hi < r.number = is.alive.begun c.0 c.1 c.2 in
          let order : c.0.lo ≤ c.0.hi = ((log_of_sound readers log sound).cut_order c.0 c.1).1 in
          let lo : point ≤ c.0.lo = above c.0 c.1 (omega arith) (omega arith) in
          absurd (omega arith))
          (let way : (r.epoch ≤ e) ⊎ (e < r.epoch) = grind arith in way);
      begun = is.alive.begun;
      spared = λ c inside later upto. is.alive.spared c inside later (omega arith);
    };
  },
)
