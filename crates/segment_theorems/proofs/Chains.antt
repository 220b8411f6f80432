-- Block chains are whole.
use Rattle.std.proofs.Common.{◌≡◌, ℕ, ◌<◌, ◌≤◌, ◌⊎◌, inl, inr, ⊎_elim, List, refl, sym, ◌∙◌, arith, rules}
use Rattle.redo_core.specs.Data.{RecordData}
use Rattle.redo_core.specs.Sets.{cuts}
use Rattle.redo_core.specs.CompleteEpoch.{HasCutsTo}
use Rattle.redo_core.specs.Standing.{IsAlive}
use Rattle.redo_core.specs.Linked.{IsLinked, IsLinkedRecord}
use Rattle.redo_core.specs.Linked.Linked.{start}
use Rattle.redo_core.specs.Position.{Position}
use Rattle.redo_core.specs.Sound.{IsSound}
use Rattle.redo_core.specs.declared.facts.Fact.{Fact}
use Rattle.redo_core.specs.declared.facts.Fact.TheVariants.{Record}
use Rattle.redo_core.proofs.Numbers.{at_greatest}
use Rattle.redo_core.proofs.FactParts.{record_in, part_cuts}
use Rattle.log_theorems.proofs.Log.{log_of_sound, alive_within}
use Rattle.log_theorems.proofs.Views.{alive_up, alive_then, prefix_law}
use Rattle.segment_theorems.specs.State.{State, version_of}
use Rattle.segment_theorems.specs.Means.{MeansAt}
use Rattle.redo_core.specs.Sound.{KeepsLaws, counted, IsAliveBelow}
use Rattle.redo_core.proofs.SoundFacts.{kept, counted_in}
use Rattle.redo_core.proofs.CompleteEpochs.{has_cuts}
use Rattle.segment_theorems.specs.Shows.{IsApplied, HasBlockBelow}
use Rattle.segment_theorems.proofs.Reading.{held_of}

-- what is alive in a record's own view below the record is alive wherever the record is
pub alive_on : (log : List Fact) (k : ℕ) (r : RecordData) (e n : ℕ) → IsAlive (cuts log) k r.epoch r.number → IsAlive (cuts log) r.epoch e n → n < r.number
    → IsAlive (cuts log) k e n
alive_on log k r e n above a lt = search rules

module _ {roster : ℕ} (log F : List Fact) (p : Position) (s : State) (page q : ℕ) (r : RecordData) (sound : IsSound roster log) (m : MeansAt roster log F p s)
    (le : q ≤ p.complete) (h : IsApplied s page q r) where
  has : HasCutsTo (cuts F) p.epoch
  has = has_cuts (cuts F) p.epoch m.position.epoch

  all : HasCutsTo (cuts log) p.epoch
  all e i u = let c = has e i u in (c.0, part_cuts F log m.part c.0 c.1, c.2)

  alive_in_log : (x : RecordData) → IsApplied s page q x → IsAlive (cuts log) p.epoch x.epoch x.number
  alive_in_log x y =
      let l = log_of_sound _ log sound in
      let t = (held_of log F p s l m page q le x).0 y in
      alive_up log F l m.part p.epoch x.epoch x.number has t.0.alive

  law : KeepsLaws roster log ((record_in log r).0 (m.of_log r h.0)).0 (Record r)
  law = kept roster log (Record r) sound ((record_in log r).0 (m.of_log r h.0))

  through : (other : RecordData) → IsApplied s page q other → other.number < r.number → other.number ≤ r.block_back
  through other x lt =
      let l = log_of_sound _ log sound in
      law.law4.1 other.number (record {
        other = other;
        among = m.of_log other x.0;
        alive = alive_within (counted log) (cuts log) (λ c y. (counted_in roster log sound c).0 y) r.epoch other.epoch other.number
            (alive_then log l p.epoch all r other (alive_in_log r h) (alive_in_log other x) lt);
        only = x.2 ∙ sym h.2;
        number = refl;
        below = lt;
      })

  found : IsAliveBelow log r (λ o. o.page ≡ r.page) r.block_back → HasBlockBelow s page q r
  found x =
      let l = log_of_sound _ log sound in
      let o = x.other in
      let n : x.other.number ≡ r.block_back = x.number in
      let b : r.block_back < r.number = x.below in
      let c : r.number ≤ q = h.4 in
      let own : IsAlive (cuts log) r.epoch x.other.epoch x.other.number = alive_within (cuts log) (counted log)
      (λ d y. (counted_in roster log sound d).1 y) r.epoch x.other.epoch x.other.number x.alive in
      let up : IsAlive (cuts log) p.epoch x.other.epoch x.other.number = alive_on log p.epoch r x.other.epoch x.other.number (alive_in_log r h) own
      (omega arith) in
      let top : IsLinked F p.epoch p.complete = at_greatest (IsLinked F p.epoch) start p.complete m.position.complete in
      let linked : IsLinkedRecord F p.epoch x.other = (prefix_law log F p p.complete x.other l m.part m.position top (omega arith)).1 (x.among, up) in
      ⊎_elim
      (λ (low : x.other.number ≤ version_of s.store page). inl (omega arith))
      (λ (high : version_of s.store page < x.other.number). inr
      (x.other, (held_of log F p s l m page q le x.other).1 (linked, x.only ∙ h.2, high, omega arith), x.number))
      (let t : (x.other.number ≤ version_of s.store page) ⊎ (version_of s.store page < x.other.number) = grind arith in t)

  pub block_chain : HasBlockBelow s page q r × ((other : RecordData) → IsApplied s page q other → other.number < r.number → other.number ≤ r.block_back)
  block_chain = (⊎_elim (λ (z : r.block_back ≡ 0). inl (omega arith)) found law.law4.0, through)

pub whole_block_chains : {roster : ℕ} (log F : List Fact) (p : Position) (s : State) (page q : ℕ) (r : RecordData) → IsSound roster log
    → MeansAt roster log F p s → q ≤ p.complete → IsApplied s page q r
    → HasBlockBelow s page q r × ((other : RecordData) → IsApplied s page q other → other.number < r.number → other.number ≤ r.block_back)
whole_block_chains log F p s page q r sound m le h = block_chain log F p s page q r sound m le h
