-- What a sound log gives, as facts about its members.
use Rattle.std.proofs.Common.{◌≡◌, ℕ, ◌<◌, ◌≤◌, List, refl, arith, None}
use Rattle.std.specs.List.{Contains}
use Rattle.std.proofs.lemmas.Bool.Decides.{nat_tests}
use Rattle.redo_core.specs.Data.{RecordData, CutData, AdvanceData}
use Rattle.redo_core.specs.Shape.{record_fault}
use Rattle.redo_core.specs.Sets.{IsPart, records, cuts, advances}
use Rattle.redo_core.specs.CompleteEpoch.{HasCutsTo}
use Rattle.redo_core.specs.Standing.{IsAlive}
use Rattle.redo_core.specs.Roster.{IsReader}
use Rattle.redo_core.specs.Past.{ArePast}
use Rattle.redo_core.specs.Sound.{IsSound, counted}
use Rattle.redo_core.specs.declared.facts.Fact.{Fact}
use Rattle.redo_core.specs.declared.facts.Fact.TheVariants.{Record, Cut, Advance}
use Rattle.redo_core.proofs.FactParts.{record_in, cut_in, advance_in}
use Rattle.redo_core.proofs.SoundFacts.{kept, same_record, same_cut, counted_in, cut_facts}

-- the set-form of soundness
pub record IsLog (roster : ℕ) (log : List Fact) : Type 0 where
  pub some_reader : 1 ≤ roster
  pub same_cut : (c d : CutData) → Contains (cuts log) c → Contains (cuts log) d → c.epoch ≡ d.epoch → c ≡ d
  pub same_record : (r s : RecordData) → Contains (records log) r → Contains (records log) s → r.epoch ≡ s.epoch → r.number ≡ s.number → r ≡ s
  pub cut_order : (c : CutData) → Contains (cuts log) c → (0 < c.epoch) × (c.lo ≤ c.hi)
  pub has_cuts : (r : RecordData) → Contains (records log) r → HasCutsTo (cuts log) r.epoch
  pub begun : (r : RecordData) (c : CutData) → Contains (records log) r → Contains (cuts log) c → c.epoch ≡ r.epoch → c.hi < r.number
  pub backs : (r : RecordData) → Contains (records log) r → (0 < r.number) × (r.back < r.number)
  pub last : (r s : RecordData) → Contains (records log) r → Contains (records log) s → IsAlive (cuts log) r.epoch s.epoch s.number → s.number < r.number
      → s.number ≤ r.back
  pub reader : (a : AdvanceData) → Contains (advances log) a → IsReader roster a.reader
  pub spared : (a : AdvanceData) (c : CutData) → Contains (advances log) a → Contains (cuts log) c → a.epoch < c.epoch → ArePast roster (advances log) c
      → a.point ≤ c.lo

-- a view by other truncations
pub alive_within : (cs ds : List CutData) → IsPart cs ds → (k e n : ℕ) → IsAlive ds k e n → IsAlive cs k e n
alive_within cs ds p k e n a = record { known = a.known; begun = λ c h. a.begun c (p c h); spared = λ c h. a.spared c (p c h) }

record_facts : (r : RecordData) → record_fault r ≡ None → (0 < r.number) × (r.back < r.number)
record_facts r h = grind (arith, nat_tests)

pub log_of_sound : (roster : ℕ) (log : List Fact) → IsSound roster log → IsLog roster log
log_of_sound roster log sound = record {
  some_reader = sound.readers.0;
  same_cut = same_cut roster log sound;
  same_record = same_record roster log sound;
  cut_order = λ c h. let f = (cut_in log c).0 h in cut_facts c (kept roster log (Cut c) sound f).shape;
  has_cuts = λ r h e l m. let f = (record_in log r).0 h in let s = (kept roster log (Record r) sound f).law2.0 e l m in
      (s.0, (counted_in roster log sound s.0).0 s.1, s.2);
  begun = λ r c h hc e. let f = (record_in log r).0 h in (kept roster log (Record r) sound f).law2.1 c ((counted_in roster log sound c).1 hc) e;
  backs = λ r h. let f = (record_in log r).0 h in record_facts r (kept roster log (Record r) sound f).shape;
  last = λ r s h hs a l.
      let f = (record_in log r).0 h in
      (kept roster log (Record r) sound f).law3.1 s.number (record {
        other = s;
        among = hs;
        alive = alive_within (counted log) (cuts log) (λ c q. (counted_in roster log sound c).0 q) r.epoch s.epoch s.number a;
        only = tt;
        number = refl;
        below = l;
      });
  reader = λ a h. let f = (advance_in log a).0 h in (kept roster log (Advance a) sound f).law5.0;
  spared = λ a c h hc l past. let f = (advance_in log a).0 h in (kept roster log (Advance a) sound f).law5.2 c ((counted_in roster log sound c).1 hc) l past;
}
