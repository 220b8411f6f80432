-- The laws of a sound log as facts about its members, whatever their order.
use Rattle.std.proofs.Common.{◌≡◌, ℕ, ◌<◌, ◌≤◌, ◌↔◌, ⊎_elim, inl, inr, List, subst, arith}
use Rattle.std.proofs.lemmas.Option.{slice_get_within, get_or_from_slice_get}
use Rattle.std.specs.List.{Contains}
use Rattle.redo_core.specs.Data.{RecordData, CutData, AdvanceData}
use Rattle.redo_core.specs.Sets.{records, cuts, advances}
use Rattle.redo_core.specs.Order.{IsGreatest}
use Rattle.redo_core.specs.CompleteEpoch.{HasCutsTo}
use Rattle.redo_core.specs.Standing.{IsAlive}
use Rattle.redo_core.specs.Roster.{IsRoster, IsReader}
use Rattle.redo_core.specs.Past.{ArePast}
use Rattle.redo_core.specs.Sound.{IsSound, KeepsLaws, SameKey, HasShape, counted, first_cuts, IsAliveBelow, Law2, Law3, Law4, Law5}
use Rattle.redo_core.specs.declared.facts.Fact.{Fact}
use Rattle.redo_core.specs.declared.facts.Fact.TheVariants.{Record, Cut, Advance}
use Rattle.redo_core.proofs.Rising.{in_take}
use Rattle.redo_core.proofs.FactParts.{cut_in}
use Rattle.log_law.proofs.FirstCuts.{counted_among}
use Rattle.redo_core.proofs.SoundFacts.{kept, same_fact, first_of_epoch, first_within}
use Rattle.log_theorems.proofs.Log.{alive_within}

-- o is a record of the log with Only, below r's number and alive in the view of r's epoch
pub record IsBelow (log : List Fact) (r : RecordData) (Only : RecordData → Type 0) (n : ℕ) : Type 0 where
  pub other : RecordData
  pub among : Contains (records log) other
  pub alive : IsAlive (cuts log) r.epoch other.epoch other.number
  pub only : Only other
  pub number : other.number ≡ n
  pub below : n < r.number

pub record RecordLaws (log : List Fact) (r : RecordData) : Type 0 where
  pub begun : HasCutsTo (cuts log) r.epoch
  pub above : (c : CutData) → Contains (cuts log) c → c.epoch ≡ r.epoch → c.hi < r.number
  pub back : IsGreatest (IsBelow log r (λ s. Unit {0})) r.back
  pub block_back : IsGreatest (IsBelow log r (λ s. s.page ≡ r.page)) r.block_back

pub record AdvanceLaws (readers : ℕ) (log : List Fact) (a : AdvanceData) : Type 0 where
  pub reader : IsReader readers a.reader
  pub begun : HasCutsTo (cuts log) a.epoch
  pub kept_by : (c : CutData) → Contains (cuts log) c → a.epoch < c.epoch → ArePast readers (advances log) c → a.point ≤ c.lo

abbrev pub SetLaws : ℕ → List Fact → Fact → Type 0
SetLaws readers log (Record r) = RecordLaws log r
SetLaws readers log (Cut c) = Unit {0}
SetLaws readers log (Advance a) = AdvanceLaws readers log a

-- facts of one key are one fact
abbrev pub OneOfKey : List Fact → Type 0
OneOfKey log = (f g : Fact) → Contains log f → Contains log g → SameKey f g → f ≡ g

abbrev pub KeepsSetLaws : ℕ → List Fact → Type 0
KeepsSetLaws readers log = (f : Fact) → Contains log f → HasShape f × SetLaws readers log f

-- ---- effective truncations
greatest_same : (P Q : ℕ → Type 0) (n : ℕ) → ((m : ℕ) → P m ↔ Q m) → IsGreatest P n → IsGreatest Q n
greatest_same P Q n same h = (⊎_elim inl (λ p. inr ((same n).0 p)) h.0, λ m q. h.1 m ((same m).1 q))

cut_counted : (log : List Fact) (c : CutData) → OneOfKey log → Contains (cuts log) c → Contains (counted log) c
unfolding counted
cut_counted log c one h =
    let s = first_of_epoch (cuts log) c h in
    let inside : Contains (cuts log) s.0 = first_within (cuts log) s.0 s.1 in
    let same : Cut s.0 ≡ Cut c = one (Cut s.0) (Cut c) ((cut_in log s.0).0 inside) ((cut_in log c).0 h) s.2 in
    let itself : s.0 ≡ c = cc in
    subst (λ (d : CutData). Contains (first_cuts (cuts log)) d) itself s.1

-- ---- from the laws of members to those of a log
below_counted : (log : List Fact) (r : RecordData) (Only : RecordData → Type 0) → OneOfKey log → (n : ℕ) → IsBelow log r Only n → IsAliveBelow log r Only n
below_counted log r Only one n b = record {
  other = b.other;
  among = b.among;
  alive = alive_within (counted log) (cuts log) (λ c h. counted_among log c h) r.epoch b.other.epoch b.other.number b.alive;
  only = b.only;
  number = b.number;
  below = b.below;
}

counted_below : (log : List Fact) (r : RecordData) (Only : RecordData → Type 0) → OneOfKey log → (n : ℕ) → IsAliveBelow log r Only n → IsBelow log r Only n
counted_below log r Only one n b = record {
  other = b.other;
  among = b.among;
  alive = alive_within (cuts log) (counted log) (λ c h. cut_counted log c one h) r.epoch b.other.epoch b.other.number b.alive;
  only = b.only;
  number = b.number;
  below = b.below;
}

pub record KeepsAll (readers : ℕ) (log : List Fact) (f : Fact) : Type 0 where
  pub law2 : Law2 log f
  pub law3 : Law3 log f
  pub law4 : Law4 log f
  pub law5 : Law5 readers log f

has_counted : (log : List Fact) (k : ℕ) → OneOfKey log → HasCutsTo (cuts log) k → HasCutsTo (counted log) k
has_counted log k one has e low upto = let c = has e low upto in (c.0, cut_counted log c.0 one c.1, c.2)

all_laws : (readers : ℕ) (log : List Fact) (f : Fact) → OneOfKey log → SetLaws readers log f → KeepsAll readers log f
all_laws readers log (Record r) one laws = record {
  law2 = (has_counted log r.epoch one laws.begun, λ c h same. laws.above c (counted_among log c h) same);
  law3 = greatest_same (IsBelow log r (λ s. Unit {0})) (IsAliveBelow log r (λ s. Unit {0})) r.back
      (λ m. (below_counted log r (λ s. Unit {0}) one m, counted_below log r (λ s. Unit {0}) one m)) laws.back;
  law4 = greatest_same (IsBelow log r (λ s. s.page ≡ r.page)) (IsAliveBelow log r (λ s. s.page ≡ r.page)) r.block_back
      (λ m. (below_counted log r (λ s. s.page ≡ r.page) one m, counted_below log r (λ s. s.page ≡ r.page) one m)) laws.block_back;
  law5 = tt;
}
all_laws readers log (Cut c) one laws = record { law2 = tt; law3 = tt; law4 = tt; law5 = tt }
all_laws readers log (Advance a) one laws = record {
  law2 = tt;
  law3 = tt;
  law4 = tt;
  law5 = (laws.reader, has_counted log a.epoch one laws.begun, λ c h later past. laws.kept_by c (counted_among log c h) later past);
}

pub sound_from : (readers : ℕ) (log : List Fact) → IsRoster readers → OneOfKey log → KeepsSetLaws readers log → IsSound readers log
sound_from readers log roster one all = record {
  readers = roster;
  keeps = λ place fact at.
      let inside : Contains log fact = (place, slice_get_within log place fact at, get_or_from_slice_get log place fact fact at) in
      let laws : KeepsAll readers log fact = all_laws readers log fact one (all fact inside).1 in
      record {
        shape = (all fact inside).0;
        law1 = λ f earlier same. one f fact (in_take place log f earlier) inside same;
        law2 = laws.law2;
        law3 = laws.law3;
        law4 = laws.law4;
        law5 = laws.law5;
      };
}

-- ---- and back
pub sound_one : (readers : ℕ) (log : List Fact) → IsSound readers log → OneOfKey log
sound_one readers log sound f g one other key = same_fact readers log f g sound one other key

set_laws : (readers : ℕ) (log : List Fact) (f : Fact) → OneOfKey log → KeepsAll readers log f → SetLaws readers log f
set_laws readers log (Record r) one laws = record {
  begun = λ e low upto. let c = laws.law2.0 e low upto in (c.0, counted_among log c.0 c.1, c.2);
  above = λ c h same. laws.law2.1 c (cut_counted log c one h) same;
  back = greatest_same (IsAliveBelow log r (λ s. Unit {0})) (IsBelow log r (λ s. Unit {0})) r.back
      (λ m. (counted_below log r (λ s. Unit {0}) one m, below_counted log r (λ s. Unit {0}) one m)) laws.law3;
  block_back = greatest_same (IsAliveBelow log r (λ s. s.page ≡ r.page)) (IsBelow log r (λ s. s.page ≡ r.page)) r.block_back
      (λ m. (counted_below log r (λ s. s.page ≡ r.page) one m, below_counted log r (λ s. s.page ≡ r.page) one m)) laws.law4;
}
set_laws readers log (Cut c) one laws = tt
set_laws readers log (Advance a) one laws = record {
  reader = laws.law5.0;
  begun = λ e low upto. let c = laws.law5.1 e low upto in (c.0, counted_among log c.0 c.1, c.2);
  kept_by = λ c h later past. laws.law5.2 c (cut_counted log c one h) later past;
}

pub sound_keeps : (readers : ℕ) (log : List Fact) → IsSound readers log → KeepsSetLaws readers log
sound_keeps readers log sound f inside =
    let k : KeepsLaws readers log inside.0 f = kept readers log f sound inside in
    (k.shape, set_laws readers log f (sound_one readers log sound) (record { law2 = k.law2; law3 = k.law3; law4 = k.law4; law5 = k.law5 }))

-- ---- two logs that are alike in a view
-- The same truncations up to the view; and what is alive there in the second one is in the first.
pub record IsAlike (one two : List Fact) (view : ℕ) : Type 0 where
  pub cuts_up : (c : CutData) → Contains (cuts one) c → Contains (cuts two) c
  pub cuts_down : (c : CutData) → Contains (cuts two) c → c.epoch ≤ view → Contains (cuts one) c
  pub records_up : (r : RecordData) → Contains (records one) r → Contains (records two) r
  pub records_down : (r : RecordData) → Contains (records two) r → IsAlive (cuts two) view r.epoch r.number → Contains (records one) r

pub alive_alike_up : (one two : List Fact) (view e n : ℕ) → IsAlike one two view → IsAlive (cuts one) view e n → IsAlive (cuts two) view e n
alive_alike_up one two view e n alike a = record {
  known = a.known;
  begun = λ c h same. a.begun c (alike.cuts_down c h (let low : e ≤ view = a.known in omega arith)) same;
  spared = λ c h later upto. a.spared c (alike.cuts_down c h upto) later upto;
}

pub alive_alike_down : (one two : List Fact) (view e n : ℕ) → IsAlike one two view → IsAlive (cuts two) view e n → IsAlive (cuts one) view e n
alive_alike_down one two view e n alike a = alive_within (cuts one) (cuts two) (λ c h. alike.cuts_up c h) view e n a

below_up : (one two : List Fact) (r : RecordData) (Only : RecordData → Type 0) → IsAlike one two r.epoch → (n : ℕ) → IsBelow one r Only n → IsBelow two r Only n
below_up one two r Only alike n b = record {
  other = b.other;
  among = alike.records_up b.other b.among;
  alive = alive_alike_up one two r.epoch b.other.epoch b.other.number alike b.alive;
  only = b.only;
  number = b.number;
  below = b.below;
}

below_down : (one two : List Fact) (r : RecordData) (Only : RecordData → Type 0) → IsAlike one two r.epoch → (n : ℕ) → IsBelow two r Only n → IsBelow one r Only n
below_down one two r Only alike n b = record {
  other = b.other;
  among = alike.records_down b.other b.among b.alive;
  alive = alive_alike_down one two r.epoch b.other.epoch b.other.number alike b.alive;
  only = b.only;
  number = b.number;
  below = b.below;
}

pub record_alike : (one two : List Fact) (r : RecordData) → IsAlike one two r.epoch → RecordLaws one r → RecordLaws two r
record_alike one two r alike laws = record {
  begun = λ e low upto. let c = laws.begun e low upto in (c.0, alike.cuts_up c.0 c.1, c.2);
  above = λ c h same. laws.above c (alike.cuts_down c h (omega arith)) same;
  back = greatest_same (IsBelow one r (λ s. Unit {0})) (IsBelow two r (λ s. Unit {0})) r.back
      (λ m. (below_up one two r (λ s. Unit {0}) alike m, below_down one two r (λ s. Unit {0}) alike m)) laws.back;
  block_back = greatest_same (IsBelow one r (λ s. s.page ≡ r.page)) (IsBelow two r (λ s. s.page ≡ r.page)) r.block_back
      (λ m. (below_up one two r (λ s. s.page ≡ r.page) alike m, below_down one two r (λ s. s.page ≡ r.page) alike m)) laws.block_back;
}
