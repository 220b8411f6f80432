-- The small log is sound.
use Rattle.std.proofs.Common.{◌≡◌, ℕ, Some, false, ◌<◌, inl, ⊎_elim, [], refl, sym, ap, arith, rules}
use Rattle.std.specs.List.{Contains}
use Rattle.std.specs.Prelude.{slice_get}
use Rattle.redo_core.specs.Data.{RecordData, CutData, AdvanceData}
use Rattle.redo_core.specs.Sets.{records, cuts}
use Rattle.redo_core.specs.Sound.{IsSound, KeepsLaws, SameKey, counted}
use Rattle.redo_core.specs.declared.facts.Fact.{Fact}
use Rattle.redo_core.specs.declared.facts.Fact.TheVariants.{Record, Cut, Advance}
use Rattle.log_theorems.specs.Sample.{sample}
use Rattle.redo_core.proofs.Members.{none_in, which}

r0 : RecordData
r0 = record { epoch = 0; number = 3; back = 0; page = 7; block_back = 0; init = false; patches = [] }

one_cut : (c : CutData) → Contains (counted sample) c → (c.epoch ≡ 1) × (c.lo ≡ 5) × (c.hi ≡ 20)
unfolding counted cuts
one_cut c h = ⊎_elim (λ e. (ap (λ x. x.epoch) (sym e), ap (λ x. x.lo) (sym e), ap (λ x. x.hi) (sym e))) (λ x. absurd (none_in c x)) (which _ [] c h)

one_record : (r : RecordData) → Contains (records sample) r → r.number ≡ 3
unfolding records
one_record r h = ⊎_elim (λ e. ap (λ x. x.number) (sym e)) (λ x. absurd (none_in r x)) (which _ [] r h)

first : KeepsLaws 1 sample 0 (Record r0)
unfolding r0
first = record {
  shape = refl;
  law1 = λ f h k. absurd (none_in f h);
  law2 = (λ e l m. absurd (omega arith), λ c h e. let x = (one_cut c h).0 in absurd (omega arith));
  law3 = (
    inl refl,
    λ m h. let a : h.other.number ≡ 3 = one_record h.other h.among in let b : h.other.number ≡ m = h.number in let c : m < 3 = h.below in
        absurd (omega arith),
  );
  law4 = (
    inl refl,
    λ m h. let a : h.other.number ≡ 3 = one_record h.other h.among in let b : h.other.number ≡ m = h.number in let c : m < 3 = h.below in
        absurd (omega arith),
  );
  law5 = tt;
}

no_key_advance : (f : Fact) (a : AdvanceData) → SameKey f (Advance a) → ⊥
no_key_advance f a k = search rules

second : KeepsLaws 1 sample 1 (Advance (record { epoch = 0; reader = 1; point = 3 }))
second = record {
  shape = refl;
  law1 = λ f h k. absurd (no_key_advance f _ k);
  law2 = tt;
  law3 = tt;
  law4 = tt;
  law5 = ((omega arith, omega arith), λ e l m. absurd (omega arith), λ c h lt past. let x = (one_cut c h).1 in omega arith);
}

third : KeepsLaws 1 sample 2 (Cut (record { epoch = 1; lo = 5; hi = 20 }))
unfolding r0
third = search rules

sample_keeps : (place : ℕ) (fact : Fact) → slice_get sample place ≡ Some fact → KeepsLaws 1 sample place fact
unfolding r0
sample_keeps place fact e = search (rules, first, second, third)

pub sample_sound : IsSound 1 sample
sample_sound = record { readers = (omega arith, omega arith); keeps = sample_keeps }
