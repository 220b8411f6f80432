-- Meanings that cover each other.
use Rattle.std.proofs.Common.{◌≡◌, ℕ, ◌<◌, ◌≤◌, ◌⊎◌, ◌↔◌, inl, inr, ⊎_elim, List, ◌++◌, refl, sym, subst, arith, Bool, true, false}
use Rattle.std.specs.Prelude.{IsTrue, not}
use Rattle.std.specs.List.{Contains, AllZip}
use Rattle.redo_core.specs.Data.{RecordData, CutData, AdvanceData}
use Rattle.redo_core.specs.Sets.{IsPart, SameSet, cuts}
use Rattle.redo_core.specs.Standing.{IsAlive, IsDead}
use Rattle.redo_core.specs.Position.{Position}
use Rattle.redo_core.specs.Sound.{IsSound}
use Rattle.redo_core.specs.CompleteEpoch.{HasCutsTo}
use Rattle.redo_core.specs.Meaning.{Meaning, IsMeaningAt, IsMeaning}
use Rattle.redo_core.specs.declared.facts.Fact.{Fact}
use Rattle.redo_core.specs.declared.facts.Fact.TheVariants.{Record, Cut, Advance}
use Rattle.redo_core.specs.Roster.{point_of}
use Rattle.redo_core.proofs.FactParts.{record_in, cut_in, advance_in}
use Rattle.log_theorems.specs.OrderOfMeanings.{CoversAt, Covers}
use Rattle.log_theorems.proofs.Log.{log_of_sound}
use Rattle.log_theorems.proofs.Fronts.{same_sym}
use Rattle.log_theorems.proofs.Alike.{alive_by, cuts_to_by, greatest_by}
use Rattle.log_theorems.proofs.Meanings.{meaning_unique}
use Rattle.log_theorems.proofs.SameSets.{same_meanings, turned}
use Rattle.log_theorems.proofs.Union.{absorbed, covers_at, covers_of_parts}
use Rattle.reference_model.specs.Comparing.{KeepsFact, Settles, CoversAll, IsCovering}

-- a record of a begun epoch, by its LSN
pub settled_low : (facts : List Fact) (p : Position) (r : RecordData) → r.epoch ≤ p.epoch → r.number ≤ p.anchor → Settles facts p (Record r)
settled_low facts p r known low = inr (low, known)

pub settled_if_dead : (facts : List Fact) (p : Position) (r : RecordData) (alive : Bool) → IsTrue alive ↔ IsAlive (cuts facts) p.epoch r.epoch r.number
    → r.epoch ≤ p.epoch → p.anchor < r.number → IsTrue (not alive) ↔ Settles facts p (Record r)
settled_if_dead facts p r true is known high = (
  λ t. absurd (let clash : false ≡ true = t in cc),
  λ s. ⊎_elim (λ (dead : IsDead (cuts facts) p.epoch r.epoch r.number). absurd (dead.1 (is.0 refl)))
      (λ (low : (r.number ≤ p.anchor) × (r.epoch ≤ p.epoch)). absurd (let l : r.number ≤ p.anchor = low.0 in omega arith)) s,
)
settled_if_dead facts p r false is known high = (λ t. inl (known, λ alive. let clash : false ≡ true = is.1 alive in cc), λ s. refl)

dead_by : (cs ds : List CutData) → SameSet cs ds → (k e n : ℕ) → IsDead cs k e n → IsDead ds k e n
dead_by cs ds same k e n dead = (dead.0, λ alive. dead.1 (alive_by ds cs (same_sym cs ds same) k e n alive))

module _ {roster : ℕ} (facts others : List Fact) (p q : Position) (x y : Meaning) (my : IsMeaningAt roster facts p y) (mx : IsMeaningAt roster others q x) where
  own_cuts : SameSet (cuts facts) y.cuts
  own_cuts c = ((my.cuts.members c).1, (my.cuts.members c).0)

  covered_cut : IsCovering facts p others q → (c : CutData) → Contains x.cuts c → Contains y.cuts c
  covered_cut is c h =
      ⊎_elim (λ (in' : Contains facts (Cut c) × Unit {0}). (my.cuts.members c).1 ((cut_in facts c).1 in'.0)) (λ (none : ⊥). absurd none)
      (is.all (Cut c) ((cut_in others c).0 ((mx.cuts.members c).0 h)) tt)

  covered_wait : IsCovering facts p others q → (a : AdvanceData) → Contains x.waits a
      → Contains y.waits a ⊎ ((a.epoch ≤ p.epoch) × (a.point ≤ point_of y.points a.reader))
  covered_wait is a h =
      let own = (mx.waits.members a).0 h in
      ⊎_elim
      (λ (in' : Contains facts (Advance a) × (p.epoch < a.epoch)). inl ((my.waits.members a).1 ((advance_in facts a).1 in'.0, in'.1)))
      (λ (known : (a.epoch ≤ p.epoch) × (a.point ≤ point_of p.points a.reader)). inr
      (known.0, subst (λ ps. a.point ≤ point_of ps a.reader) (sym my.points) known.1))
      (is.all (Advance a) ((advance_in others a).0 own.0) own.1)

  covered_kept : IsCovering facts p others q → (r : RecordData) → Contains x.kept r
      → Contains y.kept r ⊎ (IsDead y.cuts p.epoch r.epoch r.number ⊎ ((r.number ≤ y.anchor) × (r.epoch ≤ p.epoch)))
  covered_kept is r h =
      let own = (mx.kept.members r).0 h in
      ⊎_elim
      (λ (in' : Contains facts (Record r) × KeepsFact facts p (Record r)). inl ((my.kept.members r).1 ((record_in facts r).1 in'.0, in'.1)))
      (λ (settled : Settles facts p (Record r)). inr (⊎_elim
      (λ (dead : IsDead (cuts facts) p.epoch r.epoch r.number). inl (dead_by (cuts facts) y.cuts own_cuts p.epoch r.epoch r.number dead))
      (λ (low : (r.number ≤ p.anchor) × (r.epoch ≤ p.epoch)). inr
      (let e : y.anchor ≡ p.anchor = my.anchor in let l : r.number ≤ p.anchor = low.0 in omega arith, low.1))
      settled))
      (is.all (Record r) ((record_in others r).0 own.0) own.1)

  pub covers_where : IsCovering facts p others q → Covers y x
  covers_where is = (
    p.epoch,
    record {
      epoch = greatest_by (HasCutsTo (cuts facts)) (HasCutsTo y.cuts) (cuts_to_by (cuts facts) y.cuts own_cuts)
          (cuts_to_by y.cuts (cuts facts) (same_sym (cuts facts) y.cuts own_cuts)) p.epoch my.position.epoch;
      cuts = covered_cut is;
      points = subst (λ ps. AllZip (λ m n. m ≤ n) x.points ps) (sym my.points) (subst (λ ps. AllZip (λ m n. m ≤ n) ps p.points) (sym mx.points) is.points);
      waits = covered_wait is;
      anchor = let e : y.anchor ≡ p.anchor = my.anchor in let f : x.anchor ≡ q.anchor = mx.anchor in let l : q.anchor ≤ p.anchor = is.anchor in omega arith;
      kept = covered_kept is;
    },
  )

  covered_fact : CoversAt p.epoch y x → CoversAll facts p others q
  covered_fact at (Record r) h keeps =
      ⊎_elim
      (λ (in' : Contains y.kept r). let own = (my.kept.members r).0 in' in inl ((record_in facts r).0 own.0, own.1))
      (λ settled. inr (⊎_elim
      (λ (dead : IsDead y.cuts p.epoch r.epoch r.number). inl
      (dead_by y.cuts (cuts facts) (same_sym (cuts facts) y.cuts own_cuts) p.epoch r.epoch r.number dead))
      (λ (low : (r.number ≤ y.anchor) × (r.epoch ≤ p.epoch)). inr
      (let e : y.anchor ≡ p.anchor = my.anchor in let l : r.number ≤ y.anchor = low.0 in omega arith, low.1))
      settled))
      (at.kept r ((mx.kept.members r).1 ((record_in others r).1 h, keeps)))
  covered_fact at (Cut c) h keeps = inl ((cut_in facts c).0 ((my.cuts.members c).0 (at.cuts c ((mx.cuts.members c).1 ((cut_in others c).1 h)))), tt)
  covered_fact at (Advance a) h keeps =
      ⊎_elim
      (λ (in' : Contains y.waits a). let own = (my.waits.members a).0 in' in inl ((advance_in facts a).0 own.0, own.1))
      (λ (known : (a.epoch ≤ p.epoch) × (a.point ≤ point_of y.points a.reader)). inr (known.0, subst (λ ps. a.point ≤ point_of ps a.reader) my.points known.1))
      (at.waits a ((mx.waits.members a).1 ((advance_in others a).1 h, keeps)))

  pub where_covers : Covers y x → IsCovering facts p others q
  where_covers covers =
      let at = covers_at facts y x p my covers in
      record {
        anchor = let e : y.anchor ≡ p.anchor = my.anchor in let f : x.anchor ≡ q.anchor = mx.anchor in let l : x.anchor ≤ y.anchor = at.anchor in omega arith;
        points = subst (λ ps. AllZip (λ m n. m ≤ n) q.points ps) my.points (subst (λ ps. AllZip (λ m n. m ≤ n) ps y.points) mx.points at.points);
        all = covered_fact at;
      }

-- meanings of parts of one log that cover each other are one
pub one_meaning : (roster : ℕ) (log facts others : List Fact) (x y : Meaning) → IsSound roster log → IsPart facts log → IsPart others log
    → IsMeaning roster facts x → IsMeaning roster others y → Covers x y → Covers y x → x ≡ y
one_meaning roster log facts others x y sound part other mx my up down =
    let is = log_of_sound roster log sound in
    let means_y : IsMeaning roster (facts ++ others) y = absorbed log facts others x y is part other mx my down in
    let means_x : IsMeaning roster (others ++ facts) x = absorbed log others facts y x is other part my mx up in
    meaning_unique (facts ++ others) x y ((same_meanings roster (others ++ facts) (facts ++ others) x (turned others facts)).0 means_x) means_y

pub covers_itself : (roster : ℕ) (log facts : List Fact) (x : Meaning) → IsSound roster log → IsPart facts log → IsMeaning roster facts x → Covers x x
covers_itself roster log facts x sound part means = covers_of_parts log facts facts x x (log_of_sound roster log sound) (λ f h. h) part means means
