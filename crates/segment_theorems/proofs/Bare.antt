-- A truncation or an advance by itself is a little state.
use Rattle.std.proofs.Common.{◌≡◌, ℕ, ◌-◌, ◌<◌, ◌≤◌, ◌⊎◌, ◌↔◌, ⊎_elim, List, [], ◌∷◌, replicate, refl, sym, ◌∙◌, arith, rules}
use Rattle.std.proofs.lemmas.List.{get_or-replicate, length-replicate}
use Rattle.std.specs.List.{Contains}
use Rattle.redo_core.specs.Data.{RecordData, CutData, AdvanceData}
use Rattle.redo_core.specs.Sets.{IsPart, SameSet, records, cuts, advances}
use Rattle.redo_core.specs.Writing.{zeros}
use Rattle.redo_core.specs.CompleteEpoch.{HasCutsTo}
use Rattle.redo_core.specs.Roster.{IsReader, point_of}
use Rattle.redo_core.specs.Points.{ArePoints}
use Rattle.redo_core.specs.Position.{Position, IsPosition}
use Rattle.redo_core.specs.Linked.Linked.{start}
use Rattle.redo_core.specs.declared.facts.Fact.{Fact}
use Rattle.redo_core.specs.declared.facts.Fact.TheVariants.{Cut}
use Rattle.redo_core.proofs.Members.{none_in}
use Rattle.redo_core.proofs.Points.{same_points}
use Rattle.redo_core.proofs.FactParts.{no_advances}
use Rattle.log_theorems.proofs.Fronts.{front_exists}
use Rattle.segment_theorems.proofs.OneFact.{part_of, cut_no_record, cut_no_advance}
use Rattle.redo_core.specs.Book.{BookData, book_of}
use Rattle.segment_theorems.specs.State.{State, empty_state, version_of, image_of}
use Rattle.segment_theorems.specs.Means.{MeansAt, Means}
use Rattle.segment_theorems.proofs.Booked.{readers_at, book_at}

-- a state without records and images
unfoldable pub bare : BookData → State
bare book = record { book = book; held = []; base = 0; store = record { images = []; floor = 0 } }

pub bare_version : (b : BookData) (g : ℕ) → version_of (bare b).store g ≡ 0
unfolding version_of bare
bare_version b g = refl

bare_image : (b : BookData) (g : ℕ) → image_of (bare b).store g ≡ zeros
unfolding image_of bare
bare_image b g = refl

-- no reader has a point
abbrev pub AreZero : ℕ → List ℕ → Type 0
AreZero roster ps = (reader : ℕ) → IsReader roster reader → point_of ps reader ≡ 0

pub zero_points : (roster : ℕ) (given : List AdvanceData) (k : ℕ) (ps : List ℕ) → ArePoints roster given k ps
    → ((a : AdvanceData) → Contains given a → a.epoch ≤ k → ⊥) → AreZero roster ps
zero_points roster given k ps h none reader r = search rules

-- facts without records are meant by a bare state of their truncations, points and waiting advances
pub bare_means : {roster : ℕ} (log F : List Fact) (f : Position) (b : BookData) → IsPart F log → IsPosition roster F f
    → ((r : RecordData) → Contains (records F) r → ⊥) → SameSet b.cuts (cuts F) → b.complete ≡ f.epoch → b.points ≡ f.points
    → ((a : AdvanceData) → Contains b.waits a ↔ (Contains (advances F) a × (f.epoch < a.epoch))) → MeansAt roster log F f (bare b)
unfolding bare
bare_means log F f b p front none sc e sm sw = record {
  part = p;
  position = front;
  book = book_at F f b front sc e sm sw;
  epoch = e;
  readers = readers_at F f b front sm;
  base = (start, omega arith);
  of_log = λ r h. absurd (none_in r h);
  of_facts = λ r h mat. absurd (none_in r h);
  kept = λ r h mat. absurd (none r h);
  versions = λ g. let e = bare_version b g in omega arith;
  images = λ g. record {
    written = [];
    lists = record { rising = tt; members = λ r. (λ h. absurd (none_in r h), λ h. absurd (none r h.0.among)) };
    result = bare_image b g;
  };
}

-- facts without truncations are of epoch 0
pub epoch_without : {roster : ℕ} {F : List Fact} (p : Position) → IsPosition roster F p → ((c : CutData) → Contains (cuts F) c → Contains [] c) → p.epoch ≡ 0
epoch_without {roster} {F} p h none =
    ⊎_elim (λ (e : p.epoch ≡ 0). e)
    (λ (has : HasCutsTo (cuts F) p.epoch). ⊎_elim
    (λ (e : p.epoch ≡ 0). e)
    (λ (up : 0 < p.epoch). let c = has p.epoch (omega arith) (omega arith) in absurd (none_in c.0 (none c.0 c.1)))
    (let t : (p.epoch ≡ 0) ⊎ (0 < p.epoch) = grind arith in t))
    h.epoch.0

own_cuts : (c : CutData) → SameSet (c ∷ []) (cuts (Cut c ∷ []))
unfolding cuts
own_cuts c d = (λ h. h, λ h. h)

-- a truncation of the log
pub lone_cut_means : (roster : ℕ) (log : List Fact) (c : CutData) → Contains log (Cut c) → (k : ℕ) × (ps : List ℕ) × AreZero roster ps × Means roster log
    (Cut c ∷ []) (bare (book_of (c ∷ []) k ps []))
lone_cut_means roster log c h =
    let f = front_exists roster (Cut c ∷ []) (λ r x. absurd (cut_no_record c r x)) in (
      f.0.epoch,
      f.0.points,
      zero_points roster (advances (Cut c ∷ [])) f.0.epoch f.0.points f.1.points (λ a x le. cut_no_advance c a x),
      (
        f.0,
        bare_means log (Cut c ∷ []) f.0 (book_of (c ∷ []) f.0.epoch f.0.points []) (part_of log (Cut c) h) f.1 (cut_no_record c) (own_cuts c) refl refl
            (λ a. (λ x. absurd (none_in a x), λ x. absurd (cut_no_advance c a x.0))),
      ),
    )

-- no facts

no_record_of_none : (r : RecordData) → Contains (records []) r → ⊥
unfolding records
no_record_of_none r h = none_in r h

cuts_of_none : SameSet [] (cuts [])
unfolding cuts
cuts_of_none c = (λ h. h, λ h. h)

pub empty_means : (roster : ℕ) (log : List Fact) → Means roster log [] (empty_state roster)
unfolding bare
empty_means roster log =
    let f = front_exists roster [] (λ r x. absurd (no_record_of_none r x)) in
    let zero = zero_points roster (advances []) f.0.epoch f.0.points f.1.points (λ a x le. no_advances a x) in
    let same : replicate roster 0 ≡ f.0.points =
    same_points roster (replicate roster 0) f.0.points (length-replicate roster 0) f.1.points.count
    (λ reader r. get_or-replicate roster (reader - 1) 0 0 (omega (arith, r.0, r.1)) ∙ sym (zero reader r)) in (
      f.0,
      bare_means log [] f.0 (book_of [] 0 (replicate roster 0) []) (λ x q. absurd (none_in x q)) f.1 no_record_of_none cuts_of_none
          (sym (epoch_without f.0 f.1 (λ c x. (cuts_of_none c).1 x))) same (λ a. (λ x. absurd (none_in a x), λ x. absurd (no_advances a x.0))),
    )
