-- A record by itself is a little state.
use Rattle.std.proofs.Common.{◌≡◌, ℕ, ◌<◌, ◌≤◌, inl, ⊎_elim, List, [], ◌∷◌, refl, sym, subst, arith}
use Rattle.std.specs.List.{Contains}
use Rattle.redo_core.specs.Data.{RecordData}
use Rattle.redo_core.specs.Sets.{records, advances}
use Rattle.redo_core.specs.Writing.{zeros}
use Rattle.redo_core.specs.Position.{Position, IsPosition}
use Rattle.redo_core.specs.PageAt.{IsPageAt}
use Rattle.redo_core.specs.Linked.Linked.{start}
use Rattle.redo_core.specs.declared.facts.Fact.{Fact}
use Rattle.redo_core.specs.declared.facts.Fact.TheVariants.{Record}
use Rattle.redo_core.proofs.Members.{none_in, here, which}
use Rattle.redo_core.proofs.FactParts.{record_in}
use Rattle.log_theorems.proofs.Log.{IsLog}
use Rattle.log_theorems.proofs.Fronts.{front_exists}
use Rattle.redo_core.specs.Book.{book_of}
use Rattle.segment_theorems.specs.State.{State, version_of, image_of}
use Rattle.segment_theorems.specs.Means.{MeansAt, Means}
use Rattle.segment_theorems.proofs.Booked.{readers_at, book_at}
use Rattle.segment_theorems.proofs.Bare.{AreZero, zero_points, epoch_without}
use Rattle.segment_theorems.proofs.OneFact.{part_of, record_no_cut, record_no_advance, record_only, record_there}

-- the state of one record
unfoldable pub lone : List ℕ → RecordData → State
lone ps r = record { book = book_of [] 0 ps []; held = r ∷ []; base = 0; store = record { images = []; floor = 0 } }

pub lone_version : (ps : List ℕ) (r : RecordData) (g : ℕ) → version_of (lone ps r).store g ≡ 0
unfolding version_of lone
lone_version ps r g = refl

lone_image : (ps : List ℕ) (r : RecordData) (g : ℕ) → image_of (lone ps r).store g ≡ zeros
unfolding image_of lone
lone_image ps r g = refl

lone_means_at : {roster : ℕ} (log : List Fact) (ps : List ℕ) (r : RecordData) (f : Position) → IsLog roster log → Contains (records log) r
    → IsPosition roster (Record r ∷ []) f → ps ≡ f.points → MeansAt roster log (Record r ∷ []) f (lone ps r)
unfolding lone
lone_means_at {roster} log ps r f l h front sp =
    let none : 0 ≡ f.epoch = sym (epoch_without f front (λ c x. absurd (record_no_cut r c x))) in
    record {
      part = part_of log (Record r) ((record_in log r).0 h);
      position = front;
      book = book_at (Record r ∷ []) f (book_of [] 0 ps []) front (λ c. (λ x. absurd (none_in c x), λ x. absurd (record_no_cut r c x))) none sp
          (λ a. (λ x. absurd (none_in a x), λ x. absurd (record_no_advance r a x.0)));
      epoch = none;
      readers = readers_at (Record r ∷ []) f (book_of [] 0 ps []) front sp;
      base = (start, omega arith);
      of_log = λ s x. subst (Contains (records log)) (⊎_elim (λ (e : r ≡ s). e) (λ (y : Contains [] s). absurd (none_in s y)) (which r [] s x)) h;
      of_facts = λ s x mat. subst (Contains (records (Record r ∷ [])))
          (⊎_elim (λ (e : r ≡ s). e) (λ (y : Contains [] s). absurd (none_in s y)) (which r [] s x)) (record_there r);
      kept = λ s x mat. inl (subst (Contains (r ∷ [])) (record_only r s x) (here r []));
      versions = λ g. let e = lone_version ps r g in omega arith;
      images = λ g. zero_page log ps r f l h g;
    }
  where
    zero_page : (log : List Fact) (ps : List ℕ) (r : RecordData) (f : Position) → IsLog roster log → Contains (records log) r → (g : ℕ)
        → IsPageAt (Record r ∷ []) f.epoch g (version_of (lone ps r).store g) (image_of (lone ps r).store g)
    zero_page log ps r f l h g = record {
      written = [];
      lists = record {
        rising = tt;
        members = λ s. (
          λ x. absurd (none_in s x),
          λ x. absurd (
              let a : s.number ≤ version_of (lone ps r).store g = x.2 in let b = lone_version ps r g in
              let c : 0 < s.number = (l.backs s (subst (Contains (records log)) (record_only r s x.0.among) h)).0 in omega arith),
        );
      };
      result = lone_image ps r g;
    }

pub lone_means : {roster : ℕ} (log : List Fact) (r : RecordData) → IsLog roster log → Contains (records log) r
    → (ps : List ℕ) × AreZero roster ps × Means roster log (Record r ∷ []) (lone ps r)
lone_means {roster} log r l h =
    let f = front_exists roster (Record r ∷ []) (λ s x. (l.backs s (subst (Contains (records log)) (record_only r s x) h)).1) in (
      f.0.points,
      zero_points roster (advances (Record r ∷ [])) f.0.epoch f.0.points f.1.points (λ a x le. record_no_advance r a x),
      (f.0, lone_means_at log f.0.points r f.0 l h f.1 refl),
    )
