-- Tags of two forms, and the bytes that only the second form has: what is read is encoded so, and what is encoded so is read.
use Rattle.std.proofs.Common.{◌≡◌, ℕ, ◌≤◌, ◌⊎◌, Bool, true, false, cond, List, ◌++◌, Ok, Err, refl, sym, subst, append_assoc, rules}
use Rattle.std.specs.Prelude.{◌≢◌}
use Rattle.redo_wire.specs.declared.faults.WireFault.TheVariants.{UnknownTag}
use Rattle.redo_wire.specs.Reading.{◌>>=◌, Read}
use Rattle.redo_wire.specs.Forms.{form_at, form_bytes, within_at, byte_in}
use Rattle.redo_wire.proofs.Readers.{IsBytes, bind_ok, Takes, Takes-then, Reads}
use Rattle.redo_wire.proofs.FieldReaders.{byte_reads}

abbrev Both : Type 0
Both = Bool × List ℕ

form_takes : (first second : ℕ) (bytes : List ℕ) (x : Both) → IsBytes bytes → form_at first second bytes ≡ Ok x → Takes bytes (form_bytes first second x.0) x.1
unfolding form_at
form_takes first second bytes x fits e = search (rules, byte_reads)

form_again : (first second : ℕ) (form : Bool) (rest : List ℕ) → second ≢ first → form_at first second (form_bytes first second form ++ rest) ≡ Ok (form, rest)
unfolding form_at
form_again first second form rest apart = search rules

-- a tag, and after it the part in that form
pub form_then : {A : Type 0} (first second : ℕ) (part_at : Bool → List ℕ → Read A) (part_bytes : Bool → A → List ℕ) (which : A → Bool) (Fits : A → Type 0)
    → second ≢ first
    → ((form : Bool) → Reads (part_at form) (part_bytes form) (λ a. Fits a × (which a ≡ form)))
    → Reads (λ bytes. form_at first second bytes >>= λ form. part_at form.0 form.1) (λ a. form_bytes first second (which a) ++ part_bytes (which a) a) Fits
form_then {A} first second part_at part_bytes which Fits apart reads = record {
  takes = λ bytes x fits e.
      let a = bind_ok (form_at first second bytes) _ x e in
      let t0 = form_takes first second bytes a.0 fits a.1 in
      let t1 = (reads a.0.0).takes a.0.1 x t0.rest_fits a.2 in
      let both = Takes-then bytes (form_bytes first second a.0.0) a.0.1 (part_bytes a.0.0 x.0) x.1 t0 t1.0 in
      (subst (λ (f : Bool). Takes bytes (form_bytes first second f ++ part_bytes f x.0) x.1) (sym t1.1.1) both, t1.1.0);
  again = λ a rest fits.
      let regrouped = append_assoc (form_bytes first second (which a)) (part_bytes (which a) a) rest in
      let tag = form_again first second (which a) (part_bytes (which a) a ++ rest) apart in
      rw (regrouped, tag) ((reads (which a)).again a rest (fits, refl));
}

-- ---- a byte that only the second form has

abbrev pub IsWithin : Bool → ℕ → ℕ → ℕ → ℕ → Type 0
IsWithin false absent lo hi n = n ≡ absent
IsWithin true absent lo hi n = (lo ≤ n) × (n ≤ hi)

within_takes : (second : Bool) (absent lo hi : ℕ) (bytes : List ℕ) (x : ℕ × List ℕ) → IsBytes bytes → within_at second absent lo hi bytes ≡ Ok x
    → Takes bytes (byte_in second x.0) x.1 × IsWithin second absent lo hi x.0
within_takes second absent lo hi bytes x fits e = search (rules, byte_reads)

within_again : (second : Bool) (absent lo hi n : ℕ) (rest : List ℕ) → IsWithin second absent lo hi n
    → within_at second absent lo hi (byte_in second n ++ rest) ≡ Ok (n, rest)
within_again second absent lo hi n rest fits = search rules

pub within_reads : (second : Bool) (absent lo hi : ℕ) → Reads (within_at second absent lo hi) (byte_in second) (IsWithin second absent lo hi)
within_reads second absent lo hi = record { takes = within_takes second absent lo hi; again = within_again second absent lo hi }

-- a byte that was read in its range, in either form, is no greater than the most
pub within_most : (second : Bool) (absent lo hi : ℕ) (bytes : List ℕ) (x : ℕ × List ℕ) → absent ≤ hi → within_at second absent lo hi bytes ≡ Ok x → x.0 ≤ hi
within_most second absent lo hi bytes x le e = search rules
