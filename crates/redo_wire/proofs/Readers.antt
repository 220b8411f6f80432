-- A reader and an encoding that fit: what is read is encoded so, and what is encoded so is read.
use Rattle.std.proofs.Common.{◌≡◌, ℕ, ◌+◌, ◌<◌, Bool, true, false, cond, List, ◌∷◌, ◌++◌, get_or, take, drop, Result, Ok, Err, refl, sym, ap, ◌∙◌, append_assoc, arith, rules}
use Rattle.std.proofs.lemmas.Grind.{common_steps}
use Rattle.std.proofs.lemmas.List.{get_or-drop}
use Rattle.redo_wire.specs.declared.faults.WireFault.{WireFault}
use Rattle.redo_wire.specs.Reading.{◌>>=◌, Read, shaped, ordered, mapped}

abbrev pub IsBytes : List ℕ → Type 0
IsBytes bytes = (i : ℕ) → get_or bytes i 0 < 256

pub IsBytes-cons : (b : ℕ) (bytes : List ℕ) → b < 256 → IsBytes bytes → IsBytes (b ∷ bytes)
IsBytes-cons b bytes lt h = search rules

-- the value of a step that did not fail
pub bind_ok : {A B : Type 0} (r : Result A WireFault) (f : A → Result B WireFault) (y : B) → (r >>= f) ≡ Ok y → (x : A) × (r ≡ Ok x) × (f x ≡ Ok y)
bind_ok r f y e = search rules

abbrev done : {A : Type 0} → A → Result A WireFault
done x = Ok x

pub ok_is : {A : Type 0} (x y : A) → done x ≡ done y → x ≡ y
ok_is x y e = cc

pub guard_true : {A : Type 0} (b : Bool) (d : WireFault) (x y : A) → cond b (Ok x) (Err d) ≡ Ok y → (b ≡ true) × (x ≡ y)
guard_true b d x y e = search rules

pub shaped_ok : {A : Type 0} (rule : A → Bool) (r : Read A) (y : A × List ℕ) → shaped rule r ≡ Ok y → (r ≡ Ok y) × (rule y.0 ≡ true)
shaped_ok rule r y e = search rules

pub mapped_ok : {A B : Type 0} (f : A → B) (r : Read A) (y : B × List ℕ) → mapped f r ≡ Ok y → (x : A) × (r ≡ Ok (x, y.1)) × (f x ≡ y.0)
mapped_ok f r y e = search rules

-- what a reader took from the front
pub record Takes (bytes text rest : List ℕ) : Type 0 where
  pub parts : bytes ≡ text ++ rest
  pub rest_fits : IsBytes rest

pub Takes-then : (a x b y c : List ℕ) → Takes a x b → Takes b y c → Takes a (x ++ y) c
Takes-then a x b y c p q = record { parts = p.parts ∙ ap (λ (t : List ℕ). x ++ t) q.parts ∙ sym (append_assoc x y c); rest_fits = q.rest_fits }

-- a tag before a value
pub tag_takes : (tag : ℕ) (bytes text rest : List ℕ) → Takes bytes text rest → Takes (tag ∷ bytes) (tag ∷ text) rest
tag_takes tag bytes text rest t = record { parts = ap (λ (r : List ℕ). tag ∷ r) t.parts; rest_fits = t.rest_fits }

-- what is read was encoded so, and what is encoded so is read
pub record Reads {A : Type 0} (read : List ℕ → Read A) (encode : A → List ℕ) (Fits : A → Type 0) : Type 0 where
  pub takes : (bytes : List ℕ) (x : A × List ℕ) → IsBytes bytes → read bytes ≡ Ok x → Takes bytes (encode x.0) x.1 × Fits x.0
  pub again : (a : A) (rest : List ℕ) → Fits a → read (encode a ++ rest) ≡ Ok (a, rest)

ordered_ok : {A : Type 0} (rule : A → Bool) (r : Read A) (y : A × List ℕ) → ordered rule r ≡ Ok y → (r ≡ Ok y) × (rule y.0 ≡ true)
ordered_ok rule r y e = search rules

-- the same for an element at its index
pub ordered_reads : {A : Type 0} (rule : A → Bool) (read : List ℕ → Read A) (encode : A → List ℕ) (Fits : A → Type 0) → Reads read encode Fits
    → Reads (λ bytes. ordered rule (read bytes)) encode (λ a. (rule a ≡ true) × Fits a)
ordered_reads rule read encode Fits reads = record {
  takes = λ bytes x fits e. let o = ordered_ok rule (read bytes) x e in let t = reads.takes bytes x fits o.0 in (t.0, (o.1, t.1));
  again = λ a rest fits. rw (reads.again a rest fits.1, fits.0) refl;
}

-- the same of values that another predicate describes
pub reads_as : {A : Type 0} (read : List ℕ → Read A) (encode : A → List ℕ) (Fits Told : A → Type 0) → Reads read encode Fits → ((a : A) → Fits a → Told a)
    → ((a : A) → Told a → Fits a) → Reads read encode Told
reads_as read encode Fits Told reads there back = record {
  takes = λ bytes x fits e. let t = reads.takes bytes x fits e in (t.0, there x.0 t.1);
  again = λ a rest told. reads.again a rest (back a told);
}
