-- What a reader that fits an encoding says of whole inputs.
use Rattle.std.proofs.Common.{◌≡◌, ℕ, ◌<◌, eqb, List, [], ◌++◌, length, Result, Ok, Err, refl, sym, ap, subst, ◌∙◌, arith, rules}
use Rattle.std.proofs.lemmas.Grind.{common_steps}
use Rattle.std.specs.Prelude.{IfOk, All}
use Rattle.std.proofs.lemmas.Bool.{eqb-true}
use Rattle.std.proofs.lemmas.List.{append-nil, nil_from_length}
use Rattle.redo_wire.specs.declared.faults.WireFault.{WireFault}
use Rattle.redo_wire.specs.declared.faults.WireFault.TheVariants.{Rest}
use Rattle.redo_wire.specs.declared.faults.WireError.{WireError}
use Rattle.redo_wire.specs.Reading.{Read, whole}
use Rattle.redo_wire.specs.Outcomes.{GivesRead}
use Rattle.redo_wire.specs.Laws.{HasOneValue, BeginsNoOther, ReadsEncodings}
use Rattle.redo_wire.proofs.Readers.{IsBytes, guard_true, Reads}

-- the bytes encode a value
abbrev pub Encodes : {A : Type 0} → (A → List ℕ) → (A → Type 0) → A → List ℕ → Type 0
Encodes encode Fits v bytes = Fits v × (bytes ≡ encode v)

at_read : {A : Type 0} (read : List ℕ → Read A) (encode : A → List ℕ) (Fits : A → Type 0) → Reads read encode Fits → (bytes : List ℕ) (v : A) → IsBytes bytes
    → (r : Read A) → read bytes ≡ r → whole r ≡ Ok v → Fits v × (bytes ≡ encode v)
at_read {A} read encode Fits reads bytes v fits (Ok x) is e =
    let g = guard_true (eqb (length x.1) 0) Rest x.0 v e in
    let t = reads.takes bytes x fits is in
    let nothing : x.1 ≡ [] = nil_from_length x.1 (eqb-true _ _ g.0) in
    let all : bytes ≡ encode x.0 = t.0.parts ∙ ap (λ (r : List ℕ). encode x.0 ++ r) nothing ∙ append-nil (encode x.0) in
    subst (λ (w : A). Fits w × (bytes ≡ encode w)) g.1 (t.1, all)
at_read read encode Fits reads bytes v fits (Err f) is e = absurd cc

-- what is read from all of the bytes is encoded by them
pub encoded_from_read : {A : Type 0} (read : List ℕ → Read A) (encode : A → List ℕ) (Fits : A → Type 0) → Reads read encode Fits → (bytes : List ℕ) (v : A)
    → IsBytes bytes → whole (read bytes) ≡ Ok v → Encodes encode Fits v bytes
encoded_from_read read encode Fits reads bytes v fits e = at_read read encode Fits reads bytes v fits (read bytes) refl e

-- what all of the bytes encode is read from them
pub read_from_encoded : {A : Type 0} (read : List ℕ → Read A) (encode : A → List ℕ) (Fits : A → Type 0) → Reads read encode Fits → (bytes : List ℕ) (v : A)
    → Encodes encode Fits v bytes → whole (read bytes) ≡ Ok v
read_from_encoded read encode Fits reads bytes v encoded =
    let again : read (encode v) ≡ Ok (v, []) = ap read (sym (append-nil (encode v))) ∙ reads.again v [] encoded.0 in
    ap (λ (b : List ℕ). whole (read b)) encoded.1 ∙ rw again refl

-- ---- a call that answers what reading gives

pub answer_is_encoded : {A : Type 0} (read : List ℕ → Read A) (encode : A → List ℕ) (Fits : A → Type 0) → Reads read encode Fits
    → (bytes : List ℕ) (r : Result A WireError) → IsBytes bytes → GivesRead r (whole (read bytes)) → IfOk r (λ v. Encodes encode Fits v bytes)
answer_is_encoded read encode Fits reads bytes r fits given = search (rules, encoded_from_read)

pub encoded_is_answer : {A : Type 0} (read : List ℕ → Read A) (encode : A → List ℕ) (Fits : A → Type 0) → Reads read encode Fits
    → (bytes : List ℕ) (r : Result A WireError) → GivesRead r (whole (read bytes)) → (v : A) → Encodes encode Fits v bytes → GivesRead r (Ok v)
encoded_is_answer {A} read encode Fits reads bytes r given v encoded =
    subst (λ (q : Result A WireFault). GivesRead r q) (read_from_encoded read encode Fits reads bytes v encoded) given

-- ---- the laws

-- what two values and some bytes after each encode alike is the same value and the same bytes
same_front : {A : Type 0} (read : List ℕ → Read A) (encode : A → List ℕ) (Fits : A → Type 0) → Reads read encode Fits → (v w : A) (x y : List ℕ) → Fits v
    → Fits w → encode v ++ x ≡ encode w ++ y → (v ≡ w) × (x ≡ y)
same_front read encode Fits reads v w x y fits fits' same = search rules

pub one_value : {A : Type 0} (read : List ℕ → Read A) (encode : A → List ℕ) (Fits : A → Type 0) → Reads read encode Fits → HasOneValue (Encodes encode Fits)
one_value read encode Fits reads v w x p q = (same_front read encode Fits reads v w [] [] p.0 q.0 (ap (λ (b : List ℕ). b ++ []) (sym p.1 ∙ q.1))).0

pub begins_no_other : {A : Type 0} (read : List ℕ → Read A) (encode : A → List ℕ) (Fits : A → Type 0) → Reads read encode Fits
    → BeginsNoOther (Encodes encode Fits)
begins_no_other read encode Fits reads v w x y rest p q longer =
    let same : encode v ++ rest ≡ encode w ++ [] = ap (λ (b : List ℕ). b ++ rest) (sym p.1) ∙ longer ∙ q.1 ∙ sym (append-nil (encode w)) in
    (same_front read encode Fits reads v w rest [] p.0 q.0 same).1

pub bytes_from_All : (bytes : List ℕ) → All (λ b. b < 256) bytes → IsBytes bytes
bytes_from_All bytes all i = grind (arith, common_steps)

pub reads_encodings : {A : Type 0} (read : List ℕ → Read A) (encode : A → List ℕ) (Fits : A → Type 0) → Reads read encode Fits
    → ReadsEncodings (Encodes encode Fits) (λ bytes. whole (read bytes))
reads_encodings read encode Fits reads v bytes all =
    (λ e. encoded_from_read read encode Fits reads bytes v (bytes_from_All bytes all) e, λ encoded. read_from_encoded read encode Fits reads bytes v encoded)
