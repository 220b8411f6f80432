-- What encodings guarantee, for any relation between values and bytes.
use Rattle.std.specs.Prelude.{◌≡◌, ℕ, ◌<◌, ◌↔◌, List, [], ◌++◌, Result, Ok, Err, All, length}
use Rattle.redo_wire.specs.declared.faults.WireFault.{WireFault}
use Rattle.redo_wire.specs.declared.faults.WireFault.TheVariants.{Short, Rest, TooLong}

-- a value has one encoding
abbrev pub HasOneEncoding : {A : Type 0} → (A → List ℕ → Type 0) → Type 0
HasOneEncoding {A} Encodes = (v : A) (x y : List ℕ) → Encodes v x → Encodes v y → x ≡ y

-- an encoding has one value
abbrev pub HasOneValue : {A : Type 0} → (A → List ℕ → Type 0) → Type 0
HasOneValue {A} Encodes = (v w : A) (x : List ℕ) → Encodes v x → Encodes w x → v ≡ w

-- no encoding begins another
abbrev pub BeginsNoOther : {A : Type 0} → (A → List ℕ → Type 0) → Type 0
BeginsNoOther {A} Encodes = (v w : A) (x y rest : List ℕ) → Encodes v x → Encodes w y → x ++ rest ≡ y → rest ≡ []

-- reading gives a value exactly where all of the bytes encode it
abbrev pub ReadsEncodings : {A : Type 0} → (A → List ℕ → Type 0) → (List ℕ → Result A WireFault) → Type 0
ReadsEncodings {A} Encodes decoded = (v : A) (bytes : List ℕ) → All (λ b. b < 256) bytes → (decoded bytes ≡ Ok v) ↔ Encodes v bytes

-- reading never finds a list too long: that fault is of writing alone
abbrev pub NeverTooLong : {A : Type 0} → (List ℕ → Result A WireFault) → Type 0
NeverTooLong decoded = (bytes : List ℕ) → decoded bytes ≡ Err TooLong → ⊥

-- a fault that is neither short nor rest stays, whatever follows
abbrev pub FaultsStay : {A : Type 0} → (List ℕ → Result A WireFault) → Type 0
FaultsStay {A} decoded = (x y : List ℕ) (f : WireFault) → decoded x ≡ Err f → (f ≡ Short → ⊥) → (f ≡ Rest → ⊥) → decoded (x ++ y) ≡ Err f

-- each proper beginning of an encoding is short
abbrev pub BeginningsAreShort : {A : Type 0} → (List ℕ → Result A WireFault) → Type 0
BeginningsAreShort {A} decoded = (x y : List ℕ) (v : A) → 0 < length y → decoded (x ++ y) ≡ Ok v → decoded x ≡ Err Short

-- bytes after an encoding are a rest
abbrev pub RestIsBehind : {A : Type 0} → (List ℕ → Result A WireFault) → Type 0
RestIsBehind {A} decoded = (x y : List ℕ) (v : A) → 0 < length y → decoded x ≡ Ok v → decoded (x ++ y) ≡ Err Rest
