-- The fields: what is read is encoded so, and what is encoded so is read.
use Rattle.std.proofs.Common.{◌≡◌, ℕ, suc, ◌^◌, ◌<◌, List, [], ◌∷◌, ◌++◌, length, drop, Ok, refl, ap, subst, arith, rules}
use Rattle.std.proofs.lemmas.Grind.{common_steps}
use Rattle.std.specs.Int.{Width, w16, w32, w64, byte_len, from_be_bytes, to_be_bytes}
use Rattle.std.proofs.lemmas.Nat.{be_bytes_8}
use Rattle.redo_wire.specs.Fields.{byte_at, bytes_at, number_at, u48_at, number, u48}
use Rattle.redo_wire.proofs.Readers.{IsBytes, IsBytes-cons, ok_is, mapped_ok, Takes, Reads}

byte_takes : (bytes : List ℕ) (x : ℕ × List ℕ) → IsBytes bytes → byte_at bytes ≡ Ok x → Takes bytes (x.0 ∷ []) x.1 × (x.0 < 256)
byte_takes [] x fits e = absurd cc
byte_takes (b ∷ bytes) x fits e =
    subst (λ (y : ℕ × List ℕ). Takes (b ∷ bytes) (y.0 ∷ []) y.1 × (y.0 < 256)) (ok_is (b, bytes) x e)
    (record { parts = refl; rest_fits = λ i. fits (suc i) }, fits 0)

pub byte_reads : Reads byte_at (λ b. b ∷ []) (λ b. b < 256)
byte_reads = record { takes = byte_takes; again = λ b rest lt. refl }

pub bytes_take : (n : ℕ) (bytes : List ℕ) (x : List ℕ × List ℕ) → IsBytes bytes → bytes_at n bytes ≡ Ok x
    → Takes bytes x.0 x.1 × (length x.0 ≡ n) × IsBytes x.0
bytes_take n bytes x fits e = grind (arith, common_steps)

pub bytes_again : (n : ℕ) (text rest : List ℕ) → length text ≡ n → bytes_at n (text ++ rest) ≡ Ok (text, rest)
bytes_again n text rest len = grind (arith, common_steps)

-- ---- numbers

pub record IsWide (w : Width) (limit : ℕ) : Type 0 where
  pub len : (n : ℕ) → length (to_be_bytes w n) ≡ byte_len w
  pub back : (bytes : List ℕ) → length bytes ≡ byte_len w → IsBytes bytes → to_be_bytes w (from_be_bytes w bytes) ≡ bytes
  pub again : (n : ℕ) → n < limit → from_be_bytes w (to_be_bytes w n) ≡ n
  pub below : (bytes : List ℕ) → IsBytes bytes → from_be_bytes w bytes < limit

pub wide16 : IsWide w16 (2 ^ 16)
wide16 = grind (arith, common_steps)

pub wide32 : IsWide w32 (2 ^ 32)
wide32 = grind (arith, common_steps)

pub wide64 : IsWide w64 (2 ^ 64)
wide64 = search (rules, be_bytes_8)

number_takes : (w : Width) (limit : ℕ) → IsWide w limit → (bytes text : List ℕ) (n : ℕ) (rest : List ℕ) → IsBytes bytes
    → bytes_at (byte_len w) bytes ≡ Ok (text, rest) → from_be_bytes w text ≡ n → Takes bytes (to_be_bytes w n) rest × (n < limit)
number_takes w limit wide bytes text n rest fits read is_n =
    let t = bytes_take (byte_len w) bytes (text, rest) fits read in
    let encoded : to_be_bytes w n ≡ text = rw (← is_n) (wide.back text t.1 t.2) in
    (rw encoded t.0, rw (← is_n) (wide.below text t.2))

number_reads : (w : Width) (limit : ℕ) → IsWide w limit → Reads (number_at w) (number w) (λ n. n < limit)
unfolding number_at number
number_reads w limit wide = record {
  takes = λ bytes x fits e. let m = mapped_ok (from_be_bytes w) (bytes_at (byte_len w) bytes) x e in number_takes w limit wide bytes m.0 x.0 x.1 fits m.1 m.2;
  again = λ n rest lt. rw (bytes_again (byte_len w) (to_be_bytes w n) rest (wide.len n), wide.again n lt) refl;
}

pub u16_reads : Reads (number_at w16) (number w16) (λ n. n < 2 ^ 16)
u16_reads = number_reads w16 (2 ^ 16) wide16

pub u32_reads : Reads (number_at w32) (number w32) (λ n. n < 2 ^ 32)
u32_reads = number_reads w32 (2 ^ 32) wide32

pub u64_reads : Reads (number_at w64) (number w64) (λ n. n < 2 ^ 64)
u64_reads = number_reads w64 (2 ^ 64) wide64

u48_back : (text : List ℕ) → length text ≡ 6 → IsBytes text → u48 (from_be_bytes w64 (0 ∷ 0 ∷ text)) ≡ text
unfolding u48
u48_back text len fits =
    ap (drop 2)
    (be_bytes_8 (0 ∷ 0 ∷ text) (from_be_bytes w64 (0 ∷ 0 ∷ text)) (ap (λ n. suc (suc n)) len)
    (IsBytes-cons 0 (0 ∷ text) (omega arith) (IsBytes-cons 0 text (omega arith) fits)) refl)

u48_below : (text : List ℕ) → IsBytes text → from_be_bytes w64 (0 ∷ 0 ∷ text) < 2 ^ 48
u48_below text fits = omega (arith, fits 0, fits 1, fits 2, fits 3, fits 4, fits 5)

u48_value : (n : ℕ) → n < 2 ^ 48 → from_be_bytes w64 (0 ∷ 0 ∷ drop 2 (to_be_bytes w64 n)) ≡ n
u48_value n lt = omega arith

u48_takes : (bytes text : List ℕ) (n : ℕ) (rest : List ℕ) → IsBytes bytes → bytes_at 6 bytes ≡ Ok (text, rest) → from_be_bytes w64 (0 ∷ 0 ∷ text) ≡ n
    → Takes bytes (u48 n) rest × (n < 2 ^ 48)
u48_takes bytes text n rest fits read is_n =
    let t = bytes_take 6 bytes (text, rest) fits read in
    let encoded : u48 n ≡ text = rw (← is_n) (u48_back text t.1 t.2) in
    (rw encoded t.0, rw (← is_n) (u48_below text t.2))

pub u48_reads : Reads u48_at u48 (λ n. n < 2 ^ 48)
unfolding u48_at u48
u48_reads = record {
  takes = λ bytes x fits e. let m = mapped_ok (λ text. from_be_bytes w64 (0 ∷ 0 ∷ text)) (bytes_at 6 bytes) x e in u48_takes bytes m.0 x.0 x.1 fits m.1 m.2;
  again = λ n rest lt. rw (bytes_again 6 (drop 2 (to_be_bytes w64 n)) rest refl, u48_value n lt) refl;
}
