-- Lengths in front of bytes.
use Rattle.std.proofs.Common.{◌≡◌, ℕ, ◌<◌, ◌^◌, List, [], ◌∷◌, ◌++◌, length, take, get_or, map, refl, sym, ap, ◌∙◌, subst, append_assoc, arith}
use Rattle.std.proofs.lemmas.Grind.{common_steps}
use Rattle.std.specs.Int.{w32, from_be_bytes}
use Rattle.std.specs.List.{All, concat}
use Rattle.std.proofs.lemmas.List.{append_cancel_left}
use Rattle.std.proofs.lemmas.List.Elements.{All-head, All-tail}
use Rattle.std.proofs.lemmas.Nat.{be_bytes_4, from_be_bytes-to_be_bytes_4}
use Rattle.std.proofs.Math.Seq.{take-append_seam}
use Rattle.framing.specs.Frames.{header, stated, framed, IsShort, IsBegun}
use Rattle.framing.specs.FrameLaws.{OneReading}

pub length-header : (n : ℕ) → length (header n) ≡ 4
unfolding header
length-header n = refl

pub stated_header : (n : ℕ) (bytes : List ℕ) → n < 2 ^ 32 → stated (header n ++ bytes) ≡ n
unfolding header stated
stated_header n bytes h = from_be_bytes-to_be_bytes_4 n h

-- four bytes are the header of the number that they encode
pub header_of : (head : List ℕ) (n : ℕ) → length head ≡ 4 → ((i : ℕ) → get_or head i 0 < 256) → n ≡ from_be_bytes w32 head → header n ≡ head
unfolding header
header_of head n four bytes is = be_bytes_4 head n four bytes is

-- a header, and not all of the bytes that it says
pub begun : (n : ℕ) (bytes : List ℕ) → n < 2 ^ 32 → length bytes < n → IsBegun (header n ++ bytes)
begun n bytes short few = grind (arith, common_steps, stated_header, length-header)

-- a whole frame has not only begun
pub whole : (bytes rest : List ℕ) → IsShort bytes → IsBegun (framed bytes ++ rest) → ⊥
whole bytes rest short h = grind (arith, common_steps, length-header, stated_header)

pub same_front : (bytes more rest behind : List ℕ) → IsShort bytes → IsShort more → framed bytes ++ rest ≡ framed more ++ behind → (bytes ≡ more) × (rest ≡ behind)
same_front bytes more rest behind short also e =
    let flat : header (length bytes) ++ (bytes ++ rest) ≡ header (length more) ++ (more ++ behind) =
    sym (append_assoc (header (length bytes)) bytes rest) ∙ e ∙ append_assoc (header (length more)) more behind in
    let sizes : length bytes ≡ length more =
    sym (stated_header (length bytes) (bytes ++ rest) short) ∙ ap stated flat ∙ stated_header (length more) (more ++ behind) also in
    let tails : bytes ++ rest ≡ more ++ behind =
    append_cancel_left (header (length more)) (bytes ++ rest) (more ++ behind) (subst (λ (n : ℕ). header n ++ (bytes ++ rest) ≡ header (length more) ++ (more ++ behind)) sizes flat) in
    let fronts : bytes ≡ more = sym (take-append_seam bytes rest) ∙ ap (take (length bytes)) tails
    ∙ subst (λ (n : ℕ). take n (more ++ behind) ≡ more) (sym sizes) (take-append_seam more behind) in
    (fronts, append_cancel_left more rest behind (subst (λ (l : List ℕ). l ++ rest ≡ more ++ behind) fronts tails))

one_way : (frames others : List (List ℕ)) (rest behind : List ℕ) → All IsShort frames → All IsShort others → IsBegun rest → IsBegun behind
    → concat (map framed frames) ++ rest ≡ concat (map framed others) ++ behind → (frames ≡ others) × (rest ≡ behind)
one_way [] [] rest behind a b r s e = (refl, e)
one_way [] (y ∷ ys) rest behind a b r s e =
    absurd (whole y (concat (map framed ys) ++ behind) (All-head IsShort y ys b) (subst IsBegun (e ∙ append_assoc (framed y) (concat (map framed ys)) behind) r))
one_way (x ∷ xs) [] rest behind a b r s e =
    absurd (whole x (concat (map framed xs) ++ rest) (All-head IsShort x xs a) (subst IsBegun (sym e ∙ append_assoc (framed x) (concat (map framed xs)) rest) s))
one_way (x ∷ xs) (y ∷ ys) rest behind a b r s e =
    let first = same_front x y (concat (map framed xs) ++ rest) (concat (map framed ys) ++ behind) (All-head IsShort x xs a) (All-head IsShort y ys b)
    (sym (append_assoc (framed x) (concat (map framed xs)) rest) ∙ e ∙ append_assoc (framed y) (concat (map framed ys)) behind) in
    let others = one_way xs ys rest behind (All-tail IsShort x xs a) (All-tail IsShort y ys b) r s first.1 in
    (ap (λ (l : List ℕ). l ∷ xs) first.0 ∙ ap (λ (l : List (List ℕ)). y ∷ l) others.0, others.1)

pub one_reading : OneReading
one_reading input frames others rest behind a b = one_way frames others rest behind a.short b.short a.begun b.begun (sym a.encoded ∙ b.encoded)
