-- Parts of a buffer.
use Rattle.std.proofs.Common.{◌≡◌, ℕ, ◌+◌, ◌≤◌, List, ◌++◌, length, take, ap, ◌∙◌, subst, arith, length-append, rules}
use Rattle.std.proofs.lemmas.List.{take-append-le}
use Rattle.std.proofs.lemmas.Slice.{take-put_mid}
use Rattle.std.proofs.Math.Seq.{take-append-add, take-append_seam}
use borrow.Rule.Slice.PartMut.{put_mid, post_of}

-- a beginning of what was put after the first bytes
pub taken_more : (at k n : ℕ) (xs ys : List ℕ) → at ≤ length xs → n ≤ length ys → take (at + n) (put_mid at k xs ys) ≡ take at xs ++ take n ys
taken_more at k n xs ys within few = search (rules, take-append-add, take-append-le)

-- a beginning of what was put in front
pub taken_front : (k n : ℕ) (xs ys : List ℕ) → n ≤ length ys → take n (put_mid 0 k xs ys) ≡ take n ys
taken_front k n xs ys few = take-append-le n ys (post_of 0 k xs) few

-- two parts, one after the other, and nothing else up to there
pub taken_both : (k j n : ℕ) (xs ys zs : List ℕ) → length ys ≡ 4 → n ≡ 4 + length zs → take n (put_mid 4 k (put_mid 0 j xs ys) zs) ≡ ys ++ zs
taken_both k j n xs ys zs four size =
    let within : 4 ≤ length (put_mid 0 j xs ys) = omega (arith, four, length-append ys (post_of 0 j xs)) in
    let front : take 4 (put_mid 0 j xs ys) ≡ ys = subst (λ (m : ℕ). take m (put_mid 0 j xs ys) ≡ ys) four (take-append_seam ys (post_of 0 j xs)) in
    take-put_mid 4 k (put_mid 0 j xs ys) zs n size within ∙ ap (λ (l : List ℕ). l ++ zs) front
