-- What reads and writes, one after another, do to known bytes.
use Rattle.std.proofs.Common.{◌≡◌, ℕ, ◌+◌, List, take, drop, Option, IfSome, rules}
use Rattle.std.proofs.Math.Seq.{take-add}
use Rattle.std.specs.Io.KnownBytes.{Consumes, Appends, IsAtEnd}
use Rattle.std.proofs.KnownBytes.{Consumes-trans, Consumes-all, Consumes-nil, Appends-nil, Appends-trans, Appends-kept}

pub ruleset reads = (Consumes-trans, Consumes-all, Consumes-nil)

pub ruleset writes = (Appends-trans, Appends-nil, Appends-kept)

-- a write of the front of what is left goes on with the text
pub Appends-more : (a b c : Option (List ℕ)) (i n : ℕ) (text rest : List ℕ) → rest ≡ drop i text → Appends a b (take i text) → Appends b c (take n rest)
    → Appends a c (take (i + n) text)
Appends-more a b c i n text rest e p q = rw (take-add i n text, ← e) (Appends-trans a b c _ _ p q)

-- a reader that is at its end gave all that it had, where the last read gave nothing
pub Consumes-done : (a b c : Option (List ℕ)) (n : ℕ) (bs buf : List ℕ) → Consumes a b bs → Consumes b c (take n buf) → n ≡ 0 → IsAtEnd c
    → IfSome a (λ xs. bs ≡ xs)
Consumes-done a b c n bs buf p q none end = search rules

-- the last read gave nothing
pub Consumes-nothing : (a b c : Option (List ℕ)) (n : ℕ) (bs buf : List ℕ) → Consumes a b bs → Consumes b c (take n buf) → n ≡ 0 → Consumes a c bs
Consumes-nothing a b c n bs buf p q none = search rules
