-- The order of pairs of numbers, by the first and then by the second.
use Rattle.std.proofs.Common.{rules}
use Rattle.std.proofs.Common.{◌≡◌, ℕ, ◌⊎◌, ap, ◌∙◌, arith}
use Rattle.redo_core.specs.Data.{AdvanceData, advance_of, RecordData}
use Rattle.redo_core.specs.Order.{PairBefore, AdvanceBefore, RecordBefore}

pub pair_apart : (a b c d : ℕ) → PairBefore a b c d → PairBefore c d a b → ⊥
pair_apart a b c d x y = grind arith

pub pair_trans : (a b c d e f : ℕ) → PairBefore a b c d → PairBefore c d e f → PairBefore a b e f
pair_trans a b c d e f x y = grind arith

pub pair_order : (a b c d : ℕ) → PairBefore a b c d ⊎ (((a ≡ c) × (b ≡ d)) ⊎ PairBefore c d a b)
pair_order a b c d = grind arith

pub record_trans : (r s x : RecordData) → RecordBefore r s → RecordBefore s x → RecordBefore r x
record_trans r s x p q = grind arith

-- two advances of one epoch, one reader and one point
pub same_advance : (a b : AdvanceData) → a.epoch ≡ b.epoch → a.reader ≡ b.reader → a.point ≡ b.point → a ≡ b
same_advance a b e r p = ap (λ n. advance_of n a.reader a.point) e ∙ ap (λ n. advance_of b.epoch n a.point) r ∙ ap (λ n. advance_of b.epoch b.reader n) p

pub advance_apart : (a b : AdvanceData) → AdvanceBefore a b → AdvanceBefore b a → ⊥
advance_apart a b x y = grind arith

pub advance_trans : (a b c : AdvanceData) → AdvanceBefore a b → AdvanceBefore b c → AdvanceBefore a c
advance_trans a b c x y = grind arith

pub advance_order : (a b : AdvanceData) → AdvanceBefore a b ⊎ ((a ≡ b) ⊎ AdvanceBefore b a)
advance_order a b = search rules
