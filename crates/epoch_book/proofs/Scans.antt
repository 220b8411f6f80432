-- Scans of a book's lists.
use Rattle.std.proofs.Common.{◌≡◌, ℕ, zero, suc, ◌<◌, ◌≤◌, ◌↔◌, List, [], ◌∷◌, length, get_or, refl, arith, Result, Ok, Err, IfOk, IfErr, IsTrue, rules}
use Rattle.std.specs.List.{HoldsAt}
use Rattle.std.specs.List.Sorted.{IsPartitionPoint}
use Rattle.redo_core.specs.Data.{CutData}
use Rattle.epoch_book.specs.Refusing.{LacksCut}
use Rattle.std.specs.Result.{is_ok}
use Rattle.redo_core.specs.CompleteEpoch.{HasCut}

-- the truncation at an index
pub cut_at : (cs : List CutData) (e i : ℕ) → i < length cs → HoldsAt (λ c. c.epoch ≡ e) cs i → HasCut cs e
cut_at [] e i l h = absurd (omega (arith, l))
cut_at (c ∷ cs) e i l h = (get_or (c ∷ cs) i c, (i, l, same_default (c ∷ cs) i c (get_or (c ∷ cs) i c) l), h c)
  where
    same_default : (xs : List CutData) (k : ℕ) (d f : CutData) → k < length xs → get_or xs k f ≡ get_or xs k d
    same_default [] k d f m = absurd (omega (arith, m))
    same_default (x ∷ xs) zero d f m = refl
    same_default (x ∷ xs) (suc k) d f m = same_default xs k d f (omega (arith, m))

-- no truncation at a gap
pub no_cut : (cs : List CutData) (e i : ℕ) → IsPartitionPoint (λ c. c.epoch < e) (λ c. e < c.epoch) cs i → LacksCut cs e
no_cut cs e i gap d h q = search rules

-- whether a search finds a truncation
pub found_cut : (cs : List CutData) (e : ℕ) (r : Result ℕ ℕ) → IfOk r (λ i. (i < length cs) × HoldsAt (λ c. c.epoch ≡ e) cs i)
    → IfErr r (λ i. (i ≤ length cs) × IsPartitionPoint (λ c. c.epoch < e) (λ c. e < c.epoch) cs i) → IsTrue (is_ok r) ↔ HasCut cs e
found_cut cs e (Ok i) ok err = (λ h. cut_at cs e i ok.0 ok.1, λ h. refl)
found_cut cs e (Err i) ok err = (λ h. absurd (cc), λ h. absurd (no_cut cs e i err.1 h.0 h.1 h.2))
