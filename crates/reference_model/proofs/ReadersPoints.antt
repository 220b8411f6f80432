-- The readers' points, reader by reader.
use Rattle.std.proofs.Common.{◌≡◌, ℕ, ◌+◌, ◌-◌, ◌≤◌, ◌⊎◌, ⊎_elim, List, [], ◌∷◌, ◌++◌, length, get_or, sym, ap, ◌∙◌, subst, arith, length-append}
use Rattle.std.proofs.Math.ListN.{get_or-append}
use Rattle.std.proofs.Math.Seq.{get_or-append_seam}
use Rattle.redo_core.specs.Data.{AdvanceData}
use Rattle.redo_core.specs.Points.{IsPoint, ArePoints}

pub one_reader_more : (readers : ℕ) (given : List AdvanceData) (k : ℕ) (ps : List ℕ) (p : ℕ) → ArePoints readers given k ps → IsPoint given k (readers + 1) p
    → ArePoints (readers + 1) given k (ps ++ p ∷ [])
one_reader_more readers given k ps p points is = record {
  count = length-append ps (p ∷ []) ∙ ap (λ n. n + 1) points.count;
  each = λ reader r. ⊎_elim
      (λ (l : reader ≤ readers). subst (IsPoint given k reader) (sym (get_or-append ps (p ∷ []) 0 (reader - 1) (omega (arith, points.count, r.0))))
      (points.each reader (r.0, l)))
      (λ (e : reader ≡ readers + 1).
      let place : length ps ≡ reader - 1 = points.count ∙ (let t : readers ≡ reader - 1 = omega arith in t) in
      let at : get_or (ps ++ p ∷ []) (reader - 1) 0 ≡ p = subst (λ i. get_or (ps ++ p ∷ []) i 0 ≡ p) place (get_or-append_seam ps p [] 0) in
      subst (IsPoint given k reader) (sym at) (subst (λ n. IsPoint given k n p) (sym e) is))
      (let t : (reader ≤ readers) ⊎ (reader ≡ readers + 1) = grind (arith, r.1) in t);
}
