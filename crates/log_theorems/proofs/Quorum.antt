-- The law overlap.
use Rattle.std.proofs.Common.{◌≡◌, ℕ, ◌+◌, ◌<◌, ◌≤◌, ◌⊎◌, inl, inr, ⊎_elim, List, [], ◌∷◌, length, Bool, true, false, refl, subst, arith}
use Rattle.std.specs.List.{AllByRecursion, AllZip}
use Rattle.redo_core.specs.Sets.{IsPart, cuts}
use Rattle.redo_core.specs.CompleteEpoch.{HasCutsTo}
use Rattle.redo_core.specs.Linked.{IsLinked}
use Rattle.redo_core.specs.Linked.Linked.{start, next}
use Rattle.redo_core.specs.declared.facts.Fact.{Fact}
use Rattle.log_theorems.specs.Overlap.{IsAtOrAbove, chosen_count, union_of}
use Rattle.redo_core.proofs.Members.{none_in}
use Rattle.redo_core.proofs.Numbers.{greatest_le}
use Rattle.redo_core.proofs.FactParts.{part_records}
use Rattle.redo_core.proofs.CompleteEpochs.{has_cuts}
use Rattle.log_theorems.proofs.Log.{IsLog}
use Rattle.log_theorems.proofs.Views.{alive_up, alive_down, epoch_le}
use Rattle.log_theorems.proofs.Fronts.{front_exists}
use Rattle.log_theorems.proofs.Union.{left, right, both}

-- in one view more facts link more
pub linked_more : {roster : ℕ} (log F U : List Fact) → IsLog roster log → IsPart F U → IsPart U log → (k : ℕ) → HasCutsTo (cuts F) k → (n : ℕ) → IsLinked F k n
    → IsLinked U k n
linked_more log F U l p q k has n start = start
linked_more log F U l p q k has n (next r h a b linked) =
    let up = alive_up log F l (λ x y. q x (p x y)) k r.epoch r.number has a in
    next r (part_records F U p r h) (alive_down log U q k r.epoch r.number up) b (linked_more log F U l p q k has r.back linked)

-- what is at or above (k, n) stays so in a larger part
pub stays_above : {roster : ℕ} (log F U : List Fact) (k n : ℕ) → IsLog roster log → IsPart F U → IsPart U log → IsAtOrAbove roster k n F
    → IsAtOrAbove roster k n U
stays_above {roster} log F U k n l p q a =
    let f = a.0 in let front = a.1 in
    let u = front_exists roster U (λ r h. (l.backs r (part_records U log q r h)).1) in
    let le : a.0.epoch ≤ u.0.epoch = epoch_le F U p a.0.epoch u.0.epoch a.1.epoch u.1.epoch in (
      u.0,
      u.1,
      ⊎_elim
          (λ (lt : k < a.0.epoch). inl (omega arith))
          (λ (s : (k ≡ a.0.epoch) × (n ≤ a.0.complete)).
          let e : k ≡ a.0.epoch = s.0 in let m : n ≤ a.0.complete = s.1 in
          ⊎_elim
          (λ (lt : a.0.epoch < u.0.epoch). inl (omega arith))
          (λ (same : a.0.epoch ≡ u.0.epoch).
          let c : a.0.complete ≤ u.0.complete =
          greatest_le (IsLinked F a.0.epoch) (IsLinked U u.0.epoch)
          (λ i h. subst (λ x. IsLinked U x i) same (linked_more log F U l p q a.0.epoch (has_cuts (cuts F) a.0.epoch a.1.epoch) i h))
          a.0.complete u.0.complete a.1.complete u.1.complete in
          inr (omega arith, omega arith))
          (let t : (a.0.epoch < u.0.epoch) ⊎ (a.0.epoch ≡ u.0.epoch) = grind arith in t))
          a.2,
    )

pub union_part : (log : List Fact) (chosen : List Bool) (parts : List (List Fact)) → AllByRecursion (λ part. IsPart part log) parts
    → IsPart (union_of chosen parts) log
union_part log [] parts all x h = absurd (none_in x h)
union_part log (b ∷ bs) [] all x h = absurd (none_in x h)
union_part log (true ∷ bs) (part ∷ parts) all x h = both part (union_of bs parts) log all.0 (union_part log bs parts all.1) x h
union_part log (false ∷ bs) (part ∷ parts) all x h = union_part log bs parts all.1 x h

-- some part is reached and chosen
pub shared : {roster : ℕ} (k n : ℕ) (parts : List (List Fact)) (reached chosen : List Bool)
    → AllZip (λ b part. b ≡ true → IsAtOrAbove roster k n part) reached parts → length chosen ≡ length parts → length parts < chosen_count reached + chosen_count chosen
    → (part : List Fact) × IsAtOrAbove roster k n part × IsPart part (union_of chosen parts)
shared k n [] [] [] z e lt = absurd (omega arith)
shared k n [] [] (c ∷ cs) z e lt = absurd (omega arith)
shared k n [] (r ∷ rs) chosen z e lt = elim z [ ]
shared k n (p ∷ ps) [] chosen z e lt = elim z [ ]
shared k n (p ∷ ps) (r ∷ rs) [] z e lt = absurd (omega arith)
shared k n (p ∷ ps) (true ∷ rs) (true ∷ cs) z e lt = (p, z.0 refl, left p (union_of cs ps))
shared k n (p ∷ ps) (true ∷ rs) (false ∷ cs) z e lt = shared k n ps rs cs z.1 (omega arith) (omega arith)
shared k n (p ∷ ps) (false ∷ rs) (true ∷ cs) z e lt = let s = shared k n ps rs cs z.1 (omega arith) (omega arith) in
    (s.0, s.1, λ x h. right p (union_of cs ps) x (s.2 x h))
shared k n (p ∷ ps) (false ∷ rs) (false ∷ cs) z e lt = shared k n ps rs cs z.1 (omega arith) (omega arith)

pub overlap_law : {roster : ℕ} (log : List Fact) (parts : List (List Fact)) (reached chosen : List Bool) (k n : ℕ) → IsLog roster log
    → AllByRecursion (λ part. IsPart part log) parts → AllZip (λ b part. b ≡ true → IsAtOrAbove roster k n part) reached parts → length chosen ≡ length parts
    → length parts < chosen_count reached + chosen_count chosen → IsAtOrAbove roster k n (union_of chosen parts)
overlap_law log parts reached chosen k n l all z e lt =
    let s = shared k n parts reached chosen z e lt in
    stays_above log s.0 (union_of chosen parts) k n l s.2 (union_part log chosen parts all) s.1
