-- Whether two records are one.
use Rattle.std.proofs.Common.{◌≡◌, Bool, List, [], ◌∷◌, inl, inr, refl, ap, rules}
use Rattle.redo_core.specs.Data.{RecordData}
use Rattle.redo_core.specs.Writes.{WriteData}
use Rattle.redo_core.specs.declared.patches.Patch.{Patch}
use Rattle.redo_core.specs.declared.patches.Patch.TheVariants.{Bytes, Fill}
use Rattle.log_theorems.proofs.Deciding.{Settled, settled_eq, settled_and, settled_by}

settled_bool : (a b : Bool) → Settled (a ≡ b)
settled_bool a b = search rules

settled_list : {X : Type 0} → ((x y : X) → Settled (x ≡ y)) → (xs ys : List X) → Settled (xs ≡ ys)
settled_list test [] [] = inl refl
settled_list test [] (y ∷ ys) = inr (λ e. cc)
settled_list test (x ∷ xs) [] = inr (λ e. cc)
settled_list test (x ∷ xs) (y ∷ ys) =
    settled_by ((x ≡ y) × (xs ≡ ys)) (x ∷ xs ≡ y ∷ ys) (λ h. let e = h.0 in let f = h.1 in cc) (λ e. (cc, cc))
    (settled_and (x ≡ y) (xs ≡ ys) (test x y) (λ _. settled_list test xs ys))

one_write : (w v : WriteData) → w.offset ≡ v.offset → w.bytes ≡ v.bytes → w ≡ v
one_write w v e f = search rules

settled_write : (w v : WriteData) → Settled (w ≡ v)
settled_write w v =
    settled_by ((w.offset ≡ v.offset) × (w.bytes ≡ v.bytes)) (w ≡ v) (λ h. one_write w v h.0 h.1)
    (λ e. (ap (λ (x : WriteData). x.offset) e, ap (λ (x : WriteData). x.bytes) e))
    (settled_and _ _ (settled_eq w.offset v.offset) (λ _. settled_list settled_eq w.bytes v.bytes))

settled_patch : (p q : Patch) → Settled (p ≡ q)
settled_patch (Bytes w) (Bytes v) = settled_by (w ≡ v) (Bytes w ≡ Bytes v) (λ e. ap Bytes e) (λ e. cc) (settled_write w v)
settled_patch (Bytes w) (Fill o l b) = inr (λ e. cc)
settled_patch (Fill o l b) (Bytes w) = inr (λ e. cc)
settled_patch (Fill o l b) (Fill p m c) =
    settled_by ((o ≡ p) × ((l ≡ m) × (b ≡ c))) (Fill o l b ≡ Fill p m c) (λ h. let e = h.0 in let f = h.1.0 in let g = h.1.1 in cc) (λ e. (cc, (cc, cc)))
    (settled_and _ _ (settled_eq o p) (λ _. settled_and _ _ (settled_eq l m) (λ _. settled_eq b c)))

-- the parts of two records are one
abbrev HasParts : RecordData → RecordData → Type 0
HasParts r s =
    (r.epoch ≡ s.epoch)
    × ((r.number ≡ s.number) × ((r.back ≡ s.back) × ((r.page ≡ s.page) × ((r.block_back ≡ s.block_back) × ((r.init ≡ s.init) × (r.patches ≡ s.patches))))))

one_record : (r s : RecordData) → HasParts r s → r ≡ s
one_record r s h = search rules

pub settled_record : (r s : RecordData) → Settled (r ≡ s)
settled_record r s =
    settled_by (HasParts r s) (r ≡ s)
    (one_record r s)
    (λ e. (
      ap (λ (x : RecordData). x.epoch) e,
      (
        ap (λ (x : RecordData). x.number) e,
        (
          ap (λ (x : RecordData). x.back) e,
          (
            ap (λ (x : RecordData). x.page) e,
            (ap (λ (x : RecordData). x.block_back) e, (ap (λ (x : RecordData). x.init) e, ap (λ (x : RecordData). x.patches) e)),
          ),
        ),
      ),
    ))
    (settled_and _ _ (settled_eq r.epoch s.epoch) (λ _. settled_and _ _ (settled_eq r.number s.number) (λ _. settled_and _ _ (settled_eq r.back s.back)
    (λ _. settled_and _ _ (settled_eq r.page s.page) (λ _. settled_and _ _ (settled_eq r.block_back s.block_back)
    (λ _. settled_and _ _ (settled_bool r.init s.init) (λ _. settled_list settled_patch r.patches s.patches)))))))
