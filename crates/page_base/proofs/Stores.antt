-- Which images a store has once one is raised, or where none was stored and none was given.
use Rattle.std.proofs.Common.{◌≡◌, ℕ, ◌<◌, ◌≤◌, ◌⊎◌, ⊎_elim, List, [], ◌∷◌, refl, sym, ap, ◌∙◌, subst, arith}
use Rattle.std.specs.List.{Contains}
use Rattle.redo_core.specs.Store.{Store, StoredImage, version_of, PageBefore}
use Rattle.redo_core.proofs.Members.{none_in, here, rising_unique}
use Rattle.page_base.specs.Raising.{Raises}
use Rattle.page_base.specs.Adopting.{StoresJust}

-- a list without a member is empty
pub empty : {X : Type 0} (xs : List X) → ((x : X) → Contains xs x → ⊥) → xs ≡ []
empty [] none = refl
empty (x ∷ xs) none = absurd (none x (here x xs))

-- no image is stored where none was, and none is given
pub none_adopted : (old : Store) (base : ℕ) (given : List (ℕ × List ℕ)) (new : Store) → StoresJust old base given new → old.images ≡ []
    → given ≡ [] → new.images ≡ []
none_adopted old base given new just is none = empty new.images (λ i h. ⊎_elim
    (λ k. none_in i (subst (λ is. Contains is i) is k))
    (λ k. none_in k.0 (subst (λ gs. Contains gs k.0) none k.1))
    (just i h))

pub none_merged : (old : List StoredImage) (given : List StoredImage) (new : List StoredImage)
    → ((i : StoredImage) → Contains new i → Contains old i ⊎ Contains given i) → old ≡ [] → given ≡ [] → new ≡ []
none_merged old given new listed is none = empty new (λ i h. ⊎_elim
    (λ k. none_in i (subst (λ is. Contains is i) is k))
    (λ k. none_in i (subst (λ is. Contains is i) none k))
    (listed i h))

-- the images are the same, whatever raised the image
pub raised_images : (old one other : Store) (page version : ℕ) (image : List ℕ) → Raises old page version image one
    → Raises old page version image other → one.images ≡ other.images
raised_images old one other page version image r s = ⊎_elim
    (λ (low : version ≤ version_of old page). ap (λ (t : Store). t.images) (r.lower low ∙ sym (s.lower low)))
    (λ (high : version_of old page < version). let a = (r.higher high).stored_as in let b = (s.higher high).stored_as in
    rising_unique PageBefore (λ i j p q. omega (arith, p, q)) one.images other.images a.rising b.rising
    (λ i. (λ h. (b.members i).1 ((a.members i).0 h), λ h. (a.members i).1 ((b.members i).0 h))))
    (split (version_of old page) version)
  where
    split : (v w : ℕ) → (w ≤ v) ⊎ (v < w)
    split v w = grind arith
