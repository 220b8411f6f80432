-- What one fact more adds to the truncations and advances of a list of facts.
use Rattle.std.proofs.Common.{◌≡◌, ◌⊎◌, ◌↔◌, inl, inr, ⊎_elim, List, [], ◌∷◌, ◌++◌, sym, subst, rules}
use Rattle.std.specs.List.{Contains}
use Rattle.std.proofs.lemmas.List.Elements.{filter_map-append, Contains-append_left, Contains-append_right, Contains-append_cases}
use Rattle.redo_core.specs.Data.{CutData, AdvanceData}
use Rattle.redo_core.specs.Sets.{cuts, advances, as_cut, as_advance}
use Rattle.redo_core.specs.declared.facts.Fact.{Fact}
use Rattle.redo_core.specs.declared.facts.Fact.TheVariants.{Cut, Advance}
use Rattle.redo_core.proofs.Members.{none_in, here, which}

-- a list with more at its end
added : {X : Type 0} (xs ys zs : List X) (x : X) → ys ≡ xs ++ zs → Contains ys x ↔ (Contains xs x ⊎ Contains zs x)
added xs ys zs x e = (
  λ h. Contains-append_cases xs zs x (subst (λ l. Contains l x) e h),
  λ h. subst (λ l. Contains l x) (sym e) (⊎_elim (λ (p : Contains xs x). Contains-append_left xs zs x p)
      (λ (q : Contains zs x). Contains-append_right xs zs x q) h),
)

one_added : {X : Type 0} (xs ys : List X) (y x : X) → ys ≡ xs ++ y ∷ [] → Contains ys x ↔ (Contains xs x ⊎ (x ≡ y))
one_added xs ys y x e = (
  λ h. ⊎_elim (λ (p : Contains xs x). inl p) (λ (q : Contains (y ∷ []) x). ⊎_elim (λ (r : y ≡ x). inr (sym r)) (λ (r : Contains [] x). absurd (none_in x r))
      (which y [] x q)) ((added xs ys (y ∷ []) x e).0 h),
  λ h. (added xs ys (y ∷ []) x e).1 (⊎_elim (λ (p : Contains xs x). inl p) (λ (q : x ≡ y). inr (subst (λ z. Contains (z ∷ []) x) q (here x []))) h),
)

none_added : {X : Type 0} (xs ys : List X) (x : X) → ys ≡ xs ++ [] → Contains ys x ↔ Contains xs x
none_added xs ys x e = search rules

pub cuts_with_cut : (facts : List Fact) (c d : CutData) → Contains (cuts (facts ++ Cut c ∷ [])) d ↔ (Contains (cuts facts) d ⊎ (d ≡ c))
unfolding cuts
cuts_with_cut facts c d = one_added (cuts facts) (cuts (facts ++ Cut c ∷ [])) c d (filter_map-append as_cut facts (Cut c ∷ []))

pub advances_with_cut : (facts : List Fact) (c : CutData) (a : AdvanceData) → Contains (advances (facts ++ Cut c ∷ [])) a ↔ Contains (advances facts) a
unfolding advances
advances_with_cut facts c a = none_added (advances facts) (advances (facts ++ Cut c ∷ [])) a (filter_map-append as_advance facts (Cut c ∷ []))

pub cuts_with_advance : (facts : List Fact) (a : AdvanceData) (d : CutData) → Contains (cuts (facts ++ Advance a ∷ [])) d ↔ Contains (cuts facts) d
unfolding cuts
cuts_with_advance facts a d = none_added (cuts facts) (cuts (facts ++ Advance a ∷ [])) d (filter_map-append as_cut facts (Advance a ∷ []))

pub advances_with_advance : (facts : List Fact) (a b : AdvanceData) → Contains (advances (facts ++ Advance a ∷ [])) b ↔ (Contains (advances facts) b ⊎ (b ≡ a))
unfolding advances
advances_with_advance facts a b = one_added (advances facts) (advances (facts ++ Advance a ∷ [])) a b (filter_map-append as_advance facts (Advance a ∷ []))

pub no_cuts : (d : CutData) → Contains (cuts []) d → ⊥
unfolding cuts
no_cuts d h = none_in d h
