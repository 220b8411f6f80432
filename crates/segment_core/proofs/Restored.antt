-- A segment that is put together from its parts is made of them.
use Rattle.std.proofs.Common.{◌≡◌, ℕ, ◌⊎◌, ◌↔◌, inl, inr, ⊎_elim, List, [], ◌∷◌, refl, sym, ◌∙◌, subst, arith, max, rules}
use Rattle.std.specs.List.{Contains}
use Rattle.redo_core.specs.Book.{BookData}
use Rattle.redo_core.specs.Data.{RecordData}
use Rattle.redo_core.proofs.Members.{none_in, here, there, which}
use Rattle.page_base.specs.Adopting.{first_given, Adopts, StoresJust}
use Rattle.segment_theorems.specs.State.{State, Store, state_of, version_of, image_of}
use Rattle.segment_core.specs.Adopting.{AdoptsBase}
use Rattle.segment_core.specs.Restoring.{no_images, IsMadeOf, GainsEach}

-- what was gained
pub gained_all : (rs old new : List RecordData) → GainsEach old rs new → (x : RecordData) → Contains new x ↔ (Contains old x ⊎ Contains rs x)
gained_all [] old new e x = (
  λ h. inl (subst (λ l. Contains l x) e h),
  λ h. ⊎_elim (λ (u : Contains old x). subst (λ l. Contains l x) (sym e) u) (λ (u : Contains [] x). absurd (none_in x u)) h,
)
gained_all (r ∷ rs) old new gains x =
    let rest = gained_all rs gains.0 new gains.2 x in
    let one : Contains gains.0 x ↔ (Contains old x ⊎ (x ≡ r)) = gains.1.members x in (
      λ h. ⊎_elim
          (λ (u : Contains gains.0 x). ⊎_elim (λ (v : Contains old x). inl v) (λ (v : x ≡ r). inr (subst (λ z. Contains (z ∷ rs) x) v (here x rs))) (one.0 u))
          (λ (u : Contains rs x). inr (there r rs x u))
          (rest.0 h),
      λ h. ⊎_elim
          (λ (u : Contains old x). rest.1 (inl (one.1 (inl u))))
          (λ (u : Contains (r ∷ rs) x). ⊎_elim (λ (v : r ≡ x). rest.1 (inl (one.1 (inr (sym v))))) (λ (v : Contains rs x). rest.1 (inr v)) (which r rs x u))
          h,
    )

-- the images of a state without any, after an adoption
given_images : (book : BookData) (held : List RecordData) (base : ℕ) (given : List (ℕ × List ℕ)) (s : State) → (base ≡ 0 → given ≡ [])
    → AdoptsBase (state_of book held 0 no_images) base given s → (page : ℕ) → image_of s.store page ≡ first_given given page
unfolding version_of image_of
given_images book held base given s none adopts page = search rules

made_of : (book : BookData) (held records : List RecordData) (base : ℕ) (given : List (ℕ × List ℕ)) (s : State) → (base ≡ 0 → given ≡ [])
    → GainsEach [] records held → AdoptsBase (state_of book held 0 no_images) base given s → IsMadeOf book records base given s
unfolding version_of
made_of book held records base given s none gains adopts = record {
  book_is = adopts.book;
  held = λ r.
      let all = gained_all records [] held gains r in (
        λ h. ⊎_elim (λ (u : Contains [] r). absurd (none_in r u)) (λ (u : Contains records r). u) (all.0 (subst (λ l. Contains l r) adopts.held h)),
        λ h. subst (λ l. Contains l r) (sym adopts.held) (all.1 (inr h)),
      );
  base_is = adopts.base_is ∙ max_zero base;
  versions = λ page. adopts.store.versions page ∙ max_zero base;
  images = given_images book held base given s none adopts;
}
  where
    max_zero : (n : ℕ) → max 0 n ≡ n
    max_zero n = grind arith

-- a state that is made with its images at the base
pub made_at : (book : BookData) (held records : List RecordData) (base : ℕ) (given : List (ℕ × List ℕ)) (store : Store) → (base ≡ 0 → given ≡ [])
    → GainsEach [] records held → Adopts no_images base given store → StoresJust no_images base given store → IsMadeOf book records base given (state_of book held base store)
made_at book held records base given store none gains adopts listed =
    made_of book held records base given (state_of book held base store) none gains
    record { book = refl; held = refl; base_is = raised base; store = adopts; listed = listed }
  where
    raised : (n : ℕ) → n ≡ max 0 n
    raised n = grind arith
