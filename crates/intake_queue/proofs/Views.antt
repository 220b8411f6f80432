-- What all passes know, after one of them is changed or one more is made.
use Rattle.std.proofs.Common.{◌≡◌, ◌≢◌, ℕ, zero, suc, ◌≤◌, List, [], ◌∷◌, ◌++◌, length, set, Bool, true, false, ◌⊎◌, inl, inr, ⊎_elim, refl, sym, ap, ◌∙◌, arith, true≢false, rules}
use Rattle.std.specs.Prelude.{◌==◌, cond}
use Rattle.std.proofs.lemmas.Bool.{eq-eqb, ne_eqb}
use mathlib.Core.Option.{some, some-injective, some-ne-none}
use mathlib.Core.Logic.{dite}
use native.Mathlib.Decide.{ℕ_discrete}
use lib.ListN.{get_elem?}
use Rattle.crossbeam_queue.proofs.Lists.{at_set}
use Rattle.intake_queue.specs.Parcel.{ParcelData}
use Rattle.intake_queue.specs.Known.{KnownData}
use Rattle.intake_queue.specs.Rule.{HeardTrue}

-- a function changed at one number
abbrev pub at_one : {X : Type 0} → (ℕ → X) → ℕ → X → ℕ → X
at_one f n x k = cond (k == n) x (f k)

pub same_or_not : (k n : ℕ) → (k ≡ n) ⊎ (k ≢ n)
same_or_not k n = dite (ℕ_discrete k n) (λ e. inl e) (λ ne. inr ne)

pub at_here : {X : Type 0} (f : ℕ → X) (n : ℕ) (x : X) (k : ℕ) → k ≡ n → at_one f n x k ≡ x
at_here f n x k e = rw (eq-eqb k n e) refl

pub at_else : {X : Type 0} (f : ℕ → X) (n : ℕ) (x : X) (k : ℕ) → k ≢ n → at_one f n x k ≡ f k
at_else f n x k ne = rw (ne_eqb k n ne) refl

pub at_either : {X : Type 0} (f : ℕ → X) (n : ℕ) (x : X) (k : ℕ) → f k ≡ x → at_one f n x k ≡ x
at_either f n x k e = ⊎_elim (λ (s : k ≡ n). at_here f n x k s) (λ (o : k ≢ n). at_else f n x k o ∙ e) (same_or_not k n)

pub alone : (x v : KnownData) (pass : ℕ) → get_elem? (x ∷ []) pass ≡ some v → (pass ≡ 0) × (x ≡ v)
alone x v pass e = search rules

at_end : (l : List KnownData) (a b : KnownData) (j : ℕ) → get_elem? (l ++ a ∷ []) j ≡ some b → (get_elem? l j ≡ some b) ⊎ ((j ≡ length l) × (a ≡ b))
at_end [] a b zero e = inr (refl, some-injective a b e)
at_end [] a b (suc j) e = absurd (some-ne-none b (sym e))
at_end (x ∷ xs) a b zero e = inl e
at_end (x ∷ xs) a b (suc j) e = ⊎_elim (λ h. inl h) (λ h. inr (ap suc h.0, h.1)) (at_end xs a b j e)

-- what holds of each pass of a kind, where `kind` is `sends` or `takes`
abbrev pub OfKind : (KnownData → Bool) → (ℕ → KnownData → Type 0) → List KnownData → Type 0
OfKind kind P views = (j : ℕ) (u : KnownData) → get_elem? views j ≡ some u → kind u ≡ true → P j u

pub kind_set : (kind : KnownData → Bool) (P : ℕ → KnownData → Type 0) (views : List KnownData) (port : ℕ) (w : KnownData) → (kind w ≡ true → P port w)
    → ((j : ℕ) (u : KnownData) → j ≢ port → get_elem? views j ≡ some u → kind u ≡ true → P j u) → OfKind kind P (set views port w)
kind_set kind P views port w here else j u e is = search (rules, at_set)

pub kind_more : (kind : KnownData → Bool) (P : ℕ → KnownData → Type 0) (views : List KnownData) (w : KnownData) → (kind w ≡ true → P (length views) w)
    → OfKind kind P views → OfKind kind P (views ++ w ∷ [])
kind_more kind P views w last all j u e is = search (rules, at_end)

-- no pass of that kind
pub not_of_kind : {P : Type 0} (b : Bool) → b ≡ false → b ≡ true → P
not_of_kind b is_false is_true = absurd (true≢false (sym is_true ∙ is_false))

-- what holds of each pass
abbrev pub OfEach : (KnownData → Type 0) → List KnownData → Type 0
OfEach P views = (j : ℕ) (u : KnownData) → get_elem? views j ≡ some u → P u

pub each_set : (P : KnownData → Type 0) (views : List KnownData) (port : ℕ) (w : KnownData) → P w → OfEach P views → OfEach P (set views port w)
each_set P views port w here all j u e = search (rules, at_set)

pub each_more : (P : KnownData → Type 0) (views : List KnownData) (w : KnownData) → P w → OfEach P views → OfEach P (views ++ w ∷ [])
each_more P views w last all j u e = search (rules, at_end)

-- what was heard stays true where more is accepted, or more is taken
pub still_true : (accepted accepted' : ℕ → List ParcelData) (taken taken' : List ParcelData) → ((p : ℕ) → length (accepted p) ≤ length (accepted' p))
    → length taken ≤ length taken' → (v : KnownData) → HeardTrue accepted taken v → HeardTrue accepted' taken' v
still_true accepted accepted' taken taken' longer more v h = (λ p count c. omega (arith, h.0 p count c, longer p), omega (arith, h.1, more))

pub nothing_heard : (accepted : ℕ → List ParcelData) (taken : List ParcelData) (v : KnownData) → v.accepted_counts ≡ [] → v.taken_count ≡ 0
    → HeardTrue accepted taken v
nothing_heard accepted taken v no_counts none = search rules
