-- What takes name, form by form.
use Rattle.std.proofs.Common.{◌≡◌, sym, ap, ◌∙◌, subst}
use Rattle.script_steps.specs.declared.steps.Step.{Step}
use Rattle.script_steps.specs.declared.steps.Step.TheVariants.{Take, Fold, Discard, Front, Read, Join, Same, Covers, Wipe, Ask, Answer, Absorb}
use Rattle.script_steps.specs.Naming.{NamedIs, SameBut}

-- what is named instead is of a kind
pub same_named : {F G : Type 0} (R : F → G → Type 0) (P : G → Type 0) → ((x : F) (y : G) → R x y → P y) → (s : Step F) (t : Step G) → SameBut R s t
    → NamedIs P t
same_named R P f (Take node fact) t h = subst (NamedIs P) (sym h.2) (f fact h.0 h.1)
same_named R P f (Fold node page) t h = subst (NamedIs P) (sym h) tt
same_named R P f (Discard node) t h = subst (NamedIs P) (sym h) tt
same_named R P f (Front node) t h = subst (NamedIs P) (sym h) tt
same_named R P f (Read node page point offset len) t h = subst (NamedIs P) (sym h) tt
same_named R P f (Join node from) t h = subst (NamedIs P) (sym h) tt
same_named R P f (Same node other) t h = subst (NamedIs P) (sym h) tt
same_named R P f (Covers node other) t h = subst (NamedIs P) (sym h) tt
same_named R P f (Wipe node) t h = subst (NamedIs P) (sym h) tt
same_named R P f (Ask node) t h = subst (NamedIs P) (sym h) tt
same_named R P f (Answer node message) t h = subst (NamedIs P) (sym h) tt
same_named R P f (Absorb node message) t h = subst (NamedIs P) (sym h) tt

-- there is one such step, where there is one thing to be named instead
pub same_one : {F G : Type 0} (R : F → G → Type 0) → ((x : F) (y z : G) → R x y → R x z → y ≡ z) → (s : Step F) (t u : Step G) → SameBut R s t → SameBut R s u
    → t ≡ u
same_one R one (Take node fact) t u h k = h.2 ∙ ap (λ y. Take node y) (one fact h.0 k.0 h.1 k.1) ∙ sym k.2
same_one R one (Fold node page) t u h k = h ∙ sym k
same_one R one (Discard node) t u h k = h ∙ sym k
same_one R one (Front node) t u h k = h ∙ sym k
same_one R one (Read node page point offset len) t u h k = h ∙ sym k
same_one R one (Join node from) t u h k = h ∙ sym k
same_one R one (Same node other) t u h k = h ∙ sym k
same_one R one (Covers node other) t u h k = h ∙ sym k
same_one R one (Wipe node) t u h k = h ∙ sym k
same_one R one (Ask node) t u h k = h ∙ sym k
same_one R one (Answer node message) t u h k = h ∙ sym k
same_one R one (Absorb node message) t u h k = h ∙ sym k
