-- The effective truncations, each the first of its epoch.
use Rattle.std.proofs.Common.{◌≡◌, ⊎_elim, List, [], ◌∷◌, sym, subst, Bool, true, false, cond, not}
use Rattle.std.specs.Prelude.{◌==◌}
use Rattle.std.specs.List.{Contains, filter}
use Rattle.redo_core.specs.Data.{CutData}
use Rattle.redo_core.specs.Sound.{first_cuts}
use Rattle.redo_core.proofs.Members.{none_in, here, there, which}

filtered_at : (p : CutData → Bool) (d : CutData) (ds : List CutData) (c : CutData) (b : Bool) → (Contains (filter p ds) c → Contains ds c)
    → Contains (cond b (d ∷ filter p ds) (filter p ds)) c → Contains (d ∷ ds) c
filtered_at p d ds c true ih h = ⊎_elim (λ (e : d ≡ c). subst (λ x. Contains (x ∷ ds) c) (sym e) (here c ds))
    (λ (q : Contains (filter p ds) c). there d ds c (ih q)) (which d (filter p ds) c h)
filtered_at p d ds c false ih h = there d ds c (ih h)

filtered : (p : CutData → Bool) (cs : List CutData) (c : CutData) → Contains (filter p cs) c → Contains cs c
filtered p [] c h = h
filtered p (d ∷ ds) c h = filtered_at p d ds c (p d) (filtered p ds c) h

pub first_within : (cs : List CutData) (c : CutData) → Contains (first_cuts cs) c → Contains cs c
first_within [] c h = h
first_within (d ∷ ds) c h =
    ⊎_elim (λ (e : d ≡ c). subst (λ x. Contains (x ∷ ds) c) (sym e) (here c ds))
    (λ q. there d ds c (first_within ds c (filtered (λ x. not (x.epoch == d.epoch)) (first_cuts ds) c q)))
    (which d _ c h)

-- where there is a truncation, one is effective
pub some_counts : (cs : List CutData) (c : CutData) → Contains cs c → (d : CutData) × Contains (first_cuts cs) d × Contains cs d
some_counts [] c h = absurd (none_in c h)
some_counts (d ∷ ds) c h = (d, here d _, here d ds)
