-- Facts of a log have a content.
use Rattle.std.proofs.Common.{◌≡◌, ℕ, ◌<◌, ◌⊎◌, ◌↔◌, ⊎_elim, inl, inr, List, [], ◌∷◌, sym, ◌∙◌, subst, ap}
use Rattle.std.specs.List.{Contains}
use Rattle.redo_core.specs.Data.{RecordData}
use Rattle.redo_core.specs.Sets.{records, cuts}
use Rattle.redo_core.specs.Standing.{IsAlive}
use Rattle.redo_core.specs.Linked.{IsLinked, IsLinkedRecord}
use Rattle.redo_core.specs.declared.facts.Fact.{Fact}
use Rattle.redo_core.proofs.Members.{none_in, here, there, which}
use Rattle.log_theorems.proofs.Deciding.{settled_eq, settled_and}
use Rattle.log_theorems.proofs.Fronts.{settled_alive, settled_linked, epoch_exists}
use Rattle.volume_theorems.specs.Nodes.{Content}
use Rattle.volume_theorems.specs.Contents.{IsCommitPoint, IsContentOf}

-- the numbers of the records that have it
abbrev Numbers : (RecordData → Type 0) → List RecordData → List ℕ → Type 0
Numbers P rs ns = (n : ℕ) → Contains ns n ↔ ((r : RecordData) × Contains rs r × P r × (r.number ≡ n))

numbers_with : (P : RecordData → Type 0) (r : RecordData) (rs : List RecordData) (ns : List ℕ) → P r → Numbers P rs ns → Numbers P (r ∷ rs) (r.number ∷ ns)
numbers_with P r rs ns holds rest n = (
  λ inside. ⊎_elim
      (λ (same : r.number ≡ n). (r, here r rs, holds, same))
      (λ (more : Contains ns n). let x = (rest n).0 more in (x.0, there r rs x.0 x.1, x.2, x.3))
      (which r.number ns n inside),
  λ x. ⊎_elim
      (λ (same : r ≡ x.0). subst (λ (m : ℕ). Contains (r.number ∷ ns) m) (ap (λ (y : RecordData). y.number) same ∙ x.3) (here r.number ns))
      (λ (more : Contains rs x.0). there r.number ns n ((rest n).1 (x.0, more, x.2, x.3)))
      (which r rs x.0 x.1),
)

numbers_without : (P : RecordData → Type 0) (r : RecordData) (rs : List RecordData) (ns : List ℕ) → (P r → ⊥) → Numbers P rs ns → Numbers P (r ∷ rs) ns
numbers_without P r rs ns fails rest n = (
  λ inside. let x = (rest n).0 inside in (x.0, there r rs x.0 x.1, x.2, x.3),
  λ x. ⊎_elim
      (λ (same : r ≡ x.0). absurd (fails (subst P (sym same) x.2)))
      (λ (more : Contains rs x.0). (rest n).1 (x.0, more, x.2, x.3))
      (which r rs x.0 x.1),
)

numbers_of : (P : RecordData → Type 0) → ((r : RecordData) → P r ⊎ (P r → ⊥)) → (rs : List RecordData) → (ns : List ℕ) × Numbers P rs ns
numbers_of P test [] = ([], λ n. (λ inside. absurd (none_in n inside), λ x. absurd (none_in x.0 x.1)))
numbers_of P test (r ∷ rs) =
    let rest = numbers_of P test rs in
    ⊎_elim
    (λ (holds : P r). (r.number ∷ rest.0, numbers_with P r rs rest.0 holds rest.1))
    (λ (fails : P r → ⊥). (rest.0, numbers_without P r rs rest.0 fails rest.1))
    (test r)

-- what a commit point's record has beside being one of the facts
abbrev Commits : List Fact → ℕ → RecordData → Type 0
Commits facts k r = IsAlive (cuts facts) k r.epoch r.number × (IsLinked facts k r.number × (r.page ≡ 0))

points_are : (facts : List Fact) (k : ℕ) (ns : List ℕ) → Numbers (Commits facts k) (records facts) ns → (p : ℕ) → Contains (0 ∷ ns) p ↔ IsCommitPoint facts k p
points_are facts k ns numbers p = (
  λ inside. ⊎_elim
      (λ (zeroth : 0 ≡ p). inl (sym zeroth))
      (λ (more : Contains ns p).
      let x = (numbers p).0 more in inr (x.0, record { among = x.1; alive = x.2.0; linked = x.2.1.0 }, x.2.1.1, x.3))
      (which 0 ns p inside),
  λ is. ⊎_elim
      (λ (zeroth : p ≡ 0). subst (λ (m : ℕ). Contains (0 ∷ ns) m) (sym zeroth) (here 0 ns))
      (λ (x : (r : RecordData) × IsLinkedRecord facts k r × (r.page ≡ 0) × (r.number ≡ p)).
      there 0 ns p ((numbers p).1 (x.0, x.1.among, (x.1.alive, (x.1.linked, x.2)), x.3)))
      is,
)

pub content_exists : (facts : List Fact) → ((r : RecordData) → Contains (records facts) r → r.back < r.number) → (u : Content) × IsContentOf facts u
content_exists facts backs =
    let k = epoch_exists (cuts facts) in
    let ns = numbers_of (Commits facts k.0) (λ r. settled_and _ _ (settled_alive (cuts facts) k.0 r.epoch r.number)
    (λ alive. settled_and _ _ (settled_linked (cuts facts) (records facts) k.0 0 backs r.number) (λ linked. settled_eq r.page 0))) (records facts) in (
      record { epoch = k.0; points = 0 ∷ ns.0; cuts = cuts facts },
      record { epoch = k.1; points = points_are facts k.0 ns.0 ns.1; cuts = λ c. (λ x. x, λ x. x) },
    )
