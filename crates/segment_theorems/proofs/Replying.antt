-- A state's reply fills what a summary lacks.
use Rattle.std.proofs.Common.{◌≡◌, ◌≢◌, ℕ, ◌<◌, ◌≤◌, ◌⊎◌, inl, inr, ⊎_elim, List, [], ◌∷◌, sym, ◌∙◌, subst, arith}
use Rattle.std.specs.List.{Contains}
use Rattle.redo_core.specs.Data.{RecordData}
use Rattle.redo_core.specs.Sets.{IsPart, records, cuts}
use Rattle.redo_core.specs.Order.{Lists, BeforeByNumber}
use Rattle.redo_core.specs.Writing.{zeros, after_records}
use Rattle.redo_core.specs.Standing.{IsAlive, IsWaiting}
use Rattle.redo_core.specs.Linked.{IsLinked, IsLinkedRecord}
use Rattle.redo_core.specs.Linked.Linked.{start}
use Rattle.redo_core.specs.Position.{Position}
use Rattle.redo_core.specs.PageAt.{IsPageAt}
use Rattle.redo_core.specs.Meaning.{ImageBefore}
use Rattle.redo_core.specs.declared.facts.Fact.{Fact}
use Rattle.redo_core.proofs.Members.{none_in, here}
use Rattle.redo_core.proofs.FactParts.{part_records}
use Rattle.log_theorems.proofs.Log.{IsLog}
use Rattle.log_theorems.proofs.Views.{anchor_is}
use Rattle.log_theorems.proofs.Meanings.{lists_as}
use Rattle.segment_theorems.specs.State.{State}
use Rattle.segment_theorems.specs.Means.{MeansAt, Matters, IsInImage}
use Rattle.segment_theorems.specs.Shows.{Shows}
use Rattle.segment_theorems.specs.Gossip.{Listing, Delta, IsListed, Fills, IsDeltaFor}
use Rattle.segment_theorems.proofs.Booked.{points_as, waits_as}
use Rattle.segment_theorems.proofs.Reading.{alive_in_facts}
use Rattle.segment_theorems.proofs.Same.{image_as, waiting_as}

-- nothing is written up to 0
pub dry : {roster : ℕ} (log G : List Fact) → IsLog roster log → IsPart G log → (k p : ℕ) (bytes : List ℕ) → IsPageAt G k p 0 bytes → bytes ≡ zeros
dry log G l q k p bytes page = at page.written page.lists page.result
  where
    at : (ws : List RecordData) → Lists BeforeByNumber (λ r. IsLinkedRecord G k r × (r.page ≡ p) × (r.number ≤ 0)) ws → bytes ≡ after_records zeros ws
        → bytes ≡ zeros
    at [] ls e = e
    at (w ∷ ws) ls e = let s = (ls.members w).0 (here w ws) in let a : w.number ≤ 0 = s.2 in let b : 0 < w.number =
        (l.backs w (part_records G log q w s.0.among)).0 in absurd (omega arith)

pub reply_law : {roster : ℕ} (log G : List Fact) (g : Position) (s : State) (summary : Listing) (d : Delta) → IsLog roster log → MeansAt roster log G g s
    → IsDeltaFor g.anchor s summary d → Fills G g summary d
reply_law {roster} log G g s summary d l m r =
    let base_case : ((d.base ≡ 0) × (d.pages ≡ []))
    ⊎ ((d.base ≡ g.anchor) × Lists ImageBefore (λ i. Shows s i.page g.anchor i.bytes × (i.bytes ≢ zeros)) d.pages) =
    ⊎_elim (λ x. inl (x.1, x.2)) (λ x. inr (x.0, x.1)) r.rest in
    record {
      same_cuts = λ c. (λ h. (m.book.same_cuts c).0 ((r.same_cuts c).0 h), λ h. (r.same_cuts c).1 ((m.book.same_cuts c).1 h));
      epoch = r.epoch ∙ m.epoch;
      same_points = r.same_points ∙ points_as m;
      same_waits = λ a. (λ h. (waits_as m a).0 ((r.same_waits a).0 h), λ h. (r.same_waits a).1 ((waits_as m a).1 h));
      base = ⊎_elim
          (λ (x : (d.base ≡ 0) × (d.pages ≡ [])). subst (λ b. IsLinked G g.epoch b × (b ≤ g.anchor)) (sym x.0) (start, omega arith))
          (λ (x : (d.base ≡ g.anchor) × Lists ImageBefore (λ i. Shows s i.page g.anchor i.bytes × (i.bytes ≢ zeros)) d.pages). subst
          (λ b. IsLinked G g.epoch b × (b ≤ g.anchor)) (sym x.0) ((anchor_is G g m.position).0, omega arith))
          base_case;
      pages = ⊎_elim
          (λ (x : (d.base ≡ 0) × (d.pages ≡ [])).
          subst (λ b. Lists ImageBefore (λ i. IsPageAt G g.epoch i.page b i.bytes × (i.bytes ≢ zeros)) d.pages) (sym x.0)
          (subst (Lists ImageBefore (λ i. IsPageAt G g.epoch i.page 0 i.bytes × (i.bytes ≢ zeros))) (sym x.1)
          (record { rising = tt; members = λ i. (λ h. absurd (none_in i h), λ h. absurd (h.1 (dry log G l m.part g.epoch i.page i.bytes h.0))) })))
          (λ (x : (d.base ≡ g.anchor) × Lists ImageBefore (λ i. Shows s i.page g.anchor i.bytes × (i.bytes ≢ zeros)) d.pages).
          subst (λ b. Lists ImageBefore (λ i. IsPageAt G g.epoch i.page b i.bytes × (i.bytes ≢ zeros)) d.pages) (sym x.0)
          (lists_as ImageBefore _ _ (image_as log G g s l m) d.pages x.1))
          base_case;
      of_facts = λ t h. let x = r.of_held t h in m.of_facts t x.0
          (⊎_elim (λ w. inl ((waiting_as m t.epoch).0 w))
          (λ (a : IsAlive s.book.cuts s.book.complete t.epoch t.number). inr ((alive_in_facts log G g s m t.epoch t.number).0 a)) x.1);
      enough = λ t h why. enough_at log G g s summary d l m r t h why;
    }
  where
    enough_at : (log G : List Fact) (g : Position) (s : State) (summary : Listing) (d : Delta) → IsLog roster log → MeansAt roster log G g s
        → IsDeltaFor g.anchor s summary d → (t : RecordData) → Contains (records G) t
        → IsWaiting g.epoch t.epoch ⊎ (IsAlive (cuts G) g.epoch t.epoch t.number × (d.base < t.number) × (summary.anchor < t.number))
        → Contains d.records t ⊎ IsListed summary t
    enough_at log G g s summary d l m r t h why =
        let bs : s.base ≤ g.anchor = m.base.1 in
        let mat : Matters (cuts G) g.epoch t = ⊎_elim (λ (w : g.epoch < t.epoch). inl w)
        (λ (a : IsAlive (cuts G) g.epoch t.epoch t.number × (d.base < t.number) × (summary.anchor < t.number)). inr a.0) why in
        let above : t.number ≤ s.base → t.epoch ≤ g.epoch → (s.base ≤ summary.anchor) ⊎ (d.base ≡ g.anchor) → ⊥ = λ u v w.
        ⊎_elim (λ (x : g.epoch < t.epoch). omega arith)
        (λ (a : IsAlive (cuts G) g.epoch t.epoch t.number × (d.base < t.number) × (summary.anchor < t.number)).
        let y : d.base < t.number = a.1 in let z : summary.anchor < t.number = a.2 in
        ⊎_elim (λ (e : s.base ≤ summary.anchor). omega arith) (λ (e : d.base ≡ g.anchor). omega arith) w)
        why in
        let held : (s.base ≤ summary.anchor) ⊎ (d.base ≡ g.anchor) → Contains s.held t = λ w.
        ⊎_elim (λ (x : Contains s.held t). x) (λ (x : IsInImage s t). absurd (above x.1 (omega (arith, m.epoch, x.0)) w)) (m.kept t h mat) in
        ⊎_elim
        (λ x. x.3 t (
          held (inl x.0),
          ⊎_elim (λ (w : g.epoch < t.epoch). inl ((waiting_as m t.epoch).1 w))
              (λ (a : IsAlive (cuts G) g.epoch t.epoch t.number × (d.base < t.number) × (summary.anchor < t.number)). inr
              ((alive_in_facts log G g s m t.epoch t.number).1 a.0, a.2)) why,
        ))
        (λ x. x.2 t (
          held (inr x.0),
          ⊎_elim (λ (w : g.epoch < t.epoch). inl ((waiting_as m t.epoch).1 w))
              (λ (a : IsAlive (cuts G) g.epoch t.epoch t.number × (d.base < t.number) × (summary.anchor < t.number)). inr
              ((alive_in_facts log G g s m t.epoch t.number).1 a.0, let e : d.base ≡ g.anchor = x.0 in let y : d.base < t.number = a.1 in omega arith)) why,
        ))
        r.rest
