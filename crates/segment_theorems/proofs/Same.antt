-- A state's meaning is that of the facts that it means.
use Rattle.std.proofs.Common.{◌≡◌, ◌≢◌, ℕ, ◌<◌, ◌≤◌, ◌⊎◌, ◌↔◌, inl, inr, ⊎_elim, List, sym, ap, ◌∙◌, subst, arith}
use Rattle.std.specs.List.{Contains}
use Rattle.redo_core.specs.Data.{RecordData}
use Rattle.redo_core.specs.Sets.{SameSet, cuts}
use Rattle.redo_core.specs.Order.{IsGreatest, Lists}
use Rattle.redo_core.specs.Writing.{zeros}
use Rattle.redo_core.specs.Standing.{IsAlive, IsWaiting}
use Rattle.redo_core.specs.Linked.{Linked}
use Rattle.redo_core.specs.Roster.{least}
use Rattle.redo_core.specs.Position.{Position}
use Rattle.redo_core.specs.PageAt.{IsPageAt}
use Rattle.redo_core.specs.Meaning.{Meaning, IsMeaningAt, IsMeaning, IsKept, ImageData, ImageBefore}
use Rattle.redo_core.specs.Order.{CutBefore, AdvanceBefore, RecordBefore}
use Rattle.redo_core.specs.declared.facts.Fact.{Fact}
use Rattle.log_theorems.proofs.Log.{IsLog}
use Rattle.log_theorems.proofs.Views.{anchor_is}
use Rattle.log_theorems.proofs.Fronts.{front_unique}
use Rattle.log_theorems.proofs.Meanings.{lists_as}
use Rattle.segment_theorems.specs.State.{State, min_of}
use Rattle.segment_theorems.specs.Means.{MeansAt, Means, Matters, IsInImage}
use Rattle.segment_theorems.specs.Shows.{Shows}
use Rattle.segment_theorems.specs.HasMeaning.{IsKeptBy, HasMeaning}
use Rattle.segment_theorems.proofs.Booked.{points_as, waits_as, epoch_of}
use Rattle.segment_theorems.proofs.Reading.{alive_in_facts, links_law, pages_law}

-- the state's minimum is the facts'
pub same_min : {roster : ℕ} (log F : List Fact) (f : Position) (s : State) → MeansAt roster log F f s → min_of s ≡ f.min
same_min log F f s m = ap least (points_as m) ∙ sym m.position.min

-- the state's anchor is the facts'
pub anchor_as : {roster : ℕ} (log F : List Fact) (f : Position) (s : State) → IsLog roster log → MeansAt roster log F f s → (a : ℕ)
    → IsGreatest (λ n. Linked s.book.cuts s.held s.book.complete s.base n × (n ≤ min_of s)) a → a ≡ f.anchor
anchor_as log F f s l m a h =
    let am = anchor_is F f m.position in
    let le : f.anchor ≤ f.min = am.1 in let x : min_of s ≡ f.min = same_min log F f s m in
    let own : Linked s.book.cuts s.held s.book.complete s.base f.anchor = (links_law log F f s f.anchor l m).1 (am.0, m.base.1) in
    let up : f.anchor ≤ a = h.1 f.anchor (own, omega arith) in
    ⊎_elim
    (λ (z : a ≡ 0). omega arith)
    (λ (p : Linked s.book.cuts s.held s.book.complete s.base a × (a ≤ min_of s)). let b : a ≤ f.anchor = m.position.anchor.1 a
    (((links_law log F f s a l m).0 p.0).0, let c : a ≤ min_of s = p.1 in omega arith) in omega arith)
    h.0

pub anchor_of : {roster : ℕ} (log F : List Fact) (f : Position) (s : State) → IsLog roster log → MeansAt roster log F f s
    → IsGreatest (λ n. Linked s.book.cuts s.held s.book.complete s.base n × (n ≤ min_of s)) f.anchor
anchor_of log F f s l m =
    let am = anchor_is F f m.position in
    let le : f.anchor ≤ f.min = am.1 in let x : min_of s ≡ f.min = same_min log F f s m in (
      inr ((links_law log F f s f.anchor l m).1 (am.0, m.base.1), omega arith),
      λ n h. m.position.anchor.1 n (((links_law log F f s n l m).0 h.0).0, let c : n ≤ min_of s = h.1 in omega arith),
    )

-- what waits for the state waits for the facts
pub waiting_as : {roster : ℕ} {log F : List Fact} {f : Position} {s : State} → MeansAt roster log F f s → (epoch : ℕ)
    → IsWaiting s.book.complete epoch ↔ IsWaiting f.epoch epoch
waiting_as {roster} {log} {F} {f} {s} m epoch = (λ w. omega (arith, m.epoch, w), λ w. omega (arith, m.epoch, w))

pub kept_as : {roster : ℕ} (log F : List Fact) (f : Position) (s : State) → MeansAt roster log F f s → (r : RecordData) → IsKeptBy s f.anchor r ↔ IsKept F f r
kept_as log F f s m r = (
  λ h.
      let b : IsWaiting f.epoch r.epoch ⊎ (IsAlive (cuts F) f.epoch r.epoch r.number × (f.anchor < r.number)) =
      ⊎_elim (λ w. inl ((waiting_as m r.epoch).0 w))
      (λ (a : IsAlive s.book.cuts s.book.complete r.epoch r.number × (f.anchor < r.number)). inr ((alive_in_facts log F f s m r.epoch r.number).0 a.0, a.1))
      h.1 in
      let mat : Matters (cuts F) f.epoch r = ⊎_elim (λ (w : f.epoch < r.epoch). inl w)
      (λ (a : IsAlive (cuts F) f.epoch r.epoch r.number × (f.anchor < r.number)). inr a.0) b in
      (m.of_facts r h.0 mat, b),
  λ h.
      ⊎_elim
      (λ (w : f.epoch < r.epoch). (
        ⊎_elim (λ (x : Contains s.held r). x) (λ (x : IsInImage s r). absurd (omega (arith, m.epoch, x.0, w)))
            (m.kept r h.0 (inl w)),
        inl ((waiting_as m r.epoch).1 w),
      ))
      (λ (a : IsAlive (cuts F) f.epoch r.epoch r.number × (f.anchor < r.number)). (
        ⊎_elim (λ (x : Contains s.held r). x) (λ (x : IsInImage s r). let y : r.number ≤ s.base = x.1 in let z : s.base ≤ f.anchor = m.base.1 in
            let v : f.anchor < r.number = a.1 in absurd (omega arith)) (m.kept r h.0 (inr a.0)),
        inr ((alive_in_facts log F f s m r.epoch r.number).1 a.0, a.1),
      ))
      h.1,
)

pub image_as : {roster : ℕ} (log F : List Fact) (f : Position) (s : State) → IsLog roster log → MeansAt roster log F f s → (i : ImageData)
    → (Shows s i.page f.anchor i.bytes × (i.bytes ≢ zeros)) ↔ (IsPageAt F f.epoch i.page f.anchor i.bytes × (i.bytes ≢ zeros))
image_as log F f s l m i =
    let top : f.anchor ≤ f.complete = m.position.complete.1 f.anchor (anchor_is F f m.position).0 in
    let t = pages_law log F f s i.page f.anchor i.bytes l m (omega arith) top in
    (λ h. (t.0 h.0, h.1), λ h. (t.1 h.0, h.1))

pub own_meaning : {roster : ℕ} (log F : List Fact) (f : Position) (s : State) (m : Meaning) → IsLog roster log → MeansAt roster log F f s
    → HasMeaning s m ↔ IsMeaningAt roster F f m
own_meaning log F f s m l a = (
  λ h.
      let e : m.anchor ≡ f.anchor = anchor_as log F f s l a m.anchor h.anchor in
      let pages : Lists ImageBefore (λ i. Shows s i.page f.anchor i.bytes × (i.bytes ≢ zeros)) m.pages = subst
      (λ n. Lists ImageBefore (λ i. Shows s i.page n i.bytes × (i.bytes ≢ zeros)) m.pages) e h.pages in
      let kept : Lists RecordBefore (IsKeptBy s f.anchor) m.kept = subst (λ n. Lists RecordBefore (IsKeptBy s n) m.kept) e h.kept in
      record {
        position = a.position;
        cuts = lists_as CutBefore (Contains s.book.cuts) (Contains (cuts F)) a.book.same_cuts m.cuts h.same_cuts;
        points = h.same_points ∙ points_as a;
        waits = lists_as AdvanceBefore (Contains s.book.waits) _ (waits_as a) m.waits h.same_waits;
        anchor = e;
        pages = lists_as ImageBefore _ _ (image_as log F f s l a) m.pages pages;
        kept = lists_as RecordBefore _ _ (kept_as log F f s a) m.kept kept;
      },
  λ h.
      let e : f.anchor ≡ m.anchor = sym h.anchor in
      record {
        epoch = epoch_of a;
        same_cuts = lists_as CutBefore (Contains (cuts F)) (Contains s.book.cuts) (λ c. ((a.book.same_cuts c).1, (a.book.same_cuts c).0)) m.cuts h.cuts;
        same_points = h.points ∙ sym (points_as a);
        same_waits = lists_as AdvanceBefore _ (Contains s.book.waits) (λ c. ((waits_as a c).1, (waits_as a c).0)) m.waits h.waits;
        anchor = subst (IsGreatest (λ n. Linked s.book.cuts s.held s.book.complete s.base n × (n ≤ min_of s))) e (anchor_of log F f s l a);
        pages = subst (λ n. Lists ImageBefore (λ i. Shows s i.page n i.bytes × (i.bytes ≢ zeros)) m.pages) e
            (lists_as ImageBefore _ _ (λ i. ((image_as log F f s l a i).1, (image_as log F f s l a i).0)) m.pages h.pages);
        kept = subst (λ n. Lists RecordBefore (IsKeptBy s n) m.kept) e
            (lists_as RecordBefore _ _ (λ r. ((kept_as log F f s a r).1, (kept_as log F f s a r).0)) m.kept h.kept);
      },
)

pub meaning_law : {roster : ℕ} (log F : List Fact) (s : State) (m : Meaning) → IsLog roster log → Means roster log F s → HasMeaning s m ↔ IsMeaning roster F m
meaning_law {roster} log F s m l a =
    let f = a.0 in let b = a.1 in
    let one : SameSet F F = λ x. (λ h. h, λ h. h) in (
      λ h. (a.0, (own_meaning log F a.0 s m l b).0 h),
      λ h.
          let e : h.0 ≡ a.0 = front_unique F F one h.0 a.0 h.1.position b.position in
          (own_meaning log F a.0 s m l b).1 (subst (λ x. IsMeaningAt roster F x m) e h.1),
    )
