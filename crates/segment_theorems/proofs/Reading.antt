-- A state's links and pages are those of the facts that it means.
use Rattle.std.proofs.Common.{◌≡◌, ℕ, ◌<◌, ◌≤◌, ◌⊎◌, ◌↔◌, inl, inr, ⊎_elim, List, ◌++◌, sym, ap, ◌∙◌, subst, arith}
use Rattle.std.specs.List.{Contains}
use Rattle.std.proofs.lemmas.List.Elements.{Contains-append_left, Contains-append_right, Contains-append_cases}
use Rattle.redo_core.specs.Data.{RecordData}
use Rattle.redo_core.specs.Sets.{IsPart, SameSet, records, cuts}
use Rattle.redo_core.specs.Order.{Lists}
use Rattle.redo_core.specs.Writing.{zeros}
use Rattle.redo_core.specs.CompleteEpoch.{HasCutsTo}
use Rattle.redo_core.specs.Standing.{IsAlive}
use Rattle.redo_core.specs.Linked.{Linked, IsLinked, IsLinkedRecord}
use Rattle.redo_core.specs.Position.{Position}
use Rattle.redo_core.specs.PageAt.{IsPageAt}
use Rattle.redo_core.specs.Order.{BeforeByNumber}
use Rattle.redo_core.specs.Writing.{after_records}
use Rattle.redo_core.specs.Linked.Linked.{start, next}
use Rattle.redo_core.specs.declared.facts.Fact.{Fact}
use Rattle.redo_core.proofs.AfterRecords.{after_append}
use Rattle.redo_core.proofs.Numbers.{at_greatest}
use Rattle.log_theorems.proofs.Deciding.{settled_lt, in_order}
use Rattle.redo_core.proofs.FactParts.{part_records, part_cuts}
use Rattle.redo_core.proofs.Listing.{rising_append}
use Rattle.redo_core.proofs.CompleteEpochs.{has_cuts}
use Rattle.log_theorems.proofs.Log.{IsLog, alive_within}
use Rattle.log_theorems.proofs.Views.{alive_up, alone, alive_then, prefix_law}
use Rattle.log_theorems.proofs.Meanings.{lists_as, nat_order}
use Rattle.log_theorems.proofs.Fronts.{page_unique}
use Rattle.segment_theorems.specs.State.{State, version_of, image_of}
use Rattle.segment_theorems.specs.Means.{MeansAt, IsInImage}
use Rattle.segment_theorems.specs.Shows.{Shows, IsApplied}

abbrev pub OfPage : List Fact → ℕ → ℕ → ℕ → ℕ → RecordData → Type 0
OfPage F k g v q r = IsLinkedRecord F k r × (r.page ≡ g) × (v < r.number) × (r.number ≤ q)

-- a page at a point, and then the page's further records, are the page at a later point
pub page_from : (F : List Fact) (k g v q : ℕ) (image : List ℕ) (us : List RecordData) → v ≤ q → IsPageAt F k g v image
    → Lists BeforeByNumber (OfPage F k g v q) us → IsPageAt F k g q (after_records image us)
page_from F k g v q image us le p l = record {
  written = p.written ++ us;
  lists = record {
    rising = rising_append BeforeByNumber p.written us p.lists.rising l.rising
        (λ x y hx hy. let a : x.number ≤ v = ((p.lists.members x).0 hx).2 in let b : v < y.number = ((l.members y).0 hy).2 in omega arith);
    members = λ r. (
      λ h. ⊎_elim
          (λ (u : Contains p.written r). let t = (p.lists.members r).0 u in (t.0, t.1, let a : r.number ≤ v = t.2 in omega arith))
          (λ (u : Contains us r). let t = (l.members r).0 u in (t.0, t.1, t.3))
          (Contains-append_cases p.written us r h),
      λ h. ⊎_elim
          (λ (a : r.number ≤ v). Contains-append_left p.written us r ((p.lists.members r).1 (h.0, h.1, a)))
          (λ (a : v < r.number). Contains-append_right p.written us r ((l.members r).1 (h.0, h.1, a, h.2)))
          (let t : (r.number ≤ v) ⊎ (v < r.number) = grind arith in t),
    );
  };
  result = ap (λ i. after_records i us) p.result ∙ sym (after_append zeros p.written us);
}

-- standings in the state are those in the facts

pub alive_in_facts : {roster : ℕ} (log F : List Fact) (f : Position) (s : State) → MeansAt roster log F f s → (e n : ℕ)
    → IsAlive s.book.cuts s.book.complete e n ↔ IsAlive (cuts F) f.epoch e n
alive_in_facts log F f s m e n = (
  λ a. subst (λ k. IsAlive (cuts F) k e n) m.epoch (alive_within (cuts F) s.book.cuts (λ c h. (m.book.same_cuts c).1 h) s.book.complete e n a),
  λ a. alive_within s.book.cuts (cuts F) (λ c h. (m.book.same_cuts c).0 h) s.book.complete e n (subst (λ k. IsAlive (cuts F) k e n) (sym m.epoch) a),
)

-- a linked LSN below a record is at most the record's backlink
linked_at_most_back : {roster : ℕ} (log F : List Fact) → IsLog roster log → IsPart F log → (k : ℕ) → HasCutsTo (cuts F) k → (r : RecordData)
    → Contains (records F) r → IsAlive (cuts F) k r.epoch r.number → (n : ℕ) → IsLinked F k n → n < r.number → n ≤ r.back
linked_at_most_back log F l p k has r hr ar n start lt = omega arith
linked_at_most_back log F l p k has r hr ar n (next s hs as' b linked) lt =
    let hasl : HasCutsTo (cuts log) k = λ e i u. let c = has e i u in (c.0, part_cuts F log p c.0 c.1, c.2) in
    let r' = part_records F log p r hr in let s' = part_records F log p s hs in
    l.last r s r' s' (alive_then log l k hasl r s (alive_up log F l p k r.epoch r.number has ar) (alive_up log F l p k s.epoch s.number has as') lt) lt

links_up : {roster : ℕ} (log F : List Fact) (f : Position) (s : State) → IsLog roster log → MeansAt roster log F f s → (n : ℕ) → IsLinked F f.epoch n
    → s.base ≤ n → Linked s.book.cuts s.held s.book.complete s.base n
links_up log F f s l m n start le = let e : s.base ≡ 0 = omega arith in subst (Linked s.book.cuts s.held s.book.complete s.base) e start
links_up log F f s l m n (next r h a b linked) le =
    ⊎_elim
    (λ (e : s.base ≡ r.number). subst (Linked s.book.cuts s.held s.book.complete s.base) e start)
    (λ (lt : s.base < r.number).
    let has = has_cuts (cuts F) f.epoch m.position.epoch in
    let back : s.base ≤ r.back = linked_at_most_back log F l m.part f.epoch has r h a s.base m.base.0 lt in
    let held : Contains s.held r = ⊎_elim (λ (u : Contains s.held r). u) (λ (u : IsInImage s r). let v : r.number ≤ s.base = u.1 in absurd (omega arith))
    (m.kept r h (inr a)) in
    next r held ((alive_in_facts log F f s m r.epoch r.number).1 a) lt (links_up log F f s l m r.back linked back))
    (let t : (s.base ≡ r.number) ⊎ (s.base < r.number) = grind arith in t)

links_down : {roster : ℕ} (log F : List Fact) (f : Position) (s : State) → MeansAt roster log F f s → (n : ℕ)
    → Linked s.book.cuts s.held s.book.complete s.base n → IsLinked F f.epoch n × (s.base ≤ n)
links_down log F f s m n start = (m.base.0, omega arith)
links_down log F f s m n (next r h a b linked) =
    let a' : IsAlive (cuts F) f.epoch r.epoch r.number = (alive_in_facts log F f s m r.epoch r.number).0 a in
    (next r (m.of_facts r h (inr a')) a' (omega arith) (links_down log F f s m r.back linked).0, omega arith)

pub links_law : {roster : ℕ} (log F : List Fact) (f : Position) (s : State) (n : ℕ) → IsLog roster log → MeansAt roster log F f s
    → Linked s.book.cuts s.held s.book.complete s.base n ↔ (IsLinked F f.epoch n × (s.base ≤ n))
links_law log F f s n l m = (links_down log F f s m n, λ h. links_up log F f s l m n h.0 h.1)

-- what is stored of a page is what the facts have above its version
pub held_of : {roster : ℕ} (log F : List Fact) (f : Position) (s : State) → IsLog roster log → MeansAt roster log F f s → (g q : ℕ) → q ≤ f.complete
    → (r : RecordData) → IsApplied s g q r ↔ OfPage F f.epoch g (version_of s.store g) q r
held_of log F f s l m g q le r = (
  λ h.
      let a = (alive_in_facts log F f s m r.epoch r.number).0 h.1 in
      let has = has_cuts (cuts F) f.epoch m.position.epoch in
      let hl = m.of_log r h.0 in
      let al = alive_up log F l m.part f.epoch r.epoch r.number has a in
      let top : IsLinked F f.epoch f.complete = at_greatest (IsLinked F f.epoch) start f.complete m.position.complete in
      let small : r.number ≤ q = h.4 in
      ((prefix_law log F f f.complete r l m.part m.position top (omega arith)).1 (hl, al), h.2, h.3, h.4),
  λ h.
      let held : Contains s.held r = ⊎_elim (λ (u : Contains s.held r). u)
      (λ (u : IsInImage s r).
      let v : r.number ≤ version_of s.store g = subst (λ x. r.number ≤ version_of s.store x) h.1 u.2 in
      let w : version_of s.store g < r.number = h.2 in absurd (omega arith))
      (m.kept r h.0.among (inr h.0.alive)) in
      (held, (alive_in_facts log F f s m r.epoch r.number).1 h.0.alive, h.1, h.2, h.3),
)

-- the page's records above a version, in order
further : {roster : ℕ} (log F : List Fact) → IsLog roster log → IsPart F log → (k : ℕ) → HasCutsTo (cuts F) k → (g v q : ℕ) (image : List ℕ)
    → IsPageAt F k g q image → (us : List RecordData) × Lists BeforeByNumber (OfPage F k g v q) us
further log F l p k has g v q image page =
    let hasl : HasCutsTo (cuts log) k = λ e i u. let c = has e i u in (c.0, part_cuts F log p c.0 c.1, c.2) in
    let s = in_order BeforeByNumber (IsLinkedRecord F k) (λ x y z a b. omega arith)
    (λ x y a b. ⊎_elim
    (λ (lt : x.number < y.number). inl lt)
    (λ t. ⊎_elim
    (λ (e : x.number ≡ y.number). inr (inl (alone log l k hasl x y (part_records F log p x a.among) (part_records F log p y b.among)
    (alive_up log F l p k x.epoch x.number has a.alive) (alive_up log F l p k y.epoch y.number has b.alive) e)))
    (λ (gt : y.number < x.number). inr (inr gt)) t)
    (nat_order x.number y.number))
    (λ r. v < r.number) (λ r. settled_lt v r.number) page.written (λ r h lt. ((page.lists.members r).0 h).0) in (
      s.0,
      lists_as BeforeByNumber (λ r. Contains page.written r × (v < r.number)) (OfPage F k g v q)
          (λ r. (λ h. let t = (page.lists.members r).0 h.0 in (t.0, t.1, h.1, t.2), λ h. ((page.lists.members r).1 (h.0, h.1, h.3), h.2)))
          s.0 s.1,
    )

shows_page : {roster : ℕ} (log F : List Fact) (f : Position) (s : State) (g q : ℕ) (image : List ℕ) → IsLog roster log → MeansAt roster log F f s
    → version_of s.store g ≤ q → q ≤ f.complete → IsPageAt F f.epoch g q image → Shows s g q image
shows_page log F f s g q image l m le to p =
    let us = further log F l m.part f.epoch (has_cuts (cuts F) f.epoch m.position.epoch) g (version_of s.store g) q image p in
    let one : SameSet F F = λ x. (λ h. h, λ h. h) in
    record {
      written = us.0;
      lists = lists_as BeforeByNumber (OfPage F f.epoch g (version_of s.store g) q) (IsApplied s g q)
          (λ r. let t = held_of log F f s l m g q to r in (t.1, t.0)) us.0 us.1;
      result = page_unique F F one f.epoch g q image (after_records (image_of s.store g) us.0) p
          (page_from F f.epoch g (version_of s.store g) q (image_of s.store g) us.0 le (m.images g) us.1);
    }

pub pages_law : {roster : ℕ} (log F : List Fact) (f : Position) (s : State) (g q : ℕ) (image : List ℕ) → IsLog roster log → MeansAt roster log F f s
    → f.anchor ≤ q → q ≤ f.complete → Shows s g q image ↔ IsPageAt F f.epoch g q image
pages_law log F f s g q image l m from to =
    let low : version_of s.store g ≤ f.anchor = m.versions g in (
      λ h. subst (IsPageAt F f.epoch g q) (sym h.result)
          (page_from F f.epoch g (version_of s.store g) q (image_of s.store g) h.written (omega arith) (m.images g)
          (lists_as BeforeByNumber (IsApplied s g q) (OfPage F f.epoch g (version_of s.store g) q) (held_of log F f s l m g q to) h.written h.lists)),
      shows_page log F f s g q image l m (omega arith) to,
    )
