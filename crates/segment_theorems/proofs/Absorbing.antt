-- What a state and a delta know together means the union.
use Rattle.std.proofs.Common.{◌≡◌, ◌≢◌, ℕ, ◌<◌, ◌≤◌, ◌⊎◌, ◌↔◌, inl, inr, ⊎_elim, List, ◌++◌, refl, sym, ◌∙◌, subst, arith}
use Rattle.std.specs.List.{Contains}
use Rattle.redo_core.specs.Data.{RecordData, AdvanceData}
use Rattle.redo_core.specs.Sets.{IsPart, SameSet, records, cuts, advances}
use Rattle.redo_core.specs.Writing.{zeros}
use Rattle.redo_core.specs.CompleteEpoch.{HasCutsTo}
use Rattle.redo_core.specs.Standing.{IsAlive, IsDead, IsWaiting}
use Rattle.redo_core.specs.Linked.{IsLinked}
use Rattle.redo_core.specs.Position.{Position, IsPosition}
use Rattle.redo_core.specs.PageAt.{IsPageAt}
use Rattle.redo_core.specs.Meaning.{IsKept, ImageData}
use Rattle.redo_core.specs.declared.facts.Fact.{Fact}
use Rattle.redo_core.proofs.FactParts.{part_records, part_cuts}
use Rattle.redo_core.proofs.CompleteEpochs.{has_cuts}
use Rattle.log_theorems.proofs.Log.{IsLog}
use Rattle.log_theorems.proofs.Views.{alive_up, epoch_le, min_at, anchor_is, linked_stays, finality_law, standing_stays}
use Rattle.log_theorems.proofs.Deciding.{settled_le}
use Rattle.log_theorems.proofs.Fronts.{front_exists}
use Rattle.log_theorems.proofs.Meanings.{page_exists, list_eq}
use Rattle.log_theorems.proofs.Alike.{has_below}
use Rattle.log_theorems.proofs.Union.{left, right, both, cut_cases, record_cases, mattered}
use Rattle.redo_core.specs.Joining.{JoinsPoints}
use Rattle.segment_theorems.specs.State.{State, version_of, image_of}
use Rattle.segment_theorems.specs.Means.{MeansAt, Means, Matters, IsInImage}
use Rattle.segment_theorems.specs.Gossip.{Listing, Delta, IsListed, AnswersFor, Fills, HasImage, JoinsDelta}
use Rattle.segment_theorems.proofs.Booked.{epoch_as, readers_at, book_at}
use Rattle.segment_theorems.proofs.Joining.{IsBookOf, page_final, epochs, base_stays, mattered_before, held_there, image_stays, matters_as, in_image_by, book_of, points_joined, waits_joined}

-- what matters in a later view, and is at or below the anchor of a part and of a known epoch later, is among the part's records
among_below : {roster : ℕ} (log F U : List Fact) (f u : Position) → IsLog roster log → IsPart F U → IsPart U log → IsPosition roster F f → IsPosition roster U u
    → (r : RecordData) → Contains (records log) r → IsAlive (cuts U) u.epoch r.epoch r.number → r.number ≤ f.anchor
    → Contains (records F) r × (r.epoch ≤ f.epoch)
among_below {roster} log F U f u l p q front uront r h a le =
    let has = has_cuts (cuts U) u.epoch uront.epoch in
    let hasl : HasCutsTo (cuts log) u.epoch = λ e i v. let c = has e i v in (c.0, part_cuts U log q c.0 c.1, c.2) in
    let pl : IsPart F log = λ x y. q x (p x y) in
    let ke : f.epoch ≤ u.epoch = epoch_le F U p f.epoch u.epoch front.epoch uront.epoch in
    let am : f.anchor ≤ f.min = (anchor_is F f front).1 in
    let al = alive_up log U l q u.epoch r.epoch r.number has a in
    let back : IsAlive (cuts log) f.epoch r.epoch r.number =
    (standing_stays log F l pl f.epoch f.min u.epoch (min_at roster F f front) ke hasl r.epoch r.number (omega arith)).1 al in
    (has_below log F f l pl front r h back le, back.known)

module _ {roster : ℕ} (log F G : List Fact) (f g u : Position) (s s' : State) (summary : Listing) (d : Delta) (l : IsLog roster log)
    (m : MeansAt roster log F f s) (pg : IsPart G log) (gront : IsPosition roster G g) (fills : Fills G g summary d) (ans : AnswersFor F f summary)
    (uront : IsPosition roster (F ++ G) u) (sc : SameSet s'.book.cuts (cuts (F ++ G))) (e : s'.book.complete ≡ u.epoch) (j : JoinsDelta s d s') where
  lf : IsPart F (F ++ G)
  lf = left F G

  rg : IsPart G (F ++ G)
  rg = right F G

  q : IsPart (F ++ G) log
  q = both F G log m.part pg

  bases : (s.base ≤ s'.base) × (d.base ≤ s'.base)
  bases = omega arith

  newer : (p : ℕ) → version_of s.store p ≤ version_of s'.store p
  newer p = omega arith

  to_held : (r : RecordData) → Contains s.held r ⊎ Contains d.records r → Matters (cuts (F ++ G)) u.epoch r → Contains s'.held r ⊎ IsInImage s' r
  to_held r h mat = j.kept r h (matters_as s' (F ++ G) u sc e r mat)

  -- a record of F
  from_f : (r : RecordData) → Contains (records F) r → Matters (cuts (F ++ G)) u.epoch r → Contains s'.held r ⊎ IsInImage s' r
  from_f r x mat = ⊎_elim
      (λ (y : Contains s.held r). to_held r (inl y) mat)
      (λ (y : IsInImage s r). inr (in_image_by s s' r (omega (arith, m.epoch, e, epochs log F (F ++ G) f u s l lf q m uront)) bases.0 (newer r.page) y))
      (m.kept r x (mattered_before log F (F ++ G) f u s l lf q m uront r mat))

  -- a record at or below F's anchor that is alive in the union's view
  low : (r : RecordData) → Contains (records log) r → IsAlive (cuts (F ++ G)) u.epoch r.epoch r.number → r.number ≤ f.anchor
      → Contains s'.held r ⊎ IsInImage s' r
  low r h a le = from_f r (among_below log F (F ++ G) f u l lf q m.position uront r h a le).0 (inr a)

  -- a record whose key the summary lists
  listed : (r : RecordData) → Contains (records log) r → IsListed summary r → Matters (cuts (F ++ G)) u.epoch r → Contains s'.held r ⊎ IsInImage s' r
  listed r h key mat =
      ⊎_elim
      (λ (x : (t : RecordData) × IsKept F f t × (t.epoch ≡ key.0.epoch) × (t.number ≡ key.0.number)).
      let e : x.0 ≡ r = l.same_record x.0 r (part_records F log m.part x.0 x.1.0) h (x.2 ∙ key.2) (x.3 ∙ key.3) in
      from_f r (subst (Contains (records F)) e x.1.0) mat)
      (λ y. ⊎_elim
      (λ (dead : IsDead (cuts F) f.epoch key.0.epoch key.0.number).
      let e : key.0.epoch ≤ f.epoch = dead.0 in let e2 : key.0.epoch ≡ r.epoch = key.2 in
      ⊎_elim
      (λ (w : f.epoch < r.epoch). absurd (omega arith))
      (λ (a : IsAlive (cuts F) f.epoch r.epoch r.number). absurd
      (dead.1 (subst (λ z. IsAlive (cuts F) f.epoch z key.0.number) (sym key.2) (subst (λ z. IsAlive (cuts F) f.epoch r.epoch z) (sym key.3) a))))
      (mattered_before log F (F ++ G) f u s l lf q m uront r mat))
      (λ (lowkey : (key.0.epoch ≤ f.epoch) × (key.0.number ≤ f.anchor)).
      let ke : f.epoch ≤ u.epoch = epochs log F (F ++ G) f u s l lf q m uront in
      let e : key.0.epoch ≤ f.epoch = lowkey.0 in let e2 : key.0.epoch ≡ r.epoch = key.2 in
      let n : key.0.number ≤ f.anchor = lowkey.1 in let n2 : key.0.number ≡ r.number = key.3 in
      ⊎_elim
      (λ (w : u.epoch < r.epoch). absurd (omega arith))
      (λ (a : IsAlive (cuts (F ++ G)) u.epoch r.epoch r.number). low r h a (omega arith))
      mat)
      y)
      (ans.keys key.0 key.1)

  g_epochs : g.epoch ≤ u.epoch
  g_epochs = epoch_le G (F ++ G) rg g.epoch u.epoch gront.epoch uront.epoch

  g_mattered : (r : RecordData) → Matters (cuts (F ++ G)) u.epoch r → Matters (cuts G) g.epoch r
  g_mattered r mat = mattered log G l pg g.epoch u.epoch (has_cuts (cuts G) g.epoch gront.epoch) g_epochs r
      (⊎_elim (λ (w : u.epoch < r.epoch). inl w) (λ (a : IsAlive (cuts (F ++ G)) u.epoch r.epoch r.number). inr
      (alive_up log (F ++ G) l q u.epoch r.epoch r.number (has_cuts (cuts (F ++ G)) u.epoch uront.epoch) a)) mat)

  given : (r : RecordData) → Contains (records G) r
      → IsWaiting g.epoch r.epoch ⊎ (IsAlive (cuts G) g.epoch r.epoch r.number × (d.base < r.number) × (summary.anchor < r.number))
      → Matters (cuts (F ++ G)) u.epoch r → Contains s'.held r ⊎ IsInImage s' r
  given r h why mat = ⊎_elim (λ (x : Contains d.records r). to_held r (inr x) mat) (λ (x : IsListed summary r). listed r (part_records G log pg r h) x mat)
      (fills.enough r h why)

  -- a record of G
  from_g : (r : RecordData) → Contains (records G) r → Matters (cuts (F ++ G)) u.epoch r → Contains s'.held r ⊎ IsInImage s' r
  from_g r h mat =
      let hl = part_records G log pg r h in
      let ge = g_epochs in
      let sa : summary.anchor ≤ f.anchor = ans.anchor in
      let sb : s.base ≤ f.anchor = m.base.1 in
      ⊎_elim
      (λ (w : g.epoch < r.epoch). given r h (inl w) mat)
      (λ (ag : IsAlive (cuts G) g.epoch r.epoch r.number).
      let kg : r.epoch ≤ g.epoch = ag.known in
      ⊎_elim
      (λ (w : u.epoch < r.epoch). absurd (omega arith))
      (λ (a : IsAlive (cuts (F ++ G)) u.epoch r.epoch r.number).
      ⊎_elim
      (λ (small : r.number ≤ summary.anchor). low r hl a (omega arith))
      (λ (big : r.number ≤ summary.anchor → ⊥). ⊎_elim
      (λ (under : r.number ≤ d.base). ⊎_elim
      (λ (x : (d.base ≤ s.base) × (s'.base ≡ s.base)). let y : d.base ≤ s.base = x.0 in low r hl a (omega arith))
      (λ (x : (s.base < d.base) × (s'.base ≡ d.base) × ((p : ℕ) → d.base ≤ version_of s'.store p)).
      let y : s'.base ≡ d.base = x.1 in let z : d.base ≤ version_of s'.store r.page = x.2 r.page in
      inr (omega (arith, e, ge, kg), omega (arith, under, y), omega (arith, under, z)))
      j.base)
      (λ (over : r.number ≤ d.base → ⊥). given r h (inr (ag, omega (arith, over), omega (arith, big))) mat)
      (settled_le r.number d.base))
      (settled_le r.number summary.anchor))
      mat)
      (g_mattered r mat)

  -- the delta's image of a page is G's page at the base
  delta_image : (p : ℕ) (bytes : List ℕ) → HasImage d p bytes → IsPageAt G g.epoch p d.base bytes
  delta_image p bytes h =
      let e = page_exists log G l pg g.epoch (has_cuts (cuts G) g.epoch gront.epoch) p d.base in
      ⊎_elim
      (λ (x : (i : ImageData) × Contains d.pages i × (i.page ≡ p) × (i.bytes ≡ bytes)).
      subst (λ b. IsPageAt G g.epoch p d.base b) x.3 (subst (λ z. IsPageAt G g.epoch z d.base x.0.bytes) x.2 ((fills.pages.members x.0).0 x.1).0))
      (λ (x : ((i : ImageData) → Contains d.pages i → i.page ≢ p) × (bytes ≡ zeros)).
      ⊎_elim
      (λ (z : e.0 ≡ zeros). subst (λ b. IsPageAt G g.epoch p d.base b) (z ∙ sym x.1) e.1)
      (λ (wet : e.0 ≡ zeros → ⊥).
      let i : ImageData = record { page = p; bytes = e.0 } in
      absurd (x.0 i ((fills.pages.members i).1 (e.1, wet)) refl))
      (list_eq e.0 zeros))
      h

  base_linked : IsLinked (F ++ G) u.epoch d.base × (d.base ≤ u.anchor)
  base_linked =
      let le : d.base ≤ g.anchor = fills.base.1 in
      let am : g.anchor ≤ g.min = (anchor_is G g gront).1 in
      let an : g.anchor ≤ u.anchor = (finality_law log G (F ++ G) g u l rg q gront uront).0 in (
        linked_stays log G (F ++ G) l rg q g.epoch g.min u.epoch (has_cuts (cuts G) g.epoch gront.epoch) (min_at roster G g gront) g_epochs
            (has_cuts (cuts (F ++ G)) u.epoch uront.epoch) d.base (omega arith) fills.base.0,
        omega arith,
      )

  image_there : (p : ℕ) → (version_of s'.store p ≤ u.anchor) × IsPageAt (F ++ G) u.epoch p (version_of s'.store p) (image_of s'.store p)
  image_there p = ⊎_elim
      (λ (x : (version_of s'.store p ≡ version_of s.store p) × (image_of s'.store p ≡ image_of s.store p)).
      let y = image_stays log F (F ++ G) f u s l lf q m uront p in
      subst (λ v. (v ≤ u.anchor) × IsPageAt (F ++ G) u.epoch p v (image_of s'.store p)) (sym x.0)
      (subst (λ b. (version_of s.store p ≤ u.anchor) × IsPageAt (F ++ G) u.epoch p (version_of s.store p) b) (sym x.1) y))
      (λ (x : (version_of s.store p ≤ d.base) × (version_of s'.store p ≡ d.base) × HasImage d p (image_of s'.store p)).
      let y : IsPageAt (F ++ G) u.epoch p d.base (image_of s'.store p) = page_final log G (F ++ G) g u l rg q gront uront p d.base
      (image_of s'.store p) fills.base.1 (delta_image p (image_of s'.store p) x.2) in
      subst (λ v. (v ≤ u.anchor) × IsPageAt (F ++ G) u.epoch p v (image_of s'.store p)) (sym x.1) (base_linked.1, y))
      (j.images p)

  of_delta : IsBookOf roster G g d.book.points d.book.waits
  of_delta = record { position = gront; points = fills.same_points; waits = fills.same_waits }

  points : s'.book.points ≡ u.points
  points = points_joined F G f g u s.book.points s.book.waits d.book.points d.book.waits s'.book.points (book_of log F f s m) of_delta uront
      (subst (λ k. JoinsPoints k s.book.points s.book.waits d.book.points d.book.waits s'.book.points) e j.book.points)

  waits : (a : AdvanceData) → Contains s'.book.waits a ↔ (Contains (advances (F ++ G)) a × (u.epoch < a.epoch))
  waits = waits_joined log F G f g u s.book.points s.book.waits d.book.points d.book.waits s'.book.waits (book_of log F f s m) of_delta uront
      (subst (λ k. (a : AdvanceData) → Contains s'.book.waits a ↔ ((Contains s.book.waits a ⊎ Contains d.book.waits a) × (k < a.epoch))) e j.book.waits)

  pub absorbed_means : MeansAt roster log (F ++ G) u s'
  absorbed_means = record {
    part = q;
    position = uront;
    book = book_at (F ++ G) u s'.book uront sc e points waits;
    epoch = e;
    readers = readers_at (F ++ G) u s'.book uront points;
    base = ⊎_elim
        (λ (x : (d.base ≤ s.base) × (s'.base ≡ s.base)). subst (λ b. IsLinked (F ++ G) u.epoch b × (b ≤ u.anchor)) (sym x.1)
        (base_stays log F (F ++ G) f u s l lf q m uront))
        (λ (x : (s.base < d.base) × (s'.base ≡ d.base) × ((p : ℕ) → d.base ≤ version_of s'.store p)). subst (λ b. IsLinked (F ++ G) u.epoch b × (b ≤ u.anchor))
        (sym x.1) base_linked)
        j.base;
    of_log = λ r h. ⊎_elim (m.of_log r) (λ (x : Contains d.records r). part_records G log pg r (fills.of_facts r x)) (j.of_both r h);
    of_facts = λ r h mat. ⊎_elim (λ (x : Contains s.held r). held_there log F (F ++ G) f u s l lf q m uront r x mat)
        (λ (x : Contains d.records r). part_records G (F ++ G) rg r (fills.of_facts r x)) (j.of_both r h);
    kept = λ r h mat. ⊎_elim (λ (x : Contains (records F) r). from_f r x mat) (λ (x : Contains (records G) r). from_g r x mat) (record_cases F G r h);
    versions = λ p. (image_there p).0;
    images = λ p. (image_there p).1;
  }

pub absorb_law : {roster : ℕ} (log F G : List Fact) (f g : Position) (s s' : State) (summary : Listing) (d : Delta) → IsLog roster log
    → MeansAt roster log F f s → IsPart G log → IsPosition roster G g → Fills G g summary d → AnswersFor F f summary → JoinsDelta s d s'
    → Means roster log (F ++ G) s'
absorb_law {roster} log F G f g s s' summary d l m pg gront fills ans j =
    let q : IsPart (F ++ G) log = both F G log m.part pg in
    let ue = front_exists roster (F ++ G) (λ r h. (l.backs r (part_records (F ++ G) log q r h)).1) in
    let sc : SameSet s'.book.cuts (cuts (F ++ G)) = λ c. (
      λ h. ⊎_elim (λ (x : Contains s.book.cuts c). part_cuts F (F ++ G) (left F G) c ((m.book.same_cuts c).0 x))
          (λ (x : Contains d.book.cuts c). part_cuts G (F ++ G) (right F G) c ((fills.same_cuts c).0 x)) ((j.book.cuts c).0 h),
      λ h. (j.book.cuts c).1 (⊎_elim (λ (x : Contains (cuts F) c). inl ((m.book.same_cuts c).1 x)) (λ (x : Contains (cuts G) c). inr ((fills.same_cuts c).1 x))
          (cut_cases F G c h)),
    ) in
    let e = epoch_as (F ++ G) ue.0 s'.book ue.1 sc j.book.complete in
    (ue.0, absorbed_means log F G f g ue.0 s s' summary d l m pg gront fills ans ue.1 sc e j)
