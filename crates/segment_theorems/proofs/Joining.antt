-- What two states know together means the union of what they mean.
use Rattle.std.proofs.Common.{◌≡◌, ℕ, ◌<◌, ◌≤◌, ◌⊎◌, ◌↔◌, inl, inr, ⊎_elim, List, ◌++◌, length, refl, sym, ap, ◌∙◌, subst, arith, rules}
use Rattle.std.specs.List.{Contains}
use Rattle.redo_core.specs.Data.{RecordData, AdvanceData}
use Rattle.redo_core.specs.Sets.{IsPart, SameSet, records, cuts, advances}
use Rattle.redo_core.specs.Order.{IsGreatest}
use Rattle.redo_core.specs.Standing.{IsAlive}
use Rattle.redo_core.specs.Linked.{IsLinked, IsLinkedRecord}
use Rattle.redo_core.specs.Roster.{IsReader, point_of}
use Rattle.redo_core.specs.Points.{HasAdvance, IsPoint}
use Rattle.redo_core.specs.Position.{Position, IsPosition}
use Rattle.redo_core.specs.PageAt.{IsPageAt}
use Rattle.redo_core.specs.Order.{BeforeByNumber}
use Rattle.redo_core.specs.declared.facts.Fact.{Fact}
use Rattle.redo_core.proofs.Numbers.{greatest_unique}
use Rattle.redo_core.proofs.Points.{same_points}
use Rattle.redo_core.proofs.FactParts.{part_records, part_cuts, part_advances}
use Rattle.redo_core.proofs.CompleteEpochs.{has_cuts}
use Rattle.log_theorems.proofs.Log.{IsLog, alive_within}
use Rattle.log_theorems.proofs.Views.{alive_up, epoch_le, min_at, anchor_is, linked_stays, finality_law}
use Rattle.log_theorems.proofs.Deciding.{settled_lt}
use Rattle.log_theorems.proofs.Fronts.{front_exists}
use Rattle.log_theorems.proofs.Meanings.{lists_as}
use Rattle.log_theorems.proofs.Union.{left, right, both, cut_cases, record_cases, advance_cases, mattered, advance_le}
use Rattle.segment_theorems.specs.State.{State, version_of, image_of}
use Rattle.segment_theorems.specs.Means.{MeansAt, Means, Matters, IsInImage}
use Rattle.segment_theorems.specs.Joining.{JoinedPoint, JoinsPoints, Joins}
use Rattle.segment_theorems.proofs.Booked.{points_as, waits_as, epoch_as, readers_at, book_at}

-- a page up to the anchor is final
pub page_final : {roster : ℕ} (log F G : List Fact) (f g : Position) → IsLog roster log → IsPart F G → IsPart G log → IsPosition roster F f
    → IsPosition roster G g → (p v : ℕ) (i : List ℕ) → v ≤ f.anchor → IsPageAt F f.epoch p v i → IsPageAt G g.epoch p v i
page_final log F G f g l pt q front gront p v i le page =
    let fin = (finality_law log F G f g l pt q front gront).1 in
    record {
      written = page.written;
      lists = lists_as BeforeByNumber (λ r. IsLinkedRecord F f.epoch r × (r.page ≡ p) × (r.number ≤ v))
          (λ r. IsLinkedRecord G g.epoch r × (r.page ≡ p) × (r.number ≤ v))
          (λ r. (
            λ h. let t : r.number ≤ v = h.2 in ((fin r (omega arith)).0 h.0, h.1, h.2),
            λ h. let t : r.number ≤ v = h.2 in
                ((fin r (omega arith)).1 h.0, h.1, h.2),
          ))
          page.written page.lists;
      result = page.result;
    }

-- the points and waiting advances of facts of position f
pub record IsBookOf (roster : ℕ) (F : List Fact) (f : Position) (ps : List ℕ) (ws : List AdvanceData) : Type 0 where
  pub position : IsPosition roster F f
  pub points : ps ≡ f.points
  pub waits : (a : AdvanceData) → Contains ws a ↔ (Contains (advances F) a × (f.epoch < a.epoch))

pub book_of : {roster : ℕ} (log F : List Fact) (f : Position) (s : State) → MeansAt roster log F f s → IsBookOf roster F f s.book.points s.book.waits
book_of log F f s m = record { position = m.position; points = points_as m; waits = waits_as m }

-- one side of two books
module _ {roster : ℕ} (F U : List Fact) (f u : Position) (ps : List ℕ) (ws : List AdvanceData) (p : IsPart F U) (b : IsBookOf roster F f ps ws)
    (front : IsPosition roster U u) where
  point_there : (reader : ℕ) → IsReader roster reader → (point_of ps reader ≡ 0) ⊎ HasAdvance (advances U) u.epoch reader (point_of ps reader)
  point_there reader r =
      let x : point_of ps reader ≡ point_of f.points reader = ap (λ qs. point_of qs reader) b.points in
      let le : f.epoch ≤ u.epoch = epoch_le F U p f.epoch u.epoch b.position.epoch front.epoch in
      ⊎_elim (λ (e : point_of f.points reader ≡ 0). inl (x ∙ e))
      (λ (a : HasAdvance (advances F) f.epoch reader (point_of f.points reader)). let t : a.0.epoch ≤ f.epoch = a.2 in
      inr (a.0, part_advances F U p a.0 a.1, omega arith, a.3, a.4 ∙ sym x)) (b.position.points.each reader r).0

  -- an advance of the facts waits, or its point is at most its reader's
  waits_or_known : (a : AdvanceData) → IsReader roster a.reader → Contains (advances F) a → Contains ws a ⊎ (a.point ≤ point_of ps a.reader)
  waits_or_known a r h =
      ⊎_elim
      (λ (w : f.epoch < a.epoch). inl ((b.waits a).1 (h, w)))
      (λ (known : f.epoch < a.epoch → ⊥). inr (
      let t : a.point ≤ point_of f.points a.reader = advance_le (advances F) f.epoch a.reader (point_of f.points a.reader)
      (b.position.points.each a.reader r) a h (omega (arith, known)) refl in
      let x : point_of ps a.reader ≡ point_of f.points a.reader = ap (λ qs. point_of qs a.reader) b.points in
      omega arith))
      (settled_lt f.epoch a.epoch)

-- a reader's point in the union is the greatest of both points and those that wait no longer
point_joined : {roster : ℕ} (F G : List Fact) (f g u : Position) (ps : List ℕ) (ws : List AdvanceData) (qs : List ℕ) (vs : List AdvanceData)
    → IsBookOf roster F f ps ws → IsBookOf roster G g qs vs → IsPosition roster (F ++ G) u → (reader : ℕ) → IsReader roster reader
    → IsGreatest (JoinedPoint u.epoch ps ws qs vs reader) (point_of u.points reader)
point_joined {roster} F G f g u ps ws qs vs m n front reader r =
    let up : IsPoint (advances (F ++ G)) u.epoch reader (point_of u.points reader) = front.points.each reader r in
    let sm : point_of ps reader ≤ point_of u.points reader = ⊎_elim (λ (e : point_of ps reader ≡ 0). omega arith)
    (λ (h : HasAdvance (advances (F ++ G)) u.epoch reader (point_of ps reader)). up.1 (point_of ps reader) h)
    (point_there F (F ++ G) f u ps ws (left F G) m front reader r) in
    let tm : point_of qs reader ≤ point_of u.points reader = ⊎_elim (λ (e : point_of qs reader ≡ 0). omega arith)
    (λ (h : HasAdvance (advances (F ++ G)) u.epoch reader (point_of qs reader)). up.1 (point_of qs reader) h)
    (point_there G (F ++ G) g u qs vs (right F G) n front reader r) in (
      ⊎_elim
          (λ (z : point_of u.points reader ≡ 0). inl z)
          (λ (h : HasAdvance (advances (F ++ G)) u.epoch reader (point_of u.points reader)).
          let e : h.0.reader ≡ reader = h.3 in
          let c : h.0.point ≡ point_of u.points reader = h.4 in
          let own : IsReader roster h.0.reader = subst (IsReader roster) (sym e) r in
          inr (⊎_elim
          (λ (x : Contains (advances F) h.0). ⊎_elim
          (λ (w : Contains ws h.0). inr (inr (h.0, inl w, h.2, h.3, h.4)))
          (λ (known : h.0.point ≤ point_of ps h.0.reader). inl (
          let b : h.0.point ≤ point_of ps reader = subst (λ j. h.0.point ≤ point_of ps j) e known in omega arith))
          (waits_or_known F (F ++ G) f u ps ws (left F G) m front h.0 own x))
          (λ (x : Contains (advances G) h.0). ⊎_elim
          (λ (w : Contains vs h.0). inr (inr (h.0, inr w, h.2, h.3, h.4)))
          (λ (known : h.0.point ≤ point_of qs h.0.reader). inr (inl (
          let b : h.0.point ≤ point_of qs reader = subst (λ j. h.0.point ≤ point_of qs j) e known in omega arith)))
          (waits_or_known G (F ++ G) g u qs vs (right F G) n front h.0 own x))
          (advance_cases F G h.0 h.1)))
          up.0,
      λ i h. ⊎_elim
          (λ (e : i ≡ point_of ps reader). omega arith)
          (λ h2. ⊎_elim
          (λ (e : i ≡ point_of qs reader). omega arith)
          (λ (a : (a : AdvanceData) × (Contains ws a ⊎ Contains vs a) × (a.epoch ≤ u.epoch) × (a.reader ≡ reader) × (a.point ≡ i)).
          let c : a.0.point ≡ i = a.4 in
          let d : a.0.point ≤ point_of u.points reader = advance_le (advances (F ++ G)) u.epoch reader (point_of u.points reader) up a.0
          (⊎_elim (λ (y : Contains ws a.0). part_advances F (F ++ G) (left F G) a.0 ((m.waits a.0).0 y).0)
          (λ (y : Contains vs a.0). part_advances G (F ++ G) (right F G) a.0 ((n.waits a.0).0 y).0) a.1) a.2 a.3 in
          omega arith)
          h2)
          h,
    )

-- so joined points are those of the union
pub points_joined : {roster : ℕ} (F G : List Fact) (f g u : Position) (ps : List ℕ) (ws : List AdvanceData) (qs : List ℕ) (vs : List AdvanceData) (js : List ℕ)
    → IsBookOf roster F f ps ws → IsBookOf roster G g qs vs → IsPosition roster (F ++ G) u → JoinsPoints u.epoch ps ws qs vs js → js ≡ u.points
points_joined {roster} F G f g u ps ws qs vs js m n front j =
    let own : length ps ≡ roster = ap length m.points ∙ m.position.points.count in
    same_points roster js u.points (j.count ∙ own) front.points.count
    (λ reader r. greatest_unique (JoinedPoint u.epoch ps ws qs vs reader) (JoinedPoint u.epoch ps ws qs vs reader) (λ i. (λ x. x, λ x. x)) (point_of js reader)
    (point_of u.points reader)
    (j.each reader (subst (λ c. IsReader c reader) (sym own) r)) (point_joined F G f g u ps ws qs vs m n front reader r))

-- waiting advances that are joined are those of the union
pub waits_joined : {roster : ℕ} (log F G : List Fact) (f g u : Position) (ps : List ℕ) (ws : List AdvanceData) (qs : List ℕ) (vs js : List AdvanceData)
    → IsBookOf roster F f ps ws → IsBookOf roster G g qs vs → IsPosition roster (F ++ G) u
    → ((a : AdvanceData) → Contains js a ↔ ((Contains ws a ⊎ Contains vs a) × (u.epoch < a.epoch))) → (a : AdvanceData)
    → Contains js a ↔ (Contains (advances (F ++ G)) a × (u.epoch < a.epoch))
waits_joined log F G f g u ps ws qs vs js m n front j a =
    let fe : f.epoch ≤ u.epoch = epoch_le F (F ++ G) (left F G) f.epoch u.epoch m.position.epoch front.epoch in
    let ge : g.epoch ≤ u.epoch = epoch_le G (F ++ G) (right F G) g.epoch u.epoch n.position.epoch front.epoch in (
      λ h. let x = (j a).0 h in (
        ⊎_elim (λ (y : Contains ws a). part_advances F (F ++ G) (left F G) a ((m.waits a).0 y).0)
            (λ (y : Contains vs a). part_advances G (F ++ G) (right F G) a ((n.waits a).0 y).0) x.0,
        x.1,
      ),
      λ h. let lt : u.epoch < a.epoch = h.1 in
          (j a).1 (
            ⊎_elim (λ (y : Contains (advances F) a). inl ((m.waits a).1 (y, omega arith)))
                (λ (y : Contains (advances G) a). inr ((n.waits a).1 (y, omega arith))) (advance_cases F G a h.0),
            lt,
          ),
    )

-- one side of a join
module _ {roster : ℕ} (log F U : List Fact) (f u : Position) (s : State) (l : IsLog roster log) (p : IsPart F U) (q : IsPart U log)
    (m : MeansAt roster log F f s) (front : IsPosition roster U u) where
  pub epochs : f.epoch ≤ u.epoch
  epochs = epoch_le F U p f.epoch u.epoch m.position.epoch front.epoch

  pub anchors : f.anchor ≤ u.anchor
  anchors = (finality_law log F U f u l p q m.position front).0

  pub base_stays : IsLinked U u.epoch s.base × (s.base ≤ u.anchor)
  base_stays =
      let le : s.base ≤ f.anchor = m.base.1 in
      let am : f.anchor ≤ f.min = (anchor_is F f m.position).1 in
      let an = anchors in (
        linked_stays log F U l p q f.epoch f.min u.epoch (has_cuts (cuts F) f.epoch m.position.epoch) (min_at roster F f m.position) epochs
            (has_cuts (cuts U) u.epoch front.epoch) s.base (omega arith) m.base.0,
        omega arith,
      )

  pub mattered_before : (r : RecordData) → Matters (cuts U) u.epoch r → Matters (cuts F) f.epoch r
  mattered_before r h =
      mattered log F l (λ x y. q x (p x y)) f.epoch u.epoch (has_cuts (cuts F) f.epoch m.position.epoch) epochs r
      (⊎_elim (λ (w : u.epoch < r.epoch). inl w) (λ (a : IsAlive (cuts U) u.epoch r.epoch r.number). inr
      (alive_up log U l q u.epoch r.epoch r.number (has_cuts (cuts U) u.epoch front.epoch) a)) h)

  pub held_there : (r : RecordData) → Contains s.held r → Matters (cuts U) u.epoch r → Contains (records U) r
  held_there r h mat = part_records F U p r (m.of_facts r h (mattered_before r mat))

  pub image_stays : (g : ℕ) → (version_of s.store g ≤ u.anchor) × IsPageAt U u.epoch g (version_of s.store g) (image_of s.store g)
  image_stays g = (
    let a = anchors in let v : version_of s.store g ≤ f.anchor = m.versions g in omega arith,
    page_final log F U f u l p q m.position front g
        (version_of s.store g) (image_of s.store g) (m.versions g) (m.images g),
  )

pub in_image_by : (s s' : State) (r : RecordData) → s.book.complete ≤ s'.book.complete → s.base ≤ s'.base
    → version_of s.store r.page ≤ version_of s'.store r.page → IsInImage s r → IsInImage s' r
in_image_by s s' r a b c h = omega arith

image_as : (F G : List Fact) (u : Position) (p v w : ℕ) (i j : List ℕ) → w ≡ v → j ≡ i → (v ≤ u.anchor) × IsPageAt (F ++ G) u.epoch p v i
    → (w ≤ u.anchor) × IsPageAt (F ++ G) u.epoch p w j
image_as F G u p v w i j a b h = search rules

-- an image from one side
image_joined : {roster : ℕ} (log F G : List Fact) (f g u : Position) (s t s' : State) → IsLog roster log → IsPart (F ++ G) log → MeansAt roster log F f s
    → MeansAt roster log G g t → IsPosition roster (F ++ G) u → (p : ℕ)
    → ((version_of s'.store p ≡ version_of s.store p) × (image_of s'.store p ≡ image_of s.store p))
    ⊎ ((version_of s'.store p ≡ version_of t.store p) × (image_of s'.store p ≡ image_of t.store p)) → (version_of s'.store p ≤ u.anchor) × IsPageAt
    (F ++ G) u.epoch p (version_of s'.store p) (image_of s'.store p)
image_joined log F G f g u s t s' l q m n front p h =
    ⊎_elim
    (λ (x : (version_of s'.store p ≡ version_of s.store p) × (image_of s'.store p ≡ image_of s.store p)).
    let y = image_stays log F (F ++ G) f u s l (left F G) q m front p in
    image_as F G u p (version_of s.store p) (version_of s'.store p) (image_of s.store p) (image_of s'.store p) x.0 x.1 y)
    (λ (x : (version_of s'.store p ≡ version_of t.store p) × (image_of s'.store p ≡ image_of t.store p)).
    let y = image_stays log G (F ++ G) g u t l (right F G) q n front p in
    image_as F G u p (version_of t.store p) (version_of s'.store p) (image_of t.store p) (image_of s'.store p) x.0 x.1 y)
    h

-- what matters of the facts matters to a state that has their truncations
pub matters_as : (s : State) (U : List Fact) (u : Position) → SameSet s.book.cuts (cuts U) → s.book.complete ≡ u.epoch → (r : RecordData)
    → Matters (cuts U) u.epoch r → Matters s.book.cuts s.book.complete r
matters_as s U u sc e r mat =
    ⊎_elim
    (λ (w : u.epoch < r.epoch). inl (omega (arith, w, e)))
    (λ (a : IsAlive (cuts U) u.epoch r.epoch r.number). inr
    (alive_within s.book.cuts (cuts U) (λ c x. (sc c).0 x) s.book.complete r.epoch r.number (subst (λ k. IsAlive (cuts U) k r.epoch r.number) (sym e) a)))
    mat

join_at : {roster : ℕ} (log F G : List Fact) (f g u : Position) (s t s' : State) → IsLog roster log → IsPart (F ++ G) log → MeansAt roster log F f s
    → MeansAt roster log G g t → IsPosition roster (F ++ G) u → (s'.book.complete ≡ u.epoch) → SameSet s'.book.cuts (cuts (F ++ G)) → Joins s t s'
    → MeansAt roster log (F ++ G) u s'
join_at {roster} log F G f g u s t s' l q m n front e sc j =
    let U = F ++ G in
    let lu : IsPart F (F ++ G) = left F G in
    let ru : IsPart G (F ++ G) = right F G in
    let points : s'.book.points ≡ u.points = points_joined F G f g u s.book.points s.book.waits t.book.points t.book.waits s'.book.points (book_of log F f s m)
    (book_of log G g t n) front
    (subst (λ k. JoinsPoints k s.book.points s.book.waits t.book.points t.book.waits s'.book.points) e j.book.points) in
    let to_held : (r : RecordData) → Contains s.held r ⊎ Contains t.held r → Matters (cuts (F ++ G)) u.epoch r → Contains s'.held r ⊎ IsInImage s' r =
    λ r h mat. j.kept r h (matters_as s' (F ++ G) u sc e r mat) in
    record {
      part = q;
      position = front;
      book = book_at (F ++ G) u s'.book front sc e points
          (waits_joined log F G f g u s.book.points s.book.waits t.book.points t.book.waits s'.book.waits (book_of log F f s m) (book_of log G g t n) front
          (subst (λ k. (a : AdvanceData) → Contains s'.book.waits a ↔ ((Contains s.book.waits a ⊎ Contains t.book.waits a) × (k < a.epoch))) e j.book.waits));
      epoch = e;
      readers = readers_at (F ++ G) u s'.book front points;
      base = ⊎_elim
          (λ (x : s'.base ≡ s.base). subst (λ b. IsLinked (F ++ G) u.epoch b × (b ≤ u.anchor)) (sym x) (base_stays log F (F ++ G) f u s l lu q m front))
          (λ (x : s'.base ≡ t.base). subst (λ b. IsLinked (F ++ G) u.epoch b × (b ≤ u.anchor)) (sym x) (base_stays log G (F ++ G) g u t l ru q n front))
          j.base.0;
      of_log = λ r h. ⊎_elim (m.of_log r) (n.of_log r) (j.of_both r h);
      of_facts = λ r h mat. ⊎_elim (λ (x : Contains s.held r). held_there log F (F ++ G) f u s l lu q m front r x mat)
          (λ (x : Contains t.held r). held_there log G (F ++ G) g u t l ru q n front r x mat) (j.of_both r h);
      kept = λ r h mat.
          ⊎_elim
          (λ (x : Contains (records F) r). ⊎_elim
          (λ (y : Contains s.held r). to_held r (inl y) mat)
          (λ (y : IsInImage s r). inr (in_image_by s s' r (omega (arith, m.epoch, e, epochs log F (F ++ G) f u s l lu q m front)) j.base.1
          (j.newest r.page).0 y))
          (m.kept r x (mattered_before log F (F ++ G) f u s l lu q m front r mat)))
          (λ (x : Contains (records G) r). ⊎_elim
          (λ (y : Contains t.held r). to_held r (inr y) mat)
          (λ (y : IsInImage t r). inr (in_image_by t s' r (omega (arith, n.epoch, e, epochs log G (F ++ G) g u t l ru q n front)) j.base.2
          (j.newest r.page).1 y))
          (n.kept r x (mattered_before log G (F ++ G) g u t l ru q n front r mat)))
          (record_cases F G r h);
      versions = λ p. (image_joined log F G f g u s t s' l q m n front p (j.images p)).0;
      images = λ p. (image_joined log F G f g u s t s' l q m n front p (j.images p)).1;
    }

pub join_law : {roster : ℕ} (log F G : List Fact) (s t s' : State) → IsLog roster log → Means roster log F s → Means roster log G t → Joins s t s'
    → Means roster log (F ++ G) s'
join_law {roster} log F G s t s' l ms mt j =
    let m = ms.1 in let n = mt.1 in
    let q : IsPart (F ++ G) log = both F G log m.part n.part in
    let ue = front_exists roster (F ++ G) (λ r h. (l.backs r (part_records (F ++ G) log q r h)).1) in
    let sc : SameSet s'.book.cuts (cuts (F ++ G)) = λ c. (
      λ h. ⊎_elim (λ (x : Contains s.book.cuts c). part_cuts F (F ++ G) (left F G) c ((m.book.same_cuts c).0 x))
          (λ (x : Contains t.book.cuts c). part_cuts G (F ++ G) (right F G) c ((n.book.same_cuts c).0 x)) ((j.book.cuts c).0 h),
      λ h. (j.book.cuts c).1 (⊎_elim (λ (x : Contains (cuts F) c). inl ((m.book.same_cuts c).1 x)) (λ (x : Contains (cuts G) c). inr ((n.book.same_cuts c).1 x))
          (cut_cases F G c h)),
    ) in
    (ue.0, join_at log F G ms.0 mt.0 ue.0 s t s' l q m n ue.1 (epoch_as (F ++ G) ue.0 s'.book ue.1 sc j.book.complete) sc j)
