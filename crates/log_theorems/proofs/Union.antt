-- Congruence, the order by parts and least upper bounds.
use Rattle.std.proofs.Common.{◌≡◌, ℕ, ◌<◌, ◌≤◌, ◌⊎◌, ◌↔◌, inl, inr, ⊎_elim, List, ◌++◌, length, refl, sym, ap, ◌∙◌, subst, arith, rules}
use Rattle.std.specs.List.{Contains}
use Rattle.std.proofs.lemmas.List.Elements.{Contains-append_left, Contains-append_right, Contains-append_cases}
use Rattle.redo_core.specs.Data.{RecordData, CutData, AdvanceData}
use Rattle.redo_core.specs.Sets.{IsPart, SameSet, records, cuts, advances}
use Rattle.redo_core.specs.CompleteEpoch.{HasCutsTo, IsCompleteEpoch}
use Rattle.redo_core.specs.Standing.{IsAlive, IsDead}
use Rattle.redo_core.specs.Roster.{IsReader, point_of}
use Rattle.redo_core.specs.Points.{HasAdvance, IsPoint}
use Rattle.redo_core.specs.Position.{Position, IsPosition}
use Rattle.redo_core.specs.PageAt.{IsPageAt}
use Rattle.redo_core.specs.Meaning.{Meaning, IsMeaningAt, IsMeaning, IsKept}
use Rattle.redo_core.specs.AtMost.{IsAtMost}
use Rattle.redo_core.specs.declared.facts.Fact.{Fact}
use Rattle.redo_core.specs.declared.facts.Fact.TheVariants.{Record, Cut, Advance}
use Rattle.log_theorems.specs.OrderOfMeanings.{Covers, CoversAt}
use Rattle.redo_core.proofs.Points.{zip_of, zip_at}
use Rattle.redo_core.proofs.Numbers.{greatest_unique, greatest_le}
use Rattle.redo_core.proofs.FactParts.{record_in, cut_in, advance_in, part_records, part_cuts, part_advances}
use Rattle.redo_core.proofs.CompleteEpochs.{has_cuts}
use Rattle.log_theorems.proofs.Log.{IsLog, alive_within}
use Rattle.log_theorems.proofs.Views.{alive_up, alive_down, epoch_le, point_le, finality_law}
use Rattle.log_theorems.proofs.Deciding.{settled_lt}
use Rattle.log_theorems.proofs.Fronts.{settled_alive, front_unique, point_exists}
use Rattle.log_theorems.proofs.Alike.{Matters, Alike, alike_sym, meaning_alike, alike_by_meaning, has_below, front_alike, page_alike, alive_by, cuts_to_by, greatest_by}

pub left : (F G : List Fact) → IsPart F (F ++ G)
left F G x h = Contains-append_left F G x h

pub right : (F G : List Fact) → IsPart G (F ++ G)
right F G x h = Contains-append_right F G x h

pub both : (F G L : List Fact) → IsPart F L → IsPart G L → IsPart (F ++ G) L
both F G L p q x h = ⊎_elim (p x) (q x) (Contains-append_cases F G x h)

-- the parts of a union
pub cut_cases : (F G : List Fact) (c : CutData) → Contains (cuts (F ++ G)) c → Contains (cuts F) c ⊎ Contains (cuts G) c
cut_cases F G c h = ⊎_elim (λ (x : Contains F (Cut c)). inl ((cut_in F c).1 x)) (λ (x : Contains G (Cut c)). inr ((cut_in G c).1 x))
    (Contains-append_cases F G (Cut c) ((cut_in (F ++ G) c).0 h))

pub record_cases : (F G : List Fact) (r : RecordData) → Contains (records (F ++ G)) r → Contains (records F) r ⊎ Contains (records G) r
record_cases F G r h = ⊎_elim (λ (x : Contains F (Record r)). inl ((record_in F r).1 x)) (λ (x : Contains G (Record r)). inr ((record_in G r).1 x))
    (Contains-append_cases F G (Record r) ((record_in (F ++ G) r).0 h))

pub advance_cases : (F G : List Fact) (a : AdvanceData) → Contains (advances (F ++ G)) a → Contains (advances F) a ⊎ Contains (advances G) a
advance_cases F G a h = ⊎_elim (λ (x : Contains F (Advance a)). inl ((advance_in F a).1 x)) (λ (x : Contains G (Advance a)). inr ((advance_in G a).1 x))
    (Contains-append_cases F G (Advance a) ((advance_in (F ++ G) a).0 h))

-- what matters in a later view mattered before
pub mattered : {roster : ℕ} (log F : List Fact) → IsLog roster log → IsPart F log → (k j : ℕ) → HasCutsTo (cuts F) k → k ≤ j → (r : RecordData)
    → Matters log j r → Matters F k r
mattered log F l p k j has le r m =
    ⊎_elim
    (λ (w : j < r.epoch). inl (omega arith))
    (λ (a : IsAlive (cuts log) j r.epoch r.number). ⊎_elim
    (λ (w : k < r.epoch). inl w)
    (λ (known : k < r.epoch → ⊥). inr (alive_down log F p k r.epoch r.number
    (record { known = omega (arith, known); begun = a.begun; spared = λ c h q u. a.spared c h q (omega arith) })))
    (settled_lt k r.epoch))
    m

-- an effective advance is at most its reader's point
pub advance_le : (as' : List AdvanceData) (k reader m : ℕ) → IsPoint as' k reader m → (a : AdvanceData) → Contains as' a → a.epoch ≤ k → a.reader ≡ reader
    → a.point ≤ m
advance_le as' k reader m g a h e r = g.1 a.point (a, h, e, r, refl)

-- half of congruence: cuts, records, advances of one union are in the other, or do not matter
pub union_cuts : {roster : ℕ} (F F' G : List Fact) (k : ℕ) → Alike roster F F' k → (c : CutData) → Contains (cuts (F ++ G)) c → Contains (cuts (F' ++ G)) c
union_cuts F F' G k a c h = ⊎_elim (λ (x : Contains (cuts F) c). part_cuts F' (F' ++ G) (left F' G) c ((a.cuts c).0 x))
    (λ (x : Contains (cuts G) c). part_cuts G (F' ++ G) (right F' G) c x) (cut_cases F G c h)

pub union_records : {roster : ℕ} (log F F' G : List Fact) (k j : ℕ) → IsLog roster log → IsPart F log → IsPart G log → HasCutsTo (cuts F) k → k ≤ j
    → HasCutsTo (cuts (F ++ G)) j → Alike roster F F' k → (r : RecordData) → Matters (F ++ G) j r → Contains (records (F ++ G)) r
    → Contains (records (F' ++ G)) r
union_records log F F' G k j l p q has le hasj a r m h =
    let up : Matters log j r = ⊎_elim (λ (w : j < r.epoch). inl w)
    (λ (al : IsAlive (cuts (F ++ G)) j r.epoch r.number). inr (alive_up log (F ++ G) l (both F G log p q) j r.epoch r.number hasj al)) m in
    ⊎_elim
    (λ (x : Contains (records F) r). part_records F' (F' ++ G) (left F' G) r ((a.records r (mattered log F l p k j has le r up)).0 x))
    (λ (x : Contains (records G) r). part_records G (F' ++ G) (right F' G) r x)
    (record_cases F G r h)

pub union_waits : {roster : ℕ} (F F' G : List Fact) (k j : ℕ) → k ≤ j → Alike roster F F' k → (c : AdvanceData) → j < c.epoch → Contains (advances (F ++ G)) c
    → Contains (advances (F' ++ G)) c
union_waits F F' G k j le a c lt h =
    ⊎_elim
    (λ (x : Contains (advances F) c). part_advances F' (F' ++ G) (left F' G) c ((a.waits c (omega arith)).0 x))
    (λ (x : Contains (advances G) c). part_advances G (F' ++ G) (right F' G) c x)
    (advance_cases F G c h)

pub union_point_le : {roster : ℕ} (F F' G : List Fact) (k j reader f : ℕ) → IsReader roster reader → k ≤ j → Alike roster F F' k
    → IsPoint (advances F) k reader f → (m n : ℕ) → IsPoint (advances (F ++ G)) j reader m → IsPoint (advances (F' ++ G)) j reader n → m ≤ n
union_point_le F F' G k j reader f r le a gf m n gm gn =
    ⊎_elim
    (λ (e : m ≡ 0). omega arith)
    (λ (s : HasAdvance (advances (F ++ G)) j reader m). ⊎_elim
    (λ (x : Contains (advances F) s.0). ⊎_elim
    (λ (w : k < s.0.epoch).
    let y = part_advances F' (F' ++ G) (left F' G) s.0 ((a.waits s.0 w).0 x) in
    let t : s.0.point ≤ n = advance_le (advances (F' ++ G)) j reader n gn s.0 y s.2 s.3 in let e : s.0.point ≡ m = s.4 in omega arith)
    (λ (known : k < s.0.epoch → ⊥).
    let t : s.0.point ≤ f = advance_le (advances F) k reader f gf s.0 x (omega (arith, known)) s.3 in
    let e : s.0.point ≡ m = s.4 in
    let g' : IsPoint (advances F') k reader f = (a.points reader f r).0 gf in
    let u : f ≤ n = point_le F' (F' ++ G) (left F' G) k j le reader f n g' gn in
    omega arith)
    (settled_lt k s.0.epoch))
    (λ (x : Contains (advances G) s.0).
    let y = part_advances G (F' ++ G) (right F' G) s.0 x in
    let t : s.0.point ≤ n = advance_le (advances (F' ++ G)) j reader n gn s.0 y s.2 s.3 in let e : s.0.point ≡ m = s.4 in omega arith)
    (advance_cases F G s.0 s.1))
    gm.0

-- two lists of advances whose points of a reader bound each other give the reader the same point
pub point_pair : (as' bs : List AdvanceData) (j reader : ℕ) → ((m n : ℕ) → IsPoint as' j reader m → IsPoint bs j reader n → m ≡ n) → (m : ℕ)
    → IsPoint as' j reader m ↔ IsPoint bs j reader m
point_pair as' bs j reader same m = (
  λ h. let t = point_exists bs j reader in subst (IsPoint bs j reader) (sym (same m t.0 h t.1)) t.1,
  λ h. let t = point_exists as' j reader in subst (IsPoint as' j reader) (same t.0 m t.1 h) t.1,
)

-- unions of parts that are alike are alike
pub alike_union : {roster : ℕ} (log F F' G : List Fact) (f : Position) (j : ℕ) → IsLog roster log → IsPart F log → IsPart F' log → IsPart G log
    → IsPosition roster F f → IsPosition roster F' f → Alike roster F F' f.epoch → IsCompleteEpoch (cuts (F ++ G)) j → Alike roster (F ++ G) (F' ++ G) j
alike_union log F F' G f j l p p' q front front' a c =
    let k = f.epoch in
    let b = alike_sym F F' k a in
    let le : k ≤ j = epoch_le F (F ++ G) (left F G) k j front.epoch c in
    let has = has_cuts (cuts F) k front.epoch in
    let has' = has_cuts (cuts F') k front'.epoch in
    let hasj = has_cuts (cuts (F ++ G)) j c in
    let cs : SameSet (cuts (F ++ G)) (cuts (F' ++ G)) = λ x. (union_cuts F F' G k a x, union_cuts F' F G k b x) in
    let hasj' : HasCutsTo (cuts (F' ++ G)) j = cuts_to_by (cuts (F ++ G)) (cuts (F' ++ G)) cs j hasj in
    record {
      cuts = cs;
      records = λ r m. (
        union_records log F F' G k j l p q has le hasj a r m,
        union_records log F' F G k j l p' q has' le hasj' b r
            (⊎_elim (λ (w : j < r.epoch). inl w) (λ (al : IsAlive (cuts (F ++ G)) j r.epoch r.number). inr
            (alive_by (cuts (F ++ G)) (cuts (F' ++ G)) cs j r.epoch r.number al)) m),
      );
      waits = λ x lt. (union_waits F F' G k j le a x lt, union_waits F' F G k j le b x lt);
      points = λ reader m r. point_pair (advances (F ++ G)) (advances (F' ++ G)) j reader (λ m n gm gn.
          let x : m ≤ n = union_point_le F F' G k j reader (point_of f.points reader) r le a (front.points.each reader r) m n gm gn in
          let y : n ≤ m = union_point_le F' F G k j reader (point_of f.points reader) r le b (front'.points.each reader r) n m gn gm in
          omega arith) m;
    }

-- parts of one meaning have one position
pub fronts_of_meaning : {roster : ℕ} (log F G : List Fact) (m : Meaning) → IsLog roster log → IsPart F log → IsPart G log → (a : IsMeaning roster F m)
    → (b : IsMeaning roster G m) → Alike roster F G a.0.epoch × IsPosition roster G a.0
fronts_of_meaning log F G m l p q a b = search (rules, alike_by_meaning, front_alike)

pub congruence_law : {roster : ℕ} (log F F' G : List Fact) (m u : Meaning) → IsLog roster log → IsPart F log → IsPart F' log → IsPart G log
    → IsMeaning roster F m → IsMeaning roster F' m → IsMeaning roster (F ++ G) u → IsMeaning roster (F' ++ G) u
congruence_law log F F' G m u l p p' q a a' b =
    let t = fronts_of_meaning log F F' m l p p' a a' in
    let al = alike_union log F F' G a.0 b.0.epoch l p p' q a.1.position t.1 t.0 b.1.position.epoch in
    (b.0, meaning_alike (F ++ G) (F' ++ G) b.0 u al b.1)

pub answers_law : {roster : ℕ} (log F G : List Fact) (m : Meaning) (f g : Position) → IsLog roster log → IsPart F log → IsPart G log → IsMeaning roster F m
    → IsMeaning roster G m → IsPosition roster F f → IsPosition roster G g
    → (f ≡ g) × ((page q : ℕ) (image : List ℕ) → IsPageAt F f.epoch page q image ↔ IsPageAt G g.epoch page q image)
answers_law log F G m f g l p q a b frontf frontg =
    let one : SameSet F F = λ x. (λ h. h, λ h. h) in
    let two : SameSet G G = λ x. (λ h. h, λ h. h) in
    let t = fronts_of_meaning log F G m l p q a b in
    let e : f ≡ a.0 = front_unique F F one f a.0 frontf a.1.position in
    let d : g ≡ a.0 = front_unique G G two g a.0 frontg t.1 in (
      e ∙ sym d,
      λ page n image. (
        λ h. subst (λ x. IsPageAt G x.epoch page n image) (sym d)
            (page_alike F G a.0.epoch t.0 page n image (subst (λ x. IsPageAt F x.epoch page n image) e h)),
        λ h. subst (λ x. IsPageAt F x.epoch page n image) (sym e)
            (page_alike G F a.0.epoch (alike_sym F G a.0.epoch t.0) page n image (subst (λ x. IsPageAt G x.epoch page n image) d h)),
      ),
    )

-- a meaning has a point for each reader
count_of_points : {roster : ℕ} (F : List Fact) (f : Position) (x : Meaning) → IsMeaningAt roster F f x → length x.points ≡ roster
count_of_points F f x a = ap length a.points ∙ a.position.points.count

-- the order

-- F adds nothing to G, where G's meaning covers F's
module _ {roster : ℕ} (log F G : List Fact) (x y : Meaning) (l : IsLog roster log) (p : IsPart F log) (q : IsPart G log) (f g : Position)
    (a : IsMeaningAt roster F f x) (b : IsMeaningAt roster G g y) (c : CoversAt g.epoch y x) where
  cuts_down : (d : CutData) → Contains (cuts F) d → Contains (cuts G) d
  cuts_down d h = (b.cuts.members d).0 (c.cuts d ((a.cuts.members d).1 h))

  epochs : f.epoch ≤ g.epoch
  epochs = greatest_le (HasCutsTo (cuts F)) (HasCutsTo (cuts G)) (λ n has e u v. let s = has e u v in (s.0, cuts_down s.0 s.1, s.2)) f.epoch g.epoch
      a.position.epoch b.position.epoch

  alive_in_log : (r : RecordData) → Matters G g.epoch r → Matters log g.epoch r
  alive_in_log r m = ⊎_elim (λ (w : g.epoch < r.epoch). inl w)
      (λ (al : IsAlive (cuts G) g.epoch r.epoch r.number). inr (alive_up log G l q g.epoch r.epoch r.number (has_cuts (cuts G) g.epoch b.position.epoch) al)) m

  records_down : (r : RecordData) → Matters G g.epoch r → Contains (records F) r → Contains (records G) r
  records_down r m h =
      let hl = part_records F log p r h in
      let below : r.number ≤ g.anchor → r.epoch ≤ g.epoch → Contains (records G) r = λ u v.
      ⊎_elim (λ (w : g.epoch < r.epoch). absurd (omega arith))
      (λ (al : IsAlive (cuts log) g.epoch r.epoch r.number). has_below log G g l q b.position r hl al u) (alive_in_log r m) in
      let kept : IsKept F f r → Contains (records G) r = λ k.
      ⊎_elim (λ (s : Contains y.kept r). ((b.kept.members r).0 s).0)
      (λ t. ⊎_elim
      (λ (dead : IsDead y.cuts g.epoch r.epoch r.number). ⊎_elim
      (λ (w : g.epoch < r.epoch). let e : r.epoch ≤ g.epoch = dead.0 in absurd (omega arith))
      (λ (al : IsAlive (cuts G) g.epoch r.epoch r.number). absurd
      (dead.1 (alive_within y.cuts (cuts G) (λ d. (b.cuts.members d).0) g.epoch r.epoch r.number al)))
      m)
      (λ (s : (r.number ≤ y.anchor) × (r.epoch ≤ g.epoch)). below (let t : r.number ≤ y.anchor = s.0 in let e : y.anchor ≡ g.anchor = b.anchor in omega arith)
      s.1)
      t)
      (c.kept r ((a.kept.members r).1 k)) in
      let le = epochs in
      ⊎_elim
      (λ (w : f.epoch < r.epoch). kept (h, inl w))
      (λ (al : IsAlive (cuts F) f.epoch r.epoch r.number). ⊎_elim
      (λ (up : f.anchor < r.number). kept (h, inr (al, up)))
      (λ (down : f.anchor < r.number → ⊥).
      let e : r.epoch ≤ f.epoch = al.known in
      let s : x.anchor ≤ y.anchor = c.anchor in let u : x.anchor ≡ f.anchor = a.anchor in let v : y.anchor ≡ g.anchor = b.anchor in
      below (omega (arith, down)) (omega arith))
      (settled_lt f.anchor r.number))
      (mattered log F l p f.epoch g.epoch (has_cuts (cuts F) f.epoch a.position.epoch) le r (alive_in_log r m))

  waits_down : (d : AdvanceData) → g.epoch < d.epoch → Contains (advances F) d → Contains (advances G) d
  waits_down d lt h =
      let le = epochs in
      ⊎_elim (λ (s : Contains y.waits d). ((b.waits.members d).0 s).0)
      (λ (s : (d.epoch ≤ g.epoch) × (d.point ≤ point_of y.points d.reader)). let t : d.epoch ≤ g.epoch = s.0 in absurd (omega arith))
      (c.waits d ((a.waits.members d).1 (h, omega arith)))

  points_down : (d : AdvanceData) → d.epoch ≤ g.epoch → Contains (advances F) d → d.point ≤ point_of g.points d.reader
  points_down d le h =
      let e : point_of y.points d.reader ≡ point_of g.points d.reader = ap (λ ps. point_of ps d.reader) b.points in
      let inside : IsReader roster d.reader = l.reader d (part_advances F log p d h) in
      ⊎_elim
      (λ (w : f.epoch < d.epoch). ⊎_elim
      (λ (s : Contains y.waits d). let t : g.epoch < d.epoch = ((b.waits.members d).0 s).1 in absurd (omega arith))
      (λ (s : (d.epoch ≤ g.epoch) × (d.point ≤ point_of y.points d.reader)). let t : d.point ≤ point_of y.points d.reader = s.1 in omega arith)
      (c.waits d ((a.waits.members d).1 (h, w))))
      (λ (known : f.epoch < d.epoch → ⊥).
      let t : d.point ≤ point_of f.points d.reader = advance_le (advances F) f.epoch d.reader (point_of f.points d.reader)
      (a.position.points.each d.reader inside) d h (omega (arith, known)) refl in
      let v : point_of x.points d.reader ≡ point_of f.points d.reader = ap (λ ps. point_of ps d.reader) a.points in
      let u : point_of x.points d.reader ≤ point_of y.points d.reader = zip_at roster x.points y.points (count_of_points F f x a) c.points d.reader inside in
      omega arith)
      (settled_lt f.epoch d.epoch)

  pub adds_nothing : Alike roster G (F ++ G) g.epoch
  adds_nothing = record {
    cuts = λ d. (λ h. part_cuts G (F ++ G) (right F G) d h, λ h. ⊎_elim (cuts_down d) (λ (u : Contains (cuts G) d). u) (cut_cases F G d h));
    records = λ r m. (λ h. part_records G (F ++ G) (right F G) r h, λ h. ⊎_elim (records_down r m) (λ (u : Contains (records G) r). u) (record_cases F G r h));
    waits = λ d lt. (λ h. part_advances G (F ++ G) (right F G) d h, λ h. ⊎_elim (waits_down d lt) (λ (u : Contains (advances G) d). u) (advance_cases F G d h));
    points = λ reader i r. point_pair (advances G) (advances (F ++ G)) g.epoch reader (λ m n gm gn.
        let gp : IsPoint (advances G) g.epoch reader (point_of g.points reader) = b.position.points.each reader r in
        let same : m ≡ point_of g.points reader = greatest_unique _ _ (λ i. (λ u. u, λ u. u)) m (point_of g.points reader) gm gp in
        let u : m ≤ n = point_le G (F ++ G) (right F G) g.epoch g.epoch (omega arith) reader m n gm gn in
        let v : n ≤ point_of g.points reader = ⊎_elim (λ (e : n ≡ 0). omega arith)
        (λ (s : HasAdvance (advances (F ++ G)) g.epoch reader n).
        let e : s.0.point ≡ n = s.4 in
        let t : s.0.point ≤ point_of g.points reader = ⊎_elim
        (λ (w : Contains (advances F) s.0). subst (λ i. s.0.point ≤ point_of g.points i) s.3 (points_down s.0 s.2 w))
        (λ (w : Contains (advances G) s.0). advance_le (advances G) g.epoch reader (point_of g.points reader) gp s.0 w s.2 s.3)
        (advance_cases F G s.0 s.1) in
        omega arith)
        gn.0 in
        omega arith) i;
  }

-- covering parts by meanings
pub covers_at : {roster : ℕ} (F : List Fact) (y x : Meaning) (g : Position) → IsMeaningAt roster F g y → Covers y x → CoversAt g.epoch y x
covers_at F y x g b c =
    let e : c.0 ≡ g.epoch = greatest_unique (HasCutsTo y.cuts) (HasCutsTo (cuts F))
    (λ n. (cuts_to_by y.cuts (cuts F) b.cuts.members n, cuts_to_by (cuts F) y.cuts (λ d. ((b.cuts.members d).1, (b.cuts.members d).0)) n)) c.0 g.epoch
    c.1.epoch b.position.epoch in
    subst (λ k. CoversAt k y x) e c.1

pub absorbed : {roster : ℕ} (log F G : List Fact) (x y : Meaning) → IsLog roster log → IsPart F log → IsPart G log → IsMeaning roster F x → IsMeaning roster G y
    → Covers y x → IsMeaning roster (F ++ G) y
absorbed log F G x y l p q a b c = (b.0, meaning_alike G (F ++ G) b.0 y (adds_nothing log F G x y l p q a.0 b.0 a.1 b.1 (covers_at G y x b.0 b.1 c)) b.1)

pub covers_of_parts : {roster : ℕ} (log F G : List Fact) (x y : Meaning) → IsLog roster log → IsPart F G → IsPart G log → IsMeaning roster F x
    → IsMeaning roster G y → Covers y x
covers_of_parts {roster} log F G x y l p q a b =
    let f = a.0 in let g = b.0 in
    let le : f.epoch ≤ g.epoch = epoch_le F G p f.epoch g.epoch a.1.position.epoch b.1.position.epoch in
    let an : f.anchor ≤ g.anchor = (finality_law log F G f g l p q a.1.position b.1.position).0 in
    let xa : x.anchor ≡ f.anchor = a.1.anchor in let ya : y.anchor ≡ g.anchor = b.1.anchor in (
      g.epoch,
      record {
        epoch = greatest_by (HasCutsTo (cuts G)) (HasCutsTo y.cuts) (cuts_to_by (cuts G) y.cuts (λ d. ((b.1.cuts.members d).1, (b.1.cuts.members d).0)))
            (cuts_to_by y.cuts (cuts G) b.1.cuts.members) g.epoch b.1.position.epoch;
        cuts = λ d h. (b.1.cuts.members d).1 (part_cuts F G p d ((a.1.cuts.members d).0 h));
        points = zip_of roster x.points y.points (count_of_points F f x a.1) (count_of_points G g y b.1) (λ reader r.
            let xp : point_of x.points reader ≡ point_of f.points reader = ap (λ ps. point_of ps reader) a.1.points in
            let yp : point_of y.points reader ≡ point_of g.points reader = ap (λ ps. point_of ps reader) b.1.points in
            let m : point_of f.points reader ≤ point_of g.points reader = point_le F G p f.epoch g.epoch le reader (point_of f.points reader)
            (point_of g.points reader) (a.1.position.points.each reader r) (b.1.position.points.each reader r) in
            omega arith);
        waits = λ d h.
            let s = (a.1.waits.members d).0 h in
            let h' = part_advances F G p d s.0 in
            ⊎_elim (λ (w : g.epoch < d.epoch). inl ((b.1.waits.members d).1 (h', w)))
            (λ (known : g.epoch < d.epoch → ⊥). let e : d.epoch ≤ g.epoch = omega (arith, known) in
            let inside : IsReader roster d.reader = l.reader d (part_advances G log q d h') in
            let t : d.point ≤ point_of g.points d.reader = advance_le (advances G) g.epoch d.reader (point_of g.points d.reader)
            (b.1.position.points.each d.reader inside) d h' e refl in
            let yp : point_of y.points d.reader ≡ point_of g.points d.reader = ap (λ ps. point_of ps d.reader) b.1.points in
            inr (e, omega arith))
            (settled_lt g.epoch d.epoch);
        anchor = omega arith;
        kept = λ r h.
            let s = (a.1.kept.members r).0 h in
            let h' = part_records F G p r s.0 in
            ⊎_elim (λ (w : g.epoch < r.epoch). inl ((b.1.kept.members r).1 (h', inl w)))
            (λ (known : g.epoch < r.epoch → ⊥).
            let e : r.epoch ≤ g.epoch = omega (arith, known) in
            ⊎_elim
            (λ (al : IsAlive (cuts G) g.epoch r.epoch r.number). ⊎_elim
            (λ (up : g.anchor < r.number). inl ((b.1.kept.members r).1 (h', inr (al, up))))
            (λ (down : g.anchor < r.number → ⊥). inr (inr (omega (arith, down), e)))
            (settled_lt g.anchor r.number))
            (λ (dead : IsAlive (cuts G) g.epoch r.epoch r.number → ⊥). inr
            (inl (e, λ al. dead (alive_within (cuts G) y.cuts (λ d. (b.1.cuts.members d).1) g.epoch r.epoch r.number al))))
            (settled_alive (cuts G) g.epoch r.epoch r.number))
            (settled_lt g.epoch r.epoch);
      },
    )

pub order_law : {roster : ℕ} (log F G : List Fact) (x y : Meaning) → IsLog roster log → IsPart F log → IsPart G log → IsMeaning roster F x
    → IsMeaning roster G y → Covers y x ↔ IsAtMost roster log x y
order_law log F G x y l p q a b = (
  λ c. (F, F ++ G, left F G, both F G log p q, a, absorbed log F G x y l p q a b c),
  λ s. covers_of_parts log s.0 s.1 x y l s.2 s.3 s.4 s.5,
)

pub least_law : {roster : ℕ} (log F G : List Fact) (x y u : Meaning) → IsLog roster log → IsPart F log → IsPart G log → IsMeaning roster F x
    → IsMeaning roster G y → IsMeaning roster (F ++ G) u → IsAtMost roster log x u × IsAtMost roster log y u
    × ((z : Meaning) → IsAtMost roster log x z → IsAtMost roster log y z → IsAtMost roster log u z)
least_law {roster} log F G x y u l p q a b c = (
  (F, F ++ G, left F G, both F G log p q, a, c),
  (G, F ++ G, right F G, both F G log p q, b, c),
  λ z s t.
      let H = s.1 in
      let inl' : IsPart (s.0 ++ H) log = both s.0 H log (λ w h. s.3 w (s.2 w h)) s.3 in
      let cx : Covers z x = covers_of_parts log s.0 H x z l s.2 s.3 s.4 s.5 in
      let cy : Covers z y = covers_of_parts log t.0 t.1 y z l t.2 t.3 t.4 t.5 in
      let fh : IsMeaning roster (F ++ H) z = absorbed log F H x z l p s.3 a s.5 cx in
      let pf : IsPart (F ++ H) log = both F H log p s.3 in
      let gfh : IsMeaning roster (G ++ (F ++ H)) z = absorbed log G (F ++ H) y z l q pf b fh cy in (
        F ++ G,
        G ++ (F ++ H),
        (λ w h. ⊎_elim (λ (v : Contains F w). right G (F ++ H) w (left F H w v)) (λ (v : Contains G w). left G (F ++ H) w v)
            (Contains-append_cases F G w h)),
        both G (F ++ H) log q pf,
        c,
        gfh,
      ),
)
