-- The laws prefix and finality.
use Rattle.std.proofs.Common.{◌≡◌, ℕ, ◌<◌, ◌≤◌, ◌⊎◌, ◌↔◌, ⊎_elim, List, sym, subst, arith}
use Rattle.std.specs.List.{Contains}
use Rattle.redo_core.specs.Data.{RecordData, CutData, AdvanceData}
use Rattle.redo_core.specs.Sets.{IsPart, records, cuts, advances}
use Rattle.redo_core.specs.CompleteEpoch.{HasCutsTo, IsCompleteEpoch}
use Rattle.redo_core.specs.Standing.{IsAlive}
use Rattle.redo_core.specs.Linked.{IsLinked, IsLinkedRecord}
use Rattle.redo_core.specs.Roster.{IsReader, point_of, least}
use Rattle.redo_core.specs.Points.{HasAdvance, IsPoint, ArePoints}
use Rattle.redo_core.specs.Position.{Position, IsPosition}
use Rattle.redo_core.specs.Past.{IsPast}
use Rattle.redo_core.specs.Linked.Linked.{start, next}
use Rattle.redo_core.specs.declared.facts.Fact.{Fact}
use Rattle.redo_core.proofs.Numbers.{greatest_le, at_greatest}
use Rattle.redo_core.proofs.Points.{least_le, least_mono}
use Rattle.redo_core.proofs.FactParts.{part_records, part_cuts, part_advances}
use Rattle.redo_core.proofs.CompleteEpochs.{has_cuts}
use Rattle.log_theorems.proofs.Log.{IsLog, alive_within}

-- a part that knows the epochs up to k knows all of the log's truncations there
pub knows_cuts : {roster : ℕ} (log part : List Fact) → IsLog roster log → IsPart part log → (k : ℕ) → HasCutsTo (cuts part) k → (c : CutData)
    → Contains (cuts log) c → c.epoch ≤ k → Contains (cuts part) c
knows_cuts log part l p k has c h m =
    let s = has c.epoch (l.cut_order c h).0 m in
    let q : s.0 ≡ c = l.same_cut s.0 c (part_cuts part log p s.0 s.1) h s.2 in
    subst (Contains (cuts part)) q s.1

-- so a record that is alive in the part's view is so in the log's
pub alive_up : {roster : ℕ} (log part : List Fact) → IsLog roster log → IsPart part log → (k e n : ℕ) → HasCutsTo (cuts part) k → IsAlive (cuts part) k e n
    → IsAlive (cuts log) k e n
alive_up log part l p k e n has a = record {
  known = a.known;
  begun = λ c h q. a.begun c (knows_cuts log part l p k has c h (let t : e ≤ k = a.known in omega arith)) q;
  spared = λ c h q m. a.spared c (knows_cuts log part l p k has c h m) q m;
}

-- of two records of one view the one of the later epoch has the greater LSN
pub later_above : {roster : ℕ} (log : List Fact) → IsLog roster log → (k : ℕ) → HasCutsTo (cuts log) k → (r s : RecordData)
    → IsAlive (cuts log) k r.epoch r.number → IsAlive (cuts log) k s.epoch s.number → s.epoch < r.epoch → s.number < r.number
later_above log l k has r s ar as' lt =
    let t : r.epoch ≤ k = ar.known in
    let c = has r.epoch (omega arith) t in
    let a : c.0.hi < r.number = ar.begun c.0 c.1 c.2 in
    let b : s.number ≤ c.0.lo = as'.spared c.0 c.1 (let e : c.0.epoch ≡ r.epoch = c.2 in omega arith) (let e : c.0.epoch ≡ r.epoch = c.2 in omega arith) in
    let d : c.0.lo ≤ c.0.hi = (l.cut_order c.0 c.1).1 in
    omega arith

-- two alive records never share an LSN
pub alone : {roster : ℕ} (log : List Fact) → IsLog roster log → (k : ℕ) → HasCutsTo (cuts log) k → (r s : RecordData) → Contains (records log) r
    → Contains (records log) s → IsAlive (cuts log) k r.epoch r.number → IsAlive (cuts log) k s.epoch s.number → r.number ≡ s.number → r ≡ s
alone log l k has r s hr hs ar as' e =
    ⊎_elim
    (λ (q : r.epoch < s.epoch). absurd (let x = later_above log l k has s r as' ar q in omega (arith, x)))
    (λ (m : s.epoch ≤ r.epoch). ⊎_elim
    (λ (q : s.epoch < r.epoch). absurd (let x = later_above log l k has r s ar as' q in omega (arith, x)))
    (λ (q : r.epoch ≡ s.epoch). l.same_record r s hr hs q e)
    (let t : (s.epoch < r.epoch) ⊎ (r.epoch ≡ s.epoch) = grind arith in t))
    (let t : (r.epoch < s.epoch) ⊎ (s.epoch ≤ r.epoch) = grind arith in t)

-- what is alive in view k below a record that is alive there, is alive in the record's own view
pub alive_then : {roster : ℕ} (log : List Fact) → IsLog roster log → (k : ℕ) → HasCutsTo (cuts log) k → (r s : RecordData)
    → IsAlive (cuts log) k r.epoch r.number → IsAlive (cuts log) k s.epoch s.number → s.number < r.number → IsAlive (cuts log) r.epoch s.epoch s.number
alive_then log l k has r s ar as' lt = record {
  known =
      ⊎_elim (λ (q : r.epoch < s.epoch). absurd (let x = later_above log l k has s r as' ar q in omega (arith, x))) (λ (m : s.epoch ≤ r.epoch). m)
      (let t : (r.epoch < s.epoch) ⊎ (s.epoch ≤ r.epoch) = grind arith in t);
  begun = as'.begun;
  spared = λ c h q m. as'.spared c h q (let t : r.epoch ≤ k = ar.known in omega arith);
}

-- Up to a linked LSN, each record of the log that is alive in the part's view is a linked record of the part.
pub linked_below : {roster : ℕ} (log part : List Fact) → IsLog roster log → IsPart part log → (k : ℕ) → HasCutsTo (cuts part) k → (n : ℕ) → IsLinked part k n
    → (s : RecordData) → Contains (records log) s → IsAlive (cuts log) k s.epoch s.number → s.number ≤ n → IsLinkedRecord part k s
linked_below log part l p k has n start s hs as' m = absurd (let x = (l.backs s hs).0 in omega (arith, x))
linked_below log part l p k has n (next r hr ar lt linked) s hs as' m =
    let hr' : Contains (records log) r = part_records part log p r hr in
    let ar' : IsAlive (cuts log) k r.epoch r.number = alive_up log part l p k r.epoch r.number has ar in
    let has' : HasCutsTo (cuts log) k = λ e i j. let c = has e i j in (c.0, part_cuts part log p c.0 c.1, c.2) in
    ⊎_elim
    (λ (q : s.number ≡ r.number). let e : r ≡ s = alone log l k has' r s hr' hs ar' as' (sym q) in subst (IsLinkedRecord part k) e
    (record { among = hr; alive = ar; linked = next r hr ar lt linked }))
    (λ (q : s.number < r.number). linked_below log part l p k has r.back linked s hs as' (l.last r s hr' hs (alive_then log l k has' r s ar' as' q) q))
    (let t : (s.number ≡ r.number) ⊎ (s.number < r.number) = grind arith in t)

pub prefix_law : {roster : ℕ} (log part : List Fact) (f : Position) (n : ℕ) (r : RecordData) → IsLog roster log → IsPart part log → IsPosition roster part f
    → IsLinked part f.epoch n → r.number ≤ n → IsLinkedRecord part f.epoch r ↔ (Contains (records log) r × IsAlive (cuts log) f.epoch r.epoch r.number)
prefix_law log part f n r l p front linked m =
    let has : HasCutsTo (cuts part) f.epoch = has_cuts (cuts part) f.epoch front.epoch in (
      λ h. (part_records part log p r h.among, alive_up log part l p f.epoch r.epoch r.number has h.alive),
      λ h. linked_below log part l p f.epoch has n linked r h.0 h.1 m,
    )

-- the complete epoch of a part is at most that of a larger one
pub epoch_le : (F G : List Fact) → IsPart F G → (k j : ℕ) → IsCompleteEpoch (cuts F) k → IsCompleteEpoch (cuts G) j → k ≤ j
epoch_le F G p k j a b = greatest_le (HasCutsTo (cuts F)) (HasCutsTo (cuts G)) (λ n has e l m. let c = has e l m in (c.0, part_cuts F G p c.0 c.1, c.2)) k j a b

-- a reader's point in a part is at most its point in a larger one
pub point_le : (F G : List Fact) → IsPart F G → (k j : ℕ) → k ≤ j → (reader m n : ℕ) → IsPoint (advances F) k reader m → IsPoint (advances G) j reader n → m ≤ n
point_le F G p k j le reader m n a b =
    greatest_le (HasAdvance (advances F) k reader) (HasAdvance (advances G) j reader)
    (λ i h. (h.0, part_advances F G p h.0 h.1, (let t : h.0.epoch ≤ k = h.2 in omega arith), h.3, h.4)) m n a b

-- m is the least of the readers' points
abbrev pub IsMin : ℕ → List AdvanceData → ℕ → ℕ → Type 0
IsMin roster given k m = (ps : List ℕ) × ArePoints roster given k ps × (m ≡ least ps)

pub min_at : (roster : ℕ) (F : List Fact) (f : Position) → IsPosition roster F f → IsMin roster (advances F) f.epoch f.min
min_at roster F f front = (f.points, front.points, front.min)

pub min_le : (roster : ℕ) (F G : List Fact) → IsPart F G → (k j : ℕ) → k ≤ j → (m n : ℕ) → IsMin roster (advances F) k m → IsMin roster (advances G) j n → m ≤ n
min_le roster F G p k j le m n a b =
    let t : least a.0 ≤ least b.0 = least_mono roster a.0 b.0 a.1.count b.1.count
    (λ reader r. point_le F G p k j le reader (point_of a.0 reader) (point_of b.0 reader) (a.1.each reader r) (b.1.each reader r)) in
    let x : m ≡ least a.0 = a.2 in let y : n ≡ least b.0 = b.2 in
    omega arith

-- a reader whose point is above the lo of a later truncation is past it
pub reader_past : (log F : List Fact) → IsPart F log → (k : ℕ) (c : CutData) → k < c.epoch → (reader m : ℕ) → IsPoint (advances F) k reader m → c.lo < m
    → IsPast (advances log) c reader
reader_past log F p k c lt reader m a low =
    ⊎_elim
    (λ (e : m ≡ 0). absurd (omega arith))
    (λ (s : HasAdvance (advances F) k reader m).
    let t : s.0.epoch ≤ k = s.2 in
    let u : s.0.point ≡ m = s.4 in
    (s.0, part_advances F log p s.0 s.1, s.3, omega arith, omega arith))
    a.0

-- law 5: what is annulled in a later epoch is above the minimum read point
pub min_spared : {roster : ℕ} (log F : List Fact) → IsLog roster log → IsPart F log → (k m : ℕ) → IsMin roster (advances F) k m → (c : CutData)
    → Contains (cuts log) c → k < c.epoch → m ≤ c.lo
min_spared {roster} log F l p k m a c h lt =
    ⊎_elim
    (λ (q : m ≤ c.lo). q)
    (λ (low : c.lo < m).
    let past : (reader : ℕ) → IsReader roster reader → IsPast (advances log) c reader = λ reader r.
    reader_past log F p k c lt reader (point_of a.0 reader) (a.1.each reader r)
    (let t : least a.0 ≤ point_of a.0 reader = least_le roster a.0 reader a.1.count r in let e : m ≡ least a.0 = a.2 in omega arith) in
    let s = past 1 (omega arith, l.some_reader) in
    let t : s.0.point ≤ c.lo = l.spared s.0 c s.1 h s.3 past in
    let u : c.lo < s.0.point = s.4 in
    absurd (omega arith))
    (let t : (m ≤ c.lo) ⊎ (c.lo < m) = grind arith in t)

-- up to the minimum read point, standings in view k are those of every later view
pub standing_stays : {roster : ℕ} (log F : List Fact) → IsLog roster log → IsPart F log → (k m j : ℕ) → IsMin roster (advances F) k m → k ≤ j
    → HasCutsTo (cuts log) j → (e n : ℕ) → n ≤ m → IsAlive (cuts log) k e n ↔ IsAlive (cuts log) j e n
standing_stays log F l p k m j a le has e n small = (
  λ h. record {
    known = let t : e ≤ k = h.known in omega arith;
    begun = h.begun;
    spared = λ c hc q u.
        ⊎_elim
        (λ (v : c.epoch ≤ k). h.spared c hc q v)
        (λ (v : k < c.epoch). let w : m ≤ c.lo = min_spared log F l p k m a c hc v in omega arith)
        (let t : (c.epoch ≤ k) ⊎ (k < c.epoch) = grind arith in t);
  },
  λ h. record {
    known =
        ⊎_elim
        (λ (v : e ≤ k). v)
        (λ (v : k < e). absurd (
        let t : e ≤ j = h.known in
        let c = has e (omega arith) t in
        let x : c.0.epoch ≡ e = c.2 in
        let w : m ≤ c.0.lo = min_spared log F l p k m a c.0 c.1 (omega arith) in
        let y : c.0.hi < n = h.begun c.0 c.1 c.2 in
        let z : c.0.lo ≤ c.0.hi = (l.cut_order c.0 c.1).1 in
        omega arith))
        (let t : (e ≤ k) ⊎ (k < e) = grind arith in t);
    begun = h.begun;
    spared = λ c hc q u. h.spared c hc q (omega arith);
  },
)

-- a standing in the log's view is one in the part's
pub alive_down : (log part : List Fact) → IsPart part log → (k e n : ℕ) → IsAlive (cuts log) k e n → IsAlive (cuts part) k e n
alive_down log part p k e n a = alive_within (cuts part) (cuts log) (part_cuts part log p) k e n a

-- an LSN linked at or below the minimum is linked in every larger part
pub linked_stays : {roster : ℕ} (log F G : List Fact) → IsLog roster log → IsPart F G → IsPart G log → (k m j : ℕ) → HasCutsTo (cuts F) k
    → IsMin roster (advances F) k m → k ≤ j → HasCutsTo (cuts G) j → (n : ℕ) → n ≤ m → IsLinked F k n → IsLinked G j n
linked_stays log F G l p q k m j has a le hasj n small start = start
linked_stays log F G l p q k m j has a le hasj n small (next r hr ar lt linked) =
    let pq : IsPart F log = λ f h. q f (p f h) in
    let hr' : Contains (records F) r = hr in
    let hasj' : HasCutsTo (cuts log) j = λ e i u. let c = hasj e i u in (c.0, part_cuts G log q c.0 c.1, c.2) in
    let up : IsAlive (cuts log) k r.epoch r.number = alive_up log F l pq k r.epoch r.number has ar in
    let later : IsAlive (cuts log) j r.epoch r.number = (standing_stays log F l pq k m j a le hasj' r.epoch r.number small).0 up in
    let b : r.back < r.number = (l.backs r (part_records F log pq r hr)).1 in
    next r (part_records F G p r hr) (alive_down log G q j r.epoch r.number later) lt
    (linked_stays log F G l p q k m j has a le hasj r.back (omega arith) linked)

pub anchor_is : {roster : ℕ} (F : List Fact) (f : Position) → IsPosition roster F f → IsLinked F f.epoch f.anchor × (f.anchor ≤ f.min)
anchor_is F f front = at_greatest (λ n. IsLinked F f.epoch n × (n ≤ f.min)) (start, omega arith) f.anchor front.anchor

pub finality_law : {roster : ℕ} (log F G : List Fact) (f g : Position) → IsLog roster log → IsPart F G → IsPart G log → IsPosition roster F f
    → IsPosition roster G g → (f.anchor ≤ g.anchor) × ((r : RecordData) → r.number ≤ f.anchor → IsLinkedRecord F f.epoch r ↔ IsLinkedRecord G g.epoch r)
finality_law {roster} log F G f g l p q front gront =
    let pq : IsPart F log = λ x h. q x (p x h) in
    let le : f.epoch ≤ g.epoch = epoch_le F G p f.epoch g.epoch front.epoch gront.epoch in
    let mle : f.min ≤ g.min = min_le roster F G p f.epoch g.epoch le f.min g.min (min_at roster F f front) (min_at roster G g gront) in
    let has = has_cuts (cuts F) f.epoch front.epoch in
    let hasg = has_cuts (cuts G) g.epoch gront.epoch in
    let hasl : HasCutsTo (cuts log) g.epoch = λ e i u. let c = hasg e i u in (c.0, part_cuts G log q c.0 c.1, c.2) in
    let a = anchor_is F f front in
    let am : f.anchor ≤ f.min = a.1 in
    let la : IsLinked G g.epoch f.anchor = linked_stays log F G l p q f.epoch f.min g.epoch has (min_at roster F f front) le hasg f.anchor am a.0 in (
      gront.anchor.1 f.anchor (la, omega arith),
      λ r m. (
        λ h. let x = (prefix_law log F f f.anchor r l pq front a.0 m).0 h in
            (prefix_law log G g f.anchor r l q gront la m).1
            (x.0, (standing_stays log F l pq f.epoch f.min g.epoch (min_at roster F f front) le hasl r.epoch r.number (omega arith)).0 x.1),
        λ h. let x = (prefix_law log G g f.anchor r l q gront la m).0 h in
            (prefix_law log F f f.anchor r l pq front a.0 m).1
            (x.0, (standing_stays log F l pq f.epoch f.min g.epoch (min_at roster F f front) le hasl r.epoch r.number (omega arith)).1 x.1),
      ),
    )
