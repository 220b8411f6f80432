-- Each set of records whose backlinks go down has one position, by its members alone; each page is one, and exists in a part of a log.
use Rattle.std.proofs.Common.{◌≡◌, ℕ, zero, suc, ◌+◌, ◌-◌, ◌<◌, ◌≤◌, ◌⊎◌, inl, inr, ⊎_elim, List, [], ◌∷◌, length, get_or, refl, sym, ap, ◌∙◌, subst, arith}
use Rattle.std.specs.List.{Contains}
use Rattle.redo_core.specs.Data.{RecordData, CutData, AdvanceData}
use Rattle.redo_core.specs.Sets.{IsPart, SameSet, records, cuts, advances}
use Rattle.redo_core.specs.Writing.{zeros}
use Rattle.redo_core.specs.CompleteEpoch.{HasCutsTo, IsCompleteEpoch}
use Rattle.redo_core.specs.Standing.{IsAlive}
use Rattle.redo_core.specs.Linked.{Linked, IsLinked, IsLinkedRecord}
use Rattle.redo_core.specs.Roster.{point_of, least}
use Rattle.redo_core.specs.Points.{HasAdvance, IsPoint, ArePoints}
use Rattle.redo_core.specs.Position.{Position, IsPosition}
use Rattle.redo_core.specs.PageAt.{IsPageAt}
use Rattle.redo_core.specs.Order.{BeforeByNumber}
use Rattle.redo_core.specs.Writing.{after_records}
use Rattle.redo_core.specs.Linked.Linked.{start, next}
use Rattle.redo_core.specs.declared.facts.Fact.{Fact}
use Rattle.redo_core.proofs.Members.{lists_unique}
use Rattle.redo_core.proofs.Numbers.{greatest_unique, greatest_below}
use Rattle.redo_core.proofs.Points.{same_points}
use Rattle.redo_core.proofs.FactParts.{part_records, part_cuts, part_advances}
use Rattle.log_theorems.proofs.Log.{alive_within}
use Rattle.log_theorems.proofs.Deciding.{Settled, settled_le, settled_lt, settled_eq, settled_and, settled_implies, settled_by, some_or_none, settled_each, total, within_total}

-- by members alone

pub alive_same : (F G : List Fact) → SameSet F G → (k e n : ℕ) → IsAlive (cuts F) k e n → IsAlive (cuts G) k e n
alive_same F G same k e n a = alive_within (cuts G) (cuts F) (part_cuts G F (λ f h. (same f).1 h)) k e n a

pub linked_same : (F G : List Fact) → SameSet F G → (k n : ℕ) → IsLinked F k n → IsLinked G k n
linked_same F G same k n start = start
linked_same F G same k n (next r h a l p) = next r (part_records F G (λ f q. (same f).0 q) r h) (alive_same F G same k r.epoch r.number a) l
    (linked_same F G same k r.back p)

pub linked_record_same : (F G : List Fact) → SameSet F G → (k : ℕ) (r : RecordData) → IsLinkedRecord F k r → IsLinkedRecord G k r
linked_record_same F G same k r h = record {
  among = part_records F G (λ f q. (same f).0 q) r h.among;
  alive = alive_same F G same k r.epoch r.number h.alive;
  linked = linked_same F G same k r.number h.linked;
}

pub same_sym : {X : Type 0} (xs ys : List X) → SameSet xs ys → SameSet ys xs
same_sym xs ys same x = ((same x).1, (same x).0)

pub cuts_to_part : (cs ds : List CutData) → IsPart cs ds → (k : ℕ) → HasCutsTo cs k → HasCutsTo ds k
cuts_to_part cs ds p k has e l m = let c = has e l m in (c.0, p c.0 c.1, c.2)

pub advance_part : (as' bs : List AdvanceData) → IsPart as' bs → (k reader n : ℕ) → HasAdvance as' k reader n → HasAdvance bs k reader n
advance_part as' bs p k reader n h = (h.0, p h.0 h.1, h.2, h.3, h.4)

-- two positions of one set are one
pub epoch_unique : (F G : List Fact) → SameSet F G → (k j : ℕ) → IsCompleteEpoch (cuts F) k → IsCompleteEpoch (cuts G) j → k ≡ j
epoch_unique F G same k j a b =
    greatest_unique (HasCutsTo (cuts F)) (HasCutsTo (cuts G))
    (λ n. (cuts_to_part (cuts F) (cuts G) (part_cuts F G (λ f h. (same f).0 h)) n, cuts_to_part (cuts G) (cuts F) (part_cuts G F (λ f h. (same f).1 h)) n)) k j
    a b

record_of_front : (e e' c c' : ℕ) (ps ps' : List ℕ) (m m' a a' : ℕ) → e ≡ e' → c ≡ c' → ps ≡ ps' → m ≡ m' → a ≡ a'
    → (let f : Position = record { epoch = e; complete = c; points = ps; min = m; anchor = a } in f) ≡ record {
      epoch = e';
      complete = c';
      points = ps';
      min = m';
      anchor = a';
    }
record_of_front e e' c c' ps ps' m m' a a' p q t r s = cc

pub front_unique : {roster : ℕ} (F G : List Fact) → SameSet F G → (f g : Position) → IsPosition roster F f → IsPosition roster G g → f ≡ g
front_unique {roster} F G same f g a b =
    let back = same_sym F G same in
    let e : f.epoch ≡ g.epoch = epoch_unique F G same f.epoch g.epoch a.epoch b.epoch in
    let to : (n : ℕ) → IsLinked F f.epoch n → IsLinked G g.epoch n = λ n h. subst (λ k. IsLinked G k n) e (linked_same F G same f.epoch n h) in
    let fro : (n : ℕ) → IsLinked G g.epoch n → IsLinked F f.epoch n = λ n h. linked_same G F back f.epoch n (subst (λ k. IsLinked G k n) (sym e) h) in
    let ps : f.points ≡ g.points =
    same_points roster f.points g.points a.points.count b.points.count
    (λ reader r. greatest_unique (HasAdvance (advances F) f.epoch reader) (HasAdvance (advances G) g.epoch reader)
    (λ n. (
      λ h. subst (λ k. HasAdvance (advances G) k reader n) e
          (advance_part (advances F) (advances G) (part_advances F G (λ x q. (same x).0 q)) f.epoch reader n h),
      λ h. advance_part (advances G) (advances F) (part_advances G F (λ x q. (same x).1 q)) f.epoch reader n
          (subst (λ k. HasAdvance (advances G) k reader n) (sym e) h),
    ))
    (point_of f.points reader) (point_of g.points reader) (a.points.each reader r) (b.points.each reader r)) in
    let m : f.min ≡ g.min = a.min ∙ ap least ps ∙ sym b.min in
    let c : f.complete ≡ g.complete = greatest_unique (IsLinked F f.epoch) (IsLinked G g.epoch)
    (λ n. (to n, fro n)) f.complete g.complete a.complete b.complete in
    let x : f.anchor ≡ g.anchor =
    greatest_unique (λ n. IsLinked F f.epoch n × (n ≤ f.min)) (λ n. IsLinked G g.epoch n × (n ≤ g.min))
    (λ n. (λ h. (to n h.0, let t : n ≤ f.min = h.1 in omega arith), λ h. (fro n h.0, let t : n ≤ g.min = h.1 in omega arith)))
    f.anchor g.anchor a.anchor b.anchor in
    record_of_front f.epoch g.epoch f.complete g.complete f.points g.points f.min g.min f.anchor g.anchor e c ps m x

-- two images of one page are one
pub page_unique : (F G : List Fact) → SameSet F G → (k g q : ℕ) (i j : List ℕ) → IsPageAt F k g q i → IsPageAt G k g q j → i ≡ j
page_unique F G same k g q i j a b =
    let back = same_sym F G same in
    let e : a.written ≡ b.written =
    lists_unique BeforeByNumber (λ r s x y. omega arith)
    (λ r. IsLinkedRecord F k r × (r.page ≡ g) × (r.number ≤ q)) (λ r. IsLinkedRecord G k r × (r.page ≡ g) × (r.number ≤ q))
    (λ r. (λ h. (linked_record_same F G same k r h.0, h.1, h.2), λ h. (linked_record_same G F back k r h.0, h.1, h.2)))
    a.written b.written a.lists b.lists in
    a.result ∙ ap (after_records zeros) e ∙ sym b.result

-- there is a position

pub settled_alive : (cs : List CutData) (k e n : ℕ) → Settled (IsAlive cs k e n)
settled_alive cs k e n =
    settled_by ((e ≤ k) × ((c : CutData) → Contains cs c → (c.epoch ≡ e → c.hi < n) × (e < c.epoch → c.epoch ≤ k → n ≤ c.lo))) (IsAlive cs k e n)
    (λ h. record { known = h.0; begun = λ c q. (h.1 c q).0; spared = λ c q. (h.1 c q).1 })
    (λ a. (a.known, λ c q. (a.begun c q, a.spared c q)))
    (settled_and _ _ (settled_le e k) (λ _.
    settled_each (λ c. (c.epoch ≡ e → c.hi < n) × (e < c.epoch → c.epoch ≤ k → n ≤ c.lo))
    (λ c. settled_and _ _ (settled_implies _ _ (settled_eq c.epoch e) (settled_lt c.hi n))
    (λ _. settled_implies _ _ (settled_lt e c.epoch) (settled_implies _ _ (settled_le c.epoch k) (settled_le n c.lo))))
    cs))

-- the last record of a link
abbrev pub LastLink : List CutData → List RecordData → ℕ → ℕ → ℕ → RecordData → Type 0
LastLink cs rs k base n r = (r.number ≡ n) × ((base < r.number) × ((r.back < r.number) × (IsAlive cs k r.epoch r.number × Linked cs rs k base r.back)))

pub last_link : (cs : List CutData) (rs : List RecordData) (k base : ℕ) → ((r : RecordData) → Contains rs r → r.back < r.number) → (n : ℕ)
    → Linked cs rs k base n → (n ≡ base) ⊎ ((r : RecordData) × Contains rs r × LastLink cs rs k base n r)
last_link cs rs k base backs n start = inl refl
last_link cs rs k base backs n (next r h a l p) = inr (r, h, (refl, (l, (backs r h, (a, p)))))

pub settled_below : (cs : List CutData) (rs : List RecordData) (k base : ℕ) → ((r : RecordData) → Contains rs r → r.back < r.number) → (bound n : ℕ) → n < bound
    → Settled (Linked cs rs k base n)
settled_below cs rs k base backs zero n l = absurd (omega arith)
settled_below cs rs k base backs (suc bound) n l =
    ⊎_elim
    (λ (e : n ≡ base). inl (subst (Linked cs rs k base) (sym e) start))
    (λ (off : n ≡ base → ⊥). ⊎_elim
    (λ (s : (r : RecordData) × Contains rs r × LastLink cs rs k base n r). inl
    (let t = s.2 in subst (Linked cs rs k base) t.0 (next s.0 s.1 t.1.1.1.0 t.1.0 t.1.1.1.1)))
    (λ (none : (r : RecordData) → Contains rs r → LastLink cs rs k base n r → ⊥). inr
    (λ h. ⊎_elim off (λ (s : (r : RecordData) × Contains rs r × LastLink cs rs k base n r). none s.0 s.1 s.2) (last_link cs rs k base backs n h)))
    (some_or_none (LastLink cs rs k base n)
    (λ r. settled_and _ _ (settled_eq r.number n)
    (λ e. settled_and _ _ (settled_lt base r.number)
    (λ _. settled_and _ _ (settled_lt r.back r.number)
    (λ b. settled_and _ _ (settled_alive cs k r.epoch r.number) (λ _. settled_below cs rs k base backs bound r.back (omega arith))))))
    rs))
    (settled_eq n base)

pub settled_linked : (cs : List CutData) (rs : List RecordData) (k base : ℕ) → ((r : RecordData) → Contains rs r → r.back < r.number) → (n : ℕ)
    → Settled (Linked cs rs k base n)
settled_linked cs rs k base backs n = settled_below cs rs k base backs (suc n) n (omega arith)

pub linked_total : (cs : List CutData) (rs : List RecordData) (k n : ℕ) → Linked cs rs k 0 n → n ≤ total (λ r. r.number) rs
linked_total cs rs k n start = omega arith
linked_total cs rs k n (next r h a l p) = within_total (λ r. r.number) rs r h

pub cut_at : (cs : List CutData) (e : ℕ) → Settled ((c : CutData) × Contains cs c × (c.epoch ≡ e))
cut_at cs e = some_or_none' (some_or_none (λ c. c.epoch ≡ e) (λ c. settled_eq c.epoch e) cs)
  where
    some_or_none' : ((c : CutData) × Contains cs c × (c.epoch ≡ e)) ⊎ ((c : CutData) → Contains cs c → (c.epoch ≡ e) → ⊥)
        → Settled ((c : CutData) × Contains cs c × (c.epoch ≡ e))
    some_or_none' s = ⊎_elim inl (λ none. inr (λ h. none h.0 h.1 h.2)) s

pub settled_cuts : (cs : List CutData) (k : ℕ) → Settled (HasCutsTo cs k)
settled_cuts cs zero = inl (λ e l m. absurd (omega arith))
settled_cuts cs (suc k) =
    ⊎_elim
    (λ (has : HasCutsTo cs k). ⊎_elim
    (λ (c : (c : CutData) × Contains cs c × (c.epoch ≡ suc k)). inl
    (λ e l m. ⊎_elim (λ (q : e ≤ k). has e l q) (λ (q : e ≡ suc k). (c.0, c.1, c.2 ∙ sym q)) (let t : (e ≤ k) ⊎ (e ≡ suc k) = grind arith in t)))
    (λ (no : (c : CutData) × Contains cs c × (c.epoch ≡ suc k) → ⊥). inr (λ h. no (h (suc k) (omega arith) (omega arith))))
    (cut_at cs (suc k)))
    (λ (no : HasCutsTo cs k → ⊥). inr (λ h. no (λ e l m. h e l (omega arith))))
    (settled_cuts cs k)

pub cuts_total : (cs : List CutData) (k : ℕ) → HasCutsTo cs k → k ≤ total (λ c. c.epoch) cs
cuts_total cs zero has = omega arith
cuts_total cs (suc k) has = let c = has (suc k) (omega arith) (omega arith) in let m : c.0.epoch ≤ total (λ c. c.epoch) cs = within_total
    (λ c. c.epoch) cs c.0 c.1 in let e : c.0.epoch ≡ suc k = c.2 in omega arith

pub epoch_exists : (cs : List CutData) → (k : ℕ) × IsCompleteEpoch cs k
epoch_exists cs = greatest_below (HasCutsTo cs) (settled_cuts cs) (total (λ c. c.epoch) cs) (cuts_total cs)

pub point_exists : (as' : List AdvanceData) (k reader : ℕ) → (m : ℕ) × IsPoint as' k reader m
point_exists as' k reader =
    greatest_below (HasAdvance as' k reader)
    (λ n. ⊎_elim (λ (s : (a : AdvanceData) × Contains as' a × ((a.epoch ≤ k) × ((a.reader ≡ reader) × (a.point ≡ n)))). inl (s.0, s.1, s.2.0, s.2.1.0, s.2.1.1))
    (λ (none : (a : AdvanceData) → Contains as' a → ((a.epoch ≤ k) × ((a.reader ≡ reader) × (a.point ≡ n))) → ⊥). inr (λ h. none h.0 h.1 (h.2, (h.3, h.4))))
    (some_or_none (λ a. (a.epoch ≤ k) × ((a.reader ≡ reader) × (a.point ≡ n)))
    (λ a. settled_and _ _ (settled_le a.epoch k) (λ _. settled_and _ _ (settled_eq a.reader reader) (λ _. settled_eq a.point n))) as'))
    (total (λ a. a.point) as')
    (λ n h. let m : h.0.point ≤ total (λ a. a.point) as' = within_total (λ a. a.point) as' h.0 h.1 in let e : h.0.point ≡ n = h.4 in omega arith)

-- the points of n readers, from one on
points_from : (as' : List AdvanceData) (k n first : ℕ) → (ps : List ℕ) × (length ps ≡ n) × ((i : ℕ) → i < n → IsPoint as' k (first + i) (get_or ps i 0))
points_from as' k zero first = ([], refl, λ i l. absurd (omega (arith, l)))
points_from as' k (suc n) first =
    let p = point_exists as' k first in
    let rest = points_from as' k n (suc first) in
    (p.0 ∷ rest.0, omega (arith, rest.1), at p.0 rest.0 p.1 rest.2)
  where
    at : (p : ℕ) (ps : List ℕ) → IsPoint as' k first p → ((i : ℕ) → i < n → IsPoint as' k (suc first + i) (get_or ps i 0)) → (i : ℕ) → i < suc n
        → IsPoint as' k (first + i) (get_or (p ∷ ps) i 0)
    at p ps h rest zero l = subst (λ r. IsPoint as' k r p) (let t : first ≡ first + 0 = omega arith in t) h
    at p ps h rest (suc i) l = subst (λ r. IsPoint as' k r (get_or ps i 0)) (let t : suc first + i ≡ first + suc i = omega arith in t)
        (rest i (omega (arith, l)))

pub points_exist : (roster : ℕ) (as' : List AdvanceData) (k : ℕ) → (ps : List ℕ) × ArePoints roster as' k ps
points_exist roster as' k =
    let s = points_from as' k roster 1 in (
      s.0,
      record {
        count = s.1;
        each = λ reader r. let t : 1 + (reader - 1) ≡ reader = omega (arith, r.0) in
            subst (λ j. IsPoint as' k j (point_of s.0 reader)) t (s.2 (reader - 1) (omega (arith, r.0, r.1)));
      },
    )

pub front_exists : (roster : ℕ) (F : List Fact) → ((r : RecordData) → Contains (records F) r → r.back < r.number) → (f : Position) × IsPosition roster F f
front_exists roster F backs =
    let k = epoch_exists (cuts F) in
    let test : (n : ℕ) → Settled (IsLinked F k.0 n) = settled_linked (cuts F) (records F) k.0 0 backs in
    let ps = points_exist roster (advances F) k.0 in
    let m = least ps.0 in
    let c = greatest_below (IsLinked F k.0) test (total (λ r. r.number) (records F)) (linked_total (cuts F) (records F) k.0) in
    let a = greatest_below (λ n. IsLinked F k.0 n × (n ≤ m)) (λ n. settled_and _ _ (test n) (λ _. settled_le n m)) m (λ n h. h.1) in (
      record { epoch = k.0; complete = c.0; points = ps.0; min = m; anchor = a.0 },
      record { epoch = k.1; complete = c.1; points = ps.1; min = refl; anchor = a.1 },
    )
