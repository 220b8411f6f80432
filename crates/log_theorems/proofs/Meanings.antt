-- Each part of a sound log has one meaning, by its members alone.
use Rattle.std.proofs.Common.{◌≡◌, ◌≢◌, ℕ, ◌<◌, ◌≤◌, ◌⊎◌, ◌↔◌, inl, inr, ⊎_elim, List, [], ◌∷◌, map, refl, sym, ◌∙◌, subst, arith, rules}
use Rattle.std.proofs.lemmas.Grind.{common_steps}
use Rattle.std.specs.List.{Contains}
use Rattle.redo_core.specs.Data.{RecordData, CutData, AdvanceData}
use Rattle.redo_core.specs.Sets.{IsPart, SameSet, records, cuts, advances}
use Rattle.redo_core.specs.Order.{Lists}
use Rattle.redo_core.specs.Writing.{zeros}
use Rattle.redo_core.specs.CompleteEpoch.{HasCutsTo}
use Rattle.redo_core.specs.Standing.{IsAlive, IsWaiting}
use Rattle.redo_core.specs.Linked.{IsLinked, IsLinkedRecord}
use Rattle.redo_core.specs.Position.{Position, IsPosition}
use Rattle.redo_core.specs.PageAt.{IsPageAt}
use Rattle.redo_core.specs.Order.{BeforeByNumber}
use Rattle.redo_core.specs.Writing.{after_records}
use Rattle.redo_core.specs.Meaning.{Meaning, IsMeaningAt, IsMeaning, IsKept, ImageData, ImageBefore}
use Rattle.redo_core.specs.Order.{CutBefore, AdvanceBefore, RecordBefore}
use Rattle.redo_core.specs.declared.facts.Fact.{Fact}
use Rattle.redo_core.proofs.Members.{none_in, here, there, which, lists_unique}
use Rattle.redo_core.proofs.Pairs.{pair_apart, pair_trans, pair_order, advance_apart, advance_trans, advance_order}
use Rattle.redo_core.proofs.FactParts.{part_records, part_cuts}
use Rattle.redo_core.proofs.CompleteEpochs.{has_cuts}
use Rattle.log_theorems.proofs.Log.{IsLog}
use Rattle.log_theorems.proofs.Views.{alive_up, alone}
use Rattle.log_theorems.proofs.Deciding.{Settled, settled_le, settled_lt, settled_eq, settled_and, settled_or, in_order}
use Rattle.log_theorems.proofs.Fronts.{front_exists, front_unique, page_unique, settled_alive, settled_linked, linked_record_same, same_sym}

pub lists_as : {X : Type 0} (Before : X → X → Type 0) (P Q : X → Type 0) → ((x : X) → P x ↔ Q x) → (xs : List X) → Lists Before P xs → Lists Before Q xs
lists_as Before P Q same xs l = record { rising = l.rising; members = λ x. (λ h. (same x).0 ((l.members x).0 h), λ h. (l.members x).1 ((same x).1 h)) }

abbrev pub Passing : List Fact → ℕ → ℕ → ℕ → RecordData → Type 0
Passing F k g q r = (IsAlive (cuts F) k r.epoch r.number × IsLinked F k r.number) × (r.page ≡ g) × (r.number ≤ q)

pub settled_passing : (F : List Fact) (k g q : ℕ) → ((r : RecordData) → Contains (records F) r → r.back < r.number) → (r : RecordData)
    → Settled (Passing F k g q r)
settled_passing F k g q backs r =
    ⊎_elim
    (λ (h : ((IsAlive (cuts F) k r.epoch r.number × IsLinked F k r.number) × ((r.page ≡ g) × (r.number ≤ q)))). inl (h.0, h.1.0, h.1.1))
    (λ (no : ((IsAlive (cuts F) k r.epoch r.number × IsLinked F k r.number) × ((r.page ≡ g) × (r.number ≤ q))) → ⊥). inr (λ h. no (h.0, (h.1, h.2))))
    (settled_and _ _
    (settled_and _ _ (settled_alive (cuts F) k r.epoch r.number) (λ _. settled_linked (cuts F) (records F) k 0 backs r.number))
    (λ _. settled_and _ _ (settled_eq r.page g) (λ _. settled_le r.number q)))

-- the page at a point
pub page_exists : {roster : ℕ} (log F : List Fact) → IsLog roster log → IsPart F log → (k : ℕ) → HasCutsTo (cuts F) k → (g q : ℕ)
    → (image : List ℕ) × IsPageAt F k g q image
page_exists log F l p k has g q =
    let hasl : HasCutsTo (cuts log) k = λ e i u. let c = has e i u in (c.0, part_cuts F log p c.0 c.1, c.2) in
    let backs : (r : RecordData) → Contains (records F) r → r.back < r.number = λ r h. (l.backs r (part_records F log p r h)).1 in
    let Good : RecordData → Type 0 = λ r. Contains (records F) r × IsAlive (cuts F) k r.epoch r.number in
    let s = in_order BeforeByNumber Good (λ x y z a b. omega arith)
    (λ x y a b. ⊎_elim
    (λ (e : x.number ≡ y.number). inr (inl (alone log l k hasl x y (part_records F log p x a.0) (part_records F log p y b.0)
    (alive_up log F l p k x.epoch x.number has a.1) (alive_up log F l p k y.epoch y.number has b.1) e)))
    (λ (t : (x.number < y.number) ⊎ (y.number < x.number)). ⊎_elim (λ (v : x.number < y.number). inl v) (λ (v : y.number < x.number). inr (inr v)) t)
    (let t : (x.number ≡ y.number) ⊎ ((x.number < y.number) ⊎ (y.number < x.number)) = grind arith in t))
    (Passing F k g q)
    (λ r. settled_passing F k g q backs r)
    (records F) (λ r h pass. (h, pass.0.0)) in (
      after_records zeros s.0,
      record {
        written = s.0;
        lists = lists_as BeforeByNumber (λ r. Contains (records F) r × Passing F k g q r) (λ r. IsLinkedRecord F k r × (r.page ≡ g) × (r.number ≤ q))
            (λ r. (λ h. (record { among = h.0; alive = h.1.0.0; linked = h.1.0.1 }, h.1.1, h.1.2), λ h. (h.0.among, ((h.0.alive, h.0.linked), h.1, h.2)))) s.0
            s.1;
        result = refl;
      },
    )

pub nat_order : (a b : ℕ) → (a < b) ⊎ ((a ≡ b) ⊎ (b < a))
nat_order a b = grind arith

pub same_image : (i j : ImageData) → i.page ≡ j.page → i.bytes ≡ j.bytes → i ≡ j
same_image i j e p = search rules

-- the meaning is one

pub record_of_meaning : (m n : Meaning) → m.cuts ≡ n.cuts → m.points ≡ n.points → m.waits ≡ n.waits → m.anchor ≡ n.anchor → m.pages ≡ n.pages → m.kept ≡ n.kept
    → m ≡ n
record_of_meaning m n a b c d e f = search rules

pub page_same : (F G : List Fact) → SameSet F G → (k g q : ℕ) (i : List ℕ) → IsPageAt F k g q i → IsPageAt G k g q i
page_same F G same k g q i p = record {
  written = p.written;
  lists = lists_as BeforeByNumber (λ r. IsLinkedRecord F k r × (r.page ≡ g) × (r.number ≤ q)) (λ r. IsLinkedRecord G k r × (r.page ≡ g) × (r.number ≤ q))
      (λ r. (λ h. (linked_record_same F G same k r h.0, h.1, h.2), λ h. (linked_record_same G F (same_sym F G same) k r h.0, h.1, h.2))) p.written p.lists;
  result = p.result;
}

pub meaning_unique : {roster : ℕ} (F : List Fact) (m n : Meaning) → IsMeaning roster F m → IsMeaning roster F n → m ≡ n
meaning_unique {roster} F m n a b =
    let refl_set : SameSet F F = λ x. (λ h. h, λ h. h) in
    let e : b.0 ≡ a.0 = front_unique F F refl_set b.0 a.0 b.1.position a.1.position in
    at a.0 a.1 (subst (λ f. IsMeaningAt roster F f n) e b.1)
  where
    at : (f : Position) → IsMeaningAt roster F f m → IsMeaningAt roster F f n → m ≡ n
    at f x y =
        record_of_meaning m n
        (lists_unique CutBefore (λ c d u v. omega arith) (Contains (cuts F)) (Contains (cuts F)) (λ c. (λ h. h, λ h. h)) m.cuts n.cuts x.cuts y.cuts)
        (x.points ∙ sym y.points)
        (lists_unique AdvanceBefore advance_apart _ _ (λ c. (λ h. h, λ h. h)) m.waits n.waits x.waits y.waits)
        (x.anchor ∙ sym y.anchor)
        (lists_unique ImageBefore (λ c d u v. omega arith) _ _ (λ c. (λ h. h, λ h. h)) m.pages n.pages x.pages y.pages)
        (lists_unique RecordBefore (λ c d u v. pair_apart c.epoch c.number d.epoch d.number u v) _ _ (λ c. (λ h. h, λ h. h)) m.kept n.kept x.kept y.kept)

-- there is a meaning

pub list_eq : (xs ys : List ℕ) → Settled (xs ≡ ys)
list_eq [] [] = inl refl
list_eq [] (y ∷ ys) = inr (λ e. cc)
list_eq (x ∷ xs) [] = inr (λ e. cc)
list_eq (x ∷ xs) (y ∷ ys) =
    ⊎_elim
    (λ (e : x ≡ y). ⊎_elim (λ (f : xs ≡ ys). inl (cc)) (λ (no : xs ≡ ys → ⊥). inr (λ q. no (cc))) (list_eq xs ys))
    (λ (no : x ≡ y → ⊥). inr (λ q. no (cc)))
    (settled_eq x y)

pub in_map : {X Y : Type 0} (f : X → Y) (xs : List X) (x : X) → Contains xs x → Contains (map f xs) (f x)
in_map f xs x h = grind (arith, common_steps)

pub from_map : {X Y : Type 0} (f : X → Y) (xs : List X) (y : Y) → Contains (map f xs) y → (x : X) × Contains xs x × (f x ≡ y)
from_map f [] y h = absurd (none_in y h)
from_map {X} f (z ∷ zs) y h = ⊎_elim (λ (e : f z ≡ y). (z, here z zs, e))
    (λ (q : Contains (map f zs) y). let s = from_map f zs y q in (s.0, there z zs s.0 s.1, s.2)) (which (f z) (map f zs) y h)

-- a page that something was written to is a page of some record
pub written_page : (F : List Fact) (k g q : ℕ) (i : List ℕ) → IsPageAt F k g q i → i ≢ zeros → (r : RecordData) × Contains (records F) r × (r.page ≡ g)
written_page F k g q i p wet = at p.written p.lists p.result
  where
    at : (ws : List RecordData) → Lists BeforeByNumber (λ r. IsLinkedRecord F k r × (r.page ≡ g) × (r.number ≤ q)) ws → i ≡ after_records zeros ws
        → (r : RecordData) × Contains (records F) r × (r.page ≡ g)
    at [] l e = absurd (wet e)
    at (w ∷ ws) l e = let s = (l.members w).0 (here w ws) in (w, s.0.among, s.1)

pub images_exist : {roster : ℕ} (log F : List Fact) → IsLog roster log → IsPart F log → (k : ℕ) → HasCutsTo (cuts F) k → (q : ℕ)
    → (is : List ImageData) × Lists ImageBefore (λ i. IsPageAt F k i.page q i.bytes × (i.bytes ≢ zeros)) is
images_exist log F l p k has q =
    let refl_set : SameSet F F = λ x. (λ h. h, λ h. h) in
    let image : RecordData → ImageData = λ r. record { page = r.page; bytes = (page_exists log F l p k has r.page q).0 } in
    let Good : ImageData → Type 0 = λ i. IsPageAt F k i.page q i.bytes in
    let s = in_order ImageBefore Good (λ x y z a b. omega arith)
    (λ x y a b. ⊎_elim (λ (lt : x.page < y.page). inl lt)
    (λ t. ⊎_elim (λ (e : x.page ≡ y.page). inr (inl
    (same_image x y e (page_unique F F refl_set k x.page q x.bytes y.bytes a (subst (λ g. IsPageAt F k g q y.bytes) (sym e) b)))))
    (λ (gt : y.page < x.page). inr (inr gt)) t) (nat_order x.page y.page))
    (λ i. i.bytes ≢ zeros)
    (λ i. ⊎_elim (λ (e : i.bytes ≡ zeros). inr (λ no. no e)) (λ (no : i.bytes ≡ zeros → ⊥). inl no) (list_eq i.bytes zeros))
    (map image (records F))
    (λ i h no. let t = from_map image (records F) i h in subst Good t.2 (page_exists log F l p k has t.0.page q).1) in (
      s.0,
      lists_as ImageBefore (λ i. Contains (map image (records F)) i × (i.bytes ≢ zeros)) (λ i. IsPageAt F k i.page q i.bytes × (i.bytes ≢ zeros))
          (λ i. (
            λ h. (let t = from_map image (records F) i h.0 in subst Good t.2 (page_exists log F l p k has t.0.page q).1, h.1),
            λ h. (
              let w = written_page F k i.page q i.bytes h.0 h.1 in
                  let v : image w.0 ≡ i = same_image (image w.0) i w.2
                  (page_unique F F refl_set k i.page q (image w.0).bytes i.bytes
                  (subst (λ g. IsPageAt F k g q (image w.0).bytes) w.2 (page_exists log F l p k has w.0.page q).1) h.0) in
                  subst (Contains (map image (records F))) v (in_map image (records F) w.0 w.1),
              h.1,
            ),
          ))
          s.0 s.1,
    )

pub cuts_exist : {roster : ℕ} (log F : List Fact) → IsLog roster log → IsPart F log → (cs : List CutData) × Lists CutBefore (Contains (cuts F)) cs
cuts_exist log F l p =
    let s = in_order CutBefore (Contains (cuts F)) (λ x y z a b. omega arith)
    (λ x y a b. ⊎_elim (λ (lt : x.epoch < y.epoch). inl lt)
    (λ t. ⊎_elim (λ (e : x.epoch ≡ y.epoch). inr (inl (l.same_cut x y (part_cuts F log p x a) (part_cuts F log p y b) e)))
    (λ (gt : y.epoch < x.epoch). inr (inr gt)) t) (nat_order x.epoch y.epoch))
    (λ c. Unit {0}) (λ c. inl tt) (cuts F) (λ c h t. h) in
    (s.0, lists_as CutBefore (λ c. Contains (cuts F) c × Unit {0}) (Contains (cuts F)) (λ c. (λ h. h.0, λ h. (h, tt))) s.0 s.1)

pub waits_exist : (F : List Fact) (k : ℕ) → (as' : List AdvanceData) × Lists AdvanceBefore (λ a. Contains (advances F) a × (k < a.epoch)) as'
waits_exist F k =
    in_order AdvanceBefore (λ a. Unit {0}) advance_trans
    (λ x y a b. advance_order x y)
    (λ a. k < a.epoch) (λ a. settled_lt k a.epoch) (advances F) (λ a h t. tt)

pub kept_exists : {roster : ℕ} (log F : List Fact) → IsLog roster log → IsPart F log → (f : Position) → (rs : List RecordData) × Lists RecordBefore
    (IsKept F f) rs
kept_exists log F l p f =
    in_order RecordBefore (λ r. Contains (records log) r) (λ x y z a b. pair_trans x.epoch x.number y.epoch y.number z.epoch z.number a b)
    (λ x y a b. ⊎_elim (λ (lt : RecordBefore x y). inl lt)
    (λ t. ⊎_elim (λ (e : (x.epoch ≡ y.epoch) × (x.number ≡ y.number)). inr (inl (l.same_record x y a b e.0 e.1)))
    (λ (gt : RecordBefore y x). inr (inr gt)) t) (pair_order x.epoch x.number y.epoch y.number))
    (λ r. IsWaiting f.epoch r.epoch ⊎ (IsAlive (cuts F) f.epoch r.epoch r.number × (f.anchor < r.number)))
    (λ r. settled_or _ _ (settled_lt f.epoch r.epoch) (settled_and _ _ (settled_alive (cuts F) f.epoch r.epoch r.number) (λ _. settled_lt f.anchor r.number)))
    (records F) (λ r h t. part_records F log p r h)

pub meaning_exists : {roster : ℕ} (log F : List Fact) → IsLog roster log → IsPart F log → (m : Meaning) × IsMeaning roster F m
meaning_exists {roster} log F l p =
    let f = front_exists roster F (λ r h. (l.backs r (part_records F log p r h)).1) in
    let has = has_cuts (cuts F) f.0.epoch f.1.epoch in
    let cs = cuts_exist log F l p in
    let ws = waits_exist F f.0.epoch in
    let is = images_exist log F l p f.0.epoch has f.0.anchor in
    let rs = kept_exists log F l p f.0 in (
      record { cuts = cs.0; points = f.0.points; waits = ws.0; anchor = f.0.anchor; pages = is.0; kept = rs.0 },
      (f.0, record { position = f.1; cuts = cs.1; points = refl; waits = ws.1; anchor = refl; pages = is.1; kept = rs.1 }),
    )

-- a meaning, at the position that the facts have
pub meaning_at : {roster : ℕ} (facts : List Fact) (p : Position) (m : Meaning) → IsPosition roster facts p → IsMeaning roster facts m → IsMeaningAt roster facts p m
meaning_at {roster} facts p m is means = subst (λ q. IsMeaningAt roster facts q m)
    (front_unique facts facts (λ f. (λ h. h, λ h. h)) means.0 p means.1.position is) means.1
