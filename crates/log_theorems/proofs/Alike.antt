-- Parts of one log that differ only in what no longer matters.
use Rattle.std.proofs.Common.{◌≡◌, ◌≢◌, ℕ, ◌<◌, ◌≤◌, ◌⊎◌, ◌↔◌, inl, inr, ⊎_elim, List, sym, ap, ◌∙◌, subst, arith, rules}
use Rattle.std.specs.List.{Contains}
use Rattle.redo_core.specs.Data.{RecordData, CutData, AdvanceData}
use Rattle.redo_core.specs.Sets.{IsPart, SameSet, records, cuts, advances}
use Rattle.redo_core.specs.Order.{IsGreatest}
use Rattle.redo_core.specs.Writing.{zeros}
use Rattle.redo_core.specs.CompleteEpoch.{HasCutsTo}
use Rattle.redo_core.specs.Standing.{IsAlive}
use Rattle.redo_core.specs.Linked.{IsLinked, IsLinkedRecord}
use Rattle.redo_core.specs.Roster.{IsReader, point_of}
use Rattle.redo_core.specs.Points.{IsPoint}
use Rattle.redo_core.specs.Position.{Position, IsPosition}
use Rattle.redo_core.specs.PageAt.{IsPageAt}
use Rattle.redo_core.specs.Order.{BeforeByNumber}
use Rattle.redo_core.specs.Linked.Linked.{start, next}
use Rattle.redo_core.specs.Meaning.{Meaning, IsMeaningAt, IsKept, ImageBefore}
use Rattle.redo_core.specs.Order.{CutBefore, AdvanceBefore, RecordBefore}
use Rattle.redo_core.specs.declared.facts.Fact.{Fact}
use Rattle.redo_core.proofs.Numbers.{greatest_unique}
use Rattle.redo_core.proofs.FactParts.{part_records}
use Rattle.redo_core.proofs.CompleteEpochs.{has_cuts}
use Rattle.log_theorems.proofs.Log.{IsLog, alive_within}
use Rattle.log_theorems.proofs.Views.{alive_up, prefix_law, anchor_is}
use Rattle.log_theorems.proofs.Deciding.{settled_lt}
use Rattle.log_theorems.proofs.Meanings.{lists_as}

-- what is not dead in view k
abbrev pub Matters : List Fact → ℕ → RecordData → Type 0
Matters F k r = (k < r.epoch) ⊎ IsAlive (cuts F) k r.epoch r.number

pub record Alike (roster : ℕ) (F G : List Fact) (k : ℕ) : Type 0 where
  pub cuts : SameSet (cuts F) (cuts G)
  pub records : (r : RecordData) → Matters F k r → Contains (records F) r ↔ Contains (records G) r
  pub waits : (a : AdvanceData) → k < a.epoch → Contains (advances F) a ↔ Contains (advances G) a
  pub points : (reader m : ℕ) → IsReader roster reader → IsPoint (advances F) k reader m ↔ IsPoint (advances G) k reader m

pub alive_by : (cs ds : List CutData) → SameSet cs ds → (k e n : ℕ) → IsAlive cs k e n → IsAlive ds k e n
alive_by cs ds same k e n a = alive_within ds cs (λ c h. (same c).1 h) k e n a

pub matters_by : (F G : List Fact) → SameSet (cuts F) (cuts G) → (k : ℕ) (r : RecordData) → Matters F k r → Matters G k r
matters_by F G same k r m = ⊎_elim (λ (w : k < r.epoch). inl w)
    (λ (a : IsAlive (cuts F) k r.epoch r.number). inr (alive_by (cuts F) (cuts G) same k r.epoch r.number a)) m

pub alike_sym : {roster : ℕ} (F G : List Fact) (k : ℕ) → Alike roster F G k → Alike roster G F k
alike_sym F G k a = record {
  cuts = λ c. ((a.cuts c).1, (a.cuts c).0);
  records = λ r m. let t = a.records r (matters_by G F (λ c. ((a.cuts c).1, (a.cuts c).0)) k r m) in (t.1, t.0);
  waits = λ b lt. let t = a.waits b lt in (t.1, t.0);
  points = λ reader m r. ((a.points reader m r).1, (a.points reader m r).0);
}

pub linked_alike : {roster : ℕ} (F G : List Fact) (k : ℕ) → Alike roster F G k → (n : ℕ) → IsLinked F k n → IsLinked G k n
linked_alike F G k a n start = start
linked_alike F G k a n (next r h al l p) = next r ((a.records r (inr al)).0 h) (alive_by (cuts F) (cuts G) a.cuts k r.epoch r.number al) l
    (linked_alike F G k a r.back p)

pub linked_record_alike : {roster : ℕ} (F G : List Fact) (k : ℕ) → Alike roster F G k → (r : RecordData) → IsLinkedRecord F k r → IsLinkedRecord G k r
linked_record_alike F G k a r h = record {
  among = (a.records r (inr h.alive)).0 h.among;
  alive = alive_by (cuts F) (cuts G) a.cuts k r.epoch r.number h.alive;
  linked = linked_alike F G k a r.number h.linked;
}

pub page_alike : {roster : ℕ} (F G : List Fact) (k : ℕ) → Alike roster F G k → (g q : ℕ) (i : List ℕ) → IsPageAt F k g q i → IsPageAt G k g q i
page_alike F G k a g q i p = record {
  written = p.written;
  lists = lists_as BeforeByNumber (λ r. IsLinkedRecord F k r × (r.page ≡ g) × (r.number ≤ q)) (λ r. IsLinkedRecord G k r × (r.page ≡ g) × (r.number ≤ q))
      (λ r. (λ h. (linked_record_alike F G k a r h.0, h.1, h.2), λ h. (linked_record_alike G F k (alike_sym F G k a) r h.0, h.1, h.2))) p.written p.lists;
  result = p.result;
}

pub cuts_to_by : (cs ds : List CutData) → SameSet cs ds → (k : ℕ) → HasCutsTo cs k → HasCutsTo ds k
cuts_to_by cs ds same k has e l m = let c = has e l m in (c.0, (same c.0).0 c.1, c.2)

pub greatest_by : (P Q : ℕ → Type 0) → ((n : ℕ) → P n → Q n) → ((n : ℕ) → Q n → P n) → (n : ℕ) → IsGreatest P n → IsGreatest Q n
greatest_by P Q f g n a = (⊎_elim (λ (e : n ≡ 0). inl e) (λ (p : P n). inr (f n p)) a.0, λ m h. a.1 m (g m h))

pub front_alike : {roster : ℕ} (F G : List Fact) (f : Position) → Alike roster F G f.epoch → IsPosition roster F f → IsPosition roster G f
front_alike F G f a h =
    let b = alike_sym F G f.epoch a in
    let to = linked_alike F G f.epoch a in
    let fro = linked_alike G F f.epoch b in
    record {
      epoch = greatest_by (HasCutsTo (cuts F)) (HasCutsTo (cuts G)) (cuts_to_by (cuts F) (cuts G) a.cuts) (cuts_to_by (cuts G) (cuts F) b.cuts) f.epoch h.epoch;
      complete = greatest_by (IsLinked F f.epoch) (IsLinked G f.epoch) to fro f.complete h.complete;
      points = record { count = h.points.count; each = λ reader r. (a.points reader (point_of f.points reader) r).0 (h.points.each reader r) };
      min = h.min;
      anchor = greatest_by (λ n. IsLinked F f.epoch n × (n ≤ f.min)) (λ n. IsLinked G f.epoch n × (n ≤ f.min)) (λ n x. (to n x.0, x.1))
          (λ n x. (fro n x.0, x.1)) f.anchor h.anchor;
    }

pub kept_alike : {roster : ℕ} (F G : List Fact) (f : Position) → Alike roster F G f.epoch → (r : RecordData) → IsKept F f r → IsKept G f r
kept_alike F G f a r h =
    ⊎_elim
    (λ (w : f.epoch < r.epoch). ((a.records r (inl w)).0 h.0, inl w))
    (λ (al : IsAlive (cuts F) f.epoch r.epoch r.number × (f.anchor < r.number)).
    ((a.records r (inr al.0)).0 h.0, inr (alive_by (cuts F) (cuts G) a.cuts f.epoch r.epoch r.number al.0, al.1)))
    h.1

-- parts that are alike have one meaning
pub meaning_alike : {roster : ℕ} (F G : List Fact) (f : Position) (m : Meaning) → Alike roster F G f.epoch → IsMeaningAt roster F f m → IsMeaningAt roster G f m
meaning_alike F G f m a h =
    let b = alike_sym F G f.epoch a in
    record {
      position = front_alike F G f a h.position;
      cuts = lists_as CutBefore (Contains (cuts F)) (Contains (cuts G)) a.cuts m.cuts h.cuts;
      points = h.points;
      waits = lists_as AdvanceBefore (λ c. Contains (advances F) c × (f.epoch < c.epoch)) (λ c. Contains (advances G) c × (f.epoch < c.epoch))
          (λ c. (λ x. ((a.waits c x.1).0 x.0, x.1), λ x. ((a.waits c x.1).1 x.0, x.1))) m.waits h.waits;
      anchor = h.anchor;
      pages = lists_as ImageBefore (λ i. IsPageAt F f.epoch i.page f.anchor i.bytes × (i.bytes ≢ zeros))
          (λ i. IsPageAt G f.epoch i.page f.anchor i.bytes × (i.bytes ≢ zeros))
          (λ i. (λ x. (page_alike F G f.epoch a i.page f.anchor i.bytes x.0, x.1), λ x. (page_alike G F f.epoch b i.page f.anchor i.bytes x.0, x.1))) m.pages
          h.pages;
      kept = lists_as RecordBefore (IsKept F f) (IsKept G f) (λ r. (kept_alike F G f a r, kept_alike G F f b r)) m.kept h.kept;
    }

-- parts of one log with one meaning are alike

-- below the anchor a part has all of the log's records that are alive
pub has_below : {roster : ℕ} (log F : List Fact) (f : Position) → IsLog roster log → IsPart F log → IsPosition roster F f → (r : RecordData)
    → Contains (records log) r → IsAlive (cuts log) f.epoch r.epoch r.number → r.number ≤ f.anchor → Contains (records F) r
has_below log F f l p front r h a m = ((prefix_law log F f f.anchor r l p front (anchor_is F f front).0 m).1 (h, a)).among

pub same_cuts : {roster : ℕ} (F G : List Fact) (f g : Position) (m : Meaning) → IsMeaningAt roster F f m → IsMeaningAt roster G g m → SameSet (cuts F) (cuts G)
same_cuts F G f g m a b c = (λ h. (b.cuts.members c).0 ((a.cuts.members c).1 h), λ h. (a.cuts.members c).0 ((b.cuts.members c).1 h))

pub same_epoch : {roster : ℕ} (F G : List Fact) (f g : Position) (m : Meaning) → IsMeaningAt roster F f m → IsMeaningAt roster G g m → f.epoch ≡ g.epoch
same_epoch F G f g m a b = search (rules, same_cuts, greatest_unique, cuts_to_by)

-- half of it: what matters in F is in G
pub mattering : {roster : ℕ} (log F G : List Fact) (f g : Position) (m : Meaning) → IsLog roster log → IsPart F log → IsPart G log → IsMeaningAt roster F f m
    → IsMeaningAt roster G g m → (r : RecordData) → Matters F f.epoch r → Contains (records F) r → Contains (records G) r
mattering log F G f g m l p q a b r mat h =
    let e = same_epoch F G f g m a b in
    let hl = part_records F log p r h in
    let s = same_cuts F G f g m a b in
    let has = has_cuts (cuts F) f.epoch a.position.epoch in
    let kept : IsKept F f r → Contains (records G) r = λ k. ((b.kept.members r).0 ((a.kept.members r).1 k)).0 in
    ⊎_elim
    (λ (w : f.epoch < r.epoch). kept (h, inl w))
    (λ (al : IsAlive (cuts F) f.epoch r.epoch r.number). ⊎_elim
    (λ (up : f.anchor < r.number). kept (h, inr (al, up)))
    (λ (down : f.anchor < r.number → ⊥).
    let al' : IsAlive (cuts log) f.epoch r.epoch r.number = alive_up log F l p f.epoch r.epoch r.number has al in
    let x : f.anchor ≡ g.anchor = sym a.anchor ∙ b.anchor in
    has_below log G g l q b.position r hl (subst (λ k. IsAlive (cuts log) k r.epoch r.number) e al') (omega (arith, down)))
    (settled_lt f.anchor r.number))
    mat

pub alike_by_meaning : {roster : ℕ} (log F G : List Fact) (f g : Position) (m : Meaning) → IsLog roster log → IsPart F log → IsPart G log
    → IsMeaningAt roster F f m → IsMeaningAt roster G g m → Alike roster F G f.epoch
alike_by_meaning log F G f g m l p q a b =
    let e = same_epoch F G f g m a b in
    let s = same_cuts F G f g m a b in
    let x : f.points ≡ g.points = sym a.points ∙ b.points in
    record {
      cuts = s;
      records = λ r mat. (
        mattering log F G f g m l p q a b r mat,
        mattering log G F g f m l q p b a r
            (subst (λ k. Matters G k r) e (matters_by F G s f.epoch r mat)),
      );
      waits = λ c lt. (
        λ h. ((b.waits.members c).0 ((a.waits.members c).1 (h, lt))).0,
        λ h. ((a.waits.members c).0 ((b.waits.members c).1 (h, subst (λ k. k < c.epoch) e lt))).0,
      );
      points = λ reader n r.
          let y : point_of f.points reader ≡ point_of g.points reader = ap (λ ps. point_of ps reader) x in
          let pf : IsPoint (advances F) f.epoch reader (point_of f.points reader) = a.position.points.each reader r in
          let pg : IsPoint (advances G) f.epoch reader (point_of f.points reader) = subst (λ k. IsPoint (advances G) k reader (point_of f.points reader))
          (sym e) (subst (IsPoint (advances G) g.epoch reader) (sym y) (b.position.points.each reader r)) in (
            λ h. let t : n ≡ point_of f.points reader = greatest_unique _ _ (λ i. (λ u. u, λ u. u)) n (point_of f.points reader) h pf in
                subst (IsPoint (advances G) f.epoch reader) (sym t) pg,
            λ h. let t : n ≡ point_of f.points reader = greatest_unique _ _ (λ i. (λ u. u, λ u. u)) n (point_of f.points reader) h pg in
                subst (IsPoint (advances F) f.epoch reader) (sym t) pf,
          );
    }
