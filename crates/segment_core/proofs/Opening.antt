-- The kept points where epochs open.
use Rattle.std.proofs.Common.{◌≡◌, ℕ, ◌+◌, ◌<◌, ◌≤◌, ◌⊎◌, ⊎_elim, List, Bool, not, false, sym, subst, arith, IsTrue, true, min, None, rules}
use Rattle.std.specs.List.{Contains}
use Rattle.std.proofs.lemmas.Bool.{cases_lt}
use Rattle.redo_core.specs.Data.{RecordData, CutData}
use Rattle.redo_core.specs.Linked.Linked.{start, next}
use Rattle.redo_core.specs.Roster.{least}
use Rattle.redo_core.specs.Shape.{cut_fault, max_number}
use Rattle.epoch_book.specs.Book.{BookData, IsBook}
use Rattle.epoch_book.proofs.Least.{shaped_cut}
use Rattle.std.proofs.lemmas.List.Elements.{All-contains}
use Rattle.hot_log.specs.Held.{IsHeld}
use Rattle.hot_log.specs.Alive.{HasNoneEarlier, IsHeldAlive, IsLinkedFrom, IsContiguous}
use Rattle.hot_log.proofs.Chain.{link_at_least, link_down}
use Rattle.hot_log.proofs.Forks.{link_trans}
use Rattle.hot_log.proofs.Views.{view_of}
use Rattle.segment_core.specs.Points.{MoveOn, HasPoints, IsLaterBook, IsSparedChain, WerePoints, IsUntouched}
use Rattle.segment_core.specs.declared.points.Points.{Points}
use Rattle.segment_core.specs.declared.points.Spared.{Spared}
use Rattle.hot_log.proofs.Chain.{back_below}
use Rattle.hot_log.proofs.Straight.{linked_above}

pub flag_set : (b : Bool) → not b ≡ false → b ≡ true
flag_set b h = search rules

-- the points of a contiguous chain of book b, and an LSN that it links and that book c, which knows later epochs, leaves untouched
pub record Opening (b c : BookData) (held : List RecordData) (base n : ℕ) (p : Points) : Type 0 where
  pub form : IsHeld held
  pub book : IsBook c
  pub later : IsLaterBook b c
  pub has : HasPoints b held base p
  pub straight : IsContiguous b held base p.complete
  pub linked : IsLinkedFrom b held base n
  pub bound : n ≤ p.complete
  pub spared : (d : CutData) → Contains c.cuts d → b.complete < d.epoch → d.epoch ≤ c.complete → n ≤ d.lo
  pub untouched : (r : RecordData) → IsHeldAlive c held r → b.complete < r.epoch → n ≤ r.back

-- ---- up to that LSN the same records are alive
pub alive_on : (b c : BookData) (held : List RecordData) (base n : ℕ) (p : Points) → Opening b c held base n p → (r : RecordData) → r.number ≤ n
    → IsHeldAlive b held r → IsHeldAlive c held r
alive_on b c held base n p o r small h =
    let known : r.epoch ≤ b.complete = h.1.known in
    let up : b.complete ≤ c.complete = o.later.complete in (
      h.0,
      record {
        known = omega arith;
        begun = λ d m same. ⊎_elim (λ (u : Contains b.cuts d). h.1.begun d u same) (λ (u : b.complete < d.epoch). absurd (omega arith)) (o.later.known d m);
        spared = λ d m lt le. ⊎_elim
            (λ (u : b.complete < d.epoch). let low : n ≤ d.lo = o.spared d m u le in let t : r.number ≤ d.lo = omega arith in t)
            (λ (v : d.epoch ≤ b.complete). ⊎_elim
            (λ (u : Contains b.cuts d). h.1.spared d u lt v)
            (λ (u : b.complete < d.epoch). absurd (omega arith))
            (o.later.known d m))
            (cases_lt b.complete d.epoch);
      },
    )

pub alive_before : (b c : BookData) (held : List RecordData) (r : RecordData) → IsLaterBook b c → r.epoch ≤ b.complete → IsHeldAlive c held r → IsHeldAlive b held r
alive_before b c held r later known h =
    let up : b.complete ≤ c.complete = later.complete in (
      h.0,
      record {
        known = known;
        begun = λ d m same. h.1.begun d (later.kept d m) same;
        spared = λ d m lt le. h.1.spared d (later.kept d m) lt (omega arith);
      },
    )

alive_back : (b c : BookData) (held : List RecordData) (base n : ℕ) (p : Points) → Opening b c held base n p → (r : RecordData) → r.number ≤ n
    → IsHeldAlive c held r → IsHeldAlive b held r
alive_back b c held base n p o r small h = ⊎_elim
    (λ (u : b.complete < r.epoch). absurd (
    let view = view_of c o.book in
    let d = view.begun r.epoch (omega arith) h.1.known in
    let same : d.0.epoch ≡ r.epoch = d.2 in
    let known : r.epoch ≤ c.complete = h.1.known in
    let low : n ≤ d.0.lo = o.spared d.0 d.1 (omega arith) (omega arith) in
    let order : d.0.lo ≤ d.0.hi = view.ordered d.0 d.1 in
    let above : d.0.hi < r.number = h.1.begun d.0 d.1 same in
    omega arith))
    (λ (u : r.epoch ≤ b.complete). alive_before b c held r o.later u h)
    (cases_lt b.complete r.epoch)

-- ---- and the same LSNs are linked
links_up_to : (b c : BookData) (held : List RecordData) (n from m : ℕ) → IsHeld held → ((r : RecordData) → r.number ≤ n → IsHeldAlive b held r → IsHeldAlive c held r)
    → m ≤ n → IsLinkedFrom b held from m → IsLinkedFrom c held from m
links_up_to b c held n from m is onto small start = start
links_up_to b c held n from m is onto small (next r h a l p) =
    let it = onto r small (h, a) in
    let below : r.back < r.number = back_below r (is.shaped r h) in
    next r it.0 it.1 l (links_up_to b c held n from r.back is onto (omega arith) p)

linked_on : (b c : BookData) (held : List RecordData) (base n : ℕ) (p : Points) → Opening b c held base n p → (from m : ℕ) → m ≤ n → IsLinkedFrom b held from m
    → IsLinkedFrom c held from m
linked_on b c held base n p o from m small l = links_up_to b c held n from m o.form (alive_on b c held base n p o) small l

linked_back : (b c : BookData) (held : List RecordData) (base n : ℕ) (p : Points) → Opening b c held base n p → (from m : ℕ) → m ≤ n → IsLinkedFrom c held from m
    → IsLinkedFrom b held from m
linked_back b c held base n p o from m small l = links_up_to c b held n from m o.form (alive_back b c held base n p o) small l

-- the LSN is linked still
is_linked : (b c : BookData) (held : List RecordData) (base n : ℕ) (p : Points) → Opening b c held base n p → IsLinkedFrom c held base n
is_linked b c held base n p o = linked_on b c held base n p o base n (omega arith) o.linked

-- ---- what is linked above the LSN is linked from it
-- no alive record above it has a linked backlink below it
behind : (b c : BookData) (held : List RecordData) (base n : ℕ) (p : Points) → Opening b c held base n p → (r : RecordData) → IsHeldAlive c held r → n < r.number
    → IsLinkedFrom c held base r.back → n ≤ r.back
behind b c held base n p o r h over l = ⊎_elim
    (λ (u : b.complete < r.epoch). o.untouched r h u)
    (λ (u : r.epoch ≤ b.complete). ⊎_elim
    (λ (under : r.back < n).
    let a = alive_before b c held r o.later u h in
    let above : base ≤ n = link_at_least b.cuts held b.complete base n o.linked in
    let lt : base < r.number = omega arith in
    let linked : IsLinkedFrom b held base r.number = next r a.0 a.1 lt (linked_back b c held base n p o base r.back (omega arith) l) in
    let onward : IsLinkedFrom b held n r.number = o.straight.onward n r.number o.linked linked (omega arith) (o.has.complete.most r.number linked) in
    link_at_least b.cuts held b.complete n r.back (link_down b.cuts held b.complete n (view_of b o.later.form) o.form.rising r a.0 a.1 over onward))
    (λ (le : n ≤ r.back). le)
    (cases_lt r.back n))
    (cases_lt b.complete r.epoch)

from_there : (b c : BookData) (held : List RecordData) (base n : ℕ) (p : Points) → Opening b c held base n p → (m : ℕ) → n ≤ m → IsLinkedFrom c held base m
    → IsLinkedFrom c held n m
from_there b c held base n p o m le start =
    let above : base ≤ n = link_at_least b.cuts held b.complete base n o.linked in
    subst (IsLinkedFrom c held n) (let same : n ≡ m = omega arith in same) start
from_there b c held base n p o m le (next r h a lt l) = ⊎_elim
    (λ (over : n < r.number). next r h a over (from_there b c held base n p o r.back (behind b c held base n p o r (h, a) over l) l))
    (λ (under : r.number ≤ n). subst (IsLinkedFrom c held n) (let t : n ≡ r.number = omega arith in t) start)
    (cases_lt n r.number)

-- each linked LSN at or below it is linked onward
from_below : (b c : BookData) (held : List RecordData) (base n : ℕ) (p : Points) → Opening b c held base n p → (k m : ℕ) → k ≤ n → k ≤ m → IsLinkedFrom c held base k
    → IsLinkedFrom c held base m → IsLinkedFrom c held k m
from_below b c held base n p o k m small le low l =
    let bound : n ≤ p.complete = o.bound in
    let was : IsLinkedFrom b held base k = linked_back b c held base n p o base k small low in
    ⊎_elim
    (λ (over : n < m).
    let to : IsLinkedFrom b held k n = o.straight.onward k n was o.linked small bound in
    link_trans c.cuts held c.complete k n m (linked_on b c held base n p o k n (omega arith) to) (from_there b c held base n p o m (omega arith) l))
    (λ (under : m ≤ n). linked_on b c held base n p o k m under
    (o.straight.onward k m was (linked_back b c held base n p o base m under l) le (omega arith)))
    (cases_lt n m)

straight_on : (b c : BookData) (held : List RecordData) (base n : ℕ) (p : Points) → Opening b c held base n p → (top : ℕ) → IsContiguous c held n top
    → IsContiguous c held base top
straight_on b c held base n p o top on = record {
  linked = λ r h lt le. ⊎_elim
      (λ (over : n < r.number). link_trans c.cuts held c.complete base n r.number (is_linked b c held base n p o) (on.linked r h over le))
      (λ (under : r.number ≤ n).
      let bound : n ≤ p.complete = o.bound in
      linked_on b c held base n p o base r.number under (o.straight.linked r (alive_back b c held base n p o r under h) lt (omega arith)))
      (cases_lt n r.number);
  onward = λ k m l1 l2 le to. ⊎_elim
      (λ (over : n < k). on.onward k m (from_there b c held base n p o k (omega arith) l1) (from_there b c held base n p o m (omega arith) l2) le to)
      (λ (under : k ≤ n). from_below b c held base n p o k m under le l1 l2)
      (cases_lt n k);
}

-- The points continue from there.
pub opened : (b c : BookData) (held : List RecordData) (base n from since : ℕ) (p q : Points) → Opening b c held base n p → from ≡ min p.anchor n
    → MoveOn c held (record { complete = n; anchor = from; straight = true; since = since }) q → HasPoints c held base q
opened b c held base n from since p q o is moved =
    let small : from ≤ n = grind arith in
    let up : n ≤ q.complete = link_at_least c.cuts held c.complete n q.complete moved.complete.linked in
    let onward : from ≤ q.anchor = link_at_least c.cuts held c.complete from q.anchor moved.anchor.linked in
    let either : (from ≡ p.anchor) ⊎ (from ≡ n) = grind arith in
    let was : IsLinkedFrom b held base from = ⊎_elim
    (λ (e : from ≡ p.anchor). subst (IsLinkedFrom b held base) (sym e) o.has.anchor.linked)
    (λ (e : from ≡ n). subst (IsLinkedFrom b held base) (sym e) o.linked)
    either in
    let low : IsLinkedFrom c held base from = linked_on b c held base n p o base from small was in
    record {
      complete = record {
        linked = link_trans c.cuts held c.complete base n q.complete (is_linked b c held base n p o) moved.complete.linked;
        most = λ m l. ⊎_elim
            (λ (over : n < m). moved.complete.most m (from_there b c held base n p o m (omega arith) l))
            (λ (under : m ≤ n). let t : m ≤ q.complete = omega arith in t)
            (cases_lt n m);
      };
      anchor = record {
        linked = link_trans c.cuts held c.complete base from q.anchor low moved.anchor.linked;
        bound = moved.anchor.bound;
        most = λ m l le. ⊎_elim
            (λ (over : from < m). moved.anchor.most m (from_below b c held base n p o from m small (omega arith) low l) le)
            (λ (under : m ≤ from). let t : m ≤ q.anchor = omega arith in t)
            (cases_lt from m);
      };
      straight = λ u. straight_on b c held base n p o q.complete (moved.straight u);
      since = moved.since;
    }

-- ---- from the contracts of the calls
pub opening : (c : BookData) (held : List RecordData) (base epoch : ℕ) (p : Points) (s : Spared) → IsHeld held → IsBook c → (were : WerePoints c held base epoch p s)
    → IsTrue p.straight → IsUntouched c held epoch s → Opening were.earlier c held base s.number p
opening c held base epoch p s form book were straight untouched =
    let at : were.earlier.complete ≡ epoch = were.at in
    let linked = (were.stays straight).linked in record {
      form = form;
      book = book;
      later = were.later;
      has = were.had;
      straight = were.had.straight straight;
      linked = linked;
      bound = were.had.complete.most s.number linked;
      spared = λ d h lt le.
          let low : s.number ≤ s.limit = untouched.low in
          let least : s.limit ≤ d.lo = untouched.least d h (omega arith) le in
          omega arith;
      untouched = λ r h lt. untouched.behind r h (omega arith);
    }

pub base_bound : (c : BookData) (held : List RecordData) (base epoch : ℕ) (p : Points) (s : Spared) → WerePoints c held base epoch p s → base ≤ least c.points
base_bound c held base epoch p s were = search rules

pub start_small : (c : BookData) (held : List RecordData) (epoch : ℕ) (s : Spared) → IsBook c → IsUntouched c held epoch s → s.number ≤ max_number
start_small c held epoch s book untouched =
    let d = untouched.cut in
    let shape = shaped_cut d.0 (All-contains (λ x. cut_fault x ≡ None) c.cuts d.0 book.cuts_shaped d.1) in
    let low : s.number ≤ s.limit = untouched.low in
    let lo : d.0.lo ≡ s.limit = d.4 in
    omega (arith, low, lo, shape.1, shape.2)

-- ---- what is alive above the LSN is of an epoch that opens, or was above the complete point
pub none_earlier : (c : BookData) (held : List RecordData) (base epoch since : ℕ) (p : Points) (s : Spared) → (were : WerePoints c held base epoch p s) → IsTrue p.straight
    → IsUntouched c held epoch s → (s.limit < p.complete → since ≤ epoch + 1) → (p.complete ≤ s.limit → (since ≤ p.since) × (since ≤ epoch))
    → HasNoneEarlier c held s.number since
none_earlier c held base epoch since p s were straight untouched fell stood r h lt =
    let b = were.earlier in
    let at : b.complete ≡ epoch = were.at in
    let is = were.stays straight in
    ⊎_elim
    (λ (low : s.limit < p.complete). ⊎_elim
    (λ (new : epoch < r.epoch). let le : since ≤ epoch + 1 = fell low in omega arith)
    (λ (old : r.epoch ≤ epoch). absurd (
    let d = untouched.cut in
    let lo : d.0.lo ≡ s.limit = d.4 in
    let later : epoch < d.0.epoch = d.2 in
    let under : r.number ≤ d.0.lo = h.1.spared d.0 d.1 (omega arith) d.3 in
    let from : base ≤ s.number = link_at_least b.cuts held b.complete base s.number is.linked in
    let linked = (were.had.straight straight).linked r (alive_before b c held r were.later (omega arith) h) (omega arith) (omega arith) in
    let most : r.number ≤ s.number = is.most r.number linked (omega arith) in
    omega arith))
    (cases_lt epoch r.epoch))
    (λ (high : p.complete ≤ s.limit).
    let le = stood high in
    let all : p.complete ≤ s.number = is.most p.complete were.had.complete.linked high in
    ⊎_elim
    (λ (new : epoch < r.epoch). omega (arith, le.1))
    (λ (old : r.epoch ≤ epoch).
    let up : p.since ≤ r.epoch = were.had.since r (alive_before b c held r were.later (omega arith) h) (omega arith) in
    omega (arith, le.0))
    (cases_lt epoch r.epoch))
    (cases_lt s.limit p.complete)

-- ---- the walk down from the end of a contiguous chain
-- it is at a linked LSN, and what is linked up to the limit is not above it
pub spared_start : (b : BookData) (held : List RecordData) (base limit : ℕ) (p : Points) → HasPoints b held base p → IsSparedChain b held base (record { limit = limit; number = p.complete })
spared_start b held base limit p has = record { linked = has.complete.linked; most = λ m l le. has.complete.most m l }

pub spared_step : (b : BookData) (held : List RecordData) (base limit n : ℕ) (p : Points) (r : RecordData) → IsBook b → IsHeld held → HasPoints b held base p → IsTrue p.straight
    → base < n → limit < n → IsHeldAlive b held r → r.number ≡ n → IsSparedChain b held base (record { limit = limit; number = n })
    → IsSparedChain b held base (record { limit = limit; number = r.back })
spared_step b held base limit n p r book form has straight above over h at is =
    let down = λ (from : ℕ) (lt : from < r.number) (l : IsLinkedFrom b held from r.number). link_down b.cuts held b.complete from (view_of b book) form.rising r h.0 h.1 lt l in
    let linked : IsLinkedFrom b held base r.number = subst (IsLinkedFrom b held base) (sym at) is.linked in
    record {
      linked = down base (omega arith) linked;
      most = λ m l le.
          let onward : IsLinkedFrom b held m r.number = (has.straight straight).onward m r.number l linked (omega arith) (has.complete.most r.number linked) in
          link_at_least b.cuts held b.complete m r.back (down m (omega arith) onward);
    }

-- a linked LSN above the base point is that of an alive record
pub spared_record : (b : BookData) (held : List RecordData) (base limit n : ℕ) → base < n → IsSparedChain b held base (record { limit = limit; number = n })
    → (r : RecordData) × IsHeldAlive b held r × (r.number ≡ n)
spared_record b held base limit n above is = linked_above b held base base (omega arith) n is.linked above
