-- How the kept points move with what is stored and known.
use Rattle.std.proofs.lemmas.Grind.{common_steps}
use Rattle.std.proofs.Common.{◌≡◌, ℕ, ◌<◌, ◌≤◌, ◌⊎◌, ◌↔◌, inl, inr, ⊎_elim, List, refl, sym, subst, arith, IsTrue}
use Rattle.std.specs.List.{Contains}
use Rattle.std.proofs.lemmas.Bool.{cases_lt}
use Rattle.redo_core.specs.Data.{RecordData}
use Rattle.redo_core.specs.Standing.{IsAlive}
use Rattle.redo_core.specs.Linked.Linked.{start, next}
use Rattle.redo_core.specs.Roster.{least}
use Rattle.epoch_book.specs.Book.{BookData}
use Rattle.hot_log.specs.Held.{IsHeld}
use Rattle.hot_log.specs.Alive.{HasNoneEarlier, IsLinkedFrom, IsHeldAlive, IsContiguous}
use Rattle.hot_log.proofs.Chain.{link_at_least}
use Rattle.hot_log.proofs.Forks.{link_trans}
use Rattle.hot_log.proofs.Growth.{Joins, Top, still_linked, newly_linked, top_of_gap, straight_over_gap, top_moves, straight_moves, top_from_base, straight_from_base}
use Rattle.hot_log.specs.Putting.{Puts}
use Rattle.hot_log.specs.declared.log.Put.TheVariants.{New}
use Rattle.log_theorems.proofs.Fronts.{settled_alive}
use Rattle.redo_core.specs.Shape.{max_number}
use Rattle.segment_core.specs.Points.{IsTop, IsTopTo, MoveOn, HasPoints, HasLowAnchor, MayLink, Meets}
use Rattle.segment_core.specs.declared.points.Points.{Points}
use Rattle.segment_core.proofs.Chain.{linked_small, small_number}
use Rattle.hot_log.proofs.Chain.{back_below}

-- ---- a greatest LSN up to a limit that none is above
pub top_of : (b : BookData) (held : List RecordData) (from n : ℕ) → IsHeld held → from ≤ max_number → IsLinkedFrom b held from n
    → ((m : ℕ) → IsLinkedFrom b held from m → m ≤ max_number → m ≤ n) → IsTop b held from n
top_of b held from n is low linked most = record {
  linked = linked;
  most = λ m l. most m l (linked_small b.cuts held b.complete from max_number m (λ r among. small_number r (is.shaped r among)) low l);
}

-- each point by itself
pub moved_on : (b : BookData) (held : List RecordData) (p q : Points) → IsTop b held p.complete q.complete → IsTopTo b held p.anchor (least b.points) q.anchor
    → (IsTrue q.straight → IsContiguous b held p.complete q.complete) → HasNoneEarlier b held p.complete p.since → q.since ≡ p.since → MoveOn b held p q
moved_on b held p q complete anchor straight none same = record {
  complete = complete;
  anchor = anchor;
  straight = straight;
  since = λ r h lt.
      let up : p.complete ≤ q.complete = link_at_least b.cuts held b.complete p.complete q.complete complete.linked in
      let le : p.since ≤ r.epoch = none r h (omega arith) in
      omega arith;
}

as_top : (b : BookData) (held : List RecordData) (from n : ℕ) → IsTop b held from n → Top b held from n
as_top b held from n t = record { linked = t.linked; most = t.most }

of_top : (b : BookData) (held : List RecordData) (from n : ℕ) → Top b held from n → IsTop b held from n
of_top b held from n t = record { linked = t.linked; most = t.most }

-- ---- over a contiguous chain the base point can rise to the anchor
pub to_anchor : (b : BookData) (held : List RecordData) (base : ℕ) (p : Points) → HasPoints b held base p → IsTrue p.straight
    → HasPoints b held p.anchor p
to_anchor b held base p has t = grind (arith, common_steps, as_top, top_from_base, link_trans, straight_from_base)

-- ---- two views of stored records that agree on what is alive above a base point
pub record Agree (b c : BookData) (old new : List RecordData) (base : ℕ) : Type 0 where
  pub onto : (r : RecordData) → IsHeldAlive b old r → base < r.number → IsHeldAlive c new r
  pub back : (r : RecordData) → IsHeldAlive c new r → base < r.number → IsHeldAlive b old r

links_over : (b c : BookData) (old new : List RecordData) (base from n : ℕ) → base ≤ from
    → ((r : RecordData) → IsHeldAlive b old r → base < r.number → IsHeldAlive c new r) → IsLinkedFrom b old from n → IsLinkedFrom c new from n
links_over b c old new base from n low onto start = start
links_over b c old new base from n low onto (next r h a l p) =
    let it = onto r (h, a) (omega arith) in next r it.0 it.1 l (links_over b c old new base from r.back low onto p)

straight_over : (b c : BookData) (old new : List RecordData) (base top : ℕ) → Agree b c old new base → IsContiguous b old base top → IsContiguous c new base top
straight_over b c old new base top same is =
    let low : base ≤ base = omega arith in
    record {
      linked = λ r h lt le. links_over b c old new base base r.number low same.onto (is.linked r (same.back r h lt) lt le);
      onward = λ m n l k le to.
          links_over b c old new base m n (link_at_least c.cuts new c.complete base m l) same.onto
          (is.onward m n (links_over c b new old base base m low same.back l) (links_over c b new old base base n low same.back k) le to);
    }

-- where the minimum may have risen
pub low_over : (b c : BookData) (old new : List RecordData) (base : ℕ) (p : Points) → Agree b c old new base → p.anchor ≤ least c.points
    → HasPoints b old base p → HasLowAnchor c new base p
low_over b c old new base p same bound has =
    let low : base ≤ base = omega arith in
    record {
      complete = record {
        linked = links_over b c old new base base p.complete low same.onto has.complete.linked;
        most = λ m l. has.complete.most m (links_over c b new old base base m low same.back l);
      };
      anchor = links_over b c old new base base p.anchor low same.onto has.anchor.linked;
      bound = bound;
      straight = λ t. straight_over b c old new base p.complete same (has.straight t);
      since = λ r h lt.
          let up : base ≤ p.complete = link_at_least b.cuts old b.complete base p.complete has.complete.linked in
          has.since r (same.back r h (omega arith)) lt;
    }

-- where it is the same
pub points_over : (b c : BookData) (old new : List RecordData) (base : ℕ) (p : Points) → Agree b c old new base → least c.points ≡ least b.points
    → HasPoints b old base p → HasPoints c new base p
points_over b c old new base p same minimum has =
    let low : base ≤ base = omega arith in
    let it = low_over b c old new base p same (subst (λ m. p.anchor ≤ m) (sym minimum) has.anchor.bound) has in record {
      complete = it.complete;
      anchor = record {
        linked = it.anchor;
        bound = it.bound;
        most = λ m l le. has.anchor.most m (links_over c b new old base base m low same.back l) (subst (λ x. m ≤ x) minimum le);
      };
      straight = it.straight;
      since = it.since;
    }

-- ---- one more record
-- that is not alive above the base point
pub beside : (b : BookData) (old new : List RecordData) (base : ℕ) (p : Points) (r : RecordData)
    → ((s : RecordData) → Contains new s ↔ (Contains old s ⊎ (s ≡ r))) → (IsAlive b.cuts b.complete r.epoch r.number → base < r.number → ⊥)
    → HasPoints b old base p → HasPoints b new base p
beside b old new base p r members not = points_over b b old new base p (record {
  onto = λ s h lt. ((members s).1 (inl h.0), h.1);
  back = λ s h lt. (
    ⊎_elim (λ (u : Contains old s). u)
        (λ (e : s ≡ r). absurd (not (subst (λ (x : RecordData). IsAlive b.cuts b.complete x.epoch x.number) e h.1)
        (subst (λ (x : RecordData). base < x.number) e lt)))
        ((members s).0 h.0),
    h.1,
  );
}) refl

-- after a gap
pub over_gap : (b : BookData) (old new : List RecordData) (base : ℕ) (p : Points) (r : RecordData) → Joins b old new r → p.complete < r.back
    → HasNoneEarlier b new p.complete p.since → HasPoints b old base p → HasPoints b new base p
over_gap b old new base p r j gap late has =
    let top = as_top b old base p.complete has.complete in record {
      complete = of_top b new base p.complete (top_of_gap b old new r base p.complete j top gap);
      anchor = record {
        linked = still_linked b old new r base p.anchor j has.anchor.linked;
        bound = has.anchor.bound;
        most = λ m l le. ⊎_elim
            (λ (u : IsLinkedFrom b old base m). has.anchor.most m u le)
            (λ (u : IsLinkedFrom b old base r.back × (base < r.number) × IsLinkedFrom b new r.number m).
            absurd (let x : r.back ≤ p.complete = has.complete.most r.back u.0 in omega arith))
            (newly_linked b old new r base m j l);
      };
      straight = λ t. straight_over_gap b old new r base p.complete j top gap (has.straight t);
      since = late;
    }

-- what is linked above an LSN of a contiguous chain is linked from there, where a record joins at the top
pub from_there : (b : BookData) (old new : List RecordData) (base : ℕ) (p : Points) (r : RecordData) (m n : ℕ) → Joins b old new r → r.back ≡ p.complete
    → HasPoints b old base p → IsContiguous b old base p.complete → IsLinkedFrom b old base m → m ≤ n → IsLinkedFrom b new base n → IsLinkedFrom b new m n
from_there b old new base p r m n j back has is linked le l = ⊎_elim
    (λ (u : IsLinkedFrom b old base n). still_linked b old new r m n j (is.onward m n linked u le (has.complete.most n u)))
    (λ (u : IsLinkedFrom b old base r.back × (base < r.number) × IsLinkedFrom b new r.number n).
    let low : m ≤ p.complete = has.complete.most m linked in
    let below : r.back < r.number = j.below in
    let whole : p.complete ≤ p.complete = omega arith in
    let top : IsLinkedFrom b new m p.complete = still_linked b old new r m p.complete j (is.onward m p.complete linked has.complete.linked low whole) in
    let one : IsLinkedFrom b new m r.number = next r ((j.members r).1 (inr refl)) j.alive (omega (arith, low, below, back))
    (subst (IsLinkedFrom b new m) (sym back) top) in
    link_trans b.cuts new b.complete m r.number n one u.2)
    (newly_linked b old new r base n j l)

-- at the top of a contiguous chain
pub on_top : (b : BookData) (old new : List RecordData) (base : ℕ) (p q : Points) (r : RecordData) → Joins b old new r → r.back ≡ p.complete
    → IsTrue p.straight → HasPoints b old base p → MoveOn b new p q → HasPoints b new base q
on_top b old new base p q r j back t has moved =
    let is = has.straight t in
    let top = as_top b old base p.complete has.complete in
    let later = as_top b new p.complete q.complete moved.complete in
    let up : p.anchor ≤ q.anchor = link_at_least b.cuts new b.complete p.anchor q.anchor moved.anchor.linked in
    record {
      complete = of_top b new base q.complete (top_moves b old new r base p.complete q.complete j top back later);
      anchor = record {
        linked = link_trans b.cuts new b.complete base p.anchor q.anchor (still_linked b old new r base p.anchor j has.anchor.linked) moved.anchor.linked;
        bound = moved.anchor.bound;
        most = λ m l le. ⊎_elim
            (λ (over : p.anchor < m). moved.anchor.most m
            (from_there b old new base p r p.anchor m j back has is has.anchor.linked (let e : p.anchor ≤ m = omega arith in e) l) le)
            (λ (under : m ≤ p.anchor). let e : m ≤ q.anchor = omega arith in e)
            (cases_lt p.anchor m);
      };
      straight = λ u. straight_moves b old new r base p.complete q.complete j top back later is (moved.straight u);
      since = moved.since;
    }

-- ---- what a put does to the points
-- the points that a record has met
pub has_met : (b : BookData) (held : List RecordData) (base : ℕ) (p q : Points) (r : RecordData) → Meets b r p q → HasPoints b held base p → HasPoints b held base q
has_met b held base p q r met has = record {
  complete = subst (IsTop b held base) (sym met.0) has.complete;
  anchor = subst (IsTopTo b held base (least b.points)) (sym met.1) has.anchor;
  straight = λ t. subst (IsContiguous b held base) (sym met.0) (has.straight (subst IsTrue met.2 t));
  since = λ s h lt.
      let same : q.complete ≡ p.complete = met.0 in
      let le : p.since ≤ s.epoch = has.since s h (omega arith) in
      let low : q.since ≤ p.since = met.3 in
      omega arith;
}

-- where the record has joined, too
pub late_met : (b : BookData) (old new : List RecordData) (base : ℕ) (p q : Points) (r : RecordData) → Meets b r p q → Puts old r new New → HasPoints b old base p
    → HasNoneEarlier b new q.complete q.since
late_met b old new base p q r met puts has s h lt = ⊎_elim
    (λ (u : Contains old s). (has_met b old base p q r met has).since s (u, h.1) lt)
    (λ (e : s ≡ r).
    let early : q.since ≤ r.epoch = met.4 (subst (λ (x : RecordData). IsAlive b.cuts b.complete x.epoch x.number) e h.1) in
    subst (λ (x : RecordData). q.since ≤ x.epoch) (sym e) early)
    ((puts.1 s).0 h.0)

pub joins_of : (b : BookData) (old new : List RecordData) (r : RecordData) → IsHeld new → ((s : RecordData) → Contains new s ↔ (Contains old s ⊎ (s ≡ r)))
    → IsAlive b.cuts b.complete r.epoch r.number → Joins b old new r
joins_of b old new r is members alive = record {
  members = members;
  below = back_below r (is.shaped r ((members r).1 (inr refl)));
  shaped = λ s h. back_below s (is.shaped s h);
  alive = alive;
}

pub links_none : (b : BookData) (old new : List RecordData) (base : ℕ) (p : Points) (r : RecordData) → IsHeld new → Puts old r new New
    → (MayLink b base p r → ⊥) → HasNoneEarlier b new p.complete p.since → HasPoints b old base p → HasPoints b new base p
links_none b old new base p r is puts not late has = ⊎_elim
    (λ (gap : p.complete < r.back). ⊎_elim
    (λ (alive : IsAlive b.cuts b.complete r.epoch r.number). over_gap b old new base p r (joins_of b old new r is puts.1 alive) gap late has)
    (λ (dead : IsAlive b.cuts b.complete r.epoch r.number → ⊥). beside b old new base p r puts.1 (λ a lt. dead a) has)
    (settled_alive b.cuts b.complete r.epoch r.number))
    (λ (le : r.back ≤ p.complete). beside b old new base p r puts.1 (λ a lt. not (a, lt, le)) has)
    (cases_lt p.complete r.back)
