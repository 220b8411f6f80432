-- The anchor of a contiguous chain, found by one search, and the top of one above which no record was alive.
use Rattle.std.proofs.Common.{◌≡◌, ℕ, ◌<◌, ◌≤◌, inr, ⊎_elim, min, max, List, refl, sym, ◌∙◌, ap, subst, arith, IsTrue, Some, None, true, rules}
use Rattle.std.specs.List.{Contains}
use Rattle.std.proofs.lemmas.Bool.{cases_lt}
use Rattle.redo_core.specs.Data.{RecordData}
use Rattle.redo_core.specs.Linked.Linked.{start}
use Rattle.redo_core.specs.Roster.{least}
use Rattle.epoch_book.specs.Book.{BookData}
use Rattle.hot_log.specs.Alive.{HasNoneAbove, IsHeldAlive, IsLinkedFrom}
use Rattle.hot_log.specs.Found.{IsGreatestRecord}
use Rattle.hot_log.proofs.Chain.{link_at_least}
use Rattle.hot_log.proofs.Straight.{none_over, straight_start}
use Rattle.segment_core.specs.Points.{HasPoints, HasLowAnchor, IsTopTo, JoinsOnTop}
use Rattle.segment_core.specs.declared.points.Points.{Points}
use Rattle.segment_core.proofs.OnTop.{ended}
use Rattle.hot_log.proofs.Chain.{back_below}

-- ---- the minimum read point may have risen: the search is for the last alive record up to it and to the complete point
abbrev pub UpTo : BookData → List RecordData → ℕ → RecordData → Type 0
UpTo b held to r = IsHeldAlive b held r × (r.number ≤ to)

under_both : (a b to m : ℕ) → to ≡ min a b → m ≤ a → m ≤ b → m ≤ to
under_both a b to m is x y = grind (arith, is, x, y)

both_over : (a b to m : ℕ) → to ≡ min a b → m ≤ to → (m ≤ a) × (m ≤ b)
both_over a b to m is le = (grind (arith, is, le), grind (arith, is, le))

-- what is linked up to the minimum is linked up to both
top_up_to : (b : BookData) (held : List RecordData) (base to n : ℕ) (p : Points) → HasLowAnchor b held base p → to ≡ min (least b.points) p.complete
    → n ≤ least b.points → IsLinkedFrom b held base n → ((r : RecordData) → IsHeldAlive b held r → r.number ≤ to → r.number ≤ n) → IsTopTo b held base (least b.points) n
top_up_to b held base to n p low is bound linked none = record {
  linked = linked;
  bound = bound;
  most = λ m l le. none_over b held base n to (link_at_least b.cuts held b.complete base n linked) none m l
      (under_both (least b.points) p.complete to m is le (low.complete.most m l));
}

pub none_found : (b : BookData) (held : List RecordData) (base to : ℕ) (p : Points) → HasLowAnchor b held base p → to ≡ min (least b.points) p.complete
    → IsGreatestRecord (UpTo b held to) None → IsTopTo b held base (least b.points) p.anchor
none_found b held base to p low is none = search (rules, top_up_to)

pub last_found : (b : BookData) (held : List RecordData) (base to n : ℕ) (p : Points) (x : RecordData) → HasLowAnchor b held base p → IsTrue p.straight
    → to ≡ min (least b.points) p.complete → IsGreatestRecord (UpTo b held to) (Some x) → n ≡ max x.number p.anchor → IsTopTo b held base (least b.points) n
last_found b held base to n p x low t is found at =
    let from : base ≤ p.anchor = link_at_least b.cuts held b.complete base p.anchor low.anchor in
    let ends = both_over (least b.points) p.complete to x.number is found.0.1 in
    let last : (r : RecordData) → IsHeldAlive b held r → r.number ≤ to → r.number ≤ x.number = λ r h le. ⊎_elim
    (λ (e : r ≡ x). let same : r.number ≡ x.number = ap (λ (y : RecordData). y.number) e in omega arith)
    (λ (lt : r.number < x.number). omega arith)
    (found.1 r (h, le)) in
    ⊎_elim
    (λ (over : p.anchor < x.number).
    let it : x.number ≡ n = grind (arith, at, over) in
    subst (IsTopTo b held base (least b.points)) it
    (top_up_to b held base to x.number p low is ends.0 ((low.straight t).linked x found.0.0 (omega arith) ends.1) last))
    (λ (le : x.number ≤ p.anchor).
    let it : p.anchor ≡ n = grind (arith, at, le) in
    subst (IsTopTo b held base (least b.points)) it
    (top_up_to b held base to p.anchor p low is low.bound low.anchor (λ r h up. let small : r.number ≤ x.number = last r h up in omega arith)))
    (cases_lt p.anchor x.number)

-- ---- a record joins at the top, and no alive record was above
pub at_end : (b : BookData) (held : List RecordData) (base number anchor : ℕ) (p : Points) → (j : JoinsOnTop b held base number p)
    → HasNoneAbove b j.earlier p.complete → (least b.points < number → anchor ≡ p.anchor) → (number ≤ least b.points → anchor ≡ number)
    → HasPoints b held base (record { complete = number; anchor = anchor; straight = true; since = p.since })
at_end b held base number anchor p j none stay move =
    let only : (s : RecordData) → IsHeldAlive b held s → p.complete < s.number → s.number ≡ number = λ s h lt. ⊎_elim
    (λ (u : Contains j.earlier s). absurd (none s (u, h.1) lt))
    (λ (u : s ≡ j.redo). ap (λ (y : RecordData). y.number) u ∙ j.at)
    ((j.puts.1 s).0 h.0) in
    let back : j.redo.back ≡ p.complete = j.back in
    let below : j.redo.back < j.redo.number = back_below j.redo (j.form.shaped j.redo ((j.puts.1 j.redo).1 (inr refl))) in
    let at : j.redo.number ≡ number = j.at in
    let over : p.complete < number = omega (arith, back, below, at) in
    let whole : number ≤ number = omega arith in
    let low : (s : RecordData) → IsHeldAlive b held s → s.number ≤ number = λ s h. ⊎_elim
    (λ (lt : p.complete < s.number). let same : s.number ≡ number = only s h lt in omega arith)
    (λ (le : s.number ≤ p.complete). omega arith)
    (cases_lt p.complete s.number) in
    let most : (m : ℕ) → IsLinkedFrom b held number m → m ≤ number = λ m l.
    none_over b held number number m whole (λ s h le. low s h) m l (let all : m ≤ m = omega arith in all) in
    ended b held base number number anchor p j
    (λ h. let same : h.0.number ≡ number = only h.0 h.1 h.2 in let lt : h.0.number < number = h.3 in omega arith)
    (record { linked = start; most = most; straight = (straight_start b held number).is })
    (stay, λ le. subst (λ n. IsTopTo b held number (least b.points) n) (sym (move le)) (record { linked = start; bound = le; most = λ m l to. most m l }))
