-- The walk down the backlinks from the first alive record above an LSN.
use Rattle.std.proofs.Common.{◌≡◌, ℕ, ◌<◌, ⊎_elim, List, Option, Some, None, refl, sym, ap, subst, arith}
use Rattle.std.specs.List.{Contains}
use Rattle.redo_core.specs.Data.{RecordData, CutData}
use Rattle.redo_core.specs.Order.{IsFirst, IsRising, BeforeByNumber, RecordBefore}
use Rattle.redo_core.specs.Standing.{IsAlive}
use Rattle.redo_core.specs.Linked.{Linked}
use Rattle.redo_core.specs.Linked.Linked.{start, next}
use Rattle.epoch_book.specs.Book.{BookData, IsBook}
use Rattle.hot_log.specs.Held.{IsHeld}
use Rattle.hot_log.specs.Alive.{IsHeldAlive, IsLinkedFrom}
use Rattle.hot_log.specs.Found.{IsLeastRecord}
use Rattle.hot_log.specs.Gaps.{IsGapAbove}
use Rattle.hot_log.proofs.Chain.{Link, link_cases, back_below}
use Rattle.hot_log.proofs.Forks.{link_trans}
use Rattle.hot_log.proofs.Views.{IsView, view_of, one_number}

-- the walk has reached a record: the first alive one is linked from that one's backlink
pub record Hanging (b : BookData) (held : List RecordData) (above : ℕ) (r : RecordData) : Type 0 where
  pub first : RecordData
  pub is : IsFirst BeforeByNumber (λ s. IsHeldAlive b held s × (above < s.number)) first
  pub linked : IsLinkedFrom b held r.back first.number

pub hanging_first : (b : BookData) (held : List RecordData) (above : ℕ) (x : RecordData) → IsHeld held → IsLeastRecord (λ s. IsHeldAlive b held s × (above < s.number)) (Some x) → Hanging b held above x
hanging_first b held above x form found = record {
  first = x;
  is = record { has = found.0; least = found.1 };
  linked = next x found.0.0.0 found.0.0.1 (back_below x (form.shaped x found.0.0.0)) start;
}

pub hanging_down : (b : BookData) (held : List RecordData) (above : ℕ) (r x : RecordData) → IsHeld held → IsHeldAlive b held x → x.number ≡ r.back → Hanging b held above r → Hanging b held above x
hanging_down b held above r x form alive at w = record {
  first = w.first;
  is = w.is;
  linked = link_trans b.cuts held b.complete x.back x.number w.first.number (next x alive.0 alive.1 (back_below x (form.shaped x alive.0)) start) (subst (λ (m : ℕ). IsLinkedFrom b held m w.first.number) (sym at) w.linked);
}

-- a record is blocked by one LSN
pub hangs_one : (cs : List CutData) (held : List RecordData) (k : ℕ) → IsView cs k → IsRising RecordBefore held → (m n x : ℕ) → Linked cs held k m x → Linked cs held k n x
    → ((r : RecordData) → Contains held r × IsAlive cs k r.epoch r.number → r.number ≡ m → ⊥)
    → ((r : RecordData) → Contains held r × IsAlive cs k r.epoch r.number → r.number ≡ n → ⊥) → m ≡ n
hangs_one cs held k v rising m n x start other none_m none_n =
    ⊎_elim (λ (e : m ≡ n). e) (λ (u : Link cs held k n m). absurd (none_m u.by (u.among, u.alive) u.at)) (link_cases cs held k n m other)
hangs_one cs held k v rising m n x (next r h a lt p) other none_m none_n =
    ⊎_elim
    (λ (e : r.number ≡ n). absurd (none_n r (h, a) e))
    (λ (u : Link cs held k n r.number).
    let same : u.by ≡ r = one_number cs k held v rising u.by r u.among h u.alive a u.at in
    hangs_one cs held k v rising m n r.back p (subst (λ (s : RecordData). Linked cs held k n s.back) same u.back) none_m none_n)
    (link_cases cs held k n r.number other)

pub gap_one : (b : BookData) (held : List RecordData) (above : ℕ) (o p : Option ℕ) → IsBook b → IsHeld held → IsGapAbove b held above o → IsGapAbove b held above p → o ≡ p
gap_one b held above None None book form g h = refl
gap_one b held above None (Some n) book form g h = absurd (g h.0 h.1.has.0 h.1.has.1)
gap_one b held above (Some m) None book form g h = absurd (h g.0 g.1.has.0 g.1.has.1)
gap_one b held above (Some m) (Some n) book form g h =
    let first : g.0 ≡ h.0 =
    ⊎_elim
    (λ (e : g.0 ≡ h.0). e)
    (λ (lt : h.0.number < g.0.number). ⊎_elim
    (λ (e : h.0 ≡ g.0). sym e)
    (λ (up : g.0.number < h.0.number). absurd (omega arith))
    (g.1.least h.0 h.1.has))
    (h.1.least g.0 g.1.has) in
    let linked : IsLinkedFrom b held m h.0.number = subst (λ (r : RecordData). IsLinkedFrom b held m r.number) first g.2.0 in
    let same : m ≡ n = hangs_one b.cuts held b.complete (view_of b book) form.rising m n h.0.number linked h.2.0 g.2.1 h.2.1 in
    ap (λ (i : ℕ). Some i) same
