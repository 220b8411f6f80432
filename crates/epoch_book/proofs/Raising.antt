-- Points that advances raise one after another.
use Rattle.std.proofs.Common.{◌≡◌, ℕ, ◌+◌, ◌<◌, ◌≤◌, ◌⊎◌, ◌↔◌, inl, inr, ⊎_elim, List, [], ◌∷◌, length, get_or, take, refl, sym, ◌∙◌, subst, arith}
use Rattle.std.specs.List.{Contains}
use Rattle.redo_core.specs.Data.{AdvanceData}
use Rattle.redo_core.specs.Roster.{IsReader, point_of}
use Rattle.redo_core.specs.Points.{HasAdvance, RaisesPoints}
use Rattle.redo_core.proofs.Members.{here, only}
use Rattle.redo_core.proofs.Rising.{front_to, up_to, take_grows}
use Rattle.epoch_book.proofs.Books.{unraised_points}

pub raises_more : (k : ℕ) (old cur new : List ℕ) (given extra more : List AdvanceData) → RaisesPoints k old given cur → RaisesPoints k cur extra new
    → ((a : AdvanceData) → Contains more a ↔ (Contains given a ⊎ Contains extra a)) → RaisesPoints k old more new
raises_more k old cur new given extra more first second both = record {
  count = second.count ∙ first.count;
  each = λ reader r.
      let g = first.each reader r in
      let h = second.each reader (subst (λ n. IsReader n reader) (sym first.count) r) in
      let up : point_of cur reader ≤ point_of new reader = h.1 (point_of cur reader) (inl refl) in (
        ⊎_elim
            (λ (z : point_of new reader ≡ 0). inl z)
            (λ s. ⊎_elim
            (λ (q : point_of new reader ≡ point_of cur reader). ⊎_elim
            (λ (z : point_of cur reader ≡ 0). inl (q ∙ z))
            (λ t. ⊎_elim
            (λ (e : point_of cur reader ≡ point_of old reader). inr (inl (q ∙ e)))
            (λ (a : HasAdvance given k reader (point_of cur reader)). inr (inr (a.0, (both a.0).1 (inl a.1), a.2, a.3, a.4 ∙ sym q)))
            t)
            g.0)
            (λ (a : HasAdvance extra k reader (point_of new reader)). inr (inr (a.0, (both a.0).1 (inr a.1), a.2, a.3, a.4)))
            s)
            h.0,
        λ m s. ⊎_elim
            (λ (e : m ≡ point_of old reader). let t : m ≤ point_of cur reader = g.1 m (inl e) in omega arith)
            (λ (a : HasAdvance more k reader m). ⊎_elim
            (λ (x : Contains given a.0). let t : m ≤ point_of cur reader = g.1 m (inr (a.0, x, a.2, a.3, a.4)) in omega arith)
            (λ (x : Contains extra a.0). h.1 m (inr (a.0, x, a.2, a.3, a.4)))
            ((both a.0).0 a.1))
            s,
      );
}

one_more : (ws : List AdvanceData) (i : ℕ) (w a : AdvanceData) → i < length ws → w ≡ get_or ws i w
    → Contains (take (i + 1) ws) a ↔ (Contains (take i ws) a ⊎ Contains (w ∷ []) a)
one_more ws i w a l e = (
  λ h. ⊎_elim (λ (q : w ≡ a). inr (subst (Contains (w ∷ [])) q (here w []))) (λ (q : Contains (take i ws) a). inl q) (front_to ws i w a l e h),
  λ h. ⊎_elim (λ (q : Contains (take i ws) a). take_grows ws i a q)
      (λ (q : Contains (w ∷ []) a). subst (Contains (take (i + 1) ws)) (only w a q) (up_to ws i w l e)) h,
)

-- one more advance takes effect
pub counted_more : (k : ℕ) (old cur new : List ℕ) (ws : List AdvanceData) (i : ℕ) (w : AdvanceData) → i < length ws → w ≡ get_or ws i w
    → RaisesPoints k old (take i ws) cur → RaisesPoints k cur (w ∷ []) new → RaisesPoints k old (take (i + 1) ws) new
counted_more k old cur new ws i w l e first second = raises_more k old cur new (take i ws) (w ∷ []) (take (i + 1) ws) first second (λ a. one_more ws i w a l e)

-- one of a later epoch does not
pub passed_more : (k : ℕ) (old cur : List ℕ) (ws : List AdvanceData) (i : ℕ) (w : AdvanceData) → i < length ws → w ≡ get_or ws i w → k < w.epoch
    → RaisesPoints k old (take i ws) cur → RaisesPoints k old (take (i + 1) ws) cur
passed_more k old cur ws i w l e later first =
    raises_more k old cur cur (take i ws) (w ∷ []) (take (i + 1) ws) first
    (unraised_points k cur (w ∷ []) (λ a h le r. absurd (let t : k < a.epoch = subst (λ x. k < x.epoch) (only w a h) later in omega (arith, le))))
    (λ a. one_more ws i w a l e)
