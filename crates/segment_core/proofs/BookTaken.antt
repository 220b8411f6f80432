-- What a state knows together with a book, when each fact that the book exports was taken.
use Rattle.std.proofs.Common.{◌≡◌, ℕ, ◌<◌, ◌≤◌, ◌⊎◌, ◌↔◌, inl, inr, ⊎_elim, List, refl, sym, ap, ◌∙◌, subst, arith, rules}
use Rattle.std.specs.List.{Contains}
use Rattle.redo_core.specs.Data.{CutData, AdvanceData, advance_of}
use Rattle.redo_core.specs.Order.{IsGreatest}
use Rattle.redo_core.specs.Roster.{IsReader, point_of, least}
use Rattle.redo_core.specs.CompleteEpoch.{IsCompleteEpoch}
use Rattle.redo_core.specs.Book.{BookData, roster_of}
use Rattle.redo_core.specs.declared.facts.Fact.{Fact}
use Rattle.redo_core.specs.declared.facts.Fact.TheVariants.{Cut, Advance}
use Rattle.redo_core.proofs.Points.{least_mono}
use Rattle.log_theorems.proofs.Deciding.{settled_lt}
use Rattle.segment_theorems.specs.State.{State, min_of}
use Rattle.segment_theorems.specs.Joining.{JoinedPoint, JoinsBooks}
use Rattle.segment_core.specs.Form.{IsSegment}
use Rattle.segment_core.specs.InOrder.{TakesEach}
use Rattle.segment_core.proofs.TakingAll.{IsLate, IsToldAdvance, ToldPoint, LeavesAll, leaves_all}
use Rattle.segment_core.proofs.ToldFacts.{IsPointIn}
use Rattle.epoch_book.proofs.Books.{epoch_grows}

-- in a segment the complete epoch is that of the truncations, and what waits is of later ones
pub late_of : (s : State) → IsSegment s → IsLate s
late_of s form = search rules

-- a state has taken what a book exports, among other facts
pub record HasBook (old : State) (b : BookData) (facts : List Fact) (taken : State) : Type 0 where
  pub own : IsLate old
  pub epoch : IsCompleteEpoch b.cuts b.complete
  pub one_roster : roster_of old.book ≡ roster_of b
  pub cut : (c : CutData) → Contains facts (Cut c) ↔ Contains b.cuts c
  pub advance : (a : AdvanceData) → Contains facts (Advance a) ↔ (Contains b.waits a ⊎ IsPointIn b.complete b.points a)
  pub takes : TakesEach old facts taken

module _ (old taken : State) (b : BookData) (facts : List Fact) (d : HasBook old b facts taken) where
  pub all : LeavesAll old facts taken
  all = leaves_all old facts taken d.own d.takes

  -- the other's complete epoch is at most the new one
  epochs : b.complete ≤ taken.book.complete
  epochs = epoch_grows b.cuts taken.book.cuts b.complete taken.book.complete
      (λ c h. (all.cuts c).1 (inr ((d.cut c).1 h))) d.epoch all.epoch

  cuts_joined : (c : CutData) → Contains taken.book.cuts c ↔ (Contains old.book.cuts c ⊎ Contains b.cuts c)
  cuts_joined c = (
    λ h. ⊎_elim (λ (x : Contains old.book.cuts c). inl x) (λ (x : Contains facts (Cut c)). inr ((d.cut c).0 x)) ((all.cuts c).0 h),
    λ h. (all.cuts c).1 (⊎_elim (λ (x : Contains old.book.cuts c). inl x) (λ (x : Contains b.cuts c). inr ((d.cut c).1 x)) h),
  )

  -- an exported advance waits on a side, or is a reader's point of the other
  sides : (a : AdvanceData) → IsToldAdvance old facts a
      → (Contains old.book.waits a ⊎ Contains b.waits a) ⊎ IsPointIn b.complete b.points a
  sides a h = search rules

  told_wait : (a : AdvanceData) → Contains old.book.waits a ⊎ Contains b.waits a → IsToldAdvance old facts a
  told_wait a h =
      ⊎_elim (λ (x : Contains old.book.waits a). inl x) (λ (x : Contains b.waits a). inr ((d.advance a).1 (inl x))) h

  waits_joined : (a : AdvanceData) → Contains taken.book.waits a ↔ ((Contains old.book.waits a ⊎ Contains b.waits a) × (taken.book.complete < a.epoch))
  waits_joined a = (
    λ h. let x = (all.waits a).0 h in (
      ⊎_elim
          (λ (y : Contains old.book.waits a ⊎ Contains b.waits a). y)
          (λ (y : IsPointIn b.complete b.points a).
          let le = epochs in
          let up : taken.book.complete < a.epoch = x.1 in
          absurd (omega (arith, le, up, y.epoch_is)))
          (sides a x.0),
      x.1,
    ),
    λ h. (all.waits a).1 (told_wait a h.0, h.1),
  )

  -- a reader's point of the other has been exported, unless it is 0
  point_reached : (reader : ℕ) → IsReader (roster_of old.book) reader → point_of b.points reader ≤ point_of taken.book.points reader
  point_reached reader r =
      ⊎_elim
      (λ (up : 0 < point_of b.points reader).
      let a : AdvanceData = advance_of b.complete reader (point_of b.points reader) in
      let at : IsPointIn b.complete b.points a =
      record { epoch_is = refl; reader = subst (λ n. IsReader n reader) d.one_roster r; point_is = refl; above = omega (arith, up) } in
      (all.points reader r).1 (point_of b.points reader) (inr (a, inr ((d.advance a).1 (inr at)), epochs, refl, refl)))
      (λ (down : 0 < point_of b.points reader → ⊥). omega (arith, down))
      (settled_lt 0 (point_of b.points reader))

  point_joined : (reader : ℕ) → IsReader (roster_of old.book) reader
      → IsGreatest (JoinedPoint taken.book.complete old.book.points old.book.waits b.points b.waits reader)
      (point_of taken.book.points reader)
  point_joined reader r =
      let g : IsGreatest (ToldPoint taken.book.complete old facts reader) (point_of taken.book.points reader) = all.points reader r in (
        ⊎_elim
            (λ (z : point_of taken.book.points reader ≡ 0). inl z)
            (λ (h : ToldPoint taken.book.complete old facts reader (point_of taken.book.points reader)). inr (⊎_elim
            (λ (e : point_of taken.book.points reader ≡ point_of old.book.points reader). inl e)
            (λ (a : (a : AdvanceData) × IsToldAdvance old facts a × (a.epoch ≤ taken.book.complete) × (a.reader ≡ reader)
            × (a.point ≡ point_of taken.book.points reader)).
            inr (⊎_elim
            (λ (x : Contains old.book.waits a.0 ⊎ Contains b.waits a.0). inr (a.0, x, a.2, a.3, a.4))
            (λ (x : IsPointIn b.complete b.points a.0). inl (sym a.4 ∙ x.point_is ∙ ap (λ i. point_of b.points i) a.3))
            (sides a.0 a.1)))
            h))
            g.0,
        λ n h. ⊎_elim
            (λ (e : n ≡ point_of old.book.points reader). g.1 n (inl e))
            (λ rest. ⊎_elim
            (λ (e : n ≡ point_of b.points reader). let x = point_reached reader r in omega (arith, e, x))
            (λ (a : (a : AdvanceData) × (Contains old.book.waits a ⊎ Contains b.waits a) × (a.epoch ≤ taken.book.complete)
            × (a.reader ≡ reader) × (a.point ≡ n)).
            g.1 n (inr (a.0, told_wait a.0 a.1, a.2, a.3, a.4)))
            rest)
            h,
      )

  pub book_joined : JoinsBooks old.book b taken.book
  book_joined = record {
    cuts = cuts_joined;
    complete = all.epoch;
    points = record { count = all.count; each = point_joined };
    waits = waits_joined;
  }

  -- the book's least point is at most that of what took the facts
  pub least_fits : least b.points ≤ min_of taken
  least_fits = least_mono (roster_of old.book) b.points taken.book.points (sym d.one_roster) all.count point_reached
