-- The order of two meanings, read off two states part by part.
use Rattle.std.proofs.Common.{◌≡◌, ℕ, ◌≤◌, ◌⊎◌, ◌↔◌, inl, inr, ⊎_elim, Bool, IsTrue, sym, subst}
use Rattle.std.specs.List.{Contains, AllZip}
use Rattle.redo_core.specs.Order.{IsRising, CutBefore}
use Rattle.redo_core.specs.Roster.{point_of}
use Rattle.redo_core.specs.CompleteEpoch.{IsCompleteEpoch}
use Rattle.redo_core.specs.Standing.{IsDead}
use Rattle.redo_core.specs.Meaning.{Meaning}
use Rattle.log_theorems.specs.OrderOfMeanings.{Covers, CoversAt, OrderByParts}
use Rattle.redo_core.proofs.CompleteEpochs.{one_complete_epoch}
use Rattle.segment_theorems.specs.State.{State}
use Rattle.segment_theorems.specs.HasMeaning.{HasAnchor, IsKeptBy, HasMeaning}
use Rattle.segment_theorems.specs.Laws.{SameMeaning}
use Rattle.segment_core.specs.Form.{IsSegment}
use Rattle.segment_join.specs.Covering.{CoversState, CoversByParts}
use Rattle.segment_core.proofs.StoredCuts.{same_cuts}
use Rattle.segment_core.proofs.OneView.{one_anchor}

pub to_meanings : (anchor : ℕ) (upper : State) (base : ℕ) (lower : State) (y x : Meaning)
    → IsRising CutBefore upper.book.cuts → HasAnchor upper anchor → HasAnchor lower base → HasMeaning upper y → HasMeaning lower x
    → CoversState anchor upper base lower → Covers y x
to_meanings anchor upper base lower y x rising top low hy hx covers =
    let cuts = same_cuts upper y rising hy in
    let ay : anchor ≡ y.anchor = one_anchor upper anchor y.anchor top hy.anchor in
    let ax : base ≡ x.anchor = one_anchor lower base x.anchor low hx.anchor in (
      upper.book.complete,
      record {
        epoch = subst (λ cs. IsCompleteEpoch cs upper.book.complete) (sym cuts) hy.epoch;
        cuts = λ c has. (hy.same_cuts.members c).1 (covers.book.cuts c ((hx.same_cuts.members c).0 has));
        points = subst (λ ps. AllZip (λ p q. p ≤ q) ps y.points) (sym hx.same_points)
            (subst (AllZip (λ p q. p ≤ q) lower.book.points) (sym hy.same_points) covers.book.points);
        waits = λ a has. ⊎_elim
            (λ (u : (a.epoch ≤ upper.book.complete) × (a.point ≤ point_of upper.book.points a.reader)). inr
            (u.0, subst (λ ps. a.point ≤ point_of ps a.reader) (sym hy.same_points) u.1))
            (λ (u : Contains upper.book.waits a). inl ((hy.same_waits.members a).1 u))
            (covers.book.waits a ((hx.same_waits.members a).0 has));
        anchor = subst (λ n. n ≤ y.anchor) ax (subst (λ n. base ≤ n) ay covers.anchors);
        kept = λ r has.
            let kept : IsKeptBy lower base r = subst (λ n. IsKeptBy lower n r) (sym ax) ((hx.kept.members r).0 has) in
            ⊎_elim
            (λ (u : IsKeptBy upper anchor r). inl ((hy.kept.members r).1 (subst (λ n. IsKeptBy upper n r) ay u)))
            (λ (u : IsDead upper.book.cuts upper.book.complete r.epoch r.number ⊎ ((r.number ≤ anchor) × (r.epoch ≤ upper.book.complete))). inr (⊎_elim
            (λ (v : IsDead upper.book.cuts upper.book.complete r.epoch r.number). inl
            (subst (λ cs. IsDead cs upper.book.complete r.epoch r.number) (sym cuts) v))
            (λ (v : (r.number ≤ anchor) × (r.epoch ≤ upper.book.complete)). inr (subst (λ n. r.number ≤ n) ay v.0, v.1))
            u))
            (covers.kept r kept);
      },
    )

pub of_meanings : (anchor : ℕ) (upper : State) (base : ℕ) (lower : State) (y x : Meaning)
    → IsRising CutBefore upper.book.cuts → HasAnchor upper anchor → HasAnchor lower base → HasMeaning upper y → HasMeaning lower x
    → Covers y x → CoversState anchor upper base lower
of_meanings anchor upper base lower y x rising top low hy hx covers =
    let cuts = same_cuts upper y rising hy in
    let same : covers.0 ≡ upper.book.complete = one_complete_epoch upper.book.cuts covers.0 upper.book.complete
    (subst (λ cs. IsCompleteEpoch cs covers.0) cuts covers.1.epoch) hy.epoch in
    let at : CoversAt upper.book.complete y x = subst (λ n. CoversAt n y x) same covers.1 in
    let ay : anchor ≡ y.anchor = one_anchor upper anchor y.anchor top hy.anchor in
    let ax : base ≡ x.anchor = one_anchor lower base x.anchor low hx.anchor in
    record {
      book = record {
        cuts = λ c has. (hy.same_cuts.members c).0 (at.cuts c ((hx.same_cuts.members c).1 has));
        points = subst (λ ps. AllZip (λ p q. p ≤ q) ps upper.book.points) hx.same_points (subst (AllZip (λ p q. p ≤ q) x.points) hy.same_points at.points);
        waits = λ a has. ⊎_elim
            (λ (u : Contains y.waits a). inr ((hy.same_waits.members a).0 u))
            (λ (u : (a.epoch ≤ upper.book.complete) × (a.point ≤ point_of y.points a.reader)). inl
            (u.0, subst (λ ps. a.point ≤ point_of ps a.reader) hy.same_points u.1))
            (at.waits a ((hx.same_waits.members a).1 has));
      };
      anchors = subst (λ n. n ≤ anchor) (sym ax) (subst (λ n. x.anchor ≤ n) (sym ay) at.anchor);
      kept = λ r has. ⊎_elim
          (λ (u : Contains y.kept r). inl (subst (λ n. IsKeptBy upper n r) (sym ay) ((hy.kept.members r).0 u)))
          (λ (u : IsDead y.cuts upper.book.complete r.epoch r.number ⊎ ((r.number ≤ y.anchor) × (r.epoch ≤ upper.book.complete))). inr (⊎_elim
          (λ (v : IsDead y.cuts upper.book.complete r.epoch r.number). inl (subst (λ cs. IsDead cs upper.book.complete r.epoch r.number) cuts v))
          (λ (v : (r.number ≤ y.anchor) × (r.epoch ≤ upper.book.complete)). inr (subst (λ n. r.number ≤ n) (sym ay) v.0, v.1))
          u))
          (at.kept r ((hx.kept.members r).1 (subst (λ n. IsKeptBy lower n r) ax has)));
    }

-- an answer that gives the order of two states gives that of their meanings
pub by_meanings : (upper lower : State) (answer : Bool) → IsSegment upper
    → ((anchor base : ℕ) → HasAnchor upper anchor → HasAnchor lower base
    → IsTrue answer ↔ CoversState anchor upper base lower)
    → (y x : Meaning) → HasMeaning upper y → HasMeaning lower x → IsTrue answer ↔ Covers y x
by_meanings upper lower answer form tells y x hy hx =
    let t = tells y.anchor x.anchor hy.anchor hx.anchor in (
      λ h. to_meanings y.anchor upper x.anchor lower y x form.book.cuts_rise hy.anchor hx.anchor hy hx (t.0 h),
      λ h. t.1 (of_meanings y.anchor upper x.anchor lower y x form.book.cuts_rise hy.anchor hx.anchor hy hx h),
    )

-- and inside one sound log that of the parts
pub by_parts : OrderByParts → SameMeaning → (upper lower : State) (answer : Bool)
    → ((y x : Meaning) → HasMeaning upper y → HasMeaning lower x → IsTrue answer ↔ Covers y x) → CoversByParts upper lower answer
by_parts order same upper lower answer tells roster log F G y x sound mf mg my mx =
    let t = tells y x ((same roster log F upper y sound mf).1 my) ((same roster log G lower x sound mg).1 mx) in
    let o = order roster log G F x y sound mg.1.part mf.1.part mx my in
    (λ h. o.0 (t.0 h), λ h. t.1 (o.1 h))
