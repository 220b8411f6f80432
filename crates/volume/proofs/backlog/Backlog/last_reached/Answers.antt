use Rattle.std.proofs.Common.{◌≡◌, ℕ, ◌+◌, ◌<◌, ◌≤◌, ◌⊎◌, inl, inr, List, Option, Some, None, IfSome, IfNone, get_or, length, take, refl, sym, ◌∙◌, subst, ⊎_elim, arith}
use Rattle.std.proofs.lemmas.Bool.{iff_false}
use Rattle.std.specs.List.{Contains}
use Rattle.redo_core.specs.Data.{RecordData}
use Rattle.redo_core.proofs.Members.{none_in}
use Rattle.redo_core.proofs.Rising.{front_to, up_to, take_grows}
use Rattle.volume.specs.Writing.{IsLastReached, HasNoneReached, HasNoneReachedAbove, IsReachedCommit}
use Rattle.volume.proofs.backlog.Backlog.last_reached.Goals as goal
use Rattle.volume.proofs.backlog.Backlog.last_reached.Goals.{then-is_reached, else-is_reached}

-- one record more of a list
module _ (quorum : ℕ) (records : List RecordData) (i : ℕ) (x : RecordData) (reached : List ℕ) (lt : i < length records) (is : x ≡ get_or records i x) where
  -- at or below a point, like each one before that a quorum has come up to
  above_more : (point : ℕ) → x.number ≤ point
      → ((r : RecordData) → Contains (take i records) r → IsReachedCommit quorum r reached → r.number ≤ point)
      → HasNoneReachedAbove quorum (take (i + 1) records) reached point
  above_more point below before = record {
    upto = λ r has commits.
        ⊎_elim
        (λ (e : x ≡ r). subst (λ (y : RecordData). y.number ≤ point) e below)
        (λ (q : Contains (take i records) r). before r q commits)
        (front_to records i x r lt is has);
  }

  -- a quorum has come up to it
  last_here : IsReachedCommit quorum x reached
      → ((r : RecordData) → Contains (take i records) r → IsReachedCommit quorum r reached → r.number ≤ x.number)
      → IsLastReached quorum (take (i + 1) records) reached x.number
  last_here commits before = (x, up_to records i x lt is, commits, refl, above_more x.number (omega arith) before)

  last_more : (last : Option ℕ) (point : ℕ) → IsReachedCommit quorum x reached → IfSome last (IsLastReached quorum (take i records) reached)
      → IfNone last (HasNoneReached quorum (take i records) reached) → (point ≡ x.number) ⊎ (last ≡ Some point) → x.number ≤ point
      → IfSome last (λ n. n ≤ point) → IsLastReached quorum (take (i + 1) records) reached point
  last_more None point commits some none (inl e) up above =
      subst (IsLastReached quorum (take (i + 1) records) reached) (sym e) (last_here commits (λ r q c. absurd (none.none r q c)))
  last_more None point commits some none (inr e) up above = cc
  last_more (Some n) point commits some none (inl e) up above =
      subst (IsLastReached quorum (take (i + 1) records) reached) (sym e)
      (last_here commits (λ r q c. let low : r.number ≤ n = some.4.upto r q c in omega (arith, low, above, e)))
  last_more (Some n) point commits some none (inr e) up above =
      let same : n ≡ point = cc in (
        some.0,
        take_grows records i some.0 some.1,
        some.2,
        some.3 ∙ same,
        above_more point up (λ r q c. let low : r.number ≤ n = some.4.upto r q c in omega (arith, low, above)),
      )

  -- no quorum has come up to it
  some_left : (last : Option ℕ) → (IsReachedCommit quorum x reached → ⊥) → IfSome last (IsLastReached quorum (take i records) reached)
      → IfSome last (IsLastReached quorum (take (i + 1) records) reached)
  some_left None lacks before = tt
  some_left (Some n) lacks before = (
    before.0,
    take_grows records i before.0 before.1,
    before.2,
    before.3,
    record {
      upto = λ r has commits.
          ⊎_elim
          (λ (e : x ≡ r). absurd (lacks (subst (λ (y : RecordData). IsReachedCommit quorum y reached) (sym e) commits)))
          (λ (q : Contains (take i records) r). before.4.upto r q commits)
          (front_to records i x r lt is has);
    },
  )

  none_left : (last : Option ℕ) → (IsReachedCommit quorum x reached → ⊥) → IfNone last (HasNoneReached quorum (take i records) reached)
      → IfNone last (HasNoneReached quorum (take (i + 1) records) reached)
  none_left (Some n) lacks before = tt
  none_left None lacks before = record {
    none = λ r has commits.
        ⊎_elim
        (λ (e : x ≡ r). lacks (subst (λ (y : RecordData). IsReachedCommit quorum y reached) (sym e) commits))
        (λ (q : Contains (take i records) r). before.none r q commits)
        (front_to records i x r lt is has);
  }

pub loop-redo-init : goal.loop-redo-init
loop-redo-init c = (tt, record { none = λ r has commits. none_in r has })

pub loop-redo-preserved : goal.loop-redo-preserved
loop-redo-preserved c =
    let quorum = c.args.quorum in let reached = c.args.reached.now in
    let records : List RecordData = c.deref-redo-items.result.now in
    let i = c.loop-redo.redo-index in let x = c.redo-item.result in let last = c.loop-redo.last in
    let P : ℕ → Type 0 = IsLastReached quorum (take (i + 1) records) reached in
    let Q : Option ℕ → Type 0 = λ o. IfNone o (HasNoneReached quorum (take (i + 1) records) reached) in
    elim c.if-is_reached.branch [
      | then-is_reached w ↦
          let point = w.greater.result in
          let either : (point ≡ x.number) ⊎ (last ≡ Some point) =
          ⊎_elim (λ e. inl (e ∙ w.number.ensures.value)) (λ e. inr e) w.greater.ensures.either in
          let up : x.number ≤ point = omega (arith, w.number.ensures.value, w.greater.ensures.number) in (
            subst (λ (o : Option ℕ). IfSome o P) (sym w.last-is)
                (last_more quorum records i x reached c.loop-redo-test.true c.redo-item.is last point (c.is_reached.ensures.0 w.if-is_reached.true)
                c.loop-redo.invariant.0 c.loop-redo.invariant.1 either up w.greater.ensures.before),
            subst Q (sym w.last-is) tt,
          )
      | else-is_reached w ↦
          let lacks : IsReachedCommit quorum x reached → ⊥ = iff_false c.is_reached.ensures w.if-is_reached.false in (
            subst (λ (o : Option ℕ). IfSome o P) (sym w.last-is)
                (some_left quorum records i x reached c.loop-redo-test.true c.redo-item.is last lacks c.loop-redo.invariant.0),
            subst Q (sym w.last-is) (none_left quorum records i x reached c.loop-redo-test.true c.redo-item.is last lacks c.loop-redo.invariant.1),
          )
    ]
