use Rattle.std.proofs.Common.{◌≡◌, ◌≤◌, ◌<◌, refl, sym, subst, arith, IsTrue, false}
use Rattle.std.specs.List.{All, Contains}
use Rattle.std.proofs.lemmas.Bool.{false≢true}
use Rattle.redo_core.specs.Data.{CutData}
use Rattle.redo_core.specs.CompleteEpoch.{HasCutsTo}
use Rattle.redo_core.specs.Standing.{IsAlive}
use Rattle.epoch_book.proofs.Least.{spared_by, spared_low}
use Rattle.redo_core.proofs.CompleteEpochs.{has_cuts}
use Rattle.epoch_book.proofs.book.EpochBook.is_alive.Goals as goal

pub is_begun-requires-clause-known : goal.is_begun-requires-clause-known
is_begun-requires-clause-known c =
    let k = c.self.inside.complete in
    let up : c.args.epoch ≤ k = subst (λ b. c.args.epoch ≤ b.complete) (sym c.self.view_is) c.requires in
    let has = has_cuts c.self.inside.cuts.items k c.self.invariant.0.complete in
    subst (λ cs. HasCutsTo cs c.args.epoch) (sym c.deref.ensures.value) (λ e one le. has e one (omega (arith, le, up)))

pub returns-then-is_begun : goal.returns-then-is_begun
returns-then-is_begun c =
    let cs = c.self.inside.cuts.items in let k = c.self.inside.complete in let e = c.args.epoch in let n = c.args.number in
    let up : e ≤ k = subst (λ b. e ≤ b.complete) (sym c.self.view_is) c.requires in (
      λ h. subst (λ b. IsAlive b.cuts b.complete e n) c.self.view_is (record {
        known = up;
        begun = subst (λ cs. (d : CutData) → Contains cs d → d.epoch ≡ e → d.hi < n) c.deref.ensures.value (c.if-is_begun.ensures.0 refl);
        spared = spared_by cs k e n c.self.inside.lows.items c.self.invariant.1
            (subst (All (λ d. e < d.epoch → n ≤ d.lo)) c.deref-then-is_begun.ensures.value (c.spare.ensures.0 h));
      }),
      λ h.
          let alive : IsAlive cs k e n = subst (λ b. IsAlive b.cuts b.complete e n) (sym c.self.view_is) h in
          c.spare.ensures.1 (subst (All (λ d. e < d.epoch → n ≤ d.lo)) (sym c.deref-then-is_begun.ensures.value)
          (spared_low cs k e n c.self.inside.lows.items c.self.invariant.1 alive.spared)),
    )

pub returns-else-is_begun : goal.returns-else-is_begun
returns-else-is_begun c =
    let cs = c.self.inside.cuts.items in let k = c.self.inside.complete in let e = c.args.epoch in let n = c.args.number in (
      λ h. absurd (false≢true (subst IsTrue c.if-is_begun.false h)),
      λ h.
          let alive : IsAlive cs k e n = subst (λ b. IsAlive b.cuts b.complete e n) (sym c.self.view_is) h in
          let t : IsTrue false = c.if-is_begun.ensures.1
          (subst (λ cs. (d : CutData) → Contains cs d → d.epoch ≡ e → d.hi < n) (sym c.deref.ensures.value) alive.begun) in
          absurd (false≢true t),
    )
