use Rattle.std.proofs.lemmas.Grind.{common_steps}
use Rattle.std.proofs.Common.{length, ◌≡◌, ◌+◌, ◌++◌, ◌∷◌, [], subst, sym, ◌∙◌, ap, arith}
use Rattle.std.specs.Prelude.{is_ok}
use Rattle.redo_core.specs.Data.{CutData}
use Rattle.redo_core.specs.Shape.{cut_fault}
use Rattle.redo_core.specs.Roster.{least}
use Rattle.redo_core.specs.Sets.{cuts}
use Rattle.redo_core.specs.CompleteEpoch.{HasCutsTo, IsCompleteEpoch}
use Rattle.redo_core.specs.Sound.{IsSound}
use Rattle.redo_core.specs.declared.facts.Fact.TheVariants.{Cut}
use Rattle.log_law.specs.Alive.{stack_of, without_above}
use Rattle.log_law.specs.Writing.{IsWritten, WriterData, writer_of}
use Rattle.redo_core.proofs.Numbers.{greatest_unique}
use Rattle.log_law.proofs.Written.{written_cut, complete_view, minimum_of, pushed}
use Rattle.log_law.proofs.writer.Writer.recover.Goals as goal

pub returns-then-lo-point-clause-fault : goal.returns-then-lo-point-clause-fault
returns-then-lo-point-clause-fault c =
    let min : c.least-point.result ≡ least c.self.inside.points = c.least-point.ensures.value in (
      sym c.in_default.ensures.fault,
      minimum_of c.args.self.now c.self.inside.log.items c.self.inside.alive c.self.inside.last c.self.inside.points
          c.least-point.result c.self.invariant c.self.view_is min,
      c.if-lo-point.true,
    )

pub returns-then-view-clause-fault : goal.returns-then-view-clause-fault
returns-then-view-clause-fault c =
    let min : c.least-point.result ≡ least c.self.inside.points = c.least-point.ensures.value in (
      sym c.in_default.ensures.fault,
      (
        c.least-point.result,
        minimum_of c.args.self.now c.self.inside.log.items c.self.inside.alive c.self.inside.last c.self.inside.points c.least-point.result
            c.self.invariant c.self.view_is min,
        c.if-lo-point.false,
      ),
      subst (λ (v : WriterData). IsCompleteEpoch (cuts v.log) 65535) c.self.view_is
          (subst (IsCompleteEpoch (cuts c.self.inside.log.items)) (sym c.view-view.ensures ∙ c.if-view.true)
          (complete_view c.self.inside.log.items c.self.inside.alive c.self.inside.last c.self.inside.points c.self.invariant)),
    )

pub returns-then-is_err-clause-fault : goal.returns-then-is_err-clause-fault
returns-then-is_err-clause-fault c =
    let min : c.least-point.result ≡ least c.self.inside.points = c.least-point.ensures.value in (
      sym c.in_default.ensures.fault,
      (
        c.least-point.result,
        minimum_of c.args.self.now c.self.inside.log.items c.self.inside.alive c.self.inside.last c.self.inside.points c.least-point.result
            c.self.invariant c.self.view_is min,
        c.if-lo-point.false,
      ),
      λ whole.
          let mine : IsCompleteEpoch (cuts c.args.self.now.log) c.self.inside.alive.view =
          subst (λ (v : WriterData). IsCompleteEpoch (cuts v.log) c.self.inside.alive.view) c.self.view_is
          (complete_view c.self.inside.log.items c.self.inside.alive c.self.inside.last c.self.inside.points c.self.invariant) in
          c.if-view.false (c.view-view.ensures ∙ greatest_unique (HasCutsTo (cuts c.args.self.now.log)) (HasCutsTo (cuts c.args.self.now.log))
          (λ n. (λ h. h, λ h. h)) c.self.inside.alive.view 65535 mine whole),
    )

pub invariant_of-self-2 : goal.invariant_of-self-2
invariant_of-self-2 c =
    let log = c.self.inside.log.items in let alive = c.self.inside.alive in let cut = c.in-Ok.cut in
    let items = pushed c.self.inside.log.items c.reserve.new.self.items c.push.new.self.items (Cut cut) (is_ok c.push.result)
    (ap is_ok c.unwrap.ensures) c.reserve.ensures.items c.push.ensures.items in
    let lo : cut.lo ≡ c.args.lo = ap (λ (x : CutData). x.lo) c.in-Ok.ensures.ok in
    let hi : cut.hi ≡ c.args.hi = ap (λ (x : CutData). x.hi) c.in-Ok.ensures.ok in
    let ep : cut.epoch ≡ c.self.inside.alive.view + 1 = ap (λ (x : CutData). x.epoch) c.in-Ok.ensures.ok ∙ ap (λ n. n + 1) c.view-view.ensures in
    let w : IsWritten (length c.self.inside.points) (c.self.inside.log.items ++ Cut cut ∷ []) c.begin.new.self cut.hi c.self.inside.points =
    written_cut log alive c.begin.new.self c.self.inside.last c.self.inside.points cut c.self.invariant
    (ap cut_fault c.in-Ok.ensures.ok ∙ sym c.in-Ok.ensures.fault) ep
    (let min : c.least-point.result ≡ least c.self.inside.points = c.least-point.ensures.value in omega arith)
    c.begin.ensures.stack c.begin.ensures.view (c.begin.ensures.rest ∙ ap (λ n. without_above n (stack_of alive)) (sym lo)) in
    subst (λ xs. IsWritten (length c.self.inside.points) xs c.begin.new.self c.args.hi c.self.inside.points) (sym items)
    (subst (λ n. IsWritten (length c.self.inside.points) (log ++ Cut cut ∷ []) c.begin.new.self n c.self.inside.points) hi w)

pub returns-clause-ok : goal.returns-clause-ok
returns-clause-ok c =
    let log = c.self.inside.log.items in let alive = c.self.inside.alive in let cut = c.in-Ok.cut in
    let items = pushed c.self.inside.log.items c.reserve.new.self.items c.push.new.self.items (Cut cut) (is_ok c.push.result)
    (ap is_ok c.unwrap.ensures) c.reserve.ensures.items c.push.ensures.items in
    let lo : cut.lo ≡ c.args.lo = ap (λ (x : CutData). x.lo) c.in-Ok.ensures.ok in
    let hi : cut.hi ≡ c.args.hi = ap (λ (x : CutData). x.hi) c.in-Ok.ensures.ok in
    let ep : cut.epoch ≡ c.self.inside.alive.view + 1 = ap (λ (x : CutData). x.epoch) c.in-Ok.ensures.ok ∙ ap (λ n. n + 1) c.view-view.ensures in
    let w : IsWritten (length c.self.inside.points) (c.self.inside.log.items ++ Cut cut ∷ []) c.begin.new.self cut.hi c.self.inside.points =
    written_cut log alive c.begin.new.self c.self.inside.last c.self.inside.points cut c.self.invariant
    (ap cut_fault c.in-Ok.ensures.ok ∙ sym c.in-Ok.ensures.fault) ep
    (let min : c.least-point.result ≡ least c.self.inside.points = c.least-point.ensures.value in omega arith)
    c.begin.ensures.stack c.begin.ensures.view (c.begin.ensures.rest ∙ ap (λ n. without_above n (stack_of alive)) (sym lo)) in
    let whole = complete_view (log ++ Cut cut ∷ []) c.begin.new.self cut.hi c.self.inside.points w in
    let now : writer_of (length c.self.inside.points) c.self.inside.log.items ≡ c.args.self.now = c.self.view_is in
    record {
      joins = ap (writer_of (length c.self.inside.points)) items ∙ ap (λ (v : WriterData). writer_of v.roster (v.log ++ Cut c.in-Ok.cut ∷ [])) now;
      sound = subst (IsSound (length c.self.inside.points)) (sym items) w.sound;
      epoch = subst (λ xs. IsCompleteEpoch (cuts xs) cut.epoch) (sym items)
          (subst (IsCompleteEpoch (cuts (log ++ Cut cut ∷ []))) (c.begin.ensures.view ∙ sym ep) whole);
      next = (
        alive.view,
        subst (λ (v : WriterData). IsCompleteEpoch (cuts v.log) alive.view) now
            (complete_view log alive c.self.inside.last c.self.inside.points c.self.invariant),
        ep,
      );
      lo = lo;
      hi = hi;
    }

pub invariant_of-self : goal.invariant_of-self
invariant_of-self c =
    subst (λ xs. IsWritten (length c.self.inside.points) xs c.self.inside.alive c.self.inside.last c.self.inside.points) (sym c.reserve.ensures.items)
    c.self.invariant

pub unwrap-requires : goal.unwrap-requires
unwrap-requires c = grind (arith, common_steps)

pub returns-then-is_err-clause-unchanged : goal.returns-then-is_err-clause-unchanged
returns-then-is_err-clause-unchanged c = grind (arith, common_steps)

pub begin-requires-clause-stack : goal.begin-requires-clause-stack
begin-requires-clause-stack c = grind (arith, common_steps)

pub returns-in-Err-new-clause-fault : goal.returns-in-Err-new-clause-fault
returns-in-Err-new-clause-fault c = grind (arith, common_steps)

pub begin-requires-clause-epoch : goal.begin-requires-clause-epoch
begin-requires-clause-epoch c = grind (arith, common_steps)
