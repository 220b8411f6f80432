use Rattle.std.proofs.lemmas.Grind.{common_steps}
use Rattle.std.proofs.Common.{◌≡◌, ◌++◌, ◌∷◌, [], length, subst, sym, ◌∙◌, ap, arith}
use Rattle.std.specs.Prelude.{is_ok}
use Rattle.redo_core.specs.Data.{AdvanceData}
use Rattle.redo_core.specs.Shape.{advance_fault}
use Rattle.redo_core.specs.Sets.{cuts}
use Rattle.redo_core.specs.Roster.{IsReader}
use Rattle.redo_core.specs.CompleteEpoch.{IsCompleteEpoch}
use Rattle.redo_core.specs.Sound.{IsSound}
use Rattle.redo_core.specs.declared.facts.Fact.TheVariants.{Advance}
use Rattle.log_law.specs.Writing.{IsWritten, WriterData, writer_of}
use Rattle.log_law.proofs.Written.{written_advance, advance_sound, complete_view, reader_some, pushed}
use Rattle.log_law.proofs.writer.Writer.advance_of.Goals as goal

pub invariant_of-self-2 : goal.invariant_of-self-2
invariant_of-self-2 c =
    let a = c.in-Ok.advance in
    let w = c.self.invariant in
    let of : IsReader (length c.self.inside.points) c.in-Ok.advance.reader = (
      reader_some c.in-Ok.advance (ap advance_fault c.in-Ok.ensures.ok ∙ sym c.in-Ok.ensures.fault),
      (let r : c.in-Ok.advance.reader ≡ c.args.reader = ap (λ (x : AdvanceData). x.reader) c.in-Ok.ensures.ok in omega arith),
    ) in
    let items = pushed c.self.inside.log.items c.reserve.new.self.items c.push.new.self.items (Advance a) (is_ok c.push.result)
    (ap is_ok c.unwrap.ensures) c.reserve.ensures.items c.push.ensures.items in
    subst (λ xs. IsWritten (length c.raise.new.self) xs c.self.inside.alive c.self.inside.last c.raise.new.self) (sym items)
    (subst (λ n. IsWritten n (c.self.inside.log.items ++ Advance a ∷ []) c.self.inside.alive c.self.inside.last c.raise.new.self) (sym c.raise.ensures.count)
    (written_advance c.self.inside.log.items c.self.inside.alive c.self.inside.last c.self.inside.points c.raise.new.self a w
    (ap advance_fault c.in-Ok.ensures.ok ∙ sym c.in-Ok.ensures.fault) (ap (λ (x : AdvanceData). x.epoch) c.in-Ok.ensures.ok ∙ c.view.ensures)
    of c.raise.ensures.count c.raise.ensures.point c.raise.ensures.others))

pub returns-clause-ok : goal.returns-clause-ok
returns-clause-ok c =
    let a = c.in-Ok.advance in
    let w = c.self.invariant in
    let of : IsReader (length c.self.inside.points) c.in-Ok.advance.reader = (
      reader_some c.in-Ok.advance (ap advance_fault c.in-Ok.ensures.ok ∙ sym c.in-Ok.ensures.fault),
      (let r : c.in-Ok.advance.reader ≡ c.args.reader = ap (λ (x : AdvanceData). x.reader) c.in-Ok.ensures.ok in omega arith),
    ) in
    let items = pushed c.self.inside.log.items c.reserve.new.self.items c.push.new.self.items (Advance a) (is_ok c.push.result)
    (ap is_ok c.unwrap.ensures) c.reserve.ensures.items c.push.ensures.items in
    let ep = ap (λ (x : AdvanceData). x.epoch) c.in-Ok.ensures.ok ∙ c.view.ensures in
    let now : writer_of (length c.self.inside.points) c.self.inside.log.items ≡ c.args.self.now = c.self.view_is in
    let sound = advance_sound c.self.inside.log.items c.self.inside.alive c.self.inside.last c.self.inside.points a w
    (ap advance_fault c.in-Ok.ensures.ok ∙ sym c.in-Ok.ensures.fault) ep of in
    record {
      joins = ap (λ n. writer_of n c.push.new.self.items) c.raise.ensures.count ∙ ap (writer_of (length c.self.inside.points)) items ∙ ap
          (λ (v : WriterData). writer_of v.roster (v.log ++ Advance c.in-Ok.advance ∷ [])) now;
      sound = subst (λ n. IsSound n c.push.new.self.items) (sym c.raise.ensures.count) (subst (IsSound (length c.self.inside.points)) (sym items) sound);
      epoch = subst (λ (v : WriterData). IsCompleteEpoch (cuts v.log) c.in-Ok.advance.epoch) now
          (subst (IsCompleteEpoch (cuts c.self.inside.log.items)) (sym ep)
          (complete_view c.self.inside.log.items c.self.inside.alive c.self.inside.last c.self.inside.points w));
      reader = ap (λ (x : AdvanceData). x.reader) c.in-Ok.ensures.ok;
      point = ap (λ (x : AdvanceData). x.point) c.in-Ok.ensures.ok;
    }

pub invariant_of-self : goal.invariant_of-self
invariant_of-self c =
    subst (λ xs. IsWritten (length c.self.inside.points) xs c.self.inside.alive c.self.inside.last c.self.inside.points) (sym c.reserve.ensures.items)
    c.self.invariant

pub unwrap-requires : goal.unwrap-requires
unwrap-requires c = grind (arith, common_steps)

pub raise-requires : goal.raise-requires
raise-requires c = grind (arith, common_steps)

pub returns-then-is_err-clause-unchanged : goal.returns-then-is_err-clause-unchanged
returns-then-is_err-clause-unchanged c = grind (arith, common_steps)
