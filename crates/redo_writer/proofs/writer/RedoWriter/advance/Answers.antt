use Rattle.std.proofs.Common.{◌≡◌, sym, ◌∙◌, ap, arith, subst, length}
use Rattle.redo_core.specs.Data.{AdvanceData}
use Rattle.redo_core.specs.Shape.{advance_fault}
use Rattle.redo_core.specs.Roster.{IsReader}
use Rattle.log_law.proofs.Written.{reader_some}
use Rattle.redo_writer.specs.State.{WriterState, state_with}
use Rattle.redo_writer.specs.Continues.{Continues}
use Rattle.redo_writer.proofs.Continuing.{continues_advance}
use Rattle.redo_writer.proofs.writer.RedoWriter.advance.Goals as goal

pub returns-clause-continues : goal.returns-clause-continues
returns-clause-continues c log g =
    let i = c.self.inside in
    let w : WriterState = state_with i.epoch i.last i.points i.page_tops.items i.settled i.alive.items in
    let shape = ap advance_fault c.in-Ok.ensures.ok ∙ sym c.in-Ok.ensures.fault in
    let of : IsReader (length c.self.inside.points) c.in-Ok.advance.reader = (
      reader_some c.in-Ok.advance shape,
      (let r : c.in-Ok.advance.reader ≡ c.args.reader = ap (λ (x : AdvanceData). x.reader) c.in-Ok.ensures.ok in let o = c.readers-own.ensures.value in
          let l = c.if-reader-own.false in omega arith),
    ) in
    continues_advance w log c.in-Ok.advance c.raise.new.self (subst (λ v. Continues v log) (sym c.self.view_is) g) shape
    (ap (λ (x : AdvanceData). x.epoch) c.in-Ok.ensures.ok) of c.raise.ensures.count (c.raise.ensures.point, c.raise.ensures.others)
