use Rattle.std.proofs.Common.{[], sym, subst}
use Rattle.redo_writer.specs.State.{state_with}
use Rattle.redo_writer.specs.Continues.{Continues}
use Rattle.redo_writer.proofs.Continuing.{continues_nothing}
use Rattle.redo_writer.proofs.writer.RedoWriter.new.Goals as goal

pub returns-clause-continues : goal.returns-clause-continues
returns-clause-continues c =
    subst (λ ys. Continues (state_with 0 0 c.in_ok-new.field-0 c.new-2.result.items 0 ys) []) (sym c.new-3.ensures.items)
    (subst (λ ts. Continues (state_with 0 0 c.in_ok-new.field-0 ts 0 []) []) (sym c.new-2.ensures.items)
    (subst (λ ps. Continues (state_with 0 0 ps [] 0 []) []) (sym c.in_ok-new.ensures.zeros) (continues_nothing c.args.roster c.in_ok-new.ensures.range)))
