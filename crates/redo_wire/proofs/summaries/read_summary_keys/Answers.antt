use Rattle.std.proofs.Common.{arith}
use Rattle.std.proofs.lemmas.Grind.{common_steps}
use Rattle.std.proofs.lemmas.Bool.{le-leb}
use Rattle.redo_wire.specs.SummaryReading.{summary_part_at}
use Rattle.redo_wire.proofs.Failures.{handed_on, fails_then}
use Rattle.redo_wire.proofs.summaries.read_summary_keys.Goals as goal

pub returns-in_err-count : goal.returns-in_err-count
unfolding summary_part_at
returns-in_err-count c = λ many whole book.
    let low = le-leb _ _ (rw c.min.ensures.min at c.if-anchor-min.false) in
    handed_on _ c.from_residual-in_err-count.result c.in_err-count.field-0.0 _ c.from_residual-in_err-count.ensures.1
    (rw (book, c.in_ok-anchor.ensures.value, low) (fails_then c.in_err-count.field-0.0 _ _ c.in_err-count.ensures))

pub returns-in_err-keys : goal.returns-in_err-keys
unfolding summary_part_at
returns-in_err-keys c = λ many whole book.
    let low = le-leb _ _ (rw c.min.ensures.min at c.if-anchor-min.false) in
    handed_on _ c.from_residual-in_err-keys.result c.in_err-keys.field-0.0 _ c.from_residual-in_err-keys.ensures.1
    (rw (book, c.in_ok-anchor.ensures.value, low, c.in_ok-count.ensures) (fails_then c.in_err-keys.field-0.0 _ _ c.in_err-keys.ensures))

pub overflow_cast-count : goal.overflow_cast-count
overflow_cast-count c = grind (arith, common_steps)
