use Rattle.std.proofs.Common.{arith, sym, ◌∙◌}
use Rattle.std.proofs.lemmas.Bool.{le-leb}
use Rattle.std.proofs.lemmas.Grind.{common_steps}
use Rattle.redo_wire.specs.DeltaReading.{delta_part_at}
use Rattle.redo_wire.proofs.Failures.{handed_on, fails_then, fails_shaped}
use Rattle.redo_wire.proofs.deltas.read_delta_lists.Goals as goal

pub returns-in_err-page_count : goal.returns-in_err-page_count
unfolding delta_part_at
returns-in_err-page_count c = λ many whole book.
    let low = le-leb _ _ (rw c.min.ensures.min at c.if-base-min.false) in
    let e = c.in_err-page_count.field-0.0 in
    handed_on _ c.from_residual-in_err-page_count.result e _ c.from_residual-in_err-page_count.ensures.1
    (rw (book, c.in_ok-base.ensures.value, low) (fails_then e _ _ (fails_shaped e _ _ c.in_err-page_count.ensures)))

pub returns-in_err-pages : goal.returns-in_err-pages
unfolding delta_part_at
returns-in_err-pages c = λ many whole book.
    let low = le-leb _ _ (rw c.min.ensures.min at c.if-base-min.false) in
    let may = sym c.may_have_pages.ensures ∙ c.if-not-may_have_pages.false in
    let e = c.in_err-pages.field-0.0 in
    handed_on _ c.from_residual-in_err-pages.result e _ c.from_residual-in_err-pages.ensures.1
    (rw (book, c.in_ok-base.ensures.value, low, c.in_ok-page_count.ensures, may) (fails_then e _ _ c.in_err-pages.ensures))

pub returns-in_err-record_count : goal.returns-in_err-record_count
unfolding delta_part_at
returns-in_err-record_count c = λ many whole book.
    let low = le-leb _ _ (rw c.min.ensures.min at c.if-base-min.false) in
    let may = sym c.may_have_pages.ensures ∙ c.if-not-may_have_pages.false in
    let e = c.in_err-record_count.field-0.0 in
    handed_on _ c.from_residual-in_err-record_count.result e _ c.from_residual-in_err-record_count.ensures.1
    (rw (book, c.in_ok-base.ensures.value, low, c.in_ok-page_count.ensures, may, c.in_ok-pages.ensures) (fails_then e _ _ c.in_err-record_count.ensures))

pub returns-in_err-records : goal.returns-in_err-records
unfolding delta_part_at
returns-in_err-records c = λ many whole book.
    let low = le-leb _ _ (rw c.min.ensures.min at c.if-base-min.false) in
    let may = sym c.may_have_pages.ensures ∙ c.if-not-may_have_pages.false in
    let e = c.in_err-records.field-0.0 in
    handed_on _ c.from_residual-in_err-records.result e _ c.from_residual-in_err-records.ensures.1
    (rw (book, c.in_ok-base.ensures.value, low, c.in_ok-page_count.ensures, may, c.in_ok-pages.ensures, c.in_ok-record_count.ensures)
    (fails_then e _ _ c.in_err-records.ensures))

pub overflow_cast-count : goal.overflow_cast-count
overflow_cast-count c = grind (arith, common_steps)

pub overflow_cast-page_count : goal.overflow_cast-page_count
overflow_cast-page_count c = grind (arith, common_steps)
