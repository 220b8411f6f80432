use Rattle.std.proofs.Common.{Some, sym, subst, refl}
use Rattle.redo_core.specs.declared.keys.Key.{Key}
use Rattle.hot_log.specs.Removing.{RemovesRow}
use Rattle.hot_log.proofs.Capped.{between_capped, row_given}
use Rattle.hot_log.proofs.Rows.{row_gone}
use Rattle.hot_log.proofs.records.PagedRecords.remove_row.Goals as goal

pub returns-clause-removes : goal.returns-clause-removes
returns-clause-removes c =
    let row = c.in_ok-row.row in let held = c.args.self.now in let left = c.remove_between.new.self in
    let p = c.capped-above.result in let q = c.capped-to.result in
    subst (λ (k : Key). RemovesRow c.args.book.now c.args.page c.args.above c.args.to held left (Some k)) (sym c.key.ensures)
    (row_given c.args.book.now held left c.args.page c.args.above c.args.to p q row.1 c.opens_form.ensures.form c.capped-above.ensures c.capped-to.ensures
    (row_gone c.args.book.now c.args.page p q row.0 row.1 held left c.in_ok-row.ensures.0 c.remove_between.ensures.removes))

pub returns-clause-pages : goal.returns-clause-pages
returns-clause-pages c = c.in_ok-row.ensures.1 c.remove_between.new.self c.remove_between.ensures.removes

pub returns-in_err-row-clause-removes : goal.returns-in_err-row-clause-removes
returns-in_err-row-clause-removes c =
    rw c.from_residual.ensures (
      λ r h. c.in_err-row.ensures.0 r (between_capped c.args.book.now c.args.self.now c.args.page c.args.above c.args.to c.capped-above.result c.capped-to.result c.opens_form.ensures.form c.capped-above.ensures c.capped-to.ensures r h),
      refl,
    )
